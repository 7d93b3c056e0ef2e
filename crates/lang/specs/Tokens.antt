-- From bytes to tokens.
use Rattle.std.specs.Prelude.{ℕ, ◌+◌, ◌-◌, ◌*◌, ◌^◌, Bool, cond, ◌&&◌, ◌||◌, List, [], ◌∷◌, ◌++◌, find, map, Some, codes, Option, ◌==◌, nat_le, nat_lt}
use Rattle.lang.specs.Base.{◌>>=◌, when, maybe, Word, same}
use Rattle.lang.specs.declared.token.Fixed.{Fixed}
use Rattle.lang.specs.declared.token.Fixed.TheVariants.{Width, Proc, Pre, Post, Measure, Var, If, Else, While, Keep, Check, Any, Old, Yes, Not, And, Or, All, LeftParen, RightParen, LeftBracket, RightBracket, LeftBrace, RightBrace, Comma, Semicolon, Gets, Equals, Implies, LessThan, AtMost, Plus, Minus, Times, Over, Percent}

-- Bytes.
abbrev pub is_digit : ℕ → Bool
is_digit b = nat_le 48 b && nat_le b 57

abbrev pub is_letter : ℕ → Bool
is_letter b = (nat_le 97 b && nat_le b 122) || ((nat_le 65 b && nat_le b 90) || b == 95)

abbrev pub is_blank : ℕ → Bool
is_blank b = b == 32 || (b == 10 || (b == 13 || b == 9))

-- Words: runs of letters and digits; == => <=; any other byte by itself. Blanks part words, and # begins a note that ends with the line.
pub data Scan : Type 0 where
  between : Scan
  -- in a run, of which so much has been seen
  within : Word → Scan
  -- behind = or <, which may be the first of two
  after : ℕ → Scan
  note : Scan

-- the words that a byte completes, and where the scan is behind it
pub record Step : Type 0 where
  pub words : List Word
  pub next : Scan

abbrev pub begin : ℕ → Step
begin b = cond (is_blank b) (record { words = []; next = between }) (cond (b == 35) (record { words = []; next = note }) (cond (is_letter b || is_digit b) (record { words = []; next = within (b ∷ []) }) (cond (b == 61 || b == 60) (record { words = []; next = after b }) (record { words = (b ∷ []) ∷ []; next = between }))))

abbrev pub behind : Word → Step → Step
behind w s = record { words = w ∷ s.words; next = s.next }

abbrev pub step : Scan → ℕ → Step
step between b = begin b
step (within w) b = cond (is_letter b || is_digit b) (record { words = []; next = within (w ++ b ∷ []) }) (behind w (begin b))
step (after a) b = cond (b == 61 || (a == 61 && b == 62)) (record { words = (a ∷ b ∷ []) ∷ []; next = between }) (behind (a ∷ []) (begin b))
step note b = cond (b == 10) (record { words = []; next = between }) (record { words = []; next = note })

abbrev pub last_word : Scan → List Word
last_word between = []
last_word (within w) = w ∷ []
last_word (after a) = (a ∷ []) ∷ []
last_word note = []

unfoldable pub words_from : Scan → List ℕ → List Word
words_from s [] = last_word s
words_from s (b ∷ bs) = (step s b).words ++ words_from (step s b).next bs

-- Tokens.
pub data Token : Type 0 where
  fixed : Fixed → Token
  name : Word → Token
  number : ℕ → Token
  -- what stands in no text
  stray : Token

abbrev pub spelled : Fixed → Word
spelled Width = codes "width"
spelled Proc = codes "proc"
spelled Pre = codes "pre"
spelled Post = codes "post"
spelled Measure = codes "less"
spelled Var = codes "var"
spelled If = codes "if"
spelled Else = codes "else"
spelled While = codes "while"
spelled Keep = codes "keep"
spelled Check = codes "check"
spelled Any = codes "any"
spelled Old = codes "old"
spelled Yes = codes "yes"
spelled Not = codes "not"
spelled And = codes "and"
spelled Or = codes "or"
spelled All = codes "all"
spelled LeftParen = codes "("
spelled RightParen = codes ")"
spelled LeftBracket = codes "["
spelled RightBracket = codes "]"
spelled LeftBrace = codes "{"
spelled RightBrace = codes "}"
spelled Comma = codes ","
spelled Semicolon = codes ";"
spelled Gets = codes "="
spelled Equals = codes "=="
spelled Implies = codes "=>"
spelled LessThan = codes "<"
spelled AtMost = codes "<="
spelled Plus = codes "+"
spelled Minus = codes "-"
spelled Times = codes "*"
spelled Over = codes "/"
spelled Percent = codes "%"

abbrev pub every_fixed : List Fixed
every_fixed = Width ∷ Proc ∷ Pre ∷ Post ∷ Measure ∷ Var ∷ If ∷ Else ∷ While ∷ Keep ∷ Check ∷ Any ∷ Old ∷ Yes ∷ Not ∷ And ∷ Or ∷ All ∷ LeftParen ∷ RightParen ∷ LeftBracket ∷ RightBracket ∷ LeftBrace ∷ RightBrace ∷ Comma ∷ Semicolon ∷ Gets ∷ Equals ∷ Implies ∷ LessThan ∷ AtMost ∷ Plus ∷ Minus ∷ Times ∷ Over ∷ Percent ∷ []

-- the first of them that is spelled so
abbrev pub spelling : List Fixed → Word → Option Fixed
spelling fs w = find (λ f. same (spelled f) w) fs

abbrev pub first : Word → ℕ
first [] = 0
first (b ∷ bs) = b

abbrev pub decimal : ℕ → Word → Option ℕ
decimal n [] = Some n
decimal n (b ∷ bs) = when (is_digit b) (decimal (n * 10 + (b - 48)) bs)

-- written numbers are below 2^64
abbrev pub written : Word → Option ℕ
written w = decimal 0 w >>= λ n. when (nat_lt n (2 ^ 64)) (Some n)

unfoldable pub token : Word → Token
token w = cond (is_digit (first w)) (maybe (written w) stray number) (maybe (spelling every_fixed w) (cond (is_letter (first w)) (name w) stray) fixed)

unfoldable pub tokens : List ℕ → List Token
tokens text = map token (words_from between text)
