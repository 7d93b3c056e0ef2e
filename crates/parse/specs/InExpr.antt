-- Where a reader is inside an expression: the operators that wait for their right side, what it stands in, and what comes of it.
use Rattle.std.specs.Prelude.{◌≡◌, ℕ, ◌+◌, ◌*◌, ◌<◌, Bool, true, false, cond, List, [], ◌∷◌, ◌++◌, length, Some, None, Option, Result, MatchResult}
use Rattle.parse.specs.declared.refusal.NoText.{NoText}
use Rattle.lang.specs.Base.{◌>>=◌, maybe, when}
use Rattle.lang.specs.Code.{code_expr}
use Rattle.lang.specs.Grammar.{Parsed, starts, expect}
use Rattle.lang.specs.Instr as instr
use Rattle.lang.specs.Instr.{Instr, name_at}
use Rattle.parse.specs.Reading.{Snap, Read, Paid, advanced, opened, emitted, closed, last_above}
use Rattle.lang.specs.Syntax.{Expr, binary, index, old_index}
use Rattle.lang.specs.Tokens.{Token}
use Rattle.parse.specs.Unbounded.{sum∞, sum_rest∞, product_rest∞, atom∞}
use Rattle.lang.specs.declared.code.Place.{Place}
use Rattle.parse.specs.declared.expression.Step.{Step}
use Rattle.parse.specs.declared.expression.Step.TheVariants as step
use Rattle.parse.specs.declared.open.Open.{Open}
use Rattle.parse.specs.declared.open.Open.TheVariants.{Paren, Index, OldIndex, Operator, Bracket, And, Or, Implies, Not, All, Braces}
use Rattle.lang.specs.declared.syntax.ArithOp.{ArithOp}
use Rattle.lang.specs.declared.syntax.ArithOp.TheVariants.{Add, Sub, Mul, Div, Rem}
use Rattle.lang.specs.declared.token.Fixed.TheVariants as the

-- the operators of products bind tighter than those of sums
abbrev pub tight : ArithOp → Bool
tight Add = false
tight Sub = false
tight Mul = true
tight Div = true
tight Rem = true

-- an operator of a sum (false) or a product (true) with its left side
pub record Waiting (tier : Bool) : Type 0 where
  pub op : ArithOp
  pub place : Place
  pub left : Expr
  pub tiered : tight op ≡ tier

-- e + f * : at most one sum, and behind it one product
pub record Level : Type 0 where
  pub sum : Option (Waiting false)
  pub product : Option (Waiting true)

-- what an expression can stand in
pub data Context : Type 0 where
  parenthesis : Context
  row : Place → Context
  old_row : Place → Context

-- with the level around it
pub data Nest : Type 0 where
  outermost : Nest
  inside : Context → Level → Nest → Nest

-- the parts that are open
abbrev pub context : Context → Open
context parenthesis = Paren
context (row p) = Index p
context (old_row p) = OldIndex p

abbrev pub waits : {t : Bool} → Option (Waiting t) → List Open
waits None = []
waits (Some w) = Operator w.op w.place ∷ []

abbrev pub waiting : Level → List Open
waiting v = waits v.sum ++ waits v.product

abbrev pub around : Nest → List Open
around outermost = []
around (inside o v n) = (around n ++ waiting v) ++ context o ∷ []

-- the code of the left sides
abbrev pub left_code : {t : Bool} → Option (Waiting t) → List Instr
left_code None = []
left_code (Some w) = code_expr w.left []

abbrev pub level_code : Level → List Instr
level_code v = left_code v.sum ++ left_code v.product

abbrev pub nest_code : Nest → List Instr
nest_code outermost = []
nest_code (inside o v n) = nest_code n ++ level_code v

-- What the grammar makes of the rest, once an atom, a product or a sum is whole.
abbrev pub join : {t : Bool} → Option (Waiting t) → Expr → Expr
join None e = e
join (Some w) e = binary w.op w.left e

abbrev pub leave : List ℕ → Context → Expr → List Token → Parsed Expr
leave text parenthesis e ts = expect the.RightParen ts >>= λ us. Some (e, us)
leave text (row p) e ts = expect the.RightBracket ts >>= λ us. Some (index (name_at text p.0) e, us)
leave text (old_row p) e ts = expect the.RightBracket ts >>= λ us. Some (old_index (name_at text p.0) e, us)

unfoldable pub after_sum : List ℕ → Nest → Expr → List Token → Parsed Expr
after_sum text outermost e ts = Some (e, ts)
after_sum text (inside o v n) e ts = do
  (a, us) ← leave text o e ts
  (b, vs) ← product_rest∞ (join v.product a) us
  (c, ws) ← sum_rest∞ (join v.sum b) vs
  after_sum text n c ws

abbrev pub after_product : List ℕ → Level → Nest → Expr → List Token → Parsed Expr
after_product text v n e ts = do
  (a, us) ← sum_rest∞ (join v.sum e) ts
  after_sum text n a us

abbrev pub after_atom : List ℕ → Level → Nest → Expr → List Token → Parsed Expr
after_atom text v n e ts = do
  (a, us) ← product_rest∞ (join v.product e) ts
  after_product text v n a us

-- The operator that waits last, above the first `base` open parts, has its right side now, if it is of that tier.
abbrev pub same_tier : Bool → Bool → Bool
same_tier true b = b
same_tier false true = false
same_tier false false = true

abbrev pub of_tier : Bool → Open → Option (ArithOp × Place)
of_tier t (Operator o p) = when (same_tier (tight o) t) (Some (o, p))
of_tier t Paren = None
of_tier t (Index p) = None
of_tier t (OldIndex p) = None
of_tier t Bracket = None
of_tier t (And p) = None
of_tier t (Or p) = None
of_tier t (Implies p) = None
of_tier t (Not p) = None
of_tier t (All n) = None
of_tier t (Braces k n) = None

abbrev pub last_waiting : Bool → ℕ → List Open → Option (ArithOp × Place)
last_waiting t base os = last_above base os >>= of_tier t

abbrev pub completed : Bool → ℕ → Snap → Snap
completed t base s = maybe (last_waiting t base s.pending) s λ w. emitted (instr.binary w.0) (closed s)

-- An atom is to be read next.
pub record AtOperand (before s : Snap) : Type 0 where
  pub level : Level
  pub nest : Nest
  pub pending : s.pending ≡ before.pending ++ (around nest ++ waiting level)
  pub code : s.code ≡ before.code ++ (nest_code nest ++ level_code level)
  pub rest : sum∞ before.ahead ≡ (do
    (e, us) ← atom∞ s.ahead
    after_atom s.text level nest e us)

-- An atom has been read.
pub record BehindAtom (before s : Snap) : Type 0 where
  pub level : Level
  pub nest : Nest
  pub value : Expr
  pub pending : s.pending ≡ before.pending ++ (around nest ++ waiting level)
  pub code : s.code ≡ before.code ++ ((nest_code nest ++ level_code level) ++ code_expr value [])
  pub rest : sum∞ before.ahead ≡ after_atom s.text level nest value s.ahead

-- A sum has been read.
pub record BehindSum (before s : Snap) : Type 0 where
  pub nest : Nest
  pub value : Expr
  pub pending : s.pending ≡ before.pending ++ around nest
  pub code : s.code ≡ before.code ++ (nest_code nest ++ code_expr value [])
  pub rest : sum∞ before.ahead ≡ after_sum s.text nest value s.ahead

abbrev pub InExpr : Snap → Snap → Option Step → Type 0
InExpr before s (Some step.Operand) = AtOperand before s
InExpr before s (Some step.Atom) = BehindAtom before s
InExpr before s None = Read sum∞ (λ e. code_expr e []) before s

-- Behind a name: its number is an atom, or the place in its row is read first.
abbrev pub behind_name : Open → Instr → Snap → Snap
behind_name o i s = cond (starts the.LeftBracket s.ahead) (advanced (opened o s)) (emitted i s)

abbrev pub name_step : Snap → Step
name_step s = cond (starts the.LeftBracket s.ahead) step.Operand step.Atom

-- What one step does, from s to s': wherever the expression began, if the reader was inside it as Before says, it is so still, as the
-- step says; or there is no expression.
abbrev pub Steps : (Snap → Snap → Type 0) → Snap → Snap → Result Step NoText → Type 0
Steps Before s s' r = (before : Snap) → Before before s → MatchResult r (λ next. InExpr before s' (Some next)) (λ _. sum∞ before.ahead ≡ None)

-- each step reads a token, but for the last
abbrev pub more : Option Step → ℕ
more (Some next) = 1
more None = 0

pub record Used (s s' : Snap) (next : Option Step) : Type 0 where
  pub paid : Paid s s'
  pub shorter : more next + 2 * length s'.ahead < 1 + 2 * length s.ahead
