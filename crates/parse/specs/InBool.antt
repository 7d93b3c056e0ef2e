-- Where a reader is inside a formula: what waits for the part behind it, what it stands in, and what comes of it.
use Rattle.std.specs.Prelude.{◌≡◌, ℕ, ◌+◌, ◌*◌, ◌<◌, Bool, true, false, cond, List, [], ◌∷◌, ◌++◌, length, Some, None, Option, Result, MatchResult}
use Rattle.lang.specs.Base.{◌>>=◌, maybe, when, Word}
use Rattle.lang.specs.Code.{code_bool}
use Rattle.lang.specs.Grammar.{Parsed, starts, onward, expect, a_name, a_number, comparing}
use Rattle.lang.specs.Instr as instr
use Rattle.lang.specs.Instr.{Instr, instr}
use Rattle.lang.specs.Syntax.{BoolExpr, compare, conj, disj, implies, negate, for_all}
use Rattle.lang.specs.Tokens.{Token}
use Rattle.lang.specs.declared.code.Node.{Node}
use Rattle.lang.specs.declared.code.Node.TheVariants as node
use Rattle.lang.specs.declared.code.Place.{Place}
use Rattle.lang.specs.declared.token.Fixed.{Fixed}
use Rattle.lang.specs.declared.token.Fixed.TheVariants as the
use Rattle.parse.specs.Parts.{sealed}
use Rattle.parse.specs.Reading.{Snap, Read, Paid, opened, emitted, closed, last_above}
use Rattle.parse.specs.Unbounded.{sum∞, formula∞, disjunction_rest∞, conjunction_rest∞, unit∞}
use Rattle.parse.specs.declared.formula.Link.{Link}
use Rattle.parse.specs.declared.formula.Link.TheVariants as link
use Rattle.parse.specs.declared.formula.Turn.{Turn}
use Rattle.parse.specs.declared.formula.Turn.TheVariants as turn
use Rattle.parse.specs.declared.open.Open.{Open}
use Rattle.parse.specs.declared.open.Open.TheVariants.{Paren, Index, OldIndex, Operator, Bracket, And, Or, Implies, Not, All, Braces}
use Rattle.parse.specs.declared.parts.Header.TheVariants.{Scope}
use Rattle.parse.specs.declared.refusal.NoText.{NoText}

-- a left side, and where the word behind it stands
pub record Waiting : Type 0 where
  pub place : Place
  pub left : BoolExpr

-- a or b and not not: at most one disjunction, behind it one conjunction, and behind that each `not`, the last one first
pub record Level : Type 0 where
  pub disj : Option Waiting
  pub conj : Option Waiting
  pub nots : List Place

-- what a formula can be the inside of; the second is all x < n { .. }
pub data Context : Type 0 where
  brackets : Context
  bounded : Word → ℕ → Context

-- what a formula stands in: such a context with the level around it, or behind the left side of an implication
pub data Nest : Type 0 where
  outermost : Nest
  inside : Context → Level → Nest → Nest
  behind : Waiting → Nest → Nest

-- the code of what has been read
abbrev pub left_code : Option Waiting → List Instr
left_code None = []
left_code (Some w) = code_bool w.left []

abbrev pub level_code : Level → List Instr
level_code v = left_code v.disj ++ left_code v.conj

abbrev pub head_code : Context → List Instr
head_code brackets = []
head_code (bounded x n) = instr.all x ∷ instr.bound n ∷ instr.scope 0 ∷ []

abbrev pub nest_code : Nest → List Instr
nest_code outermost = []
nest_code (inside c v n) = (nest_code n ++ level_code v) ++ head_code c
nest_code (behind w n) = nest_code n ++ code_bool w.left []

-- the parts that are open; k instructions stand before a context's own, and before all of them
abbrev pub context : ℕ → Context → Open
context k brackets = Bracket
context k (bounded x n) = All (k + 2)

abbrev pub waits : (Place → Open) → Option Waiting → List Open
waits part None = []
waits part (Some w) = part w.place ∷ []

abbrev pub denials : List Place → List Open
denials [] = []
denials (p ∷ ps) = denials ps ++ Not p ∷ []

abbrev pub waiting : Level → List Open
waiting v = (waits Or v.disj ++ waits And v.conj) ++ denials v.nots

abbrev pub around : ℕ → Nest → List Open
around k outermost = []
around k (inside c v n) = (around k n ++ waiting v) ++ context (k + length (nest_code n ++ level_code v)) c ∷ []
around k (behind w n) = around k n ++ Implies w.place ∷ []

-- What the grammar makes of the rest, once a unit, a conjunction, a disjunction or a formula is whole.
abbrev pub negated : List Place → BoolExpr → BoolExpr
negated [] b = b
negated (p ∷ ps) b = negated ps (negate b)

abbrev pub join : (BoolExpr → BoolExpr → BoolExpr) → Option Waiting → BoolExpr → BoolExpr
join op None b = b
join op (Some w) b = op w.left b

abbrev pub closer : Context → Fixed
closer brackets = the.RightBracket
closer (bounded x n) = the.RightBrace

abbrev pub wrapped : Context → BoolExpr → BoolExpr
wrapped brackets b = b
wrapped (bounded x n) b = for_all x n b

unfoldable pub after_formula : Nest → BoolExpr → List Token → Parsed BoolExpr
after_formula outermost b ts = Some (b, ts)
after_formula (behind w n) b ts = after_formula n (implies w.left b) ts
after_formula (inside c v n) b ts = do
  us ← expect (closer c) ts
  (d, vs) ← conjunction_rest∞ (join conj v.conj (negated v.nots (wrapped c b))) us
  (e, ws) ← disjunction_rest∞ (join disj v.disj d) vs
  cond (starts the.Implies ws) (do
    (f, xs) ← formula∞ (onward ws)
    after_formula n (implies e f) xs)
      (after_formula n e ws)

abbrev pub after_disjunction : Nest → BoolExpr → List Token → Parsed BoolExpr
after_disjunction n b ts = cond (starts the.Implies ts) (do
  (c, us) ← formula∞ (onward ts)
  after_formula n (implies b c) us)
    (after_formula n b ts)

abbrev pub after_conjunction : Option Waiting → Nest → BoolExpr → List Token → Parsed BoolExpr
after_conjunction m n b ts = do
  (c, us) ← disjunction_rest∞ (join disj m b) ts
  after_disjunction n c us

abbrev pub after_unit : Level → Nest → BoolExpr → List Token → Parsed BoolExpr
after_unit v n b ts = do
  (c, us) ← conjunction_rest∞ (join conj v.conj (negated v.nots b)) ts
  after_conjunction v.disj n c us

-- The link that waits last, above the first `base` open parts: its right side is whole.
abbrev pub is_not : Link → Bool
is_not link.Not = true
is_not link.And = false
is_not link.Or = false

abbrev pub is_and : Link → Bool
is_and link.Not = false
is_and link.And = true
is_and link.Or = false

abbrev pub is_or : Link → Bool
is_or link.Not = false
is_or link.And = false
is_or link.Or = true

abbrev pub of_link : Link → Open → Option Node
of_link l (Not p) = when (is_not l) (Some (node.Not p))
of_link l (And p) = when (is_and l) (Some (node.And p))
of_link l (Or p) = when (is_or l) (Some (node.Or p))
of_link l Paren = None
of_link l (Index p) = None
of_link l (OldIndex p) = None
of_link l (Operator o p) = None
of_link l Bracket = None
of_link l (Implies p) = None
of_link l (All n) = None
of_link l (Braces k n) = None

abbrev pub last_link : Link → ℕ → List Open → Option Node
last_link l base os = last_above base os >>= of_link l

abbrev pub linked : Link → ℕ → Snap → Snap
linked l base s = maybe (last_link l base s.pending) s λ n. emitted (instr s.text n) (closed s)

-- Behind `all`.
abbrev pub all_head : List Token → Parsed (Word × ℕ)
all_head ts = do
  (x, us) ← a_name ts
  vs ← expect the.LessThan us
  (n, ws) ← a_number vs
  xs ← expect the.LeftBrace ws
  Some ((x, n), xs)

-- the length of what is inside is written at its end
abbrev pub all_begun : Word → ℕ → Snap → Snap
all_begun x n s = opened (All (length ((s.code ++ instr.all x ∷ []) ++ instr.bound n ∷ []))) (emitted (instr.scope 0) (emitted (instr.bound n) (emitted (instr.all x) s)))

abbrev pub all_ended : ℕ → Snap → Snap
all_ended at s = emitted instr.end_all (sealed Scope at s)

-- A comparison.
abbrev pub comparison∞ : List Token → Parsed BoolExpr
comparison∞ ts = do
  (e, us) ← sum∞ ts
  o ← comparing us
  (f, vs) ← sum∞ (onward us)
  Some (compare o e f, vs)

-- A unit is to be read next.
pub record AtUnit (before s : Snap) : Type 0 where
  pub level : Level
  pub nest : Nest
  pub pending : s.pending ≡ before.pending ++ (around (length before.code) nest ++ waiting level)
  pub code : s.code ≡ before.code ++ (nest_code nest ++ level_code level)
  pub rest : formula∞ before.ahead ≡ (do
    (b, us) ← unit∞ s.ahead
    after_unit level nest b us)

-- A unit has been read.
pub record BehindUnit (before s : Snap) : Type 0 where
  pub level : Level
  pub nest : Nest
  pub value : BoolExpr
  pub pending : s.pending ≡ before.pending ++ (around (length before.code) nest ++ waiting level)
  pub code : s.code ≡ before.code ++ ((nest_code nest ++ level_code level) ++ code_bool value [])
  pub rest : formula∞ before.ahead ≡ after_unit level nest value s.ahead

-- A conjunction has been read.
pub record BehindConjunction (before s : Snap) : Type 0 where
  pub disj : Option Waiting
  pub nest : Nest
  pub value : BoolExpr
  pub pending : s.pending ≡ before.pending ++ (around (length before.code) nest ++ waits Or disj)
  pub code : s.code ≡ before.code ++ ((nest_code nest ++ left_code disj) ++ code_bool value [])
  pub rest : formula∞ before.ahead ≡ after_conjunction disj nest value s.ahead

-- A formula has been read.
pub record BehindFormula (before s : Snap) : Type 0 where
  pub nest : Nest
  pub value : BoolExpr
  pub pending : s.pending ≡ before.pending ++ around (length before.code) nest
  pub code : s.code ≡ before.code ++ (nest_code nest ++ code_bool value [])
  pub rest : formula∞ before.ahead ≡ after_formula nest value s.ahead

abbrev pub InBool : Snap → Snap → Option Turn → Type 0
InBool before s (Some turn.Unit) = AtUnit before s
InBool before s (Some turn.Behind) = BehindUnit before s
InBool before s (Some turn.Whole) = BehindFormula before s
InBool before s None = Read formula∞ (λ b. code_bool b []) before s

-- What one turn does, from s to s': wherever the formula began, if the reader was inside it as Before says, it is so still, as the
-- next turn says; or there is no formula.
abbrev pub Turns : (Snap → Snap → Type 0) → Snap → Snap → Result Turn NoText → Type 0
Turns Before s s' r = (before : Snap) → Before before s → MatchResult r (λ next. InBool before s' (Some next)) (λ _. formula∞ before.ahead ≡ None)

-- each turn reads a token, closes a part, or comes nearer to the end
abbrev pub weight : Option Turn → ℕ
weight (Some turn.Unit) = 3
weight (Some turn.Behind) = 2
weight (Some turn.Whole) = 1
weight None = 0

abbrev pub left : Option Turn → Snap → ℕ
left t s = weight t + 4 * length s.ahead + 2 * length s.pending

pub record Used (turn : Turn) (s s' : Snap) (next : Option Turn) : Type 0 where
  pub paid : Paid s s'
  pub less : left next s' < left (Some turn) s
