-- Where a reader is inside a block: the statements that it has read, and what the block stands in.
use Rattle.std.specs.Prelude.{◌≡◌, ℕ, ◌+◌, Bool, true, false, List, [], ◌∷◌, ◌++◌, length, Some}
use Rattle.lang.specs.Base.{◌>>=◌}
use Rattle.lang.specs.Code.{code_bool, code_stmt, code_block}
use Rattle.lang.specs.Grammar.{Parsed, else_head, LoopHead}
use Rattle.lang.specs.Instr as instr
use Rattle.lang.specs.Instr.{Instr}
use Rattle.lang.specs.Syntax.{BoolExpr, Stmt, branch, loop, Block, end, seq}
use Rattle.lang.specs.Tokens.{Token}
use Rattle.parse.specs.Listed.{codes}
use Rattle.parse.specs.Parts.{header_instr, part_code, measure_code}
use Rattle.parse.specs.Reading.{Snap, Read, advanced, emitted, opened}
use Rattle.parse.specs.Unbounded.{block∞}
use Rattle.parse.specs.declared.open.Open.{Open}
use Rattle.parse.specs.declared.open.Open.TheVariants.{Braces}
use Rattle.parse.specs.declared.parts.Header.TheVariants as header
use Rattle.parse.specs.declared.parts.Header.TheVariants.{Test, Invariant}
use Rattle.parse.specs.declared.open.Kind.{Kind}
use Rattle.parse.specs.declared.open.Kind.TheVariants as kind

-- statements in front of a block
abbrev pub listed : List Stmt → Block → Block
listed [] c = c
listed (s ∷ ss) c = seq s (listed ss c)

-- What a block stands in: the index of the instruction that is to have its length, the statements before, and what these stand in.
pub data Nest : Type 0 where
  outermost : Nest
  in_then : BoolExpr → ℕ → List Stmt → Nest → Nest
  in_else : BoolExpr → Block → ℕ → List Stmt → Nest → Nest
  in_loop : LoopHead → ℕ → List Stmt → Nest → Nest

abbrev pub around : Nest → List Open
around outermost = []
around (in_then b at ss n) = around n ++ Braces kind.Then at ∷ []
around (in_else b c at ss n) = around n ++ Braces kind.Else at ∷ []
around (in_loop h at ss n) = around n ++ Braces kind.Do at ∷ []

-- the code of a head, up to the length of the block that follows
abbrev pub then_code : BoolExpr → List Instr
then_code b = instr.if ∷ code_bool b (instr.then 0 ∷ [])

abbrev pub else_code : BoolExpr → Block → List Instr
else_code b c = instr.if ∷ code_bool b (instr.then (length (code_block c [])) ∷ code_block c (instr.else 0 ∷ []))

abbrev pub loop_code : LoopHead → List Instr
loop_code h = instr.while ∷ part_code Test h.test ++ (part_code Invariant h.invariant ++ (measure_code h.measure ++ instr.rounds 0 ∷ []))

abbrev pub nest_code : Nest → List Instr
nest_code outermost = []
nest_code (in_then b at ss n) = (nest_code n ++ codes code_stmt ss) ++ then_code b
nest_code (in_else b c at ss n) = (nest_code n ++ codes code_stmt ss) ++ else_code b c
nest_code (in_loop h at ss n) = (nest_code n ++ codes code_stmt ss) ++ loop_code h

-- each index is that of the last instruction that was written when its block began; base: how many there were before
abbrev pub Placed : ℕ → Nest → Type 0
Placed base outermost = Unit {0}
Placed base (in_then b at ss n) = (at + 1 ≡ base + length (nest_code (in_then b at ss n))) × Placed base n
Placed base (in_else b c at ss n) = (at + 1 ≡ base + length (nest_code (in_else b c at ss n))) × Placed base n
Placed base (in_loop h at ss n) = (at + 1 ≡ base + length (nest_code (in_loop h at ss n))) × Placed base n

-- What the grammar makes of the rest, once the block is whole.
unfoldable pub after_block : Nest → Block → List Token → Parsed Block
after_block outermost c ts = Some (c, ts)
after_block (in_then b at ss n) c ts = do
  us ← else_head ts
  (d, vs) ← block∞ us
  (rest, ws) ← block∞ vs
  after_block n (listed ss (seq (branch b c d) rest)) ws
after_block (in_else b c at ss n) d ts = do
  (rest, us) ← block∞ ts
  after_block n (listed ss (seq (branch b c d) rest)) us
after_block (in_loop h at ss n) c ts = do
  (rest, us) ← block∞ ts
  after_block n (listed ss (seq (loop h.test h.invariant h.measure c) rest)) us

-- A statement is to be read next, or the brace behind the last.
pub record AtStatement (before s : Snap) : Type 0 where
  pub read : List Stmt
  pub nest : Nest
  pub placed : Placed (length before.code) nest
  pub pending : s.pending ≡ before.pending ++ around nest
  pub code : s.code ≡ before.code ++ (nest_code nest ++ codes code_stmt read)
  pub rest : block∞ before.ahead ≡ (do
    (c, us) ← block∞ s.ahead
    after_block nest (listed read c) us)

-- The brace behind the last statement has been read.
pub record BlockWhole (before s : Snap) : Type 0 where
  pub read : List Stmt
  pub nest : Nest
  pub placed : Placed (length before.code) nest
  pub pending : s.pending ≡ before.pending ++ around nest
  pub code : s.code ≡ before.code ++ (nest_code nest ++ codes code_stmt read)
  pub rest : block∞ before.ahead ≡ after_block nest (listed read end) s.ahead

-- where a block of that kind has been opened
abbrev pub block_opened : Kind → Snap → Snap
block_opened k s = opened (Braces k (length s.code)) (emitted (header_instr (header.Block k) 0) (advanced s))

-- A head has been read up to the brace of its block, which is open now.
pub record Headed {A : Type 0} (parse : List Token → Parsed A) (coding : A → List Instr) (kind : Kind) (before after : Snap) : Type 0 where
  pub value : A
  pub parsed : parse before.ahead ≡ Some (value, after.ahead)
  pub code : after.code ≡ before.code ++ coding value
  pub at : ℕ
  pub placed : at + 1 ≡ length after.code
  pub pending : after.pending ≡ before.pending ++ Braces kind at ∷ []

-- behind a brace: the whole block, or only the one inside
abbrev pub Closed : Snap → Snap → Bool → Type 0
Closed before s true = Read block∞ (λ c. code_block c []) before s
Closed before s false = AtStatement before s
