-- What valid conditions promise.
use Rattle.std.specs.Prelude.{◌≡◌, ℕ, ◌^◌, ◌<◌, ◌≤◌, true, false, List, [], ◌∷◌, length, take, Some}
use Rattle.lang.specs.Base.{Word}
use Rattle.lang.specs.Meaning.{Cell, State, true_in, count, Run, ok, run_proc}
use Rattle.lang.specs.Soundness.{find_proc, sound}
use Rattle.lang.specs.Syntax.{Decl, Proc, Program}
use Rattle.vc.specs.Conditions.{Condition, broken_at, condition_unknowns, conditions_under, conditions}
use Rattle.vc.specs.Symbolic.{as_written}

-- no numbers break it
abbrev pub Valid : ℕ → Condition → Type 0
Valid w k = (g : ℕ → ℕ) → broken_at w g k ≡ false

pub data AllValid (w : ℕ) : List Condition → Type 0 where
  none_left : AllValid w []
  and_this : {k : Condition} {ks : List Condition} → Valid w k → AllValid w ks → AllValid w (k ∷ ks)

-- numbers of w bits
pub data Small (w : ℕ) : List ℕ → Type 0 where
  none_left : Small w []
  and_this : {n : ℕ} {ns : List ℕ} → n < 2 ^ w → Small w ns → Small w (n ∷ ns)

-- a state with just these names, each with as many numbers as it has to have
pub data Fits (w : ℕ) : List Decl → State → Type 0 where
  none_left : Fits w [] []
  and_this : {d : Decl} {c : Cell} {ds : List Decl} {s : State} → c.name ≡ d.name → length c.values ≡ count d → Small w c.values → Fits w ds s → Fits w (d ∷ ds) (c ∷ s)

-- the parameters' part of a state
abbrev pub params_of : Proc → State → State
params_of q s = take (length q.params) s

-- From s, whatever is chosen, the procedure comes to an end, with the same result for any fuel that is enough; it does not fail, and
-- what it promises is true.
pub record KeepsPromise (p : Program) (q : Proc) (s : State) (cs : List ℕ) : Type 0 where
  pub fuel : ℕ
  pub ending : Run
  pub runs : (k : ℕ) → fuel ≤ k → run_proc k p q (record { state = s; choices = cs }) ≡ ok ending
  pub promised : true_in p.width (params_of q ending.state) s q.post ≡ true

-- where all conditions are valid, each procedure keeps its promise from every state in which what it asks is true
abbrev pub ShownHolds : Type 0
ShownHolds =
    (p : Program) → sound p ≡ true → AllValid p.width (conditions p) → (f : Word) (q : Proc) → find_proc p.procs f ≡ Some q → (s : State) (cs : List ℕ) → Fits p.width q.params s → true_in p.width s s q.pre ≡ true → KeepsPromise p q s cs

-- whether numbers break a condition hangs only on those of the unknowns that it counts
abbrev pub DependsOnNamed : Type 0
DependsOnNamed = (w : ℕ) (k : Condition) (g h : ℕ → ℕ) → ((i : ℕ) → i < condition_unknowns k → g i ≡ h i) → broken_at w g k ≡ broken_at w h k

-- conditions that the same numbers break, and that name as many unknowns
pub record SameCondition (w : ℕ) (k l : Condition) : Type 0 where
  pub broken : (g : ℕ → ℕ) → broken_at w g k ≡ broken_at w g l
  pub named : condition_unknowns k ≡ condition_unknowns l

pub data SameConditions (w : ℕ) : List Condition → List Condition → Type 0 where
  none_left : SameConditions w [] []
  and_this : {k l : Condition} {ks ls : List Condition} → SameCondition w k l → SameConditions w ks ls → SameConditions w (k ∷ ks) (l ∷ ls)

-- a written number that is too large may stand in a term reduced to the width or as it is
abbrev pub LiteralsAgree : Type 0
LiteralsAgree = (p : Program) → SameConditions p.width (conditions p) (conditions_under (as_written p.width) p)
