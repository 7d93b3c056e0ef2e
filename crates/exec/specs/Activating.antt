-- The names of a procedure that has begun, and their numbers.
use Rattle.std.specs.Prelude.{◌≡◌, ℕ, List, [], ◌∷◌, Some, vec_items, slice_set}
use Rattle.std.specs.List.{slice_get}
use Rattle.lang.specs.Base.{Word}
use Rattle.lang.specs.Meaning.{State, values_of, scalar, write}
use Rattle.lang.specs.Soundness.{find_decl}
use Rattle.lang.specs.Syntax.{Decl}
use Rattle.lang.specs.declared.program.Program.{Program}
use Rattle.walk.specs.Walking.{rest, declared}
use Rattle.eval.specs.States.{both, state_of}
use Rattle.exec.specs.declared.activation.Activation.{Activation}

module _ (held : Program) where
  -- its names, and those with which it began
  abbrev pub names : Activation → List Decl
  names a = both held a.params a.locals

  abbrev pub params : Activation → List Decl
  params a = declared (rest held a.params)

  -- their numbers now, and at its beginning
  abbrev pub now_state : Activation → State
  now_state a = state_of (names a) (vec_items a.numbers)

  abbrev pub old_state : Activation → State
  old_state a = state_of (params a) (vec_items a.olds)

-- The procedure that is running stays the same, but for its numbers.
pub record Stays (a b : Activation) : Type 0 where
  pub program_stays : b.program.now ≡ a.program.now
  pub params_stay : b.params ≡ a.params
  pub locals_stay : b.locals ≡ a.locals
  pub olds_stay : b.olds ≡ a.olds

module _ (held : Program) where
  -- A name was given other numbers.
  pub record Wrote (a b : Activation) (x : Word) (vs : List ℕ) : Type 0 where
    pub state : now_state held b ≡ write (now_state held a) x vs
    pub stays : Stays a b

  -- A number was given to a name of one.
  pub record Assigned (a b : Activation) (x : Word) (v : ℕ) : Type 0 where
    pub before : ℕ
    pub found : scalar (now_state held a) x ≡ Some before
    pub wrote : Wrote a b x (v ∷ [])

  -- A number was given to a place of a row.
  pub record Stored (a b : Activation) (x : Word) (k v : ℕ) : Type 0 where
    pub row : List ℕ
    pub before : ℕ
    pub found : values_of (now_state held a) x ≡ Some row
    pub here : slice_get row k ≡ Some before
    pub wrote : Wrote a b x (slice_set row k v)

-- each name is declared among others, as the same
pub data Among (ds : List Decl) : List Decl → Type 0 where
  none : Among ds []
  one : {d : Decl} {es : List Decl} → find_decl ds d.name ≡ Some d → Among ds es → Among ds (d ∷ es)
