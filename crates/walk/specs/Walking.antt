-- What stands at an index of a program's code: declarations, arguments, procedures and their parts.
use Rattle.std.specs.Prelude.{◌≡◌, ℕ, ◌+◌, ◌^◌, ◌<◌, false, List, [], ◌∷◌, length, drop, Some, Option}
use Rattle.lang.specs.Base.{◌>>=◌, maybe, Word}
use Rattle.lang.specs.Code.{code_bool, code_expr, code_locals, code_block, code_proc, code_procs}
use Rattle.lang.specs.Holding.{code_of}
use Rattle.lang.specs.Instr as instr
use Rattle.lang.specs.Instr.{Instr, name_at}
use Rattle.walk.specs.Shapes.{size_of}
use Rattle.walk.specs.Roles.{Role, role, declared_name, declared_size, passed_name, ends}
use Rattle.lang.specs.Soundness.{find_decl, find_proc}
use Rattle.lang.specs.Syntax.{Decl, Proc}
use Rattle.lang.specs.declared.code.Node.{Node}
use Rattle.lang.specs.declared.code.Place.{Place}
use Rattle.lang.specs.declared.program.Program.{Program}
use Rattle.walk.specs.declared.declarations.Declaration.{Declaration}
use Rattle.walk.specs.declared.name.Name.{Name}
use Rattle.walk.specs.declared.procedures.Outline.{Outline}
use Rattle.walk.specs.declared.procedures.Procedure.{Procedure}

abbrev pub declaration : Role → Role → Option Decl
declaration i s = declared_name i >>= λ x. declared_size s >>= λ n. Some (record { name = x; size = n })

-- the declarations at the front of code
unfoldable pub declared : List Instr → List Decl
declared [] = []
declared (i ∷ []) = []
declared (i ∷ s ∷ k) = maybe (declaration (role i) (role s)) [] λ d. d ∷ declared k

-- the arguments there
unfoldable pub passed : List Instr → List Word
passed [] = []
passed (i ∷ k) = maybe (passed_name (role i)) [] λ x. x ∷ passed k

-- the instruction at the front of code; where there is none, as at the end of a procedure
abbrev pub first : List Instr → Instr
first [] = instr.end_proc
first (i ∷ k) = i

-- the code of a program from an index on, and the name at a place of its text
abbrev pub rest : Program → ℕ → List Instr
rest held i = drop i (code_of held)

abbrev pub word : Program → Place → Word
word held p = name_at held.text.now p.0

abbrev pub word_of : Program → Option Place → Option Word
word_of held o = o >>= λ p. Some (word held p)

-- a declaration that is found at an index
abbrev pub decl : Declaration → Decl
decl d = record { name = word d.program.now d.place; size = size_of d.shape }

pub record DeclaredAt (held : Program) (i : ℕ) (d : Declaration) : Type 0 where
  pub here : declared (rest held i) ≡ decl d ∷ declared (rest held (i + 2))
  pub named : (decl d).name ≡ word held d.place
  pub within : i + 1 < length (code_of held)
  pub room : i + 2 < 2 ^ 64

-- an argument that is found at an index
pub record PassedAt (held : Program) (i : ℕ) (x : Name) : Type 0 where
  pub here : passed (rest held i) ≡ x.text.now ∷ passed (rest held (i + 1))
  pub named : x.text.now ≡ word held x.at
  pub within : i < length (code_of held)
  pub room : i + 1 < 2 ^ 64

-- An instruction at an index that does not end the part in which it stands.
pub record InPart (held : Program) (i : ℕ) (n : Node) : Type 0 where
  pub here : rest held i ≡ instr.instr held.text.now n ∷ rest held (i + 1)
  pub goes_on : ends (role (instr.instr held.text.now n)) ≡ false
  pub within : i < length (code_of held)
  pub room : i + 1 < 2 ^ 64

-- what a name is declared as: its size
abbrev pub size_in : List Decl → Word → Option ℕ
size_in ds x = find_decl ds x >>= λ d. Some d.size

-- what a procedure asks, promises and measures
abbrev pub code_head : Proc → List Instr → List Instr
code_head q k = instr.pre (length (code_bool q.pre [])) ∷ code_bool q.pre (instr.post (length (code_bool q.post [])) ∷ code_bool q.post (instr.measure (length (code_expr q.measure [])) ∷ code_expr q.measure k))

-- Where the parts of a procedure begin, in front of other code k.
pub record Laid (held : Program) (o : Outline) (q : Proc) (k : List Instr) : Type 0 where
  pub params : declared (rest held o.params) ≡ q.params
  pub locals : declared (rest held o.locals) ≡ q.locals
  pub head : rest held o.head ≡ code_head q (code_locals q.locals (instr.body (length (code_block q.body [])) ∷ code_block q.body (instr.end_proc ∷ k)))
  pub body : rest held o.body ≡ code_block q.body (instr.end_proc ∷ k)

-- the name of a procedure
abbrev pub name_of : Procedure → Word
name_of f = word f.program.now f.place

-- A procedure at an index, the first of several, and the others behind it.
pub record ProcAt (held : Program) (i : ℕ) (f : Procedure) (qs : List Proc) : Type 0 where
  pub this : Proc
  pub others : List Proc
  pub split : qs ≡ this ∷ others
  pub name : name_of f ≡ this.name
  pub named : name_of f ≡ word held f.place
  pub here : rest held i ≡ code_proc this (code_procs others [])
  pub behind : rest held f.next ≡ code_procs others []

-- Procedures from which the same follows as from others: what is still to be gone through, and all.
pub record Left {A : Type 0} (F : List Proc → A) (k : List Instr) (value : A) : Type 0 where
  pub procs : List Proc
  pub code : k ≡ code_procs procs []
  pub same : F procs ≡ value

-- The procedure of a name.
pub record ProcFound (held : Program) (i : ℕ) (qs : List Proc) (x : Word) : Type 0 where
  pub this : Proc
  pub behind : List Instr
  pub found : find_proc qs x ≡ Some this
  pub here : rest held i ≡ code_proc this behind
