-- Going through code by indices.
use Rattle.std.proofs.Common.{◌≡◌, ℕ, zero, suc, ◌+◌, ◌^◌, ◌<◌, false, List, [], ◌∷◌, map, length, drop, Some, None, Option, sym, refl, ap, ◌∙◌, suc-le-suc, arith}
use Rattle.std.proofs.lemmas.List.{drop-drop, drop_all}
use Rattle.std.proofs.lemmas.Bool.{both_ways}
use Rattle.std.specs.List.{slice_get}
use Rattle.std.specs.Option.{unwrap_or}
use Rattle.lang.specs.Base.{◌>>=◌, Word}
use Rattle.lang.specs.Holding.{code_of}
use Rattle.lang.specs.Instr as instr
use Rattle.lang.specs.Instr.{Instr}
use Rattle.walk.specs.Shapes.{size_of}
use Rattle.walk.specs.Roles.{Role, leaves, role, ends, declared_name, declared_size, passed_name}
use Rattle.lang.specs.Syntax.{Decl}
use Rattle.walk.specs.Walking.{first, rest, word, word_of, declared, DeclaredAt, passed, PassedAt, InPart}
use Rattle.lang.specs.declared.code.Node.{Node}
use Rattle.lang.specs.declared.code.Place.{Place}
use Rattle.lang.specs.declared.program.Program.{Program}
use Rattle.walk.specs.declared.declarations.Declaration.{Declaration}
use Rattle.walk.specs.declared.name.Name.{Name}

-- f: what a node is as an instruction, z: a node that ends a procedure
pub first_nth : {A : Type 0} (f : A → Instr) (z : A) → f z ≡ instr.end_proc → (xs : List A) (i : ℕ) → f (unwrap_or (slice_get xs i) z) ≡ first (drop i (map f xs))
first_nth f z e [] zero = e
first_nth f z e [] (suc i) = e
first_nth f z e (x ∷ xs) zero = refl
first_nth f z e (x ∷ xs) (suc i) = first_nth f z e xs i

-- an instruction that does not end a procedure is there
pub record Here (code : List Instr) (i : ℕ) : Type 0 where
  pub splits : drop i code ≡ first (drop i code) ∷ drop (i + 1) code
  pub within : i < length code

pub here : (code : List Instr) (i : ℕ) → (first (drop i code) ≡ instr.end_proc → ⊥) → Here code i
here [] zero h = absurd (h refl)
here [] (suc i) h = absurd (h refl)
here (x ∷ code) zero h = record { splits = refl; within = omega arith }
here (x ∷ code) (suc i) h =
    let more : suc i + 1 ≡ suc (i + 1) = omega arith in
    let rest = here code i h in
    record { splits = rw more rest.splits; within = suc-le-suc rest.within }

pub no_name : (k : List Instr) → declared_name (role (first k)) ≡ None → declared k ≡ []
unfolding declared
no_name [] e = refl
no_name (i ∷ []) e = refl
no_name (i ∷ s ∷ k) e = rw e

-- no name without a size
nothing : (o : Option Word) → ◌≡◌ {A = Option Decl} (o >>= λ x. None) None
nothing None = refl
nothing (Some x) = refl

no_size : (k : List Instr) → declared_size (role (first (drop 1 k))) ≡ None → declared k ≡ []
unfolding declared
no_size [] e = refl
no_size (i ∷ []) e = refl
no_size (i ∷ s ∷ k) e = simp (e, nothing)

declared_more : (k : List Instr) (x : Word) (n : ℕ) → declared_name (role (first k)) ≡ Some x → declared_size (role (first (drop 1 k))) ≡ Some n → declared k ≡ record { name = x; size = n } ∷ declared (drop 2 k)
unfolding declared
declared_more [] x n e f = let z : ◌≡◌ {A = ℕ} 0 1 = cc in absurd (omega arith)
declared_more (i ∷ []) x n e f = let z : ◌≡◌ {A = ℕ} 0 1 = cc in absurd (omega arith)
declared_more (i ∷ s ∷ k) x n e f = rw (e, f)

-- f: something that is read off an instruction, and not off the end of a procedure
pub found_here : {A : Type 0} (f : Role → Option A) (code : List Instr) (i : ℕ) (x : A) → f leaves ≡ None → f (role (first (drop i code))) ≡ Some x → Here code i
found_here f code i x none e = here code i (λ end. let z : ◌≡◌ {A = ℕ} 0 1 = cc (ap (λ s. f (role s)) end) in absurd (omega arith))

pub no_passed : (k : List Instr) → passed_name (role (first k)) ≡ None → passed k ≡ []
unfolding passed
no_passed [] e = refl
no_passed (s ∷ k) e = rw e

module _ (held : Program) (i : ℕ) where
  pub no_declaration : declared_size (role (first (rest held (i + 1)))) ≡ None → declared (rest held i) ≡ []
  no_declaration e = no_size (rest held i) (rw (drop-drop 1 i (code_of held)) e)

  pub declared_here : (d : Declaration) → d.program.now ≡ held → word_of held (Some d.place) ≡ declared_name (role (first (rest held i))) → Some (size_of d.shape) ≡ declared_size (role (first (rest held (i + 1)))) → length (code_of held) < 2 ^ 64 → DeclaredAt held i d
  declared_here d same e f h =
      let named : word d.program.now d.place ≡ word held d.place = ap (λ (p : Program). word p d.place) same in
      let inside = (found_here declared_size (code_of held) (i + 1) (size_of d.shape) refl (sym f)).within in
      let more = declared_more (rest held i) (word d.program.now d.place) (size_of d.shape) (sym e ∙ ap Some (sym named)) (rw (drop-drop 1 i (code_of held)) (sym f)) in
      record { here = rw (← (drop-drop 2 i (code_of held))) more; named = named; within = inside; room = omega arith }

  pub passed_here : (x : Name) → x.text.now ≡ word held x.at → word_of held (Some x.at) ≡ passed_name (role (first (rest held i))) → length (code_of held) < 2 ^ 64 → PassedAt held i x
  unfolding passed
  passed_here x named e h =
      let found = found_here passed_name (code_of held) i _ refl (sym e) in
      record { here = ap passed found.splits ∙ rw (← e, named) refl; named = named; within = found.within; room = omega arith }

-- An argument is given at an index, whichever.
pub record GivenAt (held : Program) (i : ℕ) : Type 0 where
  pub longer : length (passed (rest held i)) ≡ suc (length (passed (rest held (i + 1))))
  pub within : i < length (code_of held)

pub given_here : (held : Program) (i : ℕ) (p : Place) → word_of held (Some p) ≡ passed_name (role (first (rest held i))) → GivenAt held i
unfolding passed
given_here held i p e =
    let found = found_here passed_name (code_of held) i _ refl (sym e) in
    record { longer = ap (λ k. length (passed k)) found.splits ∙ rw (← e) refl; within = found.within }

-- nothing is declared behind the last instruction
pub none_at_end : (held : Program) (n : ℕ) → n ≡ length (code_of held) → declared (rest held n) ≡ []
unfolding declared
none_at_end held n e = rw (drop_all n (code_of held) (omega arith))

pub in_part : (held : Program) (i : ℕ) (n : Node) → instr.instr held.text.now n ≡ first (rest held i) → false ≡ ends (role (instr.instr held.text.now n)) → length (code_of held) < 2 ^ 64 → InPart held i n
in_part held i n e on h =
    let there = here (code_of held) i (λ end. both_ways (ends (role (instr.instr held.text.now n))) (sym on) (ap (λ s. ends (role s)) (e ∙ end))) in
    record { here = rw e there.splits; goes_on = sym on; within = there.within; room = omega arith }
