-- Arguments against parameters, one by one.
use Rattle.std.proofs.Common.{◌≡◌, ℕ, Bool, true, false, ◌&&◌, eqb, List, [], ◌∷◌, Some, sym, ◌∙◌}
use Rattle.std.proofs.Math.Bool.{and-true}
use Rattle.std.proofs.lemmas.Bool.{and_right}
use Rattle.lang.specs.Base.{maybe, Word, distinct}
use Rattle.sound.specs.Checking.{Env, callable}
use Rattle.lang.specs.Soundness.{find_decl, find_proc, same_sizes}
use Rattle.lang.specs.Syntax.{Decl, Proc, Program}

module _ (ds : List Decl) {ps : List Decl} {xs : List Word} where
  pub none_left : ps ≡ [] → xs ≡ [] → true ≡ same_sizes ds ps xs
  unfolding same_sizes
  none_left e f = rw (e, f)

  pub one_too_many : {x : Word} {ys : List Word} → ps ≡ [] → xs ≡ x ∷ ys → false ≡ same_sizes ds ps xs
  unfolding same_sizes
  one_too_many e f = rw (e, f)

  pub one_missing : {p : Decl} {qs : List Decl} → ps ≡ p ∷ qs → xs ≡ [] → false ≡ same_sizes ds ps xs
  unfolding same_sizes
  one_missing e f = rw (e, f)

  module _ {y : Word} {n : ℕ} {qs : List Decl} {x : Word} {ys : List Word} (e : ps ≡ record { name = y; size = n } ∷ qs) (f : xs ≡ x ∷ ys) where
    pub wrong_size : false ≡ maybe (find_decl ds x) false (λ d. eqb d.size n) → false ≡ same_sizes ds ps xs
    unfolding same_sizes
    wrong_size t = rw (e, f, ← t)

    pub right_size : true ≡ maybe (find_decl ds x) false (λ d. eqb d.size n) → same_sizes ds qs ys ≡ same_sizes ds ps xs
    unfolding same_sizes
    right_size t = rw (e, f, ← t)

-- a call, with the parameters ps of the procedure
module _ (p : Program) (e : Env) (f : Word) (xs : List Word) where
  module _ {q : Proc} {ps : List Decl} (found : find_proc p.procs f ≡ Some q) (params : ps ≡ q.params) where
    by_sizes : callable p e f xs ≡ (distinct xs && same_sizes e.names ps xs)
    by_sizes = rw (found, params)

    pub sizes_differ : false ≡ same_sizes e.names ps xs → false ≡ callable p e f xs
    sizes_differ t = sym (by_sizes ∙ and_right (distinct xs) _ (sym t))

    pub sizes_agree : {b : Bool} → true ≡ same_sizes e.names ps xs → b ≡ distinct xs → b ≡ callable p e f xs
    sizes_agree t d = d ∙ sym (by_sizes ∙ rw (← t) (and-true (distinct xs)))
