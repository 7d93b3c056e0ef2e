-- What `join` writes of an iterator whose items show a list.
use Rattle.std.proofs.Common.{◌≡◌, ℕ, List, [], ◌∷◌, ◌++◌, map, flat_map, true, Result, Ok, Err, Option, Some, IfOk, refl, sym, ap, subst, ◌∙◌}
use Rattle.std.proofs.lemmas.Iterator.{YieldsList}
use Rattle.std.proofs.lemmas.Iterator.Adapters.{fact_from_extend}
use Rattle.std.specs.Iterator.{Yields}
use Rattle.std.specs.Iterator.Runs.{Run, YieldsRun, WholeRun}
use Rattle.itertools.specs.Consumer.{ShownBy, joined}

flat_map-map : {A B : Type 0} (g : B → List ℕ) (v : A → B) (xs : List A) → flat_map (λ x. g (v x)) xs ≡ flat_map g (map v xs)
flat_map-map g v [] = refl
flat_map-map g v (x ∷ xs) = ap (λ r. g (v x) ++ r) (flat_map-map g v xs)

joined-map : {A B : Type 0} (f : B → List ℕ) (v : A → B) (sep : List ℕ) (xs : List A) → joined (λ x. f (v x)) sep xs ≡ joined f sep (map v xs)
joined-map f v sep [] = refl
joined-map f v sep (x ∷ xs) = ap (λ r. f (v x) ++ r) (flat_map-map (λ y. sep ++ f y) v xs)

module _ {S A : Type 0} {steps : S → Option A → S → Type 0} {s : S} where
  -- the items of a run to the end show the list
  run_items : {B : Type 0} (v : A → B) (ys : List B) → YieldsList steps v s ys → (p : Run steps) → p.from ≡ s → p.whole ≡ true → map v p.items ≡ ys
  unfolding YieldsRun
  run_items v ys road p at whole =
      let run = subst (λ u. Yields steps u p.items p.gave.0.0) at p.gave.0.1 in
      let end = p.gave.0.2 whole in
      fact_from_extend {E = Unit {0}} {steps = steps} {B = λ it. it ≡ s} {P = λ xs. xs ≡ p.items} v (Ok tt) (s, p.items, refl, refl, (end.0, (p.gave.0.0, run, end.1)))
      (λ it b. subst (λ u. YieldsList steps v u ys) (sym b) road) (λ xs e h. ap (map v) (sym h) ∙ e)

  -- What was joined, where each item is written as `text` says, and these texts are what f writes of a list.
  pub joined_text : {V E B : Type 0} (bytes : V → List ℕ) (output : A → Option (List ℕ)) (text : A → List ℕ) (sep : List ℕ) (r : Result V E) (f : B → List ℕ) (ys : List B)
      → YieldsList steps text s (map f ys) → IfOk r (λ t. WholeRun steps s (λ p. ShownBy output p.items (λ show. bytes t ≡ joined show sep p.items)))
      → ((x : A) → output x ≡ Some (text x)) → IfOk r (λ t. bytes t ≡ joined f sep ys)
  joined_text bytes output text sep (Ok t) f ys road run written =
      run.3 text written ∙ joined-map (λ t. t) text sep run.0.items ∙ ap (joined (λ t. t) sep) (run_items text (map f ys) road run.0 run.1 run.2) ∙ sym (joined-map (λ t. t) f sep ys)
  joined_text bytes output text sep (Err e) f ys road run written = tt
