-- Writing the numbers of names.
use borrow.Rule.Slice.PartMut.{put_mid}
use Rattle.std.proofs.Common.{◌≡◌, ℕ, ◌+◌, ◌<◌, ◌≤◌, eqb, List, [], ◌∷◌, length, get_or, take, drop, set, Some, None, Ok, Err, Result, IfOk, vec_items, sym, refl, ap, ◌∙◌, arith}
use Rattle.std.proofs.lemmas.List.{length-append, length-take-le, length-drop}
use Rattle.std.proofs.lemmas.Option.{slice_get-get_or, slice_get_past}
use Rattle.std.proofs.lemmas.Bool.{ne_eqb}
use Rattle.std.specs.List.{slice_get}
use Rattle.lang.specs.Base.{when, Word}
use Rattle.lang.specs.Meaning.{scalar, element, write}
use Rattle.lang.specs.Syntax.{Decl}
use Rattle.lang.specs.declared.program.Program.{Program}
use Rattle.eval.proofs.States.{values_at, values_missing, write_row, write_element, slot_fits}
use Rattle.eval.specs.States.{counts, state_of, slot_of, Sized}
use Rattle.eval.specs.declared.failure.Failure.{Failure}
use Rattle.eval.specs.declared.names.Slot.{Slot}
use Rattle.std.specs.Result.{result_ok}
use Rattle.exec.specs.Activating.{names, now_state, Stays, Wrote, Assigned, Stored}
use Rattle.exec.specs.declared.activation.Activation.{Activation}

-- numbers written into a row
length_put : (a : ℕ) (xs vs : List ℕ) → a + length vs ≤ length xs → length (put_mid a (length vs) xs vs) ≡ length xs
length_put a xs vs h = simp (length-append, length-take-le a xs (omega arith), length-drop) (omega arith)

-- a name of one number
one_number : (vs : List ℕ) → length vs ≡ 1 → when (eqb (length vs) 1) (slice_get vs 0) ≡ Some (get_or vs 0 0)
one_number [] e = absurd (omega arith)
one_number (v ∷ []) e = refl
one_number (v ∷ w ∷ vs) e = absurd (omega arith)

not_one : (vs : List ℕ) → (length vs ≡ 1 → ⊥) → when (eqb (length vs) 1) (slice_get vs 0) ≡ None
not_one vs h = rw (ne_eqb (length vs) 1 h)

set_one : (vs : List ℕ) (v : ℕ) → length vs ≡ 1 → set vs 0 v ≡ v ∷ []
set_one [] v e = absurd (omega arith)
set_one (x ∷ []) v e = refl
set_one (x ∷ y ∷ vs) v e = absurd (omega arith)

module _ (ds : List Decl) (ns : List ℕ) (x : Word) where
  pub scalar_missing : slot_of ds 0 x ≡ None → scalar (state_of ds ns) x ≡ None
  scalar_missing e = rw (values_missing ds ns x e)

  pub element_missing : (k : ℕ) → slot_of ds 0 x ≡ None → element (state_of ds ns) x k ≡ None
  element_missing k e = rw (values_missing ds ns x e)

  module _ (s : Slot) (found : slot_of ds 0 x ≡ Some s) (room : length ns ≡ counts ds) where
    enough : counts ds ≤ length ns
    enough = omega arith

    pub row_length : length (take s.size (drop s.start ns)) ≡ s.size
    row_length = length-take-le s.size (drop s.start ns) (rw (length-drop s.start ns) (omega (arith, slot_fits ds ns x s found enough)))

    pub scalar_is : s.size ≡ 1 → scalar (state_of ds ns) x ≡ Some (get_or (take s.size (drop s.start ns)) 0 0)
    scalar_is one = rw (values_at ds ns x s found) (one_number _ (row_length ∙ one))

    pub no_scalar : (s.size ≡ 1 → ⊥) → scalar (state_of ds ns) x ≡ None
    no_scalar other = rw (values_at ds ns x s found) (not_one _ (λ e. other (sym row_length ∙ e)))

    pub element_outside : (k : ℕ) → s.size ≤ k → element (state_of ds ns) x k ≡ None
    element_outside k h = rw (values_at ds ns x s found) (slice_get_past _ k (omega (arith, row_length)))

    pub element_inside : (k : ℕ) → k < s.size → slice_get (take s.size (drop s.start ns)) k ≡ Some (get_or (take s.size (drop s.start ns)) k 0)
    element_inside k h = slice_get-get_or _ k 0 (omega (arith, row_length))

    pub assigns : s.size ≡ 1 → (v : ℕ) → state_of ds (set ns s.start v) ≡ write (state_of ds ns) x (v ∷ [])
    assigns one v =
        let first : s.start + 0 ≡ s.start = omega arith in
        sym (ap (write (state_of ds ns) x) (sym (set_one _ v (row_length ∙ one))) ∙ write_element ds ns x s found enough 0 v (omega arith) ∙ ap (λ i. state_of ds (set ns i v)) first)

-- the numbers of a name stand among all of its activation
pub slot_within : (a : Activation) (x : Word) (r : Result Slot Failure) → result_ok r ≡ slot_of (names a.program.now a) 0 x → IfOk r (λ s. s.start + s.size ≤ length (vec_items a.numbers))
slot_within a x (Ok s) found =
    let long = a.sized.current in
    slot_fits (names a.program.now a) (vec_items a.numbers) x s (sym found) (omega arith)
slot_within a x (Err e) found = tt

-- as many numbers as before, where those of a name were written
pub still_sized : (a : Activation) (s : Slot) (vs ns : List ℕ) → s.start + s.size ≤ length (vec_items a.numbers) → length vs ≡ s.size → ns ≡ put_mid s.start (length vs) (vec_items a.numbers) vs → Sized a.program.now a.params a.locals ns (vec_items a.olds)
still_sized a s vs ns within size e = record { current = ap length e ∙ length_put s.start (vec_items a.numbers) vs (omega arith) ∙ a.sized.current; initial = a.sized.initial }

-- an activation of which only the numbers change
pub unmoved : {a b : Activation} → b.program.now ≡ a.program.now → b.params ≡ a.params → b.locals ≡ a.locals → b.olds ≡ a.olds → Stays a b
unmoved is ps ls os = record { program_stays = is; params_stay = ps; locals_stay = ls; olds_stay = os }

module _ (held : Program) (a b : Activation) (stays : Stays a b) (long : length (vec_items a.numbers) ≡ counts (names held a)) (x : Word) where
  rewritten : (ns vs : List ℕ) → vec_items b.numbers ≡ ns → state_of (names held a) ns ≡ write (now_state held a) x vs → Wrote held a b x vs
  rewritten ns vs e is =
      let same : names held b ≡ names held a = rw (stays.params_stay, stays.locals_stay) in
      record { state = rw (same, e) is; stays = stays }

  module _ (s : Slot) (found : slot_of (names held a) 0 x ≡ Some s) where
    pub assigned : (v : ℕ) → s.size ≡ 1 → vec_items b.numbers ≡ set (vec_items a.numbers) s.start v → Assigned held a b x v
    assigned v one e =
        record {
          before = _;
          found = scalar_is (names held a) (vec_items a.numbers) x s found long one;
          wrote = rewritten (set (vec_items a.numbers) s.start v) (v ∷ []) e (assigns (names held a) (vec_items a.numbers) x s found long one v);
        }

    pub stored : (k v : ℕ) → k < s.size → vec_items b.numbers ≡ set (vec_items a.numbers) (s.start + k) v → Stored held a b x k v
    stored k v h e =
        let ns = vec_items a.numbers in
        let enough : counts (names held a) ≤ length ns = omega (arith, long) in
        record {
          row = take s.size (drop s.start ns);
          before = _;
          found = values_at (names held a) ns x s found;
          here = element_inside (names held a) ns x s found long k h;
          wrote = rewritten (set ns (s.start + k) v) _ e (sym (write_element (names held a) ns x s found enough k v h));
        }

    pub overwritten : (vs : List ℕ) → length vs ≡ s.size → vec_items b.numbers ≡ put_mid s.start (length vs) (vec_items a.numbers) vs → Wrote held a b x vs
    overwritten vs size e =
        let ns = vec_items a.numbers in
        let enough : counts (names held a) ≤ length ns = omega (arith, long) in
        rewritten (put_mid s.start (length vs) ns vs) vs e (sym (write_row (names held a) ns x s found enough vs size ∙ ap (λ n. state_of (names held a) (put_mid s.start n ns vs)) (sym size)))
