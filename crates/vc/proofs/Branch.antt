-- Branches: the way that is gone decides what the join stands for.
use Rattle.std.proofs.Common.{◌≡◌, ℕ, zero, suc, Bool, true, false, not, List, [], ◌∷◌, length, drop, Some, sym, refl, ap, ◌∙◌, inl, inr, arith}
use Rattle.std.proofs.lemmas.Bool.{cases_Bool, and_parts, and_from, or_left, or_right, not_from_false, not_from_true}
use Rattle.lang.specs.Meaning.{State, holds, exec, ok}
use Rattle.lang.specs.Soundness.{sound_bool, sound_stmt, sound_block}
use Rattle.lang.specs.Syntax.{BoolExpr, branch, Block, Decl}
use Rattle.vc.proofs.Agreement.{some_injective, values}
use Rattle.vc.proofs.Reaching.{required, reaches_require, reaches_assume, reaches_resume, all_true_append}
use Rattle.vc.proofs.Running.{Scene, context_of, bits, names, at, Goes, run_stmt, StmtGoes, BlockGoes, from_suc, settles, bool_at}
use Rattle.vc.proofs.States.{state_of, outside_left, outside_right, Agree, agree_same, agree_then, Reaches}
use Rattle.vc.proofs.Static.{Follows, follows_then, test_then, then_else, else_end, follows_block, Shaped, shaped_by, shaped_then, shaped_else, shaped_block}
use Rattle.vc.specs.Conditions.{SymState, all_true, assume, assert, resume, join_terms, join_stores, guarded, added, join, judged, branch_test, branch_then, branch_else, branch_end, changed, changed_block, walk_stmt, walk_block}
use Rattle.vc.specs.Symbolic.{Store}
use Rattle.vc.specs.Terms.{Term, Formula, value, truth_of}
use Rattle.vc.specs.Theorem.{AllValid, Fits}

module _ (w : ℕ) (g : ℕ → ℕ) where
  all_true_drop : (n : ℕ) (fs : List Formula) → all_true w g fs ≡ true → all_true w g (drop n fs) ≡ true
  unfolding all_true
  all_true_drop zero fs h = h
  all_true_drop (suc n) [] h = h
  all_true_drop (suc n) (f ∷ fs) h = all_true_drop n fs (and_parts (truth_of w g f) _ h).1

  -- what was given on the way that was gone
  guarded_true : (f : Formula) (fs : List Formula) → all_true w g fs ≡ true → all_true w g (guarded f fs) ≡ true
  unfolding all_true guarded truth_of
  guarded_true f [] h = refl
  guarded_true f (k ∷ fs) h =
      let p = and_parts (truth_of w g k) _ h in
      and_from _ _ (or_right (not (truth_of w g f)) (truth_of w g k) p.0) (guarded_true f fs p.1)

  -- and on the other
  guarded_off : (f : Formula) (fs : List Formula) → truth_of w g f ≡ false → all_true w g (guarded f fs) ≡ true
  unfolding all_true guarded truth_of
  guarded_off f [] h = refl
  guarded_off f (k ∷ fs) h = and_from _ _ (or_left (not (truth_of w g f)) (truth_of w g k) (not_from_false _ h)) (guarded_off f fs h)

  join_terms_first : (f : Formula) (ts us : List Term) → length us ≡ length ts → truth_of w g f ≡ true → values w g (join_terms f ts us) ≡ values w g ts
  unfolding join_terms value
  join_terms_first f [] us l e = refl
  join_terms_first f (t ∷ ts) [] l e = absurd (omega arith)
  join_terms_first f (t ∷ ts) (u ∷ us) l e = rw e (ap (λ r. value w g t ∷ r) (join_terms_first f ts us (omega arith) e))

  join_terms_second : (f : Formula) (ts us : List Term) → length us ≡ length ts → truth_of w g f ≡ false → values w g (join_terms f ts us) ≡ values w g us
  unfolding join_terms value
  join_terms_second f [] [] l e = refl
  join_terms_second f [] (u ∷ us) l e = absurd (omega arith)
  join_terms_second f (t ∷ ts) [] l e = absurd (omega arith)
  join_terms_second f (t ∷ ts) (u ∷ us) l e = rw e (ap (λ r. value w g u ∷ r) (join_terms_second f ts us (omega arith) e))

  join_first : {ds : List Decl} {a b : Store} (f : Formula) → Shaped ds a → Shaped ds b → truth_of w g f ≡ true → state_of w g (join_stores f a b) ≡ state_of w g a
  unfolding join_stores
  join_first f Shaped.none_left Shaped.none_left e = refl
  join_first f (Shaped.and_this {b = a} n l r) (Shaped.and_this {b = b} m k t) e = rw (join_terms_first f a.terms b.terms (k ∙ sym l) e) (ap (λ s. record { name = a.name; values = values w g a.terms } ∷ s) (join_first f r t e))

  join_second : {ds : List Decl} {a b : Store} (f : Formula) → Shaped ds a → Shaped ds b → truth_of w g f ≡ false → state_of w g (join_stores f a b) ≡ state_of w g b
  unfolding join_stores
  join_second f Shaped.none_left Shaped.none_left e = refl
  join_second f (Shaped.and_this {b = a} n l r) (Shaped.and_this {b = b} m k t) e = rw (join_terms_second f a.terms b.terms (k ∙ sym l) e, n ∙ sym m) (ap (λ s. record { name = b.name; values = values w g b.terms } ∷ s) (join_second f r t e))

-- Behind the branch, with the numbers g' of the way that was gone.
module _ {w : ℕ} {g g' : ℕ → ℕ} {st st' o : State} (f : Formula) (v a b : SymState) (before : Reaches w g v st o) (kept : Agree v.next g g') where
  pub joins_first : {ds : List Decl} → Follows v a → Follows a b → Shaped ds a.current → Shaped ds b.current → ((h : ℕ → ℕ) → Agree v.next g h → truth_of w h f ≡ true) → Reaches w g' a st' o → Reaches w g' (join f v a b) st' o
  unfolding join truth_of
  joins_first va ab sa sb t r =
      let l = ab.later in
      let m = va.later in
      let early : (h : ℕ → ℕ) → Agree b.next g' h → Agree v.next g h = λ h q. agree_then b.next (omega arith) kept q in
      let middle : (h : ℕ → ℕ) → Agree b.next g' h → Agree a.next g' h = λ h q. agree_then b.next l (agree_same a.next g') q in
      record {
        now_is = λ h q. join_first w h f sa sb (t h (early h q)) ∙ r.now_is h (middle h q);
        began = λ h q. before.began h (early h q);
        granted = λ h q.
            all_true_append w h v.given _ (before.granted h (early h q)) (all_true_append w h (guarded f (added v a)) _ (guarded_true w h f (added v a) (all_true_drop w h (suc (length v.given)) a.given (r.granted h (middle h q)))) (guarded_off w h (Formula.negate f) (added v b) (not_from_true _ (t h (early h q)))));
      }

  pub joins_second : {ds : List Decl} → Follows v b → Shaped ds a.current → Shaped ds b.current → ((h : ℕ → ℕ) → Agree v.next g h → truth_of w h f ≡ false) → Reaches w g' b st' o → Reaches w g' (join f v a b) st' o
  unfolding join truth_of
  joins_second vb sa sb t r =
      let l = vb.later in
      let early : (h : ℕ → ℕ) → Agree b.next g' h → Agree v.next g h = λ h q. agree_then b.next l kept q in
      record {
        now_is = λ h q. join_second w h f sa sb (t h (early h q)) ∙ r.now_is h q;
        began = λ h q. before.began h (early h q);
        granted = λ h q.
            all_true_append w h v.given _ (before.granted h (early h q)) (all_true_append w h (guarded f (added v a)) _ (guarded_off w h f (added v a) (t h (early h q))) (guarded_true w h (Formula.negate f) (added v b) (all_true_drop w h (suc (length v.given)) b.given (r.granted h q))));
      }

module _ (c : Scene) (b : BoolExpr) (first second : Block) (v : SymState) (sound : sound_stmt c.program (names c) c.proc.params (branch b first second) ≡ true) (valid : AllValid (bits c) (walk_stmt (context_of c) v (branch b first second)).conditions) where
  abbrev tested : SymState
  tested = branch_test (context_of c) v b

  abbrev end_first : SymState
  end_first = walk_block (context_of c) (branch_then (context_of c) v b) first

  abbrev end_second : SymState
  end_second = walk_block (context_of c) (branch_else (context_of c) v b end_first) second

  sounds : (sound_bool (bits c) 0 (names c) c.proc.params b ≡ true) × (sound_block c.program (names c) c.proc.params first ≡ true) × (sound_block c.program (names c) c.proc.params second ≡ true)
  unfolding sound_stmt
  sounds =
      let p = and_parts (sound_bool (bits c) 0 (names c) c.proc.params b) _ sound in
      let q = and_parts (sound_block c.program (names c) c.proc.params first) _ p.1 in
      (p.0, q.0, q.1)

  first_second : Follows end_first end_second
  first_second = follows_then (then_else (context_of c) v b _) (follows_block (context_of c) second _)

  tested_first : Follows tested end_first
  tested_first = follows_then (test_then (context_of c) v b) (follows_block (context_of c) first _)

  valid_second : AllValid (bits c) end_second.conditions
  unfolding walk_stmt
  valid_second = (else_end (context_of c) v b end_first end_second).valid (bits c) valid

  valid_first : AllValid (bits c) end_first.conditions
  valid_first = first_second.valid (bits c) valid_second

  valid_tested : AllValid (bits c) tested.conditions
  valid_tested = tested_first.valid (bits c) valid_first

  module _ (g : ℕ → ℕ) (st : State) (cs : List ℕ) (r : Reaches (bits c) g v st c.begin) (f : Fits (bits c) (names c) st) where
    abbrev test : Formula
    test = (judged (context_of c) v b).formula

    reaches_test : Reaches (bits c) g tested st c.begin
    unfolding branch_test
    reaches_test = reaches_require v (judged (context_of c) v b).safe valid_tested r

    -- the test does not fail, and its truth hangs on unknowns up to here only
    decided : (h : ℕ → ℕ) → Agree v.next g h → holds (bits c) st c.begin b ≡ Some (truth_of (bits c) h test)
    unfolding branch_test
    decided h a = settles (bool_at c v r f h a b sounds.0) (required v (judged (context_of c) v b).safe valid_tested r h a)

    here : Agree v.next g g
    here = agree_same v.next g

    fixed : (t : Bool) → truth_of (bits c) g test ≡ t → (h : ℕ → ℕ) → Agree v.next g h → truth_of (bits c) h test ≡ t
    fixed t e h a = some_injective (sym (decided h a) ∙ decided g here) ∙ e

    shape_now : Shaped (names c) v.current
    shape_now = shaped_by (bits c) g (names c) v.current (rw (r.now_is g here) f)

    shape_first : Shaped (names c) end_first.current
    shape_first = shaped_block c.program (names c) c.proc.params (context_of c) first _ sounds.1 (shaped_then c.program (names c) c.proc.params (context_of c) v b shape_now)

    shape_second : Shaped (names c) end_second.current
    shape_second = shaped_block c.program (names c) c.proc.params (context_of c) second _ sounds.2 (shaped_else c.program (names c) c.proc.params (context_of c) v b _ shape_now)

    first_goes : truth_of (bits c) g test ≡ true → BlockGoes c first → Goes c (run_stmt c (branch b first second)) (changed (branch b first second)) v (walk_stmt (context_of c) v (branch b first second)) g st cs
    unfolding walk_stmt branch_test branch_then branch_end assume assert changed exec
    first_goes e goes =
        let in_first = reaches_assume tested test reaches_test (fixed true e) in
        let x = goes (branch_then (context_of c) v b) sounds.1 valid_first g st cs in_first f in
        record {
          numbers = x.numbers;
          agrees = x.agrees;
          fuel = suc x.fuel;
          ending = x.ending;
          runs = from_suc (λ k. run_stmt c (branch b first second) k (at st cs) ≡ ok x.ending) x.fuel (λ k l. rw (decided g here, e) (x.runs k l));
          reaches = joins_first test tested end_first end_second reaches_test x.agrees tested_first first_second shape_first shape_second (fixed true e) x.reaches;
          fits = x.fits;
          outside = outside_left (changed_block first) (changed_block second) x.outside;
        }

    second_goes : truth_of (bits c) g test ≡ false → BlockGoes c second → Goes c (run_stmt c (branch b first second)) (changed (branch b first second)) v (walk_stmt (context_of c) v (branch b first second)) g st cs
    unfolding walk_stmt branch_test branch_else branch_end assume assert resume changed exec truth_of
    second_goes e goes =
        let l = tested_first.later in
        let again = reaches_resume tested end_first g tested_first reaches_test here in
        let off : (h : ℕ → ℕ) → Agree end_first.next g h → not (truth_of (bits c) h test) ≡ true = λ h a. not_from_false _ (fixed false e h (agree_then end_first.next l here a)) in
        let in_second = reaches_assume (resume tested end_first) (Formula.negate test) again off in
        let x = goes (branch_else (context_of c) v b end_first) sounds.2 valid_second g st cs in_second f in
        let kept = agree_then end_first.next l here x.agrees in
        record {
          numbers = x.numbers;
          agrees = kept;
          fuel = suc x.fuel;
          ending = x.ending;
          runs = from_suc (λ k. run_stmt c (branch b first second) k (at st cs) ≡ ok x.ending) x.fuel (λ k m. rw (decided g here, e) (x.runs k m));
          reaches = joins_second test tested end_first end_second reaches_test kept (follows_then tested_first first_second) shape_first shape_second (fixed false e) x.reaches;
          fits = x.fits;
          outside = outside_right (changed_block first) (changed_block second) x.outside;
        }

pub branch_goes : (c : Scene) (b : BoolExpr) (first second : Block) → BlockGoes c first → BlockGoes c second → StmtGoes c (branch b first second)
branch_goes c b first second goes₁ goes₂ v sound valid g st cs r f =
    elim (cases_Bool (truth_of (bits c) g (judged (context_of c) v b).formula)) [
      | inl e ↦ first_goes c b first second v sound valid g st cs r f e goes₁
      | inr e ↦ second_goes c b first second v sound valid g st cs r f e goes₂
    ]
