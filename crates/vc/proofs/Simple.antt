-- Assignments, stores, checks and `any`.
use Rattle.std.proofs.Common.{◌≡◌, ℕ, zero, suc, ◌+◌, ◌^◌, ◌<◌, true, false, ◌&&◌, eqb, ltb, List, [], ◌∷◌, length, drop, set, is_some, Some, None, Option, sym, refl, ap, ◌∙◌, mod-lt, arith, pow_pos}
use Rattle.std.proofs.lemmas.List.{length-map, length-set}
use Rattle.std.proofs.lemmas.Bool.{both_ways, and_parts, eq-eqb, ne_eqb, ltb-true}
use Rattle.std.specs.List.{slice_get}
use Rattle.lang.specs.Base.{Word}
use Rattle.lang.specs.Meaning.{values_of, write, compares, eval, count, chosen, exec, ok}
use Rattle.lang.specs.Soundness.{find_decl, is_scalar, is_row, sound_expr, sound_stmt}
use Rattle.lang.specs.Syntax.{Expr, BoolExpr, assign, store, check, havoc, Decl}
use Rattle.vc.proofs.Agreement.{some_injective, values, found, Known, Agrees}
use Rattle.vc.proofs.Reaching.{required, reaches_require, reaches_current, havocked}
use Rattle.vc.proofs.Running.{Scene, context_of, bits, names, at, run_stmt, StmtGoes, from_one, evaluates, assured_holds, knows_now, expr_at, bool_at, scalar_at}
use Rattle.vc.proofs.States.{state_update, held, fits_write, outside_same, outside_write, Agree, agree_same}
use Rattle.vc.specs.Conditions.{assume, assert, with_current, evaluated, judged, store_safe, after_assign, after_store, after_check, changed, walk_stmt}
use Rattle.vc.specs.Symbolic.{lookup, stored, assured}
use Rattle.vc.specs.Terms.{Term, value, truth_of}
use Rattle.vc.specs.Theorem.{Small}

-- x = e
pub assign_goes : (c : Scene) (x : Word) (e : Expr) → StmtGoes c (assign x e)
unfolding walk_stmt after_assign with_current assume assert changed sound_stmt exec
assign_goes c x e v sound valid g st cs r f =
    let parts = and_parts (is_scalar (names c) x) _ sound in
    let d = found (names c) x (λ d. eqb d.size 0) parts.0 in
    let one : 1 ≡ count d.decl = rw d.meets in
    let t = evaluated (context_of c) v e in
    let agrees : (h : ℕ → ℕ) → Agree v.next g h → Agrees (bits c) h (eval (bits c) st c.begin e) t = λ h a. expr_at c v r f h a e parts.1 in
    let safe = required v t.safe valid r in
    let now : (h : ℕ → ℕ) → Agree v.next g h → eval (bits c) st c.begin e ≡ Some (value (bits c) h t.term) = λ h a. evaluates (agrees h a) (safe h a) in
    let here = agree_same v.next g in
    let n = value (bits c) g t.term in
    let same : (h : ℕ → ℕ) → Agree v.next g h → value (bits c) h t.term ≡ n = λ h a. some_injective (sym (now h a) ∙ now g here) in
    record {
      numbers = g;
      agrees = here;
      fuel = 1;
      ending = at (write st x (n ∷ [])) cs;
      runs = from_one (λ k. run_stmt c (assign x e) k (at st cs) ≡ ok (at (write st x (n ∷ [])) cs)) (λ k. rw (now g here, scalar_at c v r f g here x parts.0));
      reaches = reaches_current (assume (assert v t.safe) t.safe) _ _ (reaches_require v t.safe valid r) (λ h a. state_update (bits c) h v.current x (t.term ∷ []) ∙ rw (r.now_is h a, same h a));
      fits = fits_write x d.decl (n ∷ []) f d.is one (Small.and_this ((agrees g here).small (safe g here)) Small.none_left);
      outside = outside_write [] st x (n ∷ []);
    }

-- x[i] = e
module _ (w : ℕ) (g : ℕ → ℕ) where
  stored_past : (ts : List Term) (n : ℕ) (i v : Term) → value w g i < n → values w g (stored ts n i v) ≡ values w g ts
  unfolding stored value truth_of compares
  stored_past [] n i v l = refl
  stored_past (t ∷ ts) n i v l = rw (ne_eqb (value w g i) n (λ e. omega arith)) (ap (λ r. value w g t ∷ r) (stored_past ts (suc n) i v (omega arith)))

  stored_values : (ts : List Term) (n j : ℕ) (i v : Term) → value w g i ≡ n + j → values w g (stored ts n i v) ≡ set (values w g ts) j (value w g v)
  unfolding stored value truth_of compares
  stored_values [] n j i v e = refl
  stored_values (t ∷ ts) n zero i v e = rw (eq-eqb (value w g i) n (omega arith)) (ap (λ r. value w g v ∷ r) (stored_past ts (suc n) i v (omega arith)))
  stored_values (t ∷ ts) n (suc j) i v e = rw (ne_eqb (value w g i) n (λ q. omega arith)) (ap (λ r. value w g t ∷ r) (stored_values ts (suc n) j i v (omega arith)))

small_set : {w : ℕ} (vs : List ℕ) (j n : ℕ) → Small w vs → n < 2 ^ w → Small w (set vs j n)
small_set [] j n s l = Small.none_left
small_set (v ∷ vs) zero n (Small.and_this h s) l = Small.and_this l s
small_set (v ∷ vs) (suc j) n (Small.and_this h s) l = Small.and_this h (small_set vs j n s l)

nth_there : (vs : List ℕ) (j : ℕ) → j < length vs → (n : ℕ) × (slice_get vs j ≡ Some n)
nth_there [] j l = absurd (omega arith)
nth_there (v ∷ vs) zero l = (v, refl)
nth_there (v ∷ vs) (suc j) l = nth_there vs j (omega arith)

pub store_goes : (c : Scene) (x : Word) (i e : Expr) → StmtGoes c (store x i e)
unfolding walk_stmt after_store with_current assume assert changed sound_stmt exec truth_of value compares
store_goes c x i e v sound valid g st cs r f =
    let parts = and_parts (is_row (names c) x) _ sound in
    let more = and_parts (sound_expr (names c) c.proc.params i) _ parts.1 in
    let d = found (names c) x _ parts.0 in
    let ti = evaluated (context_of c) v i in
    let te = evaluated (context_of c) v e in
    let ts = lookup v.current x in
    let here = agree_same v.next g in
    let safe : (h : ℕ → ℕ) → Agree v.next g h → ((truth_of (bits c) h ti.safe ≡ true) × (truth_of (bits c) h te.safe ≡ true)) × (ltb (value (bits c) h ti.term) (length ts) ≡ true) =
    λ h a.
    let q = and_parts (truth_of (bits c) h ti.safe && truth_of (bits c) h te.safe) _ (required v (store_safe (context_of c) v x i e) valid r h a) in
    (and_parts (truth_of (bits c) h ti.safe) _ q.0, q.1) in
    let place : (h : ℕ → ℕ) → Agree v.next g h → eval (bits c) st c.begin i ≡ Some (value (bits c) h ti.term) = λ h a. evaluates (expr_at c v r f h a i more.0) (safe h a).0.0 in
    let now : (h : ℕ → ℕ) → Agree v.next g h → eval (bits c) st c.begin e ≡ Some (value (bits c) h te.term) = λ h a. evaluates (expr_at c v r f h a e more.1) (safe h a).0.1 in
    let known : (h : ℕ → ℕ) (a : Agree v.next g h) → Known (bits c) h d.decl (values_of st x) ts = λ h a. (knows_now c v r f h a).at x d.decl d.is in
    let vs = values (bits c) g ts in
    let j = value (bits c) g ti.term in
    let n = value (bits c) g te.term in
    let row : (h : ℕ → ℕ) → Agree v.next g h → values (bits c) h (stored ts 0 ti.term te.term) ≡ set vs j n =
    λ h a.
    let ej = some_injective (sym (place h a) ∙ place g here) in
    let en = some_injective (sym (now h a) ∙ now g here) in
    let ev = some_injective (sym (known h a).is ∙ (known g here).is) in
    stored_values (bits c) h ts 0 j ti.term te.term (omega arith) ∙ rw (en, ev) in
    let many : length vs ≡ length ts = length-map ts (value (bits c) g) in
    let inside : j < length vs = rw many (ltb-true _ _ (safe g here).1) in
    record {
      numbers = g;
      agrees = here;
      fuel = 1;
      ending = at (write st x (set vs j n)) cs;
      runs = from_one (λ k. run_stmt c (store x i e) k (at st cs) ≡ ok (at (write st x (set vs j n)) cs)) (λ k. rw (place g here, now g here, (known g here).is, (nth_there vs j inside).1));
      reaches = reaches_current (assume (assert v (store_safe (context_of c) v x i e)) (store_safe (context_of c) v x i e)) _ _ (reaches_require v (store_safe (context_of c) v x i e) valid r) (λ h a. state_update (bits c) h v.current x _ ∙ rw (r.now_is h a, row h a));
      fits = fits_write x d.decl (set vs j n) f d.is (length-set vs j n ∙ many ∙ (known g here).many) (small_set vs j n (known g here).small ((expr_at c v r f g here e more.1).small (safe g here).0.1));
      outside = outside_write [] st x (set vs j n);
    }

pub check_goes : (c : Scene) (b : BoolExpr) → StmtGoes c (check b)
unfolding walk_stmt after_check assume assert changed sound_stmt exec
check_goes c b v sound valid g st cs r f =
    let here = agree_same v.next g in
    let x = judged (context_of c) v b in
    let so = assured_holds (bool_at c v r f g here b sound) (required v (assured x) valid r g here) in
    record {
      numbers = g;
      agrees = here;
      fuel = 1;
      ending = at st cs;
      runs = from_one (λ k. run_stmt c (check b) k (at st cs) ≡ ok (at st cs)) (λ k. rw so);
      reaches = reaches_require v (assured x) valid r;
      fits = f;
      outside = outside_same [] st;
    }

length_chosen : (w n : ℕ) (cs : List ℕ) → length (chosen w n cs) ≡ n
unfolding chosen
length_chosen w zero cs = refl
length_chosen w (suc n) [] = ap suc (length_chosen w n [])
length_chosen w (suc n) (c ∷ cs) = ap suc (length_chosen w n cs)

small_chosen : (w n : ℕ) (cs : List ℕ) → Small w (chosen w n cs)
unfolding chosen
small_chosen w zero cs = Small.none_left
small_chosen w (suc n) [] = Small.and_this (pow_pos w) (small_chosen w n [])
small_chosen w (suc n) (c ∷ cs) = Small.and_this (mod-lt c (pow_pos w)) (small_chosen w n cs)

declared_there : (ds : List Decl) (x : Word) (o : Option Decl) → find_decl ds x ≡ o → is_some o ≡ true → (d : Decl) × (find_decl ds x ≡ Some d)
declared_there ds x None e h = absurd (both_ways false refl h)
declared_there ds x (Some d) e h = (d, e)

pub havoc_goes : (c : Scene) (x : Word) → StmtGoes c (havoc x)
unfolding walk_stmt changed sound_stmt exec
havoc_goes c x v sound valid g st cs r f =
    let d = declared_there (names c) x (find_decl (names c) x) refl sound in
    let there = held x d.0 f d.1 in
    let new = chosen (bits c) (length there.numbers) cs in
    let st' = write st x new in
    let fits' = fits_write x d.0 new f d.1 (length_chosen (bits c) (length there.numbers) cs ∙ there.many) (small_chosen (bits c) (length there.numbers) cs) in
    let out = outside_write [] st x new in
    let after = havocked (bits c) g (names c) (x ∷ []) v st st' c.begin r f fits' out in
    record {
      numbers = after.numbers;
      agrees = after.agrees;
      fuel = 1;
      ending = at st' (drop (length there.numbers) cs);
      runs = from_one (λ k. run_stmt c (havoc x) k (at st cs) ≡ ok (at st' (drop (length there.numbers) cs))) (λ k. rw there.is);
      reaches = after.reaches;
      fits = fits';
      outside = out;
    }
