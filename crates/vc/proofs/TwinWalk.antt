-- Walks that differ only in how written numbers stand in terms find the same conditions.
use Rattle.std.proofs.Common.{◌≡◌, ℕ, zero, suc, ◌+◌, ◌%◌, ◌^◌, ◌<◌, Bool, true, false, cond, ◌&&◌, List, [], ◌∷◌, ◌++◌, length, drop, Some, None, Option, sym, refl, ap, ◌∙◌, inl, inr, mod-eq_of_lt}
use mathlib.Core.List.{reverse_aux}
use Rattle.std.proofs.lemmas.Bool.{cases_Bool, and_parts, and_from}
use Rattle.std.specs.List.{flat_map}
use Rattle.lang.specs.Base.{maybe, Word, among}
use Rattle.lang.specs.Soundness.{find_proc}
use Rattle.lang.specs.Syntax.{Expr, BoolExpr, Stmt, assign, store, branch, loop, check, call, havoc, Block, end, seq, Decl, Proc, Program}
use Rattle.vc.proofs.Givens.{Extends, extends_block, live, live_assume, live_before, live_join}
use Rattle.vc.proofs.Twins.{TwinTerm, TwinFormula, TwinTerms, Twins, TwinEvaluated, TwinJudged, left_safe, twin_terms_itself, twins_itself, weaker_term, weaker_formula, weaker_terms, weaker_twins, twin_lengths, twin_lookup, twin_update, twin_compare, twin_stored, twin_inside, twin_negate, twin_conj, twin_expr, twin_assured, twin_bool}
use Rattle.vc.specs.Conditions.{Condition, broken_at, all_unknowns, condition_unknowns, SymState, assume, assert, with_current, resume, unknowns, Fresh, renew, havoc_names, join_terms, join_stores, guarded, join, changed_block, Context, evaluated, judged, store_safe, after_assign, after_store, after_check, branch_test, branch_then, branch_else, branch_end, loop_entry, loop_head, loop_test, loop_body, loop_round, loop_end, loop_start, pass_terms, falls_by, call_asked, call_measured, call_promised, call_changed, after_call, walk_stmt, walk_block, fresh_params, zero_terms, proc_start, proc_end, walk_proc, proc_conditions, conditions_under}
use Rattle.vc.specs.Symbolic.{Setting, Store}
use Rattle.vc.specs.Terms.{Term, Formula, value, truth_of, term_unknowns, formula_unknowns}
use Rattle.vc.specs.Theorem.{SameConditions, LiteralsAgree}

-- formulas that name as many unknowns
data Counted : List Formula → List Formula → Type 0 where
  none_left : Counted [] []
  and_this : {f h : Formula} {fs hs : List Formula} → formula_unknowns f ≡ formula_unknowns h → Counted fs hs → Counted (f ∷ fs) (h ∷ hs)

counted_itself : (fs : List Formula) → Counted fs fs
counted_itself [] = Counted.none_left
counted_itself (f ∷ fs) = Counted.and_this refl (counted_itself fs)

counted_append : {fs hs js ks : List Formula} → Counted fs hs → Counted js ks → Counted (fs ++ js) (hs ++ ks)
counted_append Counted.none_left q = q
counted_append (Counted.and_this e p) q = Counted.and_this e (counted_append p q)

counted_drop : (n : ℕ) {fs hs : List Formula} → Counted fs hs → Counted (drop n fs) (drop n hs)
counted_drop zero p = p
counted_drop (suc n) Counted.none_left = Counted.none_left
counted_drop (suc n) (Counted.and_this e p) = counted_drop n p

counted_length : {fs hs : List Formula} → Counted fs hs → length fs ≡ length hs
counted_length Counted.none_left = refl
counted_length (Counted.and_this e p) = ap suc (counted_length p)

counted_guarded : (f h : Formula) {fs hs : List Formula} → formula_unknowns f ≡ formula_unknowns h → Counted fs hs → Counted (guarded f fs) (guarded h hs)
unfolding guarded formula_unknowns
counted_guarded f h e Counted.none_left = Counted.none_left
counted_guarded f h e (Counted.and_this q p) = Counted.and_this (rw (e, q)) (counted_guarded f h e p)

counted_all : {fs hs : List Formula} → Counted fs hs → all_unknowns fs ≡ all_unknowns hs
unfolding all_unknowns
counted_all Counted.none_left = refl
counted_all (Counted.and_this e p) = rw (e, counted_all p)

-- conditions that the numbers g break alike
data SameAt (w : ℕ) (g : ℕ → ℕ) : List Condition → List Condition → Type 0 where
  none_left : SameAt w g [] []
  and_this : {k l : Condition} {ks ls : List Condition} → broken_at w g k ≡ broken_at w g l → condition_unknowns k ≡ condition_unknowns l → SameAt w g ks ls → SameAt w g (k ∷ ks) (l ∷ ls)

record Twin (w : ℕ) (g : ℕ → ℕ) (v v' : SymState) : Type 0 where
  alive : live w g v ≡ live w g v'
  current : Twins w g (live w g v) v.current v'.current
  initial : Twins w g (live w g v) v.initial v'.initial
  counted : Counted v.given v'.given
  next : v.next ≡ v'.next
  conditions : SameAt w g v.conditions v'.conditions

module _ {w : ℕ} {g : ℕ → ℕ} {v v' : SymState} (p : Twin w g v v') where
  -- a fact that counts only where all that is given is true
  alike_and : {f f' : Formula} → TwinFormula w g (live w g v) f f' → (live w g v && truth_of w g f) ≡ (live w g v' && truth_of w g f')
  alike_and {f} {f'} q = elim (cases_Bool (live w g v)) [ inl e ↦ rw (← p.alive, e) (q.truths e) | inr e ↦ rw (← p.alive, e) ]

  twin_assume : {f f' : Formula} → TwinFormula w g (live w g v) f f' → Twin w g (assume v f) (assume v' f')
  unfolding assume
  twin_assume {f} {f'} q =
      let less : live w g (assume v f) ≡ true → live w g v ≡ true = λ e. (and_parts (live w g v) _ (sym (live_assume w g v f) ∙ e)).0 in
      record {
        alive = live_assume w g v f ∙ alike_and q ∙ sym (live_assume w g v' f');
        current = weaker_twins _ less p.current;
        initial = weaker_twins _ less p.initial;
        counted = counted_append p.counted (Counted.and_this q.count Counted.none_left);
        next = p.next;
        conditions = p.conditions;
      }

  twin_assert : {f f' : Formula} → TwinFormula w g (live w g v) f f' → Twin w g (assert v f) (assert v' f')
  unfolding assert broken_at condition_unknowns
  twin_assert {f} {f'} q =
      record {
        alive = p.alive;
        current = p.current;
        initial = p.initial;
        counted = p.counted;
        next = p.next;
        conditions = SameAt.and_this (elim (cases_Bool (live w g v)) [ inl e ↦ rw (← p.alive, e, q.truths e) | inr e ↦ rw (← p.alive, e) ]) (rw (counted_all p.counted, q.count)) p.conditions;
      }

  twin_current : {s s' : Store} → Twins w g (live w g v) s s' → Twin w g (with_current v s) (with_current v' s')
  unfolding with_current
  twin_current q = record { alive = p.alive; current = q; initial = p.initial; counted = p.counted; next = p.next; conditions = p.conditions }

  twin_resume : {a a' : SymState} → Twin w g a a' → Twin w g (resume v a) (resume v' a')
  unfolding resume
  twin_resume q = record { alive = p.alive; current = p.current; initial = p.initial; counted = p.counted; next = q.next; conditions = q.conditions }

module _ {w : ℕ} {g : ℕ → ℕ} {v v' : SymState} (p : Twin w g v v') where
  twin_require : {f f' : Formula} → TwinFormula w g (live w g v) f f' → Twin w g (assume (assert v f) f) (assume (assert v' f') f')
  unfolding assert
  twin_require q = twin_assume (twin_assert p q) q

  -- behind what was required, it is true
  live_required : (f : Formula) → live w g (assume (assert v f) f) ≡ (live w g v && truth_of w g f)
  unfolding assert
  live_required f = live_assume w g (assert v f) f

-- New unknowns.
record TwinFresh (w : ℕ) (g : ℕ → ℕ) (l : Bool) (r r' : Fresh) : Type 0 where
  store : Twins w g l r.store r'.store
  next : r.next ≡ r'.next

twin_renew : {w : ℕ} {g : ℕ → ℕ} {l : Bool} (xs : List Word) {s s' : Store} (n : ℕ) → Twins w g l s s' → TwinFresh w g l (renew xs s n) (renew xs s' n)
unfolding renew
twin_renew xs n Twins.none_left = record { store = Twins.none_left; next = refl }
twin_renew {l = l} xs n (Twins.and_this {b = b} {c = c} e t r) =
    elim (cases_Bool (among c.name xs)) [
      | inl h ↦
          let here : among b.name xs ≡ true = rw e h in
          let rest = twin_renew xs (n + length c.terms) r in
          rw (here, h, twin_lengths t) (record { store = Twins.and_this e (twin_terms_itself l (unknowns (length c.terms) n)) rest.store; next = rest.next })
      | inr h ↦
          let here : among b.name xs ≡ false = rw e h in
          let rest = twin_renew xs n r in
          rw (here, h) (record { store = Twins.and_this e t rest.store; next = rest.next })
    ]

twin_havoc : {w : ℕ} {g : ℕ → ℕ} {v v' : SymState} (xs : List Word) → Twin w g v v' → Twin w g (havoc_names v xs) (havoc_names v' xs)
unfolding havoc_names
twin_havoc {w} {g} {v} {v'} xs p =
    let r : TwinFresh w g (live w g v) (renew xs v.current v.next) (renew xs v'.current v'.next) = rw (← p.next) (twin_renew xs v.next p.current) in
    record { alive = p.alive; current = r.store; initial = p.initial; counted = p.counted; next = r.next; conditions = p.conditions }

-- Joins. m: live behind the join; a, b: behind each way.
module _ {w : ℕ} {g : ℕ → ℕ} (m a b : Bool) (f h : Formula) (count : formula_unknowns f ≡ formula_unknowns h) (truths : m ≡ true → truth_of w g f ≡ truth_of w g h) (first : m ≡ true → truth_of w g f ≡ true → a ≡ true) (second : m ≡ true → truth_of w g f ≡ false → b ≡ true) where
  joined_term : {t t' u u' : Term} → TwinTerm w g a t t' → TwinTerm w g b u u' → TwinTerm w g m (Term.ite f t u) (Term.ite h t' u')
  unfolding term_unknowns value
  joined_term x y =
      record {
        count = rw (count, x.count, y.count);
        values = λ e. elim (cases_Bool (truth_of w g f)) [ inl q ↦ rw (← (truths e), q) (x.values (first e q)) | inr q ↦ rw (← (truths e), q) (y.values (second e q)) ];
      }

  joined_terms : {ts ts' us us' : List Term} → TwinTerms w g a ts ts' → TwinTerms w g b us us' → TwinTerms w g m (join_terms f ts us) (join_terms h ts' us')
  unfolding join_terms
  joined_terms TwinTerms.none_left q = TwinTerms.none_left
  joined_terms (TwinTerms.and_this x p) TwinTerms.none_left = TwinTerms.none_left
  joined_terms (TwinTerms.and_this x p) (TwinTerms.and_this y q) = TwinTerms.and_this (joined_term x y) (joined_terms p q)

  joined_stores : {s s' t t' : Store} → Twins w g a s s' → Twins w g b t t' → Twins w g m (join_stores f s t) (join_stores h s' t')
  unfolding join_stores
  joined_stores Twins.none_left q = Twins.none_left
  joined_stores (Twins.and_this n x p) Twins.none_left = Twins.none_left
  joined_stores (Twins.and_this n x p) (Twins.and_this k y q) = Twins.and_this n (joined_terms x y) (joined_stores p q)

twin_join : {w : ℕ} {g : ℕ → ℕ} {v v' a a' b b' : SymState} {f f' : Formula} → Twin w g v v' → TwinFormula w g (live w g v) f f' → Twin w g a a' → Twin w g b b' → Extends (assume v f) a → Extends (assume v (Formula.negate f)) b → Extends (assume v' f') a' → Extends (assume v' (Formula.negate f')) b' → Twin w g (join f v a b) (join f' v' a' b')
unfolding join
twin_join {w} {g} {v} {v'} {a} {a'} {b} {b'} {f} {f'} p q x y ea eb ea' eb' =
    let l = live_join w g f v a b ea eb in
    let l' = live_join w g f' v' a' b' ea' eb' in
    let m = live w g (join f v a b) in
    let before : m ≡ true → live w g v ≡ true = λ e. (and_parts (live w g v) _ (sym l ∙ e)).0 in
    let behind : m ≡ true → cond (truth_of w g f) (live w g a) (live w g b) ≡ true = λ e. (and_parts (live w g v) _ (sym l ∙ e)).1 in
    record {
      alive = l ∙ elim (cases_Bool (live w g v)) [ inl e ↦ rw (← p.alive, e, ← (q.truths e), ← x.alive, ← y.alive) | inr e ↦ rw (← p.alive, e) ] ∙ sym l';
      current = joined_stores m (live w g a) (live w g b) f f' q.count (λ e. q.truths (before e)) (λ e t. rw t at (behind e)) (λ e t. rw t at (behind e)) x.current y.current;
      initial = weaker_twins m before p.initial;
      counted = counted_append p.counted (counted_append (counted_guarded f f' q.count (rw (counted_length p.counted) (counted_drop (suc (length v'.given)) x.counted))) (counted_guarded (Formula.negate f) (Formula.negate f') (twin_negate q).count (rw (counted_length p.counted) (counted_drop (suc (length v'.given)) y.counted))));
      next = y.next;
      conditions = y.conditions;
    }

-- two formulas that must be true both, the second whatever the first is
twin_both_safe : {w : ℕ} {g : ℕ → ℕ} {l : Bool} {f h f' h' : Formula} → TwinFormula w g l f f' → TwinFormula w g l h h' → TwinFormula w g l (Formula.conj f h) (Formula.conj f' h')
twin_both_safe {l = l} x y = twin_conj x (weaker_formula _ (λ e. (and_parts l _ e).0) y)

right_part : (l s t : Bool) → (l && (s && t)) ≡ true → (l && t) ≡ true
right_part l s t h =
    let a = and_parts l _ h in
    and_from l _ a.0 (and_parts s _ a.1).1

-- Statements.
module _ (w : ℕ) (lit lit' : ℕ → ℕ) (agree : (n : ℕ) → n < 2 ^ w → lit n ≡ lit' n) (g : ℕ → ℕ) (qs : List Proc) (me : Proc) where
  abbrev k : Context
  k = record { setting = record { width = w; literal = lit }; procs = qs; proc = me }

  abbrev k' : Context
  k' = record { setting = record { width = w; literal = lit' }; procs = qs; proc = me }

  expr_twin : {v v' : SymState} → Twin w g v v' → (e : Expr) → TwinEvaluated w g (live w g v) (evaluated k v e) (evaluated k' v' e)
  expr_twin p e = twin_expr w lit lit' agree g e p.current p.initial

  bool_twin : {v v' : SymState} → Twin w g v v' → (b : BoolExpr) → TwinJudged w g (live w g v) (judged k v b) (judged k' v' b)
  bool_twin p b = twin_bool w lit lit' agree g b p.current p.initial

  assign_twin : {v v' : SymState} (x : Word) (e : Expr) → Twin w g v v' → Twin w g (after_assign k v x e) (after_assign k' v' x e)
  unfolding after_assign
  assign_twin {v} x e p =
      let t = expr_twin p e in
      let l = live_required p (evaluated k v e).safe in
      twin_current (twin_require p t.safe) (twin_update x (weaker_twins _ (λ q. (and_parts (live w g v) _ (sym l ∙ q)).0) p.current) (TwinTerms.and_this (weaker_term _ (λ q. sym l ∙ q) t.term) TwinTerms.none_left))

  store_twin : {v v' : SymState} (x : Word) (i e : Expr) → Twin w g v v' → Twin w g (after_store k v x i e) (after_store k' v' x i e)
  unfolding after_store truth_of
  store_twin {v} x i e p =
      let ti = expr_twin p i in
      let te = expr_twin p e in
      let l = live_required p (store_safe k v x i e) in
      let si = truth_of w g (evaluated k v i).safe in
      let se = truth_of w g (evaluated k v e).safe in
      let rows = twin_lookup x p.current in
      let place : TwinTerm w g (live w g v && (si && se)) (evaluated k v i).term _ = weaker_term _ (λ q. left_safe (live w g v) si se q) ti.term in
      let safe = twin_conj (twin_both_safe ti.safe te.safe) (twin_inside (weaker_terms (live w g v && (si && se)) (λ q. (and_parts (live w g v) _ q).0) rows) place) in
      let before : live w g (assume (assert v (store_safe k v x i e)) (store_safe k v x i e)) ≡ true → live w g v ≡ true = λ q. (and_parts (live w g v) _ (sym l ∙ q)).0 in
      let safe_both : live w g (assume (assert v (store_safe k v x i e)) (store_safe k v x i e)) ≡ true → (live w g v && (si && se)) ≡ true = λ q. left_safe (live w g v) (si && se) _ (sym l ∙ q) in
      twin_current (twin_require p safe) (twin_update x (weaker_twins _ before p.current) (twin_stored 0 (weaker_terms _ before rows) (weaker_term _ safe_both place) (weaker_term _ (λ q. right_part (live w g v) si se (safe_both q)) te.term)))

  check_twin : {v v' : SymState} (b : BoolExpr) → Twin w g v v' → Twin w g (after_check k v b) (after_check k' v' b)
  unfolding after_check
  check_twin b p = twin_require p (twin_assured (bool_twin p b))

  -- a branch
  module _ {v v' : SymState} (b : BoolExpr) (p : Twin w g v v') where
    test_twin : Twin w g (branch_test k v b) (branch_test k' v' b)
    unfolding branch_test
    test_twin = twin_require p (bool_twin p b).safe

    test_formula : TwinFormula w g (live w g (branch_test k v b)) (judged k v b).formula (judged k' v' b).formula
    unfolding branch_test
    test_formula = weaker_formula _ (λ e. sym (live_required p (judged k v b).safe) ∙ e) (bool_twin p b).formula

    then_twin : Twin w g (branch_then k v b) (branch_then k' v' b)
    unfolding branch_then
    then_twin = twin_assume test_twin test_formula

    else_twin : {a a' : SymState} → Twin w g a a' → Twin w g (branch_else k v b a) (branch_else k' v' b a')
    unfolding branch_else resume
    else_twin q = twin_assume (twin_resume test_twin q) (twin_negate test_formula)

  extends_first : (c : Context) (v : SymState) (b : BoolExpr) (d : Block) → Extends (assume (branch_test c v b) (judged c v b).formula) (walk_block c (branch_then c v b) d)
  unfolding branch_then
  extends_first c v b d = extends_block c d _

  extends_second : (c : Context) (v : SymState) (b : BoolExpr) (a : SymState) (d : Block) → Extends (assume (branch_test c v b) (Formula.negate (judged c v b).formula)) (walk_block c (branch_else c v b a) d)
  unfolding branch_else assume resume
  extends_second c v b a d =
      let x = extends_block c d (branch_else c v b a) in
      record { more = x.more; is = x.is }

  branch_twin : {v v' : SymState} (b : BoolExpr) (c d : Block) → Twin w g v v' → ((u u' : SymState) → Twin w g u u' → Twin w g (walk_block k u c) (walk_block k' u' c)) → ((u u' : SymState) → Twin w g u u' → Twin w g (walk_block k u d) (walk_block k' u' d)) → Twin w g (walk_stmt k v (branch b c d)) (walk_stmt k' v' (branch b c d))
  unfolding walk_stmt branch_end
  branch_twin {v} {v'} b c d p first second =
      let a = first _ _ (then_twin b p) in
      let e = second _ _ (else_twin b p a) in
      twin_join (test_twin b p) (test_formula b p) a e (extends_first k v b c) (extends_second k v b _ d) (extends_first k' v' b c) (extends_second k' v' b _ d)

  -- a loop
  head_twin : {v v' : SymState} (i : BoolExpr) (xs : List Word) → Twin w g v v' → Twin w g (loop_head k (loop_entry k v i xs) i) (loop_head k' (loop_entry k' v' i xs) i)
  unfolding loop_head loop_entry
  head_twin i xs p =
      let e = twin_havoc xs (twin_assert p (twin_assured (bool_twin p i))) in
      twin_assume e (twin_assured (bool_twin e i))

  loop_test_twin : {h h' : SymState} (b : BoolExpr) → Twin w g h h' → Twin w g (loop_test k h b) (loop_test k' h' b)
  unfolding loop_test
  loop_test_twin b p = twin_require p (bool_twin p b).safe

  loop_formula : {h h' : SymState} (b : BoolExpr) → Twin w g h h' → TwinFormula w g (live w g (loop_test k h b)) (judged k (loop_test k h b) b).formula (judged k' (loop_test k' h' b) b).formula
  unfolding loop_test assume assert
  loop_formula {h} b p = weaker_formula _ (λ e. sym (live_required p (judged k h b).safe) ∙ e) (bool_twin p b).formula

  module _ {u u' : SymState} (b i : BoolExpr) (e : Expr) (p : Twin w g u u') (f : TwinFormula w g (live w g u) (judged k u b).formula (judged k' u' b).formula) where
    measured : TwinEvaluated w g (live w g (assume u (judged k u b).formula)) (evaluated k u e) (evaluated k' u' e)
    unfolding assume
    measured = expr_twin (twin_assume p f) e

    body_twin : Twin w g (loop_body k u b e) (loop_body k' u' b e)
    unfolding loop_body
    body_twin = twin_require (twin_assume p f) measured.safe

    old_term : TwinTerm w g (live w g (loop_body k u b e)) (evaluated k u e).term (evaluated k' u' e).term
    unfolding loop_body
    old_term = weaker_term _ (λ q. sym (live_required (twin_assume p f) (evaluated k u e).safe) ∙ q) measured.term

    round_twin : {a a' : SymState} → Extends (loop_body k u b e) a → Twin w g a a' → Twin w g (loop_round k u i e a) (loop_round k' u' i e a')
    unfolding loop_round assert
    round_twin {a} x q =
        let t = expr_twin q e in
        let new_safe = truth_of w g (evaluated k a e).safe in
        let old = weaker_term (live w g a && new_safe) (λ s. live_before w g x (and_parts (live w g a) _ s).0) old_term in
        twin_assert (twin_assert q (twin_assured (bool_twin q i))) (twin_conj t.safe (twin_compare _ t.term old))

    end_twin : {a a' : SymState} → Twin w g a a' → Twin w g (loop_end k u b a) (loop_end k' u' b a')
    unfolding loop_end resume
    end_twin q = twin_assume (twin_resume p q) (twin_negate f)

  loop_twin : {v v' : SymState} (b i : BoolExpr) (e : Expr) (c : Block) → Twin w g v v' → ((u u' : SymState) → Twin w g u u' → Twin w g (walk_block k u c) (walk_block k' u' c)) → Twin w g (walk_stmt k v (loop b i e c)) (walk_stmt k' v' (loop b i e c))
  unfolding walk_stmt loop_start
  loop_twin b i e c p body =
      let h = head_twin i (changed_block c) p in
      let u = loop_test_twin b h in
      let f = loop_formula b h in
      end_twin b i e u f (round_twin b i e u f (extends_block k c _) (body _ _ (body_twin b i e u f)))

  -- a call
  args_twin : {l : Bool} {s s' : Store} (ds : List Decl) (xs : List Word) → Twins w g l s s' → Twins w g l (pass_terms s ds xs) (pass_terms s' ds xs)
  unfolding pass_terms
  args_twin [] xs p = Twins.none_left
  args_twin (d ∷ ds) [] p = Twins.none_left
  args_twin (d ∷ ds) (x ∷ xs) p = Twins.and_this refl (twin_lookup x p) (args_twin ds xs p)

  call_twin : {v v' : SymState} (q : Proc) (xs : List Word) → Twin w g v v' → Twin w g (after_call k v q xs) (after_call k' v' q xs)
  unfolding after_call call_promised call_changed call_measured call_asked havoc_names assert truth_of
  call_twin {v} q xs p =
      let args = args_twin q.params xs p.current in
      let asked = twin_assert p (twin_assured (twin_bool w lit lit' agree g q.pre args args)) in
      let new = twin_expr w lit lit' agree g q.measure args args in
      let old = twin_expr w lit lit' agree g me.measure p.initial p.initial in
      let falls = twin_conj (twin_both_safe new.safe old.safe) (twin_compare (falls_by k q) (weaker_term _ (λ e. left_safe (live w g v) _ _ e) new.term) (weaker_term _ (λ e. right_part (live w g v) _ _ e) old.term)) in
      let after = twin_havoc xs (twin_assert asked falls) in
      twin_assume after (twin_assured (twin_bool w lit lit' agree g q.post (args_twin q.params xs after.current) args))

  found_twin : {v v' : SymState} (o : Option Proc) (xs : List Word) → Twin w g v v' → Twin w g (maybe o v (λ q. after_call k v q xs)) (maybe o v' (λ q. after_call k' v' q xs))
  found_twin None xs p = p
  found_twin (Some q) xs p = call_twin q xs p

  mutual
    unfolding walk_stmt walk_block

    stmt_twin : (s : Stmt) {v v' : SymState} → Twin w g v v' → Twin w g (walk_stmt k v s) (walk_stmt k' v' s)
    stmt_twin (assign x e) p = assign_twin x e p
    stmt_twin (store x i e) p = store_twin x i e p
    stmt_twin (branch b c d) p = branch_twin b c d p (λ u u' q. block_twin c q) (λ u u' q. block_twin d q)
    stmt_twin (loop b i e c) p = loop_twin b i e c p (λ u u' q. block_twin c q)
    stmt_twin (check b) p = check_twin b p
    stmt_twin (call f xs) p = found_twin (find_proc qs f) xs p
    stmt_twin (havoc x) p = twin_havoc (x ∷ []) p

    block_twin : (c : Block) {v v' : SymState} → Twin w g v v' → Twin w g (walk_block k v c) (walk_block k' v' c)
    block_twin end p = p
    block_twin (seq s ss) p = block_twin ss (stmt_twin s p)

  -- at the beginning both are the same but for the precondition
  begin_twin : (v : SymState) → v.conditions ≡ [] → Twin w g v v
  begin_twin v e = record { alive = refl; current = twins_itself _ v.current; initial = twins_itself _ v.initial; counted = counted_itself v.given; next = refl; conditions = rw e SameAt.none_left }

  start_twin : (r : Fresh) → Twin w g (proc_start k r) (proc_start k' r)
  unfolding proc_start
  start_twin r =
      let stores = twins_itself _ r.store in
      twin_assume (begin_twin (record { current = r.store ++ zero_terms me.locals; initial = r.store; given = []; next = r.next; conditions = [] }) refl) (twin_assured (twin_bool w lit lit' agree g me.pre stores stores))

  proc_twin : Twin w g (walk_proc k) (walk_proc k')
  unfolding walk_proc proc_end
  proc_twin =
      let q = block_twin me.body (start_twin (fresh_params me.params 0)) in
      twin_assert q (twin_assured (bool_twin q me.post))

-- Whole programs.
module _ {w : ℕ} {g : ℕ → ℕ} where
  same_append : {ks ls ms ns : List Condition} → SameAt w g ks ls → SameAt w g ms ns → SameAt w g (ks ++ ms) (ls ++ ns)
  same_append SameAt.none_left q = q
  same_append (SameAt.and_this b u p) q = SameAt.and_this b u (same_append p q)

  same_reverse : {ks ls ms ns : List Condition} → SameAt w g ks ls → SameAt w g ms ns → SameAt w g (reverse_aux ks ms) (reverse_aux ls ns)
  same_reverse SameAt.none_left q = q
  same_reverse (SameAt.and_this b u p) q = same_reverse p (SameAt.and_this b u q)

module _ (p : Program) (lit lit' : ℕ → ℕ) (agree : (n : ℕ) → n < 2 ^ p.width → lit n ≡ lit' n) where
  abbrev one : Setting
  one = record { width = p.width; literal = lit }

  abbrev other : Setting
  other = record { width = p.width; literal = lit' }

  same_joined : (g : ℕ → ℕ) (qs : List Proc) → SameAt p.width g (flat_map (proc_conditions one p) qs) (flat_map (proc_conditions other p) qs)
  unfolding proc_conditions
  same_joined g [] = SameAt.none_left
  same_joined g (q ∷ qs) = same_append (same_reverse (proc_twin p.width lit lit' agree g p.procs q).conditions SameAt.none_left) (same_joined g qs)

first_broken : {w : ℕ} {g : ℕ → ℕ} {k l : Condition} {ks ls : List Condition} → SameAt w g (k ∷ ks) (l ∷ ls) → broken_at w g k ≡ broken_at w g l
first_broken (SameAt.and_this b u p) = b

first_named : {w : ℕ} {g : ℕ → ℕ} {k l : Condition} {ks ls : List Condition} → SameAt w g (k ∷ ks) (l ∷ ls) → condition_unknowns k ≡ condition_unknowns l
first_named (SameAt.and_this b u p) = u

same_rest : {w : ℕ} {g : ℕ → ℕ} {k l : Condition} {ks ls : List Condition} → SameAt w g (k ∷ ks) (l ∷ ls) → SameAt w g ks ls
same_rest (SameAt.and_this b u p) = p

-- the same for all numbers
same_always : (w : ℕ) (ks ls : List Condition) → ((g : ℕ → ℕ) → SameAt w g ks ls) → SameConditions w ks ls
same_always w [] [] h = SameConditions.none_left
same_always w [] (l ∷ ls) h = elim (h (λ i. 0)) [ ]
same_always w (k ∷ ks) [] h = elim (h (λ i. 0)) [ ]
same_always w (k ∷ ks) (l ∷ ls) h = SameConditions.and_this (record { broken = λ g. first_broken (h g); named = first_named (h (λ i. 0)) }) (same_always w ks ls (λ g. same_rest (h g)))

pub literals_agree : LiteralsAgree
unfolding conditions_under
literals_agree p = same_always p.width _ _ (λ g. same_joined p (λ n. n % 2 ^ p.width) (λ n. n) (λ n l. mod-eq_of_lt l) g p.procs)
