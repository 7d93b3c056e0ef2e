-- What the walk keeps, whatever way a run goes: the shape of the store, the unknowns and the conditions so far.
use Rattle.std.proofs.Common.{◌≡◌, ℕ, zero, suc, ◌+◌, ◌≤◌, true, eqb, List, [], ◌∷◌, length, Some, None, Option, sym, refl, ap, ◌∙◌, inl, inr, arith}
use Rattle.std.proofs.lemmas.List.{length-map}
use Rattle.std.proofs.lemmas.Bool.{cases_Bool, and_parts}
use Rattle.lang.specs.Base.{maybe, Word, same, among}
use Rattle.lang.specs.Meaning.{count}
use Rattle.lang.specs.Soundness.{find_decl, find_proc, is_scalar, is_row, sound_bool, sound_stmt, sound_block}
use Rattle.lang.specs.Syntax.{Expr, BoolExpr, Stmt, assign, store, branch, loop, check, call, havoc, Block, end, seq, Decl, Proc, Program}
use Rattle.vc.proofs.Agreement.{some_injective, found}
use Rattle.vc.proofs.States.{state_of}
use Rattle.vc.specs.Conditions.{Condition, SymState, assume, assert, with_current, resume, unknowns, renew, havoc_names, join_terms, join_stores, join, Context, evaluated, after_assign, after_store, after_check, branch_test, branch_then, branch_else, branch_end, loop_entry, loop_head, loop_test, loop_body, loop_round, loop_end, loop_start, call_asked, call_measured, call_promised, call_changed, after_call, walk_stmt, walk_block}
use Rattle.vc.specs.Symbolic.{Binding, Store, lookup, update, stored}
use Rattle.vc.specs.Terms.{Term, Formula, value}
use Rattle.vc.specs.Theorem.{AllValid, Fits}

-- v has been reached before v': no unknown was given twice, and no condition was lost
pub record Follows (v v' : SymState) : Type 0 where
  pub later : v.next ≤ v'.next
  pub valid : (w : ℕ) → AllValid w v'.conditions → AllValid w v.conditions

pub follows_then : {a b c : SymState} → Follows a b → Follows b c → Follows a c
follows_then p q =
    let l = p.later in
    let m = q.later in
    record { later = omega arith; valid = λ w h. p.valid w (q.valid w h) }

valid_rest : {w : ℕ} {k : Condition} {ks : List Condition} → AllValid w (k ∷ ks) → AllValid w ks
valid_rest (AllValid.and_this h r) = r

module _ (v : SymState) where
  pub follows_same : Follows v v
  follows_same = record { later = omega arith; valid = λ w h. h }

  pub follows_assume : (f : Formula) → Follows v (assume v f)
  unfolding assume
  follows_assume f = record { later = omega arith; valid = λ w h. h }

  pub follows_assert : (f : Formula) → Follows v (assert v f)
  unfolding assert
  follows_assert f = record { later = omega arith; valid = λ w h. valid_rest h }

  pub follows_require : (f : Formula) → Follows v (assume (assert v f) f)
  unfolding assume assert
  follows_require f = record { later = omega arith; valid = λ w h. valid_rest h }

  follows_current : (s : Store) → Follows v (with_current v s)
  unfolding with_current
  follows_current s = record { later = omega arith; valid = λ w h. h }

  -- a later state, gone back to the names of v
  pub resume_follows : (a : SymState) → Follows a (resume v a)
  unfolding resume
  resume_follows a = record { later = omega arith; valid = λ w h. h }

  pub join_follows : (f : Formula) (a b : SymState) → Follows b (join f v a b)
  unfolding join
  join_follows f a b = record { later = omega arith; valid = λ w h. h }

pub renew_later : (xs : List Word) (s : Store) (n : ℕ) → n ≤ (renew xs s n).next
unfolding renew
renew_later xs [] n = omega arith
renew_later xs (b ∷ bs) n =
    elim (cases_Bool (among b.name xs)) [
      | inl e ↦
          let l = renew_later xs bs (n + length b.terms) in
          rw e (omega arith)
      | inr e ↦ rw e (renew_later xs bs n)
    ]

pub follows_havoc : (v : SymState) (xs : List Word) → Follows v (havoc_names v xs)
unfolding havoc_names
follows_havoc v xs = record { later = renew_later xs v.current v.next; valid = λ w h. h }

module _ (k : Context) where
  follows_assign : (v : SymState) (x : Word) (e : Expr) → Follows v (after_assign k v x e)
  unfolding after_assign
  follows_assign v x e = follows_then (follows_require v _) (follows_current _ _)

  follows_store : (v : SymState) (x : Word) (i e : Expr) → Follows v (after_store k v x i e)
  unfolding after_store
  follows_store v x i e = follows_then (follows_require v _) (follows_current _ _)

  follows_check : (v : SymState) (b : BoolExpr) → Follows v (after_check k v b)
  unfolding after_check
  follows_check v b = follows_require v _

  -- a branch
  pub follows_test : (v : SymState) (b : BoolExpr) → Follows v (branch_test k v b)
  unfolding branch_test
  follows_test v b = follows_require v _

  pub test_then : (v : SymState) (b : BoolExpr) → Follows (branch_test k v b) (branch_then k v b)
  unfolding branch_then
  test_then v b = follows_assume _ _

  pub then_else : (v : SymState) (b : BoolExpr) (a : SymState) → Follows a (branch_else k v b a)
  unfolding branch_else
  then_else v b a = follows_then (resume_follows _ a) (follows_assume _ _)

  pub else_end : (v : SymState) (b : BoolExpr) (a d : SymState) → Follows d (branch_end k v b a d)
  unfolding branch_end
  else_end v b a d = join_follows _ _ a d

  -- a loop
  pub follows_entry : (v : SymState) (i : BoolExpr) (xs : List Word) → Follows v (loop_entry k v i xs)
  unfolding loop_entry
  follows_entry v i xs = follows_then (follows_assert v _) (follows_havoc _ xs)

  pub follows_head : (u : SymState) (i : BoolExpr) → Follows u (loop_head k u i)
  unfolding loop_head
  follows_head u i = follows_assume u _

  pub follows_loop_test : (u : SymState) (b : BoolExpr) → Follows u (loop_test k u b)
  unfolding loop_test
  follows_loop_test u b = follows_require u _

  pub follows_start : (v : SymState) (b i : BoolExpr) (xs : List Word) → Follows (loop_entry k v i xs) (loop_start k v b i xs)
  unfolding loop_start
  follows_start v b i xs = follows_then (follows_head _ i) (follows_loop_test _ b)

  pub follows_body : (u : SymState) (b : BoolExpr) (e : Expr) → Follows u (loop_body k u b e)
  unfolding loop_body
  follows_body u b e = follows_then (follows_assume u _) (follows_require _ _)

  pub follows_round : (u : SymState) (i : BoolExpr) (e : Expr) (a : SymState) → Follows a (loop_round k u i e a)
  unfolding loop_round
  follows_round u i e a = follows_then (follows_assert a _) (follows_assert _ _)

  pub round_end : (u : SymState) (b : BoolExpr) (a : SymState) → Follows a (loop_end k u b a)
  unfolding loop_end
  round_end u b a = follows_then (resume_follows _ a) (follows_assume _ _)

  -- a call
  pub follows_asked : (v : SymState) (q : Proc) (a : Store) → Follows v (call_asked k v q a)
  unfolding call_asked
  follows_asked v q a = follows_assert v _

  pub follows_measured : (v : SymState) (q : Proc) (a : Store) → Follows v (call_measured k v q a)
  unfolding call_measured
  follows_measured v q a = follows_assert v _

  pub follows_changed : (v : SymState) (q : Proc) (xs : List Word) → Follows v (call_changed k v q xs)
  unfolding call_changed
  follows_changed v q xs = follows_then (follows_asked v q _) (follows_then (follows_measured _ q _) (follows_havoc _ xs))

  pub follows_promised : (v : SymState) (q : Proc) (a z : Store) → Follows v (call_promised k v q a z)
  unfolding call_promised
  follows_promised v q a z = follows_assume v _

  follows_call : (v : SymState) (q : Proc) (xs : List Word) → Follows v (after_call k v q xs)
  unfolding after_call
  follows_call v q xs = follows_then (follows_changed v q xs) (follows_promised _ q _ _)

  follows_found : (v : SymState) (o : Option Proc) (xs : List Word) → Follows v (maybe o v (λ q. after_call k v q xs))
  follows_found v None xs = follows_same v
  follows_found v (Some q) xs = follows_call v q xs

  mutual
    unfolding walk_stmt walk_block

    pub follows_stmt : (s : Stmt) (v : SymState) → Follows v (walk_stmt k v s)
    follows_stmt (assign x e) v = follows_assign v x e
    follows_stmt (store x i e) v = follows_store v x i e
    follows_stmt (branch b c d) v =
        follows_then (follows_test v b) (follows_then (test_then v b) (follows_then (follows_block c _) (follows_then (then_else v b _) (follows_then (follows_block d _) (else_end v b _ _)))))
    follows_stmt (loop b i e c) v =
        follows_then (follows_entry v i _) (follows_then (follows_start v b i _) (follows_then (follows_body _ b e) (follows_then (follows_block c _) (follows_then (follows_round _ i e _) (round_end _ b _)))))
    follows_stmt (check b) v = follows_check v b
    follows_stmt (call f xs) v = follows_found v (find_proc k.procs f) xs
    follows_stmt (havoc x) v = follows_havoc v (x ∷ [])

    pub follows_block : (c : Block) (v : SymState) → Follows v (walk_block k v c)
    follows_block end v = follows_same v
    follows_block (seq s ss) v = follows_then (follows_stmt s v) (follows_block ss _)

-- A store with just these names, each with as many terms as it has to have.
pub data Shaped : List Decl → Store → Type 0 where
  none_left : Shaped [] []
  and_this : {d : Decl} {b : Binding} {ds : List Decl} {s : Store} → b.name ≡ d.name → length b.terms ≡ count d → Shaped ds s → Shaped (d ∷ ds) (b ∷ s)

pub shaped_by : (w : ℕ) (g : ℕ → ℕ) (ds : List Decl) (s : Store) → Fits w ds (state_of w g s) → Shaped ds s
shaped_by w g [] [] f = Shaped.none_left
shaped_by w g [] (b ∷ bs) f = elim f [ ]
shaped_by w g (d ∷ ds) [] f = elim f [ ]
shaped_by w g (d ∷ ds) (b ∷ bs) (Fits.and_this n l s r) = Shaped.and_this n (sym (length-map b.terms (value w g)) ∙ l) (shaped_by w g ds bs r)

shaped_update : {ds : List Decl} {s : Store} (x : Word) (d : Decl) (ts : List Term) → Shaped ds s → find_decl ds x ≡ Some d → length ts ≡ count d → Shaped ds (update s x ts)
unfolding find_decl update
shaped_update x d ts Shaped.none_left e l = Shaped.none_left
shaped_update x d ts (Shaped.and_this {d = d'} {b = b} n k r) e l =
    elim (cases_Bool (same b.name x)) [
      | inl h ↦
          let here : same d'.name x ≡ true = rw (← n) h in
          let is : d' ≡ d = some_injective (rw here at e) in
          rw h (Shaped.and_this n (l ∙ sym (ap count is)) r)
      | inr h ↦ rw h (Shaped.and_this n k (shaped_update x d ts r (rw (← n, h) at e) l))
    ]

shaped_lookup : {ds : List Decl} {s : Store} (x : Word) (d : Decl) → Shaped ds s → find_decl ds x ≡ Some d → length (lookup s x) ≡ count d
unfolding find_decl lookup
shaped_lookup x d Shaped.none_left e = let z : ◌≡◌ {A = ℕ} 0 1 = cc in absurd (omega arith)
shaped_lookup x d (Shaped.and_this {d = d'} {b = b} n k r) e =
    elim (cases_Bool (same b.name x)) [
      | inl h ↦
          let here : same d'.name x ≡ true = rw (← n) h in
          let is : d' ≡ d = some_injective (rw here at e) in
          rw h (k ∙ ap count is)
      | inr h ↦ rw h (shaped_lookup x d r (rw (← n, h) at e))
    ]

pub length_stored : (ts : List Term) (n : ℕ) (i v : Term) → length (stored ts n i v) ≡ length ts
unfolding stored
length_stored [] n i v = refl
length_stored (t ∷ ts) n i v = ap suc (length_stored ts (suc n) i v)

pub length_unknowns : (k n : ℕ) → length (unknowns k n) ≡ k
unfolding unknowns
length_unknowns zero n = refl
length_unknowns (suc k) n = ap suc (length_unknowns k (suc n))

shaped_renew : {ds : List Decl} {s : Store} (xs : List Word) (n : ℕ) → Shaped ds s → Shaped ds (renew xs s n).store
unfolding renew
shaped_renew xs n Shaped.none_left = Shaped.none_left
shaped_renew xs n (Shaped.and_this {b = b} m l r) =
    elim (cases_Bool (among b.name xs)) [
      | inl h ↦ rw h (Shaped.and_this m (length_unknowns (length b.terms) n ∙ l) (shaped_renew xs (n + length b.terms) r))
      | inr h ↦ rw h (Shaped.and_this m l (shaped_renew xs n r))
    ]

length_join : (f : Formula) (ts us : List Term) → length us ≡ length ts → length (join_terms f ts us) ≡ length ts
unfolding join_terms
length_join f [] us l = refl
length_join f (t ∷ ts) [] l = l
length_join f (t ∷ ts) (u ∷ us) l = ap suc (length_join f ts us (omega arith))

shaped_join : {ds : List Decl} {a b : Store} (f : Formula) → Shaped ds a → Shaped ds b → Shaped ds (join_stores f a b)
unfolding join_stores
shaped_join f Shaped.none_left Shaped.none_left = Shaped.none_left
shaped_join f (Shaped.and_this {b = a} n l r) (Shaped.and_this {b = b} m k t) = Shaped.and_this n (length_join f a.terms b.terms (k ∙ sym l) ∙ l) (shaped_join f r t)

-- The shape is kept.
module _ (p : Program) (ds os : List Decl) (k : Context) where
  shaped_assign : (v : SymState) (x : Word) (e : Expr) → is_scalar ds x ≡ true → Shaped ds v.current → Shaped ds (after_assign k v x e).current
  unfolding after_assign with_current
  shaped_assign v x e h r =
      let f = found ds x (λ d. eqb d.size 0) h in
      let one : 1 ≡ count f.decl = rw f.meets in
      shaped_update x f.decl ((evaluated k v e).term ∷ []) r f.is one

  shaped_store : (v : SymState) (x : Word) (i e : Expr) → is_row ds x ≡ true → Shaped ds v.current → Shaped ds (after_store k v x i e).current
  unfolding after_store with_current
  shaped_store v x i e h r =
      let f = found ds x _ h in
      shaped_update x f.decl _ r f.is (length_stored (lookup v.current x) 0 _ _ ∙ shaped_lookup x f.decl r f.is)

  shaped_havoc : (v : SymState) (xs : List Word) → Shaped ds v.current → Shaped ds (havoc_names v xs).current
  unfolding havoc_names
  shaped_havoc v xs r = shaped_renew xs v.next r

  shaped_check : (v : SymState) (b : BoolExpr) → Shaped ds v.current → Shaped ds (after_check k v b).current
  unfolding after_check assume assert
  shaped_check v b r = r

  pub shaped_then : (v : SymState) (b : BoolExpr) → Shaped ds v.current → Shaped ds (branch_then k v b).current
  unfolding branch_then branch_test assume assert
  shaped_then v b r = r

  pub shaped_else : (v : SymState) (b : BoolExpr) (a : SymState) → Shaped ds v.current → Shaped ds (branch_else k v b a).current
  unfolding branch_else branch_test assume assert resume
  shaped_else v b a r = r

  shaped_end : (v : SymState) (b : BoolExpr) (a d : SymState) → Shaped ds a.current → Shaped ds d.current → Shaped ds (branch_end k v b a d).current
  unfolding branch_end join
  shaped_end v b a d r s = shaped_join _ r s

  shaped_start : (v : SymState) (b i : BoolExpr) (xs : List Word) → Shaped ds v.current → Shaped ds (loop_start k v b i xs).current
  unfolding loop_start loop_test loop_head loop_entry assume assert
  shaped_start v b i xs r = shaped_havoc (assert v _) xs r

  shaped_loop_end : (u : SymState) (b : BoolExpr) (a : SymState) → Shaped ds u.current → Shaped ds (loop_end k u b a).current
  unfolding loop_end assume resume
  shaped_loop_end u b a r = r

  shaped_call : (v : SymState) (q : Proc) (xs : List Word) → Shaped ds v.current → Shaped ds (after_call k v q xs).current
  unfolding after_call call_promised call_changed call_measured call_asked assume assert
  shaped_call v q xs r = shaped_havoc (assert (assert v _) _) xs r

  shaped_found : (v : SymState) (o : Option Proc) (xs : List Word) → Shaped ds v.current → Shaped ds (maybe o v (λ q. after_call k v q xs)).current
  shaped_found v None xs r = r
  shaped_found v (Some q) xs r = shaped_call v q xs r

  mutual
    unfolding walk_stmt walk_block sound_stmt sound_block

    pub shaped_stmt : (s : Stmt) (v : SymState) → sound_stmt p ds os s ≡ true → Shaped ds v.current → Shaped ds (walk_stmt k v s).current
    shaped_stmt (assign x e) v h r = shaped_assign v x e (and_parts (is_scalar ds x) _ h).0 r
    shaped_stmt (store x i e) v h r = shaped_store v x i e (and_parts (is_row ds x) _ h).0 r
    shaped_stmt (branch b c d) v h r =
        let q = and_parts (sound_block p ds os c) _ (and_parts (sound_bool p.width 0 ds os b) _ h).1 in
        shaped_end v b _ _ (shaped_block c _ q.0 (shaped_then v b r)) (shaped_block d _ q.1 (shaped_else v b _ r))
    shaped_stmt (loop b i e c) v h r = shaped_loop_end _ b _ (shaped_start v b i _ r)
    shaped_stmt (check b) v h r = shaped_check v b r
    shaped_stmt (call f xs) v h r = shaped_found v (find_proc k.procs f) xs r
    shaped_stmt (havoc x) v h r = shaped_havoc v (x ∷ []) r

    pub shaped_block : (c : Block) (v : SymState) → sound_block p ds os c ≡ true → Shaped ds v.current → Shaped ds (walk_block k v c).current
    shaped_block end v h r = r
    shaped_block (seq s ss) v h r =
        let q = and_parts (sound_stmt p ds os s) _ h in
        shaped_block ss _ q.1 (shaped_stmt s v q.0 r)
