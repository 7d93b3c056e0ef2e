-- What is given only grows along the walk; and what is given behind a branch, by the way that was gone.
use Rattle.std.proofs.Common.{◌≡◌, ℕ, suc, Bool, true, false, cond, not, ◌&&◌, ◌||◌, List, [], ◌∷◌, ◌++◌, length, Some, None, Option, sym, refl, ◌∙◌, append_assoc, append-nil, arith}
use Rattle.std.proofs.lemmas.List.{drop_at, length-append}
use Rattle.std.proofs.lemmas.Bool.{and_parts}
use Rattle.lang.specs.Base.{maybe, Word}
use Rattle.lang.specs.Soundness.{find_proc}
use Rattle.lang.specs.Syntax.{BoolExpr, Stmt, assign, store, branch, loop, check, call, havoc, Block, end, seq, Proc}
use Rattle.vc.specs.Conditions.{SymState, all_true, assume, assert, with_current, resume, havoc_names, guarded, added, join, changed_block, Context, after_assign, after_store, after_check, branch_test, branch_end, loop_entry, loop_head, loop_test, loop_end, loop_start, call_asked, call_measured, call_promised, call_changed, after_call, walk_stmt, walk_block}
use Rattle.vc.specs.Terms.{Formula, truth_of}

pub record Extends (v a : SymState) : Type 0 where
  pub more : List Formula
  pub is : a.given ≡ v.given ++ more

pub extends_then : {a b c : SymState} → Extends a b → Extends b c → Extends a c
extends_then {a} p q = record { more = p.more ++ q.more; is = q.is ∙ rw p.is (append_assoc a.given p.more q.more) }

extends_same : (v a : SymState) → a.given ≡ v.given → Extends v a
extends_same v a e = record { more = []; is = e ∙ sym (append-nil v.given) }

extends_assume : (v : SymState) (f : Formula) → Extends v (assume v f)
unfolding assume
extends_assume v f = record { more = f ∷ []; is = refl }

extends_require : (v : SymState) (f : Formula) → Extends v (assume (assert v f) f)
unfolding assume assert
extends_require v f = record { more = f ∷ []; is = refl }

module _ (k : Context) where
  extends_start : (v : SymState) (b i : BoolExpr) (xs : List Word) → Extends v (loop_start k v b i xs)
  unfolding loop_start loop_test loop_head loop_entry havoc_names assert
  extends_start v b i xs = extends_then (extends_same v (loop_entry k v i xs) refl) (extends_then (extends_assume (loop_entry k v i xs) _) (extends_require (loop_head k (loop_entry k v i xs) i) _))

  extends_call : (v : SymState) (o : Option Proc) (xs : List Word) → Extends v (maybe o v (λ q. after_call k v q xs))
  unfolding after_call call_promised call_changed call_measured call_asked havoc_names assume assert
  extends_call v None xs = extends_same v v refl
  extends_call v (Some q) xs = record { more = _; is = refl }

  extends_stmt : (s : Stmt) (v : SymState) → Extends v (walk_stmt k v s)
  unfolding walk_stmt after_assign after_store after_check with_current branch_test branch_end join loop_end resume havoc_names assume assert
  extends_stmt (assign x e) v = record { more = _; is = refl }
  extends_stmt (store x i e) v = record { more = _; is = refl }
  extends_stmt (branch b c d) v = record { more = _; is = append_assoc v.given _ _ }
  extends_stmt (loop b i e c) v = extends_then (extends_start v b i (changed_block c)) (record { more = _; is = refl })
  extends_stmt (check b) v = record { more = _; is = refl }
  extends_stmt (call f xs) v = extends_call v (find_proc k.procs f) xs
  extends_stmt (havoc x) v = extends_same v _ refl

  pub extends_block : (c : Block) (v : SymState) → Extends v (walk_block k v c)
  unfolding walk_block
  extends_block end v = extends_same v v refl
  extends_block (seq s ss) v = extends_then (extends_stmt s v) (extends_block ss _)

-- What is given, as one truth.
and_assoc : (a b c : Bool) → ((a && b) && c) ≡ (a && (b && c))
and_assoc true b c = refl
and_assoc false b c = refl

and_true : (a : Bool) → (a && true) ≡ a
and_true true = refl
and_true false = refl

module _ (w : ℕ) (g : ℕ → ℕ) where
  -- all that is given is true
  abbrev pub live : SymState → Bool
  live v = all_true w g v.given

  pub all_append : (a b : List Formula) → all_true w g (a ++ b) ≡ (all_true w g a && all_true w g b)
  unfolding all_true
  all_append [] b = refl
  all_append (f ∷ a) b = rw (all_append a b) (sym (and_assoc (truth_of w g f) _ _))

  pub live_assume : (v : SymState) (f : Formula) → live (assume v f) ≡ (live v && truth_of w g f)
  unfolding assume all_true
  live_assume v f = all_append v.given (f ∷ []) ∙ rw (and_true (truth_of w g f))

  pub live_before : {v a : SymState} → Extends v a → live a ≡ true → live v ≡ true
  live_before {v} x e = (and_parts (live v) _ (sym (all_append v.given x.more) ∙ rw (← x.is) e)).0

  guarded_is : (f : Formula) (fs : List Formula) → all_true w g (guarded f fs) ≡ (not (truth_of w g f) || all_true w g fs)
  unfolding guarded all_true truth_of
  guarded_is f [] = sym (or_true (truth_of w g f))
    where
      or_true : (b : Bool) → (not b || true) ≡ true
      or_true true = refl
      or_true false = refl
  guarded_is f (h ∷ fs) = rw (guarded_is f fs) (or_and (truth_of w g f) _ _)
    where
      or_and : (b c d : Bool) → ((not b || c) && (not b || d)) ≡ (not b || (c && d))
      or_and true c d = refl
      or_and false c d = refl

  added_is : (f : Formula) (v a : SymState) (x : Extends (assume v f) a) → added v a ≡ x.more
  unfolding assume
  added_is f v a x = rw x.is (drop_at (v.given ++ f ∷ []) x.more (suc (length v.given)) (length-append v.given (f ∷ []) ∙ omega arith))

  one_way : (l f x y : Bool) → (l && ((not f || x) && (not (not f) || y))) ≡ (l && cond f (l && f && x) (l && not f && y))
  one_way false f x y = refl
  one_way true true x y = and_true x
  one_way true false x y = refl

  -- of the first way only what was given there counts, if it was that way; and so of the second
  pub live_join : (f : Formula) (v a b : SymState) → Extends (assume v f) a → Extends (assume v (Formula.negate f)) b → live (join f v a b) ≡ (live v && cond (truth_of w g f) (live a) (live b))
  unfolding join truth_of
  live_join f v a b x y =
      let la : live a ≡ (live v && truth_of w g f && all_true w g x.more) = rw x.is (all_append _ x.more ∙ rw (live_assume v f)) in
      let lb : live b ≡ (live v && not (truth_of w g f) && all_true w g y.more) = rw y.is (all_append _ y.more ∙ rw (live_assume v (Formula.negate f))) in
      all_append v.given _ ∙ rw (all_append (guarded f (added v a)) _, guarded_is f (added v a), guarded_is (Formula.negate f) (added v b), added_is f v a x, added_is (Formula.negate f) v b y, la, lb) (one_way (live v) (truth_of w g f) _ _)
