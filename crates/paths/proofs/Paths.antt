-- What is given on a stack, by the way.
use Rattle.std.proofs.Common.{◌≡◌, ℕ, max, Bool, true, false, cond, not, ◌&&◌, ◌||◌, List, [], ◌∷◌, ◌++◌, sym, refl, ◌∙◌, arith}
use Rattle.vc.proofs.Givens.{Extends, all_append, live_assume, live_join}
use Rattle.vc.specs.Conditions.{SymState, all_true, broken_at, all_unknowns, assume, resume, guarded, added, join}
use Rattle.vc.specs.Terms.{Formula, truth_of, formula_unknowns}
use Rattle.paths.specs.Paths.{under, Carried, Silent, Went, no, hanging, Carrying}

-- Laws of truths.
push_law : (s p f : Bool) → ((s && p) && f) ≡ ((s && ((not p || f) && true)) && p)
push_law true true true = refl
push_law true true false = refl
push_law true false f = refl
push_law false p f = refl

way_law : (s p f : Bool) → ((s && p) && f) ≡ (s && (p && f))
way_law true p f = refl
way_law false p f = refl

second_law : (s n p f : Bool) → ((p && f) ≡ false → n ≡ true) → ((s && p) && not f) ≡ ((s && n) && (p && not f))
second_law true true p f h = refl
second_law true false true true h = refl
second_law true false true false h = let z = h refl in sym z
second_law true false false f h = refl
second_law false n p f h = refl

meet_law : (s n o p f : Bool) → ((p && f) ≡ false → n ≡ true) → ((p && not f) ≡ false → o ≡ true) → ((s && p) && cond f ((s && n) && (p && f)) (((s && n) && o) && (p && not f))) ≡ (((s && n) && o) && p)
meet_law false n o p f h i = refl
meet_law true true true false f h i = refl
meet_law true true false false f h i = refl
meet_law true false o false f h i = refl
meet_law true true true true true h i = refl
meet_law true true false true true h i = sym (i refl)
meet_law true false o true true h i = refl
meet_law true n o true false h i = refl

silent_law : (x p f : Bool) → (x ≡ true) → p ≡ false → (x && ((not p || f) && true)) ≡ true
silent_law x p f e h = rw (e, h)

module _ (w : ℕ) where
  pushes : (v : SymState) (stack : List Formula) (p f : Formula) → Carried w v stack p → Carried w (assume v f) (stack ++ under p f ∷ []) p
  unfolding all_true truth_of
  pushes v stack p f c = record { truth = λ g. live_assume w g v f ∙ rw (c.truth g, all_append w g stack (under p f ∷ [])) (push_law (all_true w g stack) (truth_of w g p) (truth_of w g f)) }

  hangs : (fs : List Formula) (p f : Formula) → Silent w fs p → Silent w (fs ++ under p f ∷ []) p
  unfolding all_true truth_of
  hangs fs p f c = record { truth = λ g h. all_append w g fs (under p f ∷ []) ∙ silent_law (all_true w g fs) (truth_of w g p) (truth_of w g f) (c.truth g h) h }

  outward : (fs : List Formula) (p f : Formula) → Silent w fs (Formula.conj p f) → Silent w fs p
  unfolding truth_of
  outward fs p f c = record { truth = λ g h. c.truth g (rw h) }

  first : (v : SymState) (stack : List Formula) (p f : Formula) → Carried w v stack p → Carried w (assume v f) stack (Formula.conj p f)
  unfolding truth_of
  first v stack p f c = record { truth = λ g. live_assume w g v f ∙ rw (c.truth g) (way_law (all_true w g stack) (truth_of w g p) (truth_of w g f)) }

  second : (v a : SymState) (stack new : List Formula) (p f : Formula) → Carried w v stack p → Silent w new (Formula.conj p f) → Carried w (assume (resume v a) (no f)) (stack ++ new) (Formula.conj p (no f))
  unfolding truth_of resume
  second v a stack new p f c n =
      record { truth = λ g. live_assume w g (resume v a) (no f) ∙ rw (c.truth g, all_append w g stack new) (second_law (all_true w g stack) (all_true w g new) (truth_of w g p) (truth_of w g f) (n.truth g)) }

  meets : (v a b : SymState) (stack new also : List Formula) (p f : Formula) → Carried w v stack p → Went w v f a stack new p → Went w (resume v a) (no f) b (stack ++ new) also p → Carried w (join f v a b) ((stack ++ new) ++ also) p
  unfolding truth_of resume assume
  meets v a b stack new also p f c x y =
      let xa : Extends (assume v f) a = record { more = x.more; is = x.extends } in
      let yb : Extends (assume v (no f)) b = record { more = y.more; is = y.extends } in
      record {
        truth =
            λ g.
            live_join w g f v a b xa yb ∙ rw (c.truth g, x.carried.truth g, y.carried.truth g, all_append w g (stack ++ new) also, all_append w g stack new) (meet_law (all_true w g stack) (all_true w g new) (all_true w g also) (truth_of w g p) (truth_of w g f) (x.silent.truth g) (y.silent.truth g));
      }

  breaks : (v : SymState) (stack : List Formula) (p goal : Formula) → Carried w v stack p → (g : ℕ → ℕ) → broken_at w g (record { given = v.given; goal = goal }) ≡ ((all_true w g stack && truth_of w g p) && not (truth_of w g goal))
  unfolding broken_at
  breaks v stack p goal c g = rw (c.truth g)

-- How many unknowns are named.
named_append : (a b : List Formula) → all_unknowns (a ++ b) ≡ max (all_unknowns a) (all_unknowns b)
unfolding all_unknowns
named_append [] b = omega arith
named_append (f ∷ a) b = let e = named_append a b in omega arith

max_hanging : (f : Formula) (fs : List Formula) → max (formula_unknowns f) (hanging f fs) ≡ max (formula_unknowns f) (all_unknowns fs)
unfolding all_unknowns
max_hanging f [] = refl
max_hanging f (h ∷ fs) = omega arith

named_guarded : (f : Formula) (fs : List Formula) → all_unknowns (guarded f fs) ≡ hanging f fs
unfolding guarded all_unknowns formula_unknowns
named_guarded f [] = refl
named_guarded f (h ∷ fs) =
    let e = named_guarded f fs in
    let m = max_hanging f fs in
    omega arith

hanging_no : (f : Formula) (fs : List Formula) → hanging (no f) fs ≡ hanging f fs
unfolding formula_unknowns
hanging_no f [] = refl
hanging_no f (h ∷ fs) = refl

names_more : (v : SymState) (f : Formula) → all_unknowns (assume v f).given ≡ max (all_unknowns v.given) (formula_unknowns f)
unfolding assume all_unknowns
names_more v f = let e = named_append v.given (f ∷ []) in omega arith

names_joined : (v a b : SymState) (f : Formula) → all_unknowns (join f v a b).given ≡ max (all_unknowns v.given) (max (hanging f (added v a)) (hanging f (added v b)))
unfolding join
names_joined v a b f = named_append v.given _ ∙ rw (named_append (guarded f (added v a)) (guarded (no f) (added v b)), named_guarded f (added v a), named_guarded (no f) (added v b), hanging_no f (added v b))

pub carrying : (w : ℕ) → Carrying w
carrying w = record { pushes = pushes w; hangs = hangs w; outward = outward w; first = first w; second = second w; meets = meets w; breaks = breaks w; names_more = names_more; names_joined = names_joined }
