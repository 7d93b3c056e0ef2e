-- Two ways of writing literals into terms: where nothing fails, the values are the same.
use Rattle.std.proofs.Common.{◌≡◌, ℕ, zero, suc, ◌^◌, ◌<◌, Bool, true, false, not, ◌&&◌, ◌||◌, ltb, List, [], ◌∷◌, length, refl, ap, inl, inr}
use Rattle.std.proofs.lemmas.Bool.{cases_Bool, and_parts, and_from, ltb-true, both_ways}
use Rattle.lang.specs.Base.{Word, same}
use Rattle.lang.specs.Syntax.{Expr, BoolExpr}
use Rattle.lang.specs.declared.syntax.ArithOp.{ArithOp}
use Rattle.lang.specs.declared.syntax.ArithOp.TheVariants.{Add, Sub, Mul, Div, Rem}
use Rattle.lang.specs.declared.syntax.Comparison.{Comparison}
use Rattle.vc.specs.Symbolic.{Setting, Binding, Store, lookup, update, single, select, stored, inside, Evaluated, computes, literal_term, scalar_term, binary_term, element_term, symbolic_expr, Judged, certain, compared, both, either, implied, opposite, every, symbolic_bool, assured}
use Rattle.vc.specs.Terms.{Term, Formula, value, truth_of, term_unknowns, formula_unknowns}

-- live: what is given is true, with the numbers g for the unknowns; otherwise values do not matter
pub record TwinTerm (w : ℕ) (g : ℕ → ℕ) (live : Bool) (t u : Term) : Type 0 where
  pub count : term_unknowns t ≡ term_unknowns u
  pub values : live ≡ true → value w g t ≡ value w g u

pub record TwinFormula (w : ℕ) (g : ℕ → ℕ) (live : Bool) (f h : Formula) : Type 0 where
  pub count : formula_unknowns f ≡ formula_unknowns h
  pub truths : live ≡ true → truth_of w g f ≡ truth_of w g h

pub data TwinTerms (w : ℕ) (g : ℕ → ℕ) (live : Bool) : List Term → List Term → Type 0 where
  none_left : TwinTerms w g live [] []
  and_this : {t u : Term} {ts us : List Term} → TwinTerm w g live t u → TwinTerms w g live ts us → TwinTerms w g live (t ∷ ts) (u ∷ us)

pub data Twins (w : ℕ) (g : ℕ → ℕ) (live : Bool) : Store → Store → Type 0 where
  none_left : Twins w g live [] []
  and_this : {b c : Binding} {s t : Store} → b.name ≡ c.name → TwinTerms w g live b.terms c.terms → Twins w g live s t → Twins w g live (b ∷ s) (c ∷ t)

pub record TwinEvaluated (w : ℕ) (g : ℕ → ℕ) (live : Bool) (x y : Evaluated) : Type 0 where
  pub safe : TwinFormula w g live x.safe y.safe
  pub term : TwinTerm w g (live && truth_of w g x.safe) x.term y.term

pub record TwinJudged (w : ℕ) (g : ℕ → ℕ) (live : Bool) (x y : Judged) : Type 0 where
  pub safe : TwinFormula w g live x.safe y.safe
  pub formula : TwinFormula w g (live && truth_of w g x.safe) x.formula y.formula

module _ {w : ℕ} {g : ℕ → ℕ} where
  pub twin_term_itself : (live : Bool) (t : Term) → TwinTerm w g live t t
  twin_term_itself live t = record { count = refl; values = λ _. refl }

  pub twin_terms_itself : (live : Bool) (ts : List Term) → TwinTerms w g live ts ts
  twin_terms_itself live [] = TwinTerms.none_left
  twin_terms_itself live (t ∷ ts) = TwinTerms.and_this (twin_term_itself live t) (twin_terms_itself live ts)

  pub twins_itself : (live : Bool) (s : Store) → Twins w g live s s
  twins_itself live [] = Twins.none_left
  twins_itself live (b ∷ s) = Twins.and_this refl (twin_terms_itself live b.terms) (twins_itself live s)

  -- what is live less often
  module _ {live : Bool} (less : Bool) (l : less ≡ true → live ≡ true) where
    pub weaker_term : {t u : Term} → TwinTerm w g live t u → TwinTerm w g less t u
    weaker_term x = record { count = x.count; values = λ e. x.values (l e) }

    pub weaker_formula : {f h : Formula} → TwinFormula w g live f h → TwinFormula w g less f h
    weaker_formula x = record { count = x.count; truths = λ e. x.truths (l e) }

    pub weaker_terms : {ts us : List Term} → TwinTerms w g live ts us → TwinTerms w g less ts us
    weaker_terms TwinTerms.none_left = TwinTerms.none_left
    weaker_terms (TwinTerms.and_this x r) = TwinTerms.and_this (weaker_term x) (weaker_terms r)

    pub weaker_twins : {s t : Store} → Twins w g live s t → Twins w g less s t
    weaker_twins Twins.none_left = Twins.none_left
    weaker_twins (Twins.and_this n x r) = Twins.and_this n (weaker_terms x) (weaker_twins r)

  module _ {live : Bool} where
    pub twin_lengths : {ts us : List Term} → TwinTerms w g live ts us → length ts ≡ length us
    twin_lengths TwinTerms.none_left = refl
    twin_lengths (TwinTerms.and_this x r) = ap suc (twin_lengths r)

    pub twin_lookup : {s t : Store} (x : Word) → Twins w g live s t → TwinTerms w g live (lookup s x) (lookup t x)
    unfolding lookup
    twin_lookup x Twins.none_left = TwinTerms.none_left
    twin_lookup x (Twins.and_this {b = b} {c = c} n v r) = elim (cases_Bool (same c.name x)) [ inl e ↦ rw (n, e) v | inr e ↦ rw (n, e) (twin_lookup x r) ]

    pub twin_update : {s t : Store} (x : Word) {ts us : List Term} → Twins w g live s t → TwinTerms w g live ts us → Twins w g live (update s x ts) (update t x us)
    unfolding update
    twin_update x Twins.none_left v = Twins.none_left
    twin_update x (Twins.and_this {b = b} {c = c} n u r) v =
        elim (cases_Bool (same c.name x)) [
          | inl e ↦
              let here : same b.name x ≡ true = rw n e in
              rw (here, e) (Twins.and_this n v r)
          | inr e ↦
              let here : same b.name x ≡ false = rw n e in
              rw (here, e) (Twins.and_this n u (twin_update x r v))
        ]

    twin_single : {ts us : List Term} → TwinTerms w g live ts us → TwinTerm w g live (single ts) (single us)
    unfolding single
    twin_single TwinTerms.none_left = twin_term_itself live (Term.num 0)
    twin_single (TwinTerms.and_this x r) = x

    twin_ite : {f h : Formula} {t u t' u' : Term} → TwinFormula w g live f h → TwinTerm w g live t t' → TwinTerm w g live u u' → TwinTerm w g live (Term.ite f t u) (Term.ite h t' u')
    unfolding term_unknowns value
    twin_ite f x y = record { count = rw (f.count, x.count, y.count); values = λ e. rw (f.truths e, x.values e, y.values e) }

    pub twin_compare : (k : Comparison) {t u t' u' : Term} → TwinTerm w g live t t' → TwinTerm w g live u u' → TwinFormula w g live (Formula.compare k t u) (Formula.compare k t' u')
    unfolding formula_unknowns truth_of
    twin_compare k x y = record { count = rw (x.count, y.count); truths = λ e. rw (x.values e, y.values e) }

    twin_select : {ts us : List Term} {i j : Term} (n : ℕ) → TwinTerms w g live ts us → TwinTerm w g live i j → TwinTerm w g live (select ts n i) (select us n j)
    unfolding select
    twin_select n TwinTerms.none_left x = twin_term_itself live (Term.num 0)
    twin_select n (TwinTerms.and_this y TwinTerms.none_left) x = y
    twin_select n (TwinTerms.and_this y (TwinTerms.and_this z r)) x = twin_ite (twin_compare _ x (twin_term_itself live (Term.num n))) y (twin_select (suc n) (TwinTerms.and_this z r) x)

    pub twin_stored : {ts us : List Term} {i j t u : Term} (n : ℕ) → TwinTerms w g live ts us → TwinTerm w g live i j → TwinTerm w g live t u → TwinTerms w g live (stored ts n i t) (stored us n j u)
    unfolding stored
    twin_stored n TwinTerms.none_left x v = TwinTerms.none_left
    twin_stored n (TwinTerms.and_this y r) x v = TwinTerms.and_this (twin_ite (twin_compare _ x (twin_term_itself live (Term.num n))) v y) (twin_stored (suc n) r x v)

    pub twin_inside : {ts us : List Term} {i j : Term} → TwinTerms w g live ts us → TwinTerm w g live i j → TwinFormula w g live (inside ts i) (inside us j)
    twin_inside r x = rw (twin_lengths r) (twin_compare _ x (twin_term_itself live _))

    pub twin_negate : {f h : Formula} → TwinFormula w g live f h → TwinFormula w g live (Formula.negate f) (Formula.negate h)
    unfolding formula_unknowns truth_of
    twin_negate x = record { count = x.count; truths = λ e. rw (x.truths e) }

    -- the second part matters only where the first is true
    pub twin_conj : {f h f' h' : Formula} → TwinFormula w g live f f' → TwinFormula w g (live && truth_of w g f) h h' → TwinFormula w g live (Formula.conj f h) (Formula.conj f' h')
    unfolding formula_unknowns truth_of
    twin_conj {f} x y =
        record {
          count = rw (x.count, y.count);
          truths = λ e.
              elim (cases_Bool (truth_of w g f)) [
                | inl t ↦ rw (← (x.truths e), t) (y.truths (and_from live _ e t))
                | inr t ↦ rw (← (x.truths e), t)
              ];
        }

    -- and here, only where the first is false
    pub twin_disj : {f h f' h' : Formula} → TwinFormula w g live f f' → TwinFormula w g (live && not (truth_of w g f)) h h' → TwinFormula w g live (Formula.disj f h) (Formula.disj f' h')
    unfolding formula_unknowns truth_of
    twin_disj {f} x y =
        record {
          count = rw (x.count, y.count);
          truths = λ e.
              elim (cases_Bool (truth_of w g f)) [
                | inl t ↦ rw (← (x.truths e), t)
                | inr t ↦ rw (← (x.truths e), t) (y.truths (and_from live _ e (rw t)))
              ];
        }

    twin_computes : (k : ArithOp) {t u t' u' : Term} → TwinTerm w g live t t' → TwinTerm w g live u u' → TwinFormula w g live (computes k t u) (computes k t' u')
    unfolding computes formula_unknowns truth_of
    twin_computes Add x y = record { count = rw (x.count, y.count); truths = λ e. rw (x.values e, y.values e) }
    twin_computes Sub x y = twin_compare _ y x
    twin_computes Mul x y = record { count = rw (x.count, y.count); truths = λ e. rw (x.values e, y.values e) }
    twin_computes Div x y = twin_negate (twin_compare _ y (twin_term_itself live (Term.num 0)))
    twin_computes Rem x y = twin_negate (twin_compare _ y (twin_term_itself live (Term.num 0)))

    twin_binary : (k : ArithOp) {t u t' u' : Term} → TwinTerm w g live t t' → TwinTerm w g live u u' → TwinTerm w g live (Term.binary k t u) (Term.binary k t' u')
    unfolding term_unknowns value
    twin_binary k x y = record { count = rw (x.count, y.count); values = λ e. rw (x.values e, y.values e) }

-- Expressions.
module _ {w : ℕ} {g : ℕ → ℕ} {live : Bool} where
  twin_scalar : {ts us : List Term} → TwinTerms w g live ts us → TwinEvaluated w g live (scalar_term ts) (scalar_term us)
  twin_scalar r = record { safe = record { count = refl; truths = λ _. refl }; term = weaker_term _ (λ e. (and_parts live _ e).0) (twin_single r) }

  twin_binary_term : (k : ArithOp) {x y x' y' : Evaluated} → TwinEvaluated w g live x x' → TwinEvaluated w g live y y' → TwinEvaluated w g live (binary_term k x y) (binary_term k x' y')
  unfolding truth_of
  twin_binary_term k {x} {y} p q =
      let sx = truth_of w g x.safe in
      let sy = truth_of w g y.safe in
      let first : TwinTerm w g (live && (sx && sy)) _ _ = weaker_term _ (λ e. let a = and_parts live _ e in and_from live _ a.0 (and_parts sx _ a.1).0) p.term in
      let second : TwinTerm w g (live && (sx && sy)) _ _ = weaker_term _ (λ e. let a = and_parts live _ e in and_from live _ a.0 (and_parts sx _ a.1).1) q.term in
      let safe = twin_conj p.safe (weaker_formula (live && sx) (λ e. (and_parts live _ e).0) q.safe) in
      record {
        safe = twin_conj safe (twin_computes k first second);
        term = weaker_term _ (λ e. let a = and_parts live _ e in and_from live _ a.0 (and_parts (sx && sy) _ a.1).0) (twin_binary k first second);
      }

  twin_element : {ts us : List Term} {x y : Evaluated} → TwinTerms w g live ts us → TwinEvaluated w g live x y → TwinEvaluated w g live (element_term ts x) (element_term us y)
  unfolding truth_of
  twin_element {x} r p =
      let rows = weaker_terms (live && truth_of w g x.safe) (λ e. (and_parts live _ e).0) r in
      record {
        safe = twin_conj p.safe (twin_inside rows p.term);
        term = weaker_term _ (λ e. let a = and_parts live _ e in and_from live _ a.0 (and_parts (truth_of w g x.safe) _ a.1).0) (twin_select 0 rows p.term);
      }

module _ (w : ℕ) (lit lit' : ℕ → ℕ) (agree : (n : ℕ) → n < 2 ^ w → lit n ≡ lit' n) (g : ℕ → ℕ) where
  abbrev one : Setting
  one = record { width = w; literal = lit }

  abbrev other : Setting
  other = record { width = w; literal = lit' }

  twin_literal : (live : Bool) (n : ℕ) → TwinEvaluated w g live (literal_term one n) (literal_term other n)
  unfolding term_unknowns value truth_of
  twin_literal live n =
      record {
        safe = record { count = refl; truths = λ _. refl };
        term = record {
          count = refl;
          values = λ e.
              elim (cases_Bool (ltb n (2 ^ w))) [
                | inl h ↦ agree n (ltb-true n (2 ^ w) h)
                | inr h ↦ absurd (both_ways false refl (and_parts live _ (rw h at e)).1)
              ];
        };
      }

  pub twin_expr : {live : Bool} {s s' o o' : Store} (e : Expr) → Twins w g live s s' → Twins w g live o o' → TwinEvaluated w g live (symbolic_expr (record { width = w; literal = lit }) s o e) (symbolic_expr (record { width = w; literal = lit' }) s' o' e)
  unfolding symbolic_expr
  twin_expr {live} (Expr.num n) r q = twin_literal live n
  twin_expr (Expr.var x) r q = twin_scalar (twin_lookup x r)
  twin_expr (Expr.old x) r q = twin_scalar (twin_lookup x q)
  twin_expr (Expr.binary k a b) r q = twin_binary_term k (twin_expr a r q) (twin_expr b r q)
  twin_expr (Expr.index x i) r q = twin_element (twin_lookup x r) (twin_expr i r q)
  twin_expr (Expr.old_index x i) r q = twin_element (twin_lookup x q) (twin_expr i r q)

-- Booleans: where the right side is looked at.
right_of_both : (l s f t : Bool) → (l && (s && (not f || t)) && f) ≡ true → (l && t) ≡ true
right_of_both false s f t h = h
right_of_both true false f t h = absurd (both_ways false refl h)
right_of_both true true false t h = absurd (both_ways false refl h)
right_of_both true true true true h = refl
right_of_both true true true false h = absurd (both_ways false refl h)

right_of_either : (l s f t : Bool) → (l && (s && (f || t)) && not f) ≡ true → (l && t) ≡ true
right_of_either false s f t h = h
right_of_either true false f t h = absurd (both_ways false refl h)
right_of_either true true true t h = absurd (both_ways false refl h)
right_of_either true true false true h = refl
right_of_either true true false false h = absurd (both_ways false refl h)

right_of_implied : (l s f t : Bool) → (l && (s && (not f || t)) && not (not f)) ≡ true → (l && t) ≡ true
right_of_implied false s f t h = h
right_of_implied true false f t h = absurd (both_ways false refl h)
right_of_implied true true false t h = absurd (both_ways false refl h)
right_of_implied true true true true h = refl
right_of_implied true true true false h = absurd (both_ways false refl h)

pub left_safe : (l s t : Bool) → (l && (s && t)) ≡ true → (l && s) ≡ true
left_safe l s t h =
    let a = and_parts l _ h in
    and_from l _ a.0 (and_parts s _ a.1).0

module _ {w : ℕ} {g : ℕ → ℕ} {live : Bool} where
  twin_certain : TwinJudged w g live certain certain
  twin_certain = record { safe = record { count = refl; truths = λ _. refl }; formula = record { count = refl; truths = λ _. refl } }

  twin_compared : (k : Comparison) {x y x' y' : Evaluated} → TwinEvaluated w g live x x' → TwinEvaluated w g live y y' → TwinJudged w g live (compared k x y) (compared k x' y')
  unfolding truth_of
  twin_compared k {x} {y} p q =
      let sx = truth_of w g x.safe in
      let sy = truth_of w g y.safe in
      let first : TwinTerm w g (live && (sx && sy)) _ _ = weaker_term _ (λ e. left_safe live sx sy e) p.term in
      let second : TwinTerm w g (live && (sx && sy)) _ _ = weaker_term _ (λ e. let a = and_parts live _ e in and_from live _ a.0 (and_parts sx _ a.1).1) q.term in
      record { safe = twin_conj p.safe (weaker_formula (live && sx) (λ e. (and_parts live _ e).0) q.safe); formula = twin_compare k first second }

  module _ {x y x' y' : Judged} (p : TwinJudged w g live x x') (q : TwinJudged w g live y y') where
    -- the right side's safety, where it counts at all
    right_safe : (m : Bool) → TwinFormula w g ((live && truth_of w g x.safe) && m) y.safe y'.safe
    right_safe m = weaker_formula _ (λ e. (and_parts live _ (and_parts (live && truth_of w g x.safe) _ e).0).0) q.safe

    pub twin_both : TwinJudged w g live (both x y) (both x' y')
    unfolding truth_of
    twin_both =
        record {
          safe = twin_conj p.safe (twin_disj (twin_negate p.formula) (right_safe _));
          formula = twin_conj (weaker_formula _ (λ e. left_safe live _ _ e) p.formula) (weaker_formula _ (λ e. right_of_both live (truth_of w g x.safe) (truth_of w g x.formula) _ e) q.formula);
        }

    twin_either : TwinJudged w g live (either x y) (either x' y')
    unfolding truth_of
    twin_either =
        record {
          safe = twin_conj p.safe (twin_disj p.formula (right_safe _));
          formula = twin_disj (weaker_formula _ (λ e. left_safe live _ _ e) p.formula) (weaker_formula _ (λ e. right_of_either live (truth_of w g x.safe) (truth_of w g x.formula) _ e) q.formula);
        }

    twin_implied : TwinJudged w g live (implied x y) (implied x' y')
    unfolding truth_of
    twin_implied =
        record {
          safe = twin_conj p.safe (twin_disj (twin_negate p.formula) (right_safe _));
          formula = twin_disj (twin_negate (weaker_formula _ (λ e. left_safe live _ _ e) p.formula)) (weaker_formula _ (λ e. right_of_implied live (truth_of w g x.safe) (truth_of w g x.formula) _ e) q.formula);
        }

  twin_opposite : {x x' : Judged} → TwinJudged w g live x x' → TwinJudged w g live (opposite x) (opposite x')
  twin_opposite p = record { safe = p.safe; formula = twin_negate p.formula }

  twin_every : (n : ℕ) (f h : ℕ → Judged) → ((i : ℕ) → TwinJudged w g live (f i) (h i)) → TwinJudged w g live (every n f) (every n h)
  unfolding every
  twin_every zero f h p = twin_certain
  twin_every (suc n) f h p = twin_both (twin_every n f h p) (p n)

  pub twin_assured : {x x' : Judged} → TwinJudged w g live x x' → TwinFormula w g live (assured x) (assured x')
  twin_assured p = twin_conj p.safe p.formula

module _ (w : ℕ) (lit lit' : ℕ → ℕ) (agree : (n : ℕ) → n < 2 ^ w → lit n ≡ lit' n) (g : ℕ → ℕ) where
  pub twin_bool : {live : Bool} {s s' o o' : Store} (b : BoolExpr) → Twins w g live s s' → Twins w g live o o' → TwinJudged w g live (symbolic_bool (record { width = w; literal = lit }) s o b) (symbolic_bool (record { width = w; literal = lit' }) s' o' b)
  unfolding symbolic_bool
  twin_bool BoolExpr.truth r q = twin_certain
  twin_bool (BoolExpr.compare k a b) r q = twin_compared k (twin_expr w lit lit' agree g a r q) (twin_expr w lit lit' agree g b r q)
  twin_bool (BoolExpr.conj a b) r q = twin_both (twin_bool a r q) (twin_bool b r q)
  twin_bool (BoolExpr.disj a b) r q = twin_either (twin_bool a r q) (twin_bool b r q)
  twin_bool (BoolExpr.implies a b) r q = twin_implied (twin_bool a r q) (twin_bool b r q)
  twin_bool (BoolExpr.negate a) r q = twin_opposite (twin_bool a r q)
  twin_bool {live} (BoolExpr.for_all x n a) r q = twin_every n _ _ (λ i. twin_bool a (Twins.and_this refl (twin_terms_itself live (Term.num i ∷ [])) r) q)
