-- Evaluation in a state and the value of the term agree, and so do what a boolean says and the truth of its formula.
use Rattle.std.proofs.Common.{◌≡◌, ℕ, zero, suc, ◌+◌, ◌-◌, ◌*◌, ◌%◌, ◌^◌, ◌<◌, ◌≤◌, Bool, true, false, cond, not, ◌&&◌, ◌||◌, eqb, ltb, leb, List, [], ◌∷◌, map, length, is_some, Some, None, Option, refl, ap, ◌∙◌, inl, inr, mod-lt, mod-eq_of_lt, div-le_self, arith}
use native.Mathlib.Nat.{add-mod_right, mod-le}
use Rattle.std.proofs.lemmas.Bool.{both_ways, cases_Bool, and_parts, ltb-true, ltb-false, leb-true, le-leb, lt-leb, eq-eqb, ne_eqb}
use Rattle.std.specs.List.{slice_get}
use Rattle.lang.specs.Base.{◌>>=◌, when, maybe, Word, same}
use Rattle.lang.specs.Meaning.{State, values_of, fits, compute, scalar, element, eval, compares, bind, all_below, holds, count}
use Rattle.lang.specs.Soundness.{find_decl, is_scalar, is_row, sound_expr, sound_bool}
use Rattle.lang.specs.Syntax.{Decl, Expr, BoolExpr}
use Rattle.lang.specs.declared.syntax.ArithOp.{ArithOp}
use Rattle.lang.specs.declared.syntax.ArithOp.TheVariants.{Add, Sub, Mul, Div, Rem}
use Rattle.lang.specs.declared.syntax.Comparison.{Comparison}
use Rattle.vc.specs.Symbolic.{Setting, Store, lookup, single, select, Evaluated, computes, literal_term, scalar_term, binary_term, element_term, symbolic_expr, Judged, compared, both, either, implied, opposite, every, bind_term, symbolic_bool}
use Rattle.vc.specs.Terms.{Term, wrapped, value, truth_of}
use Rattle.vc.specs.Theorem.{Small}

pub some_injective : {A : Type 0} {x y : A} → Some x ≡ Some y → x ≡ y
some_injective e = cc

-- the numbers of a row of terms
abbrev pub values : ℕ → (ℕ → ℕ) → List Term → List ℕ
values w g ts = map (value w g) ts

-- what a state says of a name with declaration d, and the terms of that name
pub record Known (w : ℕ) (g : ℕ → ℕ) (d : Decl) (vs : Option (List ℕ)) (ts : List Term) : Type 0 where
  pub is : vs ≡ Some (values w g ts)
  pub many : length ts ≡ count d
  pub small : Small w (values w g ts)

-- a state and a store agree on the names ds
pub record Knows (w : ℕ) (g : ℕ → ℕ) (ds : List Decl) (st : State) (s : Store) : Type 0 where
  pub at : (x : Word) (d : Decl) → find_decl ds x ≡ Some d → Known w g d (values_of st x) (lookup s x)

-- what an expression evaluates to, and its term
pub record Agrees (w : ℕ) (g : ℕ → ℕ) (r : Option ℕ) (t : Evaluated) : Type 0 where
  pub is : r ≡ when (truth_of w g t.safe) (Some (value w g t.term))
  pub small : truth_of w g t.safe ≡ true → value w g t.term < 2 ^ w

-- what a boolean says, and its formula
pub record Settles (w : ℕ) (g : ℕ → ℕ) (r : Option Bool) (x : Judged) : Type 0 where
  pub is : r ≡ when (truth_of w g x.safe) (Some (truth_of w g x.formula))

-- Names that are there.
pub record Found (ds : List Decl) (x : Word) (t : Decl → Bool) : Type 0 where
  pub decl : Decl
  pub is : find_decl ds x ≡ Some decl
  pub meets : t decl ≡ true

found_from : (ds : List Decl) (x : Word) (t : Decl → Bool) (o : Option Decl) → find_decl ds x ≡ o → maybe o false t ≡ true → Found ds x t
found_from ds x t None e h = let z : ◌≡◌ {A = ℕ} 0 1 = cc in absurd (omega arith)
found_from ds x t (Some d) e h = record { decl = d; is = e; meets = h }

pub found : (ds : List Decl) (x : Word) (t : Decl → Bool) → maybe (find_decl ds x) false t ≡ true → Found ds x t
found ds x t h = found_from ds x t (find_decl ds x) refl h

-- Arithmetic.
module _ (w : ℕ) where
  -- the result of a computation that does not fail is that of w bits
  wrapped_small : (n : ℕ) → ltb n (2 ^ w) ≡ true → n % 2 ^ w ≡ n
  wrapped_small n e = mod-eq_of_lt (ltb-true n (2 ^ w) e)

  sub_wraps : (x y : ℕ) → x < 2 ^ w → y ≤ x → (x + 2 ^ w - y) % 2 ^ w ≡ x - y
  sub_wraps x y h l =
      let e : x + 2 ^ w - y ≡ x - y + 2 ^ w = omega arith in
      rw e (add-mod_right (x - y) (2 ^ w) ∙ mod-eq_of_lt (omega arith))

  fits_wraps : (n : ℕ) → when (ltb n (2 ^ w)) (Some n) ≡ when (ltb n (2 ^ w)) (Some (n % 2 ^ w))
  fits_wraps n = elim (cases_Bool (ltb n (2 ^ w))) [ inl e ↦ rw (e, wrapped_small n e) | inr e ↦ rw e ]

  pub compute_agrees : (g : ℕ → ℕ) (k : ArithOp) (a b : Term) → value w g a < 2 ^ w → compute w k (value w g a) (value w g b) ≡ when (truth_of w g (computes k a b)) (Some (wrapped w k (value w g a) (value w g b)))
  unfolding compute truth_of computes wrapped compares
  compute_agrees g Add a b h = fits_wraps (value w g a + value w g b)
  compute_agrees g Sub a b h =
      elim (cases_Bool (ltb (value w g a) (value w g b))) [ inl e ↦ rw (e, lt-leb _ _ (ltb-true _ _ e)) | inr e ↦ rw (e, le-leb _ _ (ltb-false _ _ e), sub_wraps _ _ h (ltb-false _ _ e)) ]
  compute_agrees g Mul a b h = fits_wraps (value w g a * value w g b)
  compute_agrees g Div a b h = elim (cases_Bool (eqb (value w g b) 0)) [ inl e ↦ rw e | inr e ↦ rw e ]
  compute_agrees g Rem a b h = elim (cases_Bool (eqb (value w g b) 0)) [ inl e ↦ rw e | inr e ↦ rw e ]

  wrapped_below : (k : ArithOp) (x y : ℕ) → x < 2 ^ w → y < 2 ^ w → wrapped w k x y < 2 ^ w
  unfolding wrapped
  wrapped_below Add x y h l = mod-lt (x + y) (omega arith)
  wrapped_below Sub x y h l = mod-lt (x + 2 ^ w - y) (omega arith)
  wrapped_below Mul x y h l = mod-lt (x * y) (omega arith)
  wrapped_below Div x y h l = elim (cases_Bool (eqb y 0)) [ inl e ↦ rw e (omega arith) | inr e ↦ rw e (omega (arith, div-le_self x y)) ]
  wrapped_below Rem x y h l = elim (cases_Bool (eqb y 0)) [ inl e ↦ rw e (omega arith) | inr e ↦ rw e (omega (arith, mod-le x y)) ]

-- Rows.
small_at : {w : ℕ} {ns : List ℕ} {n : ℕ} (i : ℕ) → Small w ns → slice_get ns i ≡ Some n → n < 2 ^ w
small_at i Small.none_left e = let z : ◌≡◌ {A = ℕ} 0 1 = cc in absurd (omega arith)
small_at zero (Small.and_this h l) e = rw (some_injective e) at h
small_at (suc i) (Small.and_this h l) e = small_at i l e

module _ (w : ℕ) (g : ℕ → ℕ) where
  -- the term at a place is the row's, for a place inside
  select_at : (ts : List Term) (n j : ℕ) (i : Term) → value w g i ≡ n + j → j < length ts → slice_get (values w g ts) j ≡ Some (value w g (select ts n i))
  unfolding select value truth_of compares
  select_at [] n j i e h = absurd (omega arith)
  select_at (t ∷ []) n zero i e h = refl
  select_at (t ∷ []) n (suc j) i e h = absurd (omega arith)
  select_at (t ∷ u ∷ ts) n zero i e h = rw (eq-eqb (value w g i) n (omega arith))
  select_at (t ∷ u ∷ ts) n (suc j) i e h = rw (ne_eqb (value w g i) n (λ q. omega arith)) (select_at (u ∷ ts) (suc n) j i (omega arith) (omega arith))

  nth_none : (ts : List Term) (j : ℕ) → length ts ≤ j → slice_get (values w g ts) j ≡ None
  nth_none [] j h = refl
  nth_none (t ∷ ts) zero h = absurd (omega arith)
  nth_none (t ∷ ts) (suc j) h = nth_none ts j (omega arith)

  -- Expressions.
  literal_agrees : (c : Setting) → ((n : ℕ) → n < 2 ^ c.width → c.literal n ≡ n) → c.width ≡ w → (n : ℕ) → Agrees w g (fits w n) (literal_term c n)
  unfolding value truth_of
  literal_agrees c f e n =
      elim (cases_Bool (ltb n (2 ^ w))) [
        | inl h ↦
            let same = f n (rw e (ltb-true n (2 ^ w) h)) in
            record { is = rw (e, h, same); small = λ _. rw same (ltb-true n (2 ^ w) h) }
        | inr h ↦ record { is = rw (e, h); small = λ t. absurd (both_ways false refl (rw (e, h) at t)) }
      ]

  scalar_agrees : (o : Option (List ℕ)) (ts : List Term) → o ≡ Some (values w g ts) → length ts ≡ 1 → Small w (values w g ts) → Agrees w g (o >>= λ vs. when (eqb (length vs) 1) (slice_get vs 0)) (scalar_term ts)
  unfolding value truth_of single
  scalar_agrees o [] e l s = absurd (omega arith)
  scalar_agrees o (t ∷ []) e l s = record { is = rw e; small = λ _. small_at 0 s refl }
  scalar_agrees o (t ∷ u ∷ ts) e l s = absurd (omega arith)

  binary_agrees : (k : ArithOp) (a b : Option ℕ) (x y : Evaluated) → Agrees w g a x → Agrees w g b y → Agrees w g (a >>= λ n. b >>= λ m. compute w k n m) (binary_term k x y)
  unfolding value truth_of
  binary_agrees k a b x y p q =
      record {
        is =
            elim (cases_Bool (truth_of w g x.safe)) [
              | inl e ↦ elim (cases_Bool (truth_of w g y.safe)) [ inl f ↦ rw (p.is, q.is, e, f) (compute_agrees w g k x.term y.term (p.small e)) | inr f ↦ rw (p.is, q.is, e, f) ]
              | inr e ↦ rw (p.is, e)
            ];
        small = λ t.
            let parts = and_parts (truth_of w g x.safe) _ (and_parts (truth_of w g x.safe && truth_of w g y.safe) _ t).0 in
            wrapped_below w k _ _ (p.small parts.0) (q.small parts.1);
      }

  element_agrees : (o : Option (List ℕ)) (ts : List Term) (a : Option ℕ) (x : Evaluated) → o ≡ Some (values w g ts) → Small w (values w g ts) → Agrees w g a x → Agrees w g (a >>= λ n. o >>= λ vs. slice_get vs n) (element_term ts x)
  unfolding value truth_of compares
  element_agrees o ts a x e s p =
      let at : ltb (value w g x.term) (length ts) ≡ true → slice_get (values w g ts) (value w g x.term) ≡ Some (value w g (select ts 0 x.term)) =
      λ h. select_at ts 0 (value w g x.term) x.term (omega arith) (ltb-true _ _ h) in
      record {
        is =
            elim (cases_Bool (truth_of w g x.safe)) [
              | inl f ↦ elim (cases_Bool (ltb (value w g x.term) (length ts))) [ inl h ↦ rw (p.is, f, e, h) (at h) | inr h ↦ rw (p.is, f, e, h) (nth_none ts _ (ltb-false _ _ h)) ]
              | inr f ↦ rw (p.is, f)
            ];
        small = λ t. small_at _ s (at (and_parts (truth_of w g x.safe) _ t).1);
      }

-- one: the name has one number
count_one : (d : Decl) → eqb d.size 0 ≡ true → count d ≡ 1
count_one d e = rw e

module _ (w : ℕ) (lit : ℕ → ℕ) (faithful : (n : ℕ) → n < 2 ^ w → lit n ≡ n) (g : ℕ → ℕ) where
  abbrev setting : Setting
  setting = record { width = w; literal = lit }

  named_agrees : (ds : List Decl) (st : State) (s : Store) (x : Word) → Knows w g ds st s → is_scalar ds x ≡ true → Agrees w g (scalar st x) (scalar_term (lookup s x))
  named_agrees ds st s x k h =
      let f = found ds x (λ d. eqb d.size 0) h in
      let v = k.at x f.decl f.is in
      scalar_agrees w g (values_of st x) (lookup s x) v.is (v.many ∙ count_one f.decl f.meets) v.small

  row_agrees : (ds : List Decl) (st : State) (s : Store) (x : Word) (a : Option ℕ) (i : Evaluated) → Knows w g ds st s → is_row ds x ≡ true → Agrees w g a i → Agrees w g (a >>= λ n. element st x n) (element_term (lookup s x) i)
  row_agrees ds st s x a i k h p =
      let f = found ds x (λ d. not (eqb d.size 0)) h in
      let v = k.at x f.decl f.is in
      element_agrees w g (values_of st x) (lookup s x) a i v.is v.small p

  pub expr_agrees : (ds os : List Decl) (st o : State) (s so : Store) (e : Expr) → Knows w g ds st s → Knows w g os o so → sound_expr ds os e ≡ true → Agrees w g (eval w st o e) (symbolic_expr (record { width = w; literal = lit }) s so e)
  unfolding eval symbolic_expr sound_expr
  expr_agrees ds os st o s so (Expr.num n) k l h = literal_agrees w g setting faithful refl n
  expr_agrees ds os st o s so (Expr.var x) k l h = named_agrees ds st s x k h
  expr_agrees ds os st o s so (Expr.old x) k l h = named_agrees os o so x l h
  expr_agrees ds os st o s so (Expr.binary op a b) k l h =
      let parts = and_parts (sound_expr ds os a) _ h in
      binary_agrees w g op _ _ _ _ (expr_agrees ds os st o s so a k l parts.0) (expr_agrees ds os st o s so b k l parts.1)
  expr_agrees ds os st o s so (Expr.index x i) k l h =
      let parts = and_parts (is_row ds x) _ h in
      row_agrees ds st s x _ _ k parts.0 (expr_agrees ds os st o s so i k l parts.1)
  expr_agrees ds os st o s so (Expr.old_index x i) k l h =
      let parts = and_parts (is_row os x) _ h in
      row_agrees os o so x _ _ l parts.0 (expr_agrees ds os st o s so i k l parts.1)

-- Booleans.
module _ (w : ℕ) (g : ℕ → ℕ) where
  compared_settles : (c : Comparison) (a b : Option ℕ) (x y : Evaluated) → Agrees w g a x → Agrees w g b y → Settles w g (a >>= λ n. b >>= λ m. Some (compares c n m)) (compared c x y)
  unfolding truth_of
  compared_settles c a b x y p q =
      record { is = elim (cases_Bool (truth_of w g x.safe)) [ inl e ↦ elim (cases_Bool (truth_of w g y.safe)) [ inl f ↦ rw (p.is, q.is, e, f) | inr f ↦ rw (p.is, q.is, e, f) ] | inr e ↦ rw (p.is, e) ] }

  both_is : (s f t h : Bool) → (when s (Some f) >>= λ x. cond x (when t (Some h)) (Some false)) ≡ when (s && (not f || t)) (Some (f && h))
  both_is false f t h = refl
  both_is true false t h = refl
  both_is true true false h = refl
  both_is true true true h = refl

  either_is : (s f t h : Bool) → (when s (Some f) >>= λ x. cond x (Some true) (when t (Some h))) ≡ when (s && (f || t)) (Some (f || h))
  either_is false f t h = refl
  either_is true true t h = refl
  either_is true false false h = refl
  either_is true false true h = refl

  implied_is : (s f t h : Bool) → (when s (Some f) >>= λ x. cond x (when t (Some h)) (Some true)) ≡ when (s && (not f || t)) (Some (not f || h))
  implied_is false f t h = refl
  implied_is true false t h = refl
  implied_is true true false h = refl
  implied_is true true true h = refl

  opposite_is : (s f : Bool) → (when s (Some f) >>= λ x. Some (not x)) ≡ when s (Some (not f))
  opposite_is false f = refl
  opposite_is true f = refl

  both_settles : (a b : Option Bool) (x y : Judged) → Settles w g a x → Settles w g b y → Settles w g (a >>= λ n. cond n b (Some false)) (both x y)
  unfolding truth_of
  both_settles a b x y p q = record { is = rw (p.is, q.is) (both_is (truth_of w g x.safe) (truth_of w g x.formula) (truth_of w g y.safe) (truth_of w g y.formula)) }

  either_settles : (a b : Option Bool) (x y : Judged) → Settles w g a x → Settles w g b y → Settles w g (a >>= λ n. cond n (Some true) b) (either x y)
  unfolding truth_of
  either_settles a b x y p q = record { is = rw (p.is, q.is) (either_is (truth_of w g x.safe) (truth_of w g x.formula) (truth_of w g y.safe) (truth_of w g y.formula)) }

  implied_settles : (a b : Option Bool) (x y : Judged) → Settles w g a x → Settles w g b y → Settles w g (a >>= λ n. cond n b (Some true)) (implied x y)
  unfolding truth_of
  implied_settles a b x y p q = record { is = rw (p.is, q.is) (implied_is (truth_of w g x.safe) (truth_of w g x.formula) (truth_of w g y.safe) (truth_of w g y.formula)) }

  opposite_settles : (a : Option Bool) (x : Judged) → Settles w g a x → Settles w g (a >>= λ n. Some (not n)) (opposite x)
  unfolding truth_of
  opposite_settles a x p = record { is = rw p.is (opposite_is (truth_of w g x.safe) (truth_of w g x.formula)) }

  every_settles : (n : ℕ) (f : ℕ → Option Bool) (h : ℕ → Judged) → ((i : ℕ) → i < n → Settles w g (f i) (h i)) → Settles w g (all_below n f) (every n h)
  unfolding all_below every truth_of
  every_settles zero f h p = record { is = refl }
  every_settles (suc n) f h p = both_settles (all_below n f) (f n) (every n h) (h n) (every_settles n f h (λ i l. p i (omega arith))) (p n (omega arith))

  -- a bound name is known
  bind_knows : (ds : List Decl) (st : State) (s : Store) (x : Word) (i : ℕ) → Knows w g ds st s → i < 2 ^ w → Knows w g (record { name = x; size = 0 } ∷ ds) (bind st x i) (bind_term s x i)
  unfolding values_of lookup find_decl value
  bind_knows ds st s x i k l =
      record {
        at = λ y d e.
            elim (cases_Bool (same x y)) [
              | inl h ↦
                  let is : record { name = x; size = 0 } ≡ d = some_injective (rw h at e) in
                  let one : 1 ≡ count d = ap count is in
                  rw h (record { is = refl; many = one; small = Small.and_this l Small.none_left })
              | inr h ↦ rw h (k.at y d (rw h at e))
            ];
      }

module _ (w : ℕ) (lit : ℕ → ℕ) (faithful : (n : ℕ) → n < 2 ^ w → lit n ≡ n) (g : ℕ → ℕ) where
  pub bool_agrees : (n : ℕ) (ds os : List Decl) (st o : State) (s so : Store) (b : BoolExpr) → Knows w g ds st s → Knows w g os o so → sound_bool w n ds os b ≡ true → Settles w g (holds w st o b) (symbolic_bool (record { width = w; literal = lit }) s so b)
  unfolding holds symbolic_bool sound_bool
  bool_agrees n ds os st o s so BoolExpr.truth k l h = unfold truth_of in record { is = refl }
  bool_agrees n ds os st o s so (BoolExpr.compare c a b) k l h =
      let parts = and_parts (sound_expr ds os a) _ h in
      compared_settles w g c _ _ _ _ (expr_agrees w lit faithful g ds os st o s so a k l parts.0) (expr_agrees w lit faithful g ds os st o s so b k l parts.1)
  bool_agrees n ds os st o s so (BoolExpr.conj a b) k l h =
      let parts = and_parts (sound_bool w n ds os a) _ h in
      both_settles w g _ _ _ _ (bool_agrees n ds os st o s so a k l parts.0) (bool_agrees n ds os st o s so b k l parts.1)
  bool_agrees n ds os st o s so (BoolExpr.disj a b) k l h =
      let parts = and_parts (sound_bool w n ds os a) _ h in
      either_settles w g _ _ _ _ (bool_agrees n ds os st o s so a k l parts.0) (bool_agrees n ds os st o s so b k l parts.1)
  bool_agrees n ds os st o s so (BoolExpr.implies a b) k l h =
      let parts = and_parts (sound_bool w n ds os a) _ h in
      implied_settles w g _ _ _ _ (bool_agrees n ds os st o s so a k l parts.0) (bool_agrees n ds os st o s so b k l parts.1)
  bool_agrees n ds os st o s so (BoolExpr.negate a) k l h = opposite_settles w g _ _ (bool_agrees n ds os st o s so a k l h)
  bool_agrees n ds os st o s so (BoolExpr.for_all x m a) k l h =
      let p = and_parts (ltb n 2) _ h in
      let q = and_parts (leb m 16) _ p.1 in
      let r = and_parts (leb m (2 ^ w)) _ q.1 in
      let t = and_parts (not (is_some (find_decl ds x))) _ r.1 in
      let most = leb-true _ _ r.0 in
      every_settles w g m _ _ (λ i j. bool_agrees (suc n) (record { name = x; size = 0 } ∷ ds) os (bind st x i) o (bind_term s x i) so a (bind_knows w g ds st s x i k (omega arith)) l t.1)
