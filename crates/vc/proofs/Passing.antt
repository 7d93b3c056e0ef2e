-- Arguments: handing over numbers and terms, and handing numbers back.
use Rattle.std.proofs.Common.{◌≡◌, ℕ, true, false, not, eqb, List, [], ◌∷◌, ◌++◌, map, length, take, drop, Some, Option, sym, refl, ap, ◌∙◌, inl, inr, arith, take-append-drop}
use Rattle.std.proofs.lemmas.List.{length-map}
use Rattle.std.proofs.lemmas.Bool.{cases_Bool, and_parts, and_from, or_parts, or_from, not-true, not_from_false, eqb-true, eq-eqb, both_ways}
use Rattle.lang.specs.Base.{maybe, Word, same, among, distinct}
use Rattle.lang.specs.Meaning.{Cell, State, values_of, write, count, pass, pass_back}
use Rattle.lang.specs.Soundness.{find_decl, same_sizes, decl_name}
use Rattle.lang.specs.Syntax.{Decl}
use Rattle.vc.proofs.Agreement.{values, found, Knows}
use Rattle.vc.proofs.Reaching.{cell_is}
use Rattle.vc.proofs.States.{state_of, fits_write, Outside, outside_same, outside_then, outside_weaker, outside_write}
use Rattle.vc.specs.Conditions.{pass_terms}
use Rattle.vc.specs.Symbolic.{Store, lookup}
use Rattle.vc.specs.Terms.{value}
use Rattle.vc.specs.Theorem.{Fits}

-- Words.
pub same_is : (x y : Word) → same x y ≡ true → x ≡ y
same_is [] [] e = refl
same_is [] (b ∷ y) e = absurd (both_ways false refl e)
same_is (a ∷ x) [] e = absurd (both_ways false refl e)
same_is (a ∷ x) (b ∷ y) e =
    let p = and_parts (eqb a b) _ e in
    rw (eqb-true a b p.0, same_is x y p.1)

pub same_itself : (x : Word) → same x x ≡ true
same_itself [] = refl
same_itself (a ∷ x) = and_from (eqb a a) _ (eq-eqb a a refl) (same_itself x)

-- a name with the size of another has as many numbers
count_sizes : (d e : Decl) → eqb d.size e.size ≡ true → count d ≡ count e
count_sizes d e h = rw (eqb-true _ _ h)

-- Handing over.
pub record Passed (w : ℕ) (g : ℕ → ℕ) (ps : List Decl) (o : Option State) (s : Store) : Type 0 where
  pub is : o ≡ Some (state_of w g s)
  pub fits : Fits w ps (state_of w g s)

module _ (w : ℕ) (g : ℕ → ℕ) (ds : List Decl) (st : State) (s : Store) (k : Knows w g ds st s) where
  pub passed : (ps : List Decl) (xs : List Word) → same_sizes ds ps xs ≡ true → Passed w g ps (pass st ps xs) (pass_terms s ps xs)
  unfolding pass pass_terms same_sizes
  passed [] [] h = record { is = refl; fits = Fits.none_left }
  passed [] (x ∷ xs) h = absurd (both_ways false refl h)
  passed (p ∷ ps) [] h = absurd (both_ways false refl h)
  passed (p ∷ ps) (x ∷ xs) h =
      let q = and_parts (maybe (find_decl ds x) false (λ d. eqb d.size p.size)) _ h in
      let d = found ds x (λ d. eqb d.size p.size) q.0 in
      let v = k.at x d.decl d.is in
      let rest = passed ps xs q.1 in
      let many : length (values w g (lookup s x)) ≡ count p = length-map (lookup s x) (value w g) ∙ v.many ∙ count_sizes d.decl p d.meets in
      record { is = rw (v.is, rest.is); fits = Fits.and_this refl many v.small rest.fits }

-- the names ps read in t are those of the cells
data Reads (t : State) : List Decl → State → Type 0 where
  none_left : Reads t [] []
  and_this : {p : Decl} {c : Cell} {ps : List Decl} {cs : State} → values_of t p.name ≡ Some c.values → Reads t ps cs → Reads t (p ∷ ps) (c ∷ cs)

reads_later : {t : State} (c : Cell) {ps : List Decl} {cs : State} → among c.name (map decl_name ps) ≡ false → Reads t ps cs → Reads (c ∷ t) ps cs
unfolding values_of
reads_later c h Reads.none_left = Reads.none_left
reads_later c h (Reads.and_this {p = p} e r) =
    let q = or_parts (same c.name p.name) _ h in
    Reads.and_this (rw q.0 e) (reads_later c q.1 r)

reads : {w : ℕ} {ps : List Decl} {cs : State} (rest : State) → Fits w ps cs → distinct (map decl_name ps) ≡ true → Reads (cs ++ rest) ps cs
unfolding values_of
reads rest Fits.none_left h = Reads.none_left
reads rest (Fits.and_this {d = p} {c = c} {ds = ps} n l s r) h =
    let q = and_parts (not (among p.name (map decl_name ps))) _ h in
    let first : same c.name p.name ≡ true = rw n (same_itself p.name) in
    Reads.and_this (rw first) (reads_later c (rw n (not-true _ q.0)) (reads rest r q.1))

-- Handing back.
values_outside : {xs : List Word} {a b : State} (x : Word) → Outside xs a b → among x xs ≡ false → values_of b x ≡ values_of a x
unfolding values_of
values_outside x Outside.none_left h = refl
values_outside {xs} x (Outside.and_this {a = c} n v r) h =
    elim (cases_Bool (same c.name x)) [
      | inl e ↦
          let apart : among c.name xs ≡ false = rw (same_is c.name x e) h in
          rw (n, e, v apart)
      | inr e ↦ rw (n, e) (values_outside x r h)
    ]

values_written : {w : ℕ} {ds : List Decl} {st : State} (x : Word) (d : Decl) (vs : List ℕ) → Fits w ds st → find_decl ds x ≡ Some d → values_of (write st x vs) x ≡ Some vs
unfolding find_decl values_of write
values_written x d vs Fits.none_left e = let z : ◌≡◌ {A = ℕ} 0 1 = cc in absurd (omega arith)
values_written x d vs (Fits.and_this {c = c} n l s r) e = elim (cases_Bool (same c.name x)) [ inl h ↦ rw (h, h) | inr h ↦ rw (h, h) (values_written x d vs r (rw (← n, h) at e)) ]

pub record Back (w : ℕ) (ds ps : List Decl) (xs : List Word) (st : State) (o : Option State) (cells : State) : Type 0 where
  pub state : State
  pub is : o ≡ Some state
  pub fits : Fits w ds state
  pub outside : Outside xs st state
  -- handed over again, the arguments give the parameters as they were
  pub again : pass state ps xs ≡ Some cells

handed_back : {w : ℕ} {ds : List Decl} (t : State) (ps : List Decl) (xs : List Word) (cells st : State) → Reads t ps cells → Fits w ps cells → same_sizes ds ps xs ≡ true → distinct xs ≡ true → Fits w ds st → Back w ds ps xs st (pass_back st t ps xs) cells
unfolding pass pass_back same_sizes
handed_back t [] [] [] st r f h a g = record { state = st; is = refl; fits = g; outside = outside_same [] st; again = refl }
handed_back t [] [] (c ∷ cells) st r f h a g = elim f [ ]
handed_back t [] (x ∷ xs) cells st r f h a g = absurd (both_ways false refl h)
handed_back t (p ∷ ps) [] cells st r f h a g = absurd (both_ways false refl h)
handed_back t (p ∷ ps) (x ∷ xs) [] st r f h a g = elim f [ ]
handed_back {w} {ds} t (p ∷ ps) (x ∷ xs) (c ∷ cells) st (Reads.and_this e r) (Fits.and_this n l s f) h a g =
    let q = and_parts (maybe (find_decl ds x) false (λ d. eqb d.size p.size)) _ h in
    let d = found ds x (λ d. eqb d.size p.size) q.0 in
    let apart = and_parts (not (among x xs)) _ a in
    let fits' = fits_write x d.decl c.values g d.is (l ∙ sym (count_sizes d.decl p d.meets)) s in
    let rest = handed_back t ps xs cells (write st x c.values) r f q.1 apart.1 fits' in
    let there : values_of rest.state x ≡ Some c.values = values_outside x rest.outside (not-true _ apart.0) ∙ values_written x d.decl c.values g d.is in
    record {
      state = rest.state;
      is = rw e rest.is;
      fits = rest.fits;
      outside = outside_then (outside_write xs st x c.values) (outside_weaker (x ∷ xs) (λ y k. (or_parts (same y x) _ k).1) rest.outside);
      again = rw (there, rest.again) (ap (λ z. Some (z ∷ cells)) (cell_is c p.name c.values (sym n) refl));
    }

pub distinct_front : (xs ys : List Word) → distinct (xs ++ ys) ≡ true → distinct xs ≡ true
distinct_front [] ys h = refl
distinct_front (x ∷ xs) ys h =
    let p = and_parts (not (among x (xs ++ ys))) _ h in
    and_from (not (among x xs)) _ (not_from_false _ (front_among x xs ys (not-true _ p.0))) (distinct_front xs ys p.1)
  where
    front_among : (x : Word) (xs ys : List Word) → among x (xs ++ ys) ≡ false → among x xs ≡ false
    front_among x [] ys h = refl
    front_among x (y ∷ xs) ys h =
        let p = or_parts (same x y) _ h in
        or_from (same x y) _ p.0 (front_among x xs ys p.1)

-- t: the state at the callee's end, its parameters first
pub pass_back_there : {w : ℕ} {ds : List Decl} (ps : List Decl) (xs : List Word) (t st : State) → Fits w ps (take (length ps) t) → distinct (map decl_name ps) ≡ true → same_sizes ds ps xs ≡ true → distinct xs ≡ true → Fits w ds st → Back w ds ps xs st (pass_back st t ps xs) (take (length ps) t)
pass_back_there ps xs t st f a h b g =
    let r = reads (drop (length ps) t) f a in
    handed_back t ps xs (take (length ps) t) st (rw take-append-drop at r) f h b g
