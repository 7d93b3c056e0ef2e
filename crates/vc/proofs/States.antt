-- States: those that a store stands for, those that fit declarations, and what differs between two.
use Rattle.std.proofs.Common.{◌≡◌, ℕ, zero, suc, ◌<◌, ◌≤◌, true, false, List, [], ◌∷◌, ◌++◌, length, take, replicate, Some, Option, sym, refl, ap, ◌∙◌, inl, inr, arith, pow_pos}
use Rattle.std.proofs.lemmas.List.{length-map, length-replicate}
use Rattle.std.proofs.lemmas.Bool.{cases_Bool, or_parts, or_from, both_ways}
use Rattle.lang.specs.Base.{Word, same, among}
use Rattle.lang.specs.Meaning.{Cell, State, values_of, write, count, zeros}
use Rattle.lang.specs.Soundness.{find_decl}
use Rattle.lang.specs.Syntax.{Decl}
use Rattle.vc.proofs.Agreement.{some_injective, values, Known}
use Rattle.vc.specs.Conditions.{SymState, all_true}
use Rattle.vc.specs.Symbolic.{Store, lookup, update}
use Rattle.vc.specs.Terms.{Term, value}
use Rattle.vc.specs.Theorem.{Small, Fits}

-- the state that a store stands for, with these numbers for the unknowns
abbrev pub state_of : ℕ → (ℕ → ℕ) → Store → State
state_of w g [] = []
state_of w g (b ∷ bs) = record { name = b.name; values = values w g b.terms } ∷ state_of w g bs

pub state_update : (w : ℕ) (g : ℕ → ℕ) (s : Store) (x : Word) (ts : List Term) → state_of w g (update s x ts) ≡ write (state_of w g s) x (values w g ts)
unfolding update write
state_update w g [] x ts = refl
state_update w g (b ∷ bs) x ts = elim (cases_Bool (same b.name x)) [ inl e ↦ rw e | inr e ↦ rw e (ap (λ s. record { name = b.name; values = values w g b.terms } ∷ s) (state_update w g bs x ts)) ]

pub state_append : (w : ℕ) (g : ℕ → ℕ) (s t : Store) → state_of w g (s ++ t) ≡ state_of w g s ++ state_of w g t
state_append w g [] t = refl
state_append w g (b ∷ bs) t = ap (λ s. record { name = b.name; values = values w g b.terms } ∷ s) (state_append w g bs t)

-- Declarations.
pub found_append : (ds es : List Decl) (x : Word) (d : Decl) → find_decl ds x ≡ Some d → find_decl (ds ++ es) x ≡ Some d
unfolding find_decl
found_append [] es x d e = let z : ◌≡◌ {A = ℕ} 0 1 = cc in absurd (omega arith)
found_append (c ∷ ds) es x d e = elim (cases_Bool (same c.name x)) [ inl h ↦ rw h (rw h at e) | inr h ↦ rw h (found_append ds es x d (rw h at e)) ]

-- a name's numbers, in a state that fits
pub record Held (w : ℕ) (d : Decl) (o : Option (List ℕ)) : Type 0 where
  pub numbers : List ℕ
  pub is : o ≡ Some numbers
  pub many : length numbers ≡ count d
  pub small : Small w numbers

pub held : {w : ℕ} {ds : List Decl} {st : State} (x : Word) (d : Decl) → Fits w ds st → find_decl ds x ≡ Some d → Held w d (values_of st x)
unfolding find_decl values_of
held x d Fits.none_left e = let z : ◌≡◌ {A = ℕ} 0 1 = cc in absurd (omega arith)
held x d (Fits.and_this {d = d'} {c = c} n l s r) e =
    elim (cases_Bool (same d'.name x)) [
      | inl h ↦
          let is : d' ≡ d = some_injective (rw h at e) in
          rw (n, h) (record { numbers = c.values; is = refl; many = l ∙ ap count is; small = s })
      | inr h ↦ rw (n, h) (held x d r (rw h at e))
    ]

pub knows : (w : ℕ) (g : ℕ → ℕ) (ds : List Decl) (s : Store) → Fits w ds (state_of w g s) → (x : Word) (d : Decl) → find_decl ds x ≡ Some d → Known w g d (values_of (state_of w g s) x) (lookup s x)
unfolding find_decl values_of lookup
knows w g [] s f x d e = let z : ◌≡◌ {A = ℕ} 0 1 = cc in absurd (omega arith)
knows w g (d' ∷ ds) [] f x d e = elim f [ ]
knows w g (d' ∷ ds) (b ∷ bs) (Fits.and_this n l s r) x d e =
    elim (cases_Bool (same b.name x)) [
      | inl h ↦
          let here : same d'.name x ≡ true = rw (← n) h in
          let is : d' ≡ d = some_injective (rw here at e) in
          let many : length b.terms ≡ count d = sym (length-map b.terms (value w g)) ∙ l ∙ ap count is in
          rw h (record { is = refl; many = many; small = s })
      | inr h ↦ rw h (knows w g ds bs r x d (rw (← n, h) at e))
    ]

-- States that fit.
pub fits_write : {w : ℕ} {ds : List Decl} {st : State} (x : Word) (d : Decl) (vs : List ℕ) → Fits w ds st → find_decl ds x ≡ Some d → length vs ≡ count d → Small w vs → Fits w ds (write st x vs)
unfolding find_decl write
fits_write x d vs Fits.none_left e l s = Fits.none_left
fits_write x d vs (Fits.and_this {d = d'} {c = c} n k t r) e l s =
    elim (cases_Bool (same c.name x)) [
      | inl h ↦
          let here : same d'.name x ≡ true = rw (← n) h in
          let is : d' ≡ d = some_injective (rw here at e) in
          rw h (Fits.and_this n (l ∙ sym (ap count is)) s r)
      | inr h ↦ rw h (Fits.and_this n k t (fits_write x d vs r (rw (← n, h) at e) l s))
    ]

pub fits_append : {w : ℕ} {ds es : List Decl} {s t : State} → Fits w ds s → Fits w es t → Fits w (ds ++ es) (s ++ t)
fits_append Fits.none_left f = f
fits_append (Fits.and_this n l s r) f = Fits.and_this n l s (fits_append r f)

pub fits_front : {w : ℕ} (ds es : List Decl) (st : State) → Fits w (ds ++ es) st → Fits w ds (take (length ds) st)
fits_front [] es st f = Fits.none_left
fits_front (d ∷ ds) es [] f = elim f [ ]
fits_front (d ∷ ds) es (c ∷ st) (Fits.and_this n l s r) = Fits.and_this n l s (fits_front ds es st r)

-- a name of the front has its numbers there
pub front_values : {w : ℕ} (ds es : List Decl) (st : State) (x : Word) (d : Decl) → Fits w (ds ++ es) st → find_decl ds x ≡ Some d → values_of (take (length ds) st) x ≡ values_of st x
unfolding find_decl values_of
front_values [] es st x d f e = let z : ◌≡◌ {A = ℕ} 0 1 = cc in absurd (omega arith)
front_values (d' ∷ ds) es [] x d f e = elim f [ ]
front_values (d' ∷ ds) es (c ∷ st) x d (Fits.and_this n l s r) e = elim (cases_Bool (same c.name x)) [ inl h ↦ rw h | inr h ↦ rw h (front_values ds es st x d r (rw (← n, h) at e)) ]

small_zeros : (w n : ℕ) → Small w (replicate n 0)
small_zeros w zero = Small.none_left
small_zeros w (suc n) = Small.and_this (pow_pos w) (small_zeros w n)

pub fits_zeros : (w : ℕ) (ds : List Decl) → Fits w ds (zeros ds)
fits_zeros w [] = Fits.none_left
fits_zeros w (d ∷ ds) = Fits.and_this refl (length-replicate (count d) 0) (small_zeros w (count d)) (fits_zeros w ds)

-- Two states with the same names that differ at most in the numbers of the names xs.
pub data Outside (xs : List Word) : State → State → Type 0 where
  none_left : Outside xs [] []
  and_this : {a b : Cell} {s t : State} → b.name ≡ a.name → (among a.name xs ≡ false → b.values ≡ a.values) → Outside xs s t → Outside xs (a ∷ s) (b ∷ t)

pub outside_same : (xs : List Word) (st : State) → Outside xs st st
outside_same xs [] = Outside.none_left
outside_same xs (c ∷ st) = Outside.and_this refl (λ _. refl) (outside_same xs st)

pub outside_then : {xs : List Word} {a b c : State} → Outside xs a b → Outside xs b c → Outside xs a c
outside_then Outside.none_left Outside.none_left = Outside.none_left
outside_then (Outside.and_this n v r) (Outside.and_this m u t) = Outside.and_this (m ∙ n) (λ h. u (rw n h) ∙ v h) (outside_then r t)

pub outside_weaker : {xs : List Word} (ys : List Word) {a b : State} → ((x : Word) → among x ys ≡ false → among x xs ≡ false) → Outside xs a b → Outside ys a b
outside_weaker ys f Outside.none_left = Outside.none_left
outside_weaker ys f (Outside.and_this {a = c} n v r) = Outside.and_this n (λ h. v (f c.name h)) (outside_weaker ys f r)

among_append : (x : Word) (xs ys : List Word) → among x (xs ++ ys) ≡ false → (among x xs ≡ false) × (among x ys ≡ false)
among_append x [] ys h = (refl, h)
among_append x (y ∷ xs) ys h =
    let parts = or_parts (same x y) _ h in
    let rest = among_append x xs ys parts.1 in
    (or_from (same x y) _ parts.0 rest.0, rest.1)

pub outside_left : (xs ys : List Word) {a b : State} → Outside xs a b → Outside (xs ++ ys) a b
outside_left xs ys r = outside_weaker (xs ++ ys) (λ x h. (among_append x xs ys h).0) r

pub outside_right : (xs ys : List Word) {a b : State} → Outside ys a b → Outside (xs ++ ys) a b
outside_right xs ys r = outside_weaker (xs ++ ys) (λ x h. (among_append x xs ys h).1) r

pub outside_write : (xs : List Word) (st : State) (x : Word) (vs : List ℕ) → Outside (x ∷ xs) st (write st x vs)
unfolding write
outside_write xs [] x vs = Outside.none_left
outside_write xs (c ∷ st) x vs =
    elim (cases_Bool (same c.name x)) [
      | inl e ↦ rw e (Outside.and_this refl (λ h. absurd (both_ways _ (or_parts (same c.name x) _ h).0 e)) (outside_same (x ∷ xs) st))
      | inr e ↦ rw e (Outside.and_this refl (λ _. refl) (outside_write xs st x vs))
    ]

-- Numbers for the unknowns that are the same below n.
pub record Agree (n : ℕ) (g h : ℕ → ℕ) : Type 0 where
  pub at : (i : ℕ) → i < n → g i ≡ h i

pub agree_same : (n : ℕ) (g : ℕ → ℕ) → Agree n g g
agree_same n g = record { at = λ i l. refl }

pub agree_then : {n : ℕ} (m : ℕ) {g h j : ℕ → ℕ} → n ≤ m → Agree n g h → Agree m h j → Agree n g j
agree_then m l a b = record { at = λ i k. a.at i k ∙ b.at i (omega arith) }

-- The walk has come to v and a run to st, begun in o: so it is with the numbers g for the unknowns up to here, whatever the later ones are.
pub record Reaches (w : ℕ) (g : ℕ → ℕ) (v : SymState) (st o : State) : Type 0 where
  pub now_is : (h : ℕ → ℕ) → Agree v.next g h → state_of w h v.current ≡ st
  pub began : (h : ℕ → ℕ) → Agree v.next g h → state_of w h v.initial ≡ o
  pub granted : (h : ℕ → ℕ) → Agree v.next g h → all_true w h v.given ≡ true
