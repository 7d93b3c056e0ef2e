-- The first of the tokens before a reader.
use Rattle.std.proofs.Common.{◌≡◌, ℕ, ◌+◌, ◌≤◌, Bool, true, false, eqb, List, [], ◌∷◌, length, Some, refl, ap, ◌∙◌, arith}
use Rattle.std.proofs.lemmas.Bool.{and_parts, eqb-true, eq-eqb, and_from}
use Rattle.lang.specs.Base.{Word, same, when}
use Rattle.lang.specs.Grammar.{starts, onward, expect, a_name, a_number}
use Rattle.lang.specs.Tokens.{Token, fixed, name, number, stray, spelled}
use Rattle.lang.specs.declared.token.Fixed.{Fixed}

pub same_is : (v w : Word) → same v w ≡ true → v ≡ w
same_is [] [] h = refl
same_is [] (y ∷ ys) h = let z : ◌≡◌ {A = ℕ} 0 1 = cc in absurd (omega arith)
same_is (x ∷ xs) [] h = let z : ◌≡◌ {A = ℕ} 0 1 = cc in absurd (omega arith)
same_is (x ∷ xs) (y ∷ ys) h =
    let p = and_parts (eqb x y) (same xs ys) h in
    λ i. eqb-true x y p.0 i ∷ same_is xs ys p.1 i

pub same_self : (w : Word) → same w w ≡ true
same_self [] = refl
same_self (x ∷ xs) = and_from (eqb x x) (same xs xs) (eq-eqb x x refl) (same_self xs)

-- a token that is always spelled the same
pub record FixedAhead (f : Fixed) (ts : List Token) : Type 0 where
  pub token : Fixed
  pub spells : spelled f ≡ spelled token
  pub is : ts ≡ fixed token ∷ onward ts

pub fixed_ahead : (f : Fixed) (ts : List Token) → starts f ts ≡ true → FixedAhead f ts
fixed_ahead f [] h = let z : ◌≡◌ {A = ℕ} 0 1 = cc in absurd (omega arith)
fixed_ahead f (fixed g ∷ ts) h = record { token = g; spells = same_is (spelled f) (spelled g) h; is = refl }
fixed_ahead f (name x ∷ ts) h = let z : ◌≡◌ {A = ℕ} 0 1 = cc in absurd (omega arith)
fixed_ahead f (number n ∷ ts) h = let z : ◌≡◌ {A = ℕ} 0 1 = cc in absurd (omega arith)
fixed_ahead f (stray ∷ ts) h = let z : ◌≡◌ {A = ℕ} 0 1 = cc in absurd (omega arith)

pub starts_long : (f : Fixed) (ts : List Token) → starts f ts ≡ true → length ts ≡ 1 + length (onward ts)
starts_long f ts h = ap length (fixed_ahead f ts h).is ∙ omega arith

pub name_ahead : (ts us : List Token) (x : Word) → a_name ts ≡ Some (x, us) → ts ≡ name x ∷ us
name_ahead [] us x h = let z : ◌≡◌ {A = ℕ} 0 1 = cc in absurd (omega arith)
name_ahead (fixed g ∷ ts) us x h = let z : ◌≡◌ {A = ℕ} 0 1 = cc in absurd (omega arith)
name_ahead (name y ∷ ts) us x h = let e : ◌≡◌ {A = Word × List Token} (y, ts) (x, us) = cc in λ i. name (e i).0 ∷ (e i).1
name_ahead (number n ∷ ts) us x h = let z : ◌≡◌ {A = ℕ} 0 1 = cc in absurd (omega arith)
name_ahead (stray ∷ ts) us x h = let z : ◌≡◌ {A = ℕ} 0 1 = cc in absurd (omega arith)

pub number_ahead : (ts us : List Token) (n : ℕ) → a_number ts ≡ Some (n, us) → ts ≡ number n ∷ us
number_ahead [] us n h = let z : ◌≡◌ {A = ℕ} 0 1 = cc in absurd (omega arith)
number_ahead (fixed g ∷ ts) us n h = let z : ◌≡◌ {A = ℕ} 0 1 = cc in absurd (omega arith)
number_ahead (name y ∷ ts) us n h = let z : ◌≡◌ {A = ℕ} 0 1 = cc in absurd (omega arith)
number_ahead (number m ∷ ts) us n h = let e : ◌≡◌ {A = ℕ × List Token} (m, ts) (n, us) = cc in λ i. number (e i).0 ∷ (e i).1
number_ahead (stray ∷ ts) us n h = let z : ◌≡◌ {A = ℕ} 0 1 = cc in absurd (omega arith)

pub onward_short : (ts : List Token) → length (onward ts) ≤ length ts
onward_short [] = omega arith
onward_short (t ∷ ts) = omega arith

pub expect_long : (f : Fixed) (ts us : List Token) → expect f ts ≡ Some us → length ts ≡ 1 + length us
expect_long f ts us h = go (starts f ts) refl h
  where
    go : (b : Bool) → starts f ts ≡ b → when b (Some (onward ts)) ≡ Some us → length ts ≡ 1 + length us
    go true e h = let same : onward ts ≡ us = cc in omega (arith, starts_long f ts e, ap length same)
    go false e h = let z : ◌≡◌ {A = ℕ} 0 1 = cc in absurd (omega arith)

pub name_long : (ts us : List Token) (x : Word) → a_name ts ≡ Some (x, us) → length ts ≡ 1 + length (onward ts)
name_long ts us x h = let e = name_ahead ts us x h in rw e (omega arith)

pub number_long : (ts us : List Token) (n : ℕ) → a_number ts ≡ Some (n, us) → length ts ≡ 1 + length (onward ts)
number_long ts us n h = let e = number_ahead ts us n h in rw e (omega arith)

pub expect_starts : (f : Fixed) (ts us : List Token) → expect f ts ≡ Some us → length ts ≡ 1 + length (onward ts)
expect_starts f ts us h = go (starts f ts) refl h
  where
    go : (b : Bool) → starts f ts ≡ b → when b (Some (onward ts)) ≡ Some us → length ts ≡ 1 + length (onward ts)
    go true e h = starts_long f ts e
    go false e h = let z : ◌≡◌ {A = ℕ} 0 1 = cc in absurd (omega arith)
