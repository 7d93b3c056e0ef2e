-- Checked operations, and whether a number is one of a width.
use Rattle.std.proofs.Common.{◌≡◌, ℕ, ◌-◌, ◌^◌, ◌<◌, ◌≤◌, cond, eqb, ltb, List, length, get_or, Some, None, Option, sym, ap, arith, pow_mono}
use Rattle.std.proofs.lemmas.Bool.{le-ltb, lt-ltb, eq-eqb, ne_eqb}
use Rattle.std.proofs.lemmas.Option.{slice_get-get_or}
use Rattle.std.specs.Option.{SomeIff}
use Rattle.std.specs.List.{slice_get}
use Rattle.lang.specs.Base.{when}
use Rattle.lang.specs.Meaning.{fits}
use Rattle.eval.specs.Numbers.{fitted}

pub checked_fits : (w v : ℕ) → w ≤ 64 → (o : Option ℕ) → SomeIff o (v < 2 ^ 64) v → fitted w o ≡ fits w v
checked_fits w v wide None h =
    let most : 2 ^ w ≤ 2 ^ 64 = pow_mono wide in
    let large : 2 ^ w ≤ v = omega arith in
    rw (le-ltb v (2 ^ w) large)
checked_fits w v wide (Some x) h = ap (fits w) h.1

pub difference : (x y : ℕ) (o : Option ℕ) → SomeIff o (y ≤ x) (x - y) → o ≡ cond (ltb x y) None (Some (x - y))
difference x y None h = let less : x < y = omega arith in rw (lt-ltb x y less)
difference x y (Some d) h = rw (le-ltb x y h.0) (ap Some h.1)

pub quotient : (y v : ℕ) (o : Option ℕ) → SomeIff o (0 < y) v → o ≡ cond (eqb y 0) None (Some v)
quotient y v None h = let none : y ≡ 0 = omega arith in rw (eq-eqb y 0 none)
quotient y v (Some q) h = rw (ne_eqb y 0 (λ e. omega (arith, h.0))) (ap Some h.1)

-- a row of one number
pub only : (vs : List ℕ) → length vs ≡ 1 → Some (get_or vs 0 0) ≡ when (eqb (length vs) 1) (slice_get vs 0)
only vs e = rw e (sym (slice_get-get_or vs 0 0 (omega arith)))
