-- Small programs as texts, how many conditions each has, and numbers that break some of them.
use Rattle.std.specs.Prelude.{◌≡◌, ℕ, true, false, List, [], ◌∷◌, length, take, Some, codes, Option, slice_index}
use Prim.Native.String.{String}
use Rattle.std.specs.List.{slice_get}
use Rattle.lang.specs.Base.{◌>>=◌, when, maybe}
use Rattle.lang.specs.Grammar.{reads}
use Rattle.lang.specs.Soundness.{sound}
use Rattle.lang.specs.Syntax.{Program}
use Rattle.vc.specs.Conditions.{conditions, broken_at}
use Rattle.vc.specs.Theorem.{AllValid}

abbrev pub sum : String
sum = "width 3; proc f(x, y) pre x < 4 and y < 4; post x == old x + old y; less 0; { x = x + y; }"

-- the same of any numbers
abbrev pub any_sum : String
any_sum = "width 3; proc f(x, y) pre yes; post x == old x + old y; less 0; { x = x + y; }"

-- the larger of two
abbrev pub most : String
most = "width 2; proc mx(a[2], m) pre yes; post all i < 2 { a[i] <= m }; less 0; { m = a[0]; if m < a[1] { m = a[1]; } else { } }"

-- two places of a row change their numbers
abbrev pub exchange : String
exchange = "width 2; proc s(a[2], i, j) pre i < 2 and j < 2; post a[i] == old a[j] and a[j] == old a[i]; less 0; { var t; t = a[i]; a[i] = a[j]; a[j] = t; }"

-- counts down
abbrev pub clear : String
clear = "width 3; proc clear(x) pre yes; post x == 0; less 0; { while 0 < x keep x <= old x; less x; { x = x - 1; } }"

-- calls itself with one less
abbrev pub descent : String
descent = "width 2; proc fac(n) pre n < 3; post n == 0; less n; { if 0 < n { n = n - 1; fac(n); } else { } }"

-- calls itself with the same
abbrev pub standstill : String
standstill = "width 2; proc fac(n) pre yes; post n == 0; less n; { if 0 < n { fac(n); } else { } }"

abbrev pub any_number : String
any_number = "width 2; proc g(x) pre yes; post yes; less 0; { any x; check x < 3; }"

-- call each other with the same
abbrev pub each_other : String
each_other = "width 2; proc h(x) pre yes; post yes; less x; { k(x); } proc k(x) pre yes; post yes; less x; { h(x); }"

-- the sound program that a text reads as
abbrev pub program_of : String → Option Program
program_of t = reads (codes t) >>= λ p. when (sound p) (Some p)

abbrev pub how_many : String → Option ℕ
how_many t = program_of t >>= λ p. Some (length (conditions p))

-- the condition behind the first n is broken by the numbers ns, 0 for all other unknowns, and the first n are valid
pub record FirstBroken (t : String) (n : ℕ) (ns : List ℕ) : Type 0 where
  pub program : Program
  pub read : program_of t ≡ Some program
  pub before : AllValid program.width (take n (conditions program))
  pub broken : maybe (slice_get (conditions program) n) false (broken_at program.width λ i. slice_index ns i) ≡ true

pub record Worked : Type 0 where
  pub sum_has : how_many sum ≡ Some 2
  pub any_sum_has : how_many any_sum ≡ Some 2
  -- x = 7, y = 1
  pub any_sum_breaks : FirstBroken any_sum 0 (7 ∷ 1 ∷ [])
  pub most_has : how_many most ≡ Some 4
  pub exchange_has : how_many exchange ≡ Some 4
  pub clear_has : how_many clear ≡ Some 7
  pub descent_has : how_many descent ≡ Some 5
  pub standstill_has : how_many standstill ≡ Some 4
  -- the measure at the call, by n = 1
  pub standstill_breaks : FirstBroken standstill 2 (1 ∷ [])
  pub any_number_has : how_many any_number ≡ Some 2
  -- x = 3 behind any
  pub any_number_breaks : FirstBroken any_number 0 (0 ∷ 3 ∷ [])
  pub each_other_has : how_many each_other ≡ Some 6
  -- the measure at the call of the later by the earlier, by x = 0
  pub each_other_breaks : FirstBroken each_other 1 (0 ∷ [])
