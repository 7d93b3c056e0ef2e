-- Numbers that may be missing.
use Rattle.std.specs.Prelude.{ℕ, List, length, Option, ◌==◌}
use Rattle.std.specs.List.{slice_get}
use Rattle.lang.specs.Base.{◌>>=◌, when}
use Rattle.lang.specs.Meaning.{fits}

-- if there is a number, and it is one of the width
abbrev pub fitted : ℕ → Option ℕ → Option ℕ
fitted w n = n >>= λ m. fits w m

-- the number, if there is one only
abbrev pub number_of : Option (List ℕ) → Option ℕ
number_of o = o >>= λ vs. when (length vs == 1) (slice_get vs 0)

-- the number at a place
abbrev pub element_of : Option (List ℕ) → ℕ → Option ℕ
element_of o i = o >>= λ vs. slice_get vs i

-- the same at a place that may be missing
abbrev pub element_in : Option (List ℕ) → Option ℕ → Option ℕ
element_in o i = i >>= element_of o
