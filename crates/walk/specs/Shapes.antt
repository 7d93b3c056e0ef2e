-- Shapes and sizes: a size of 0 is a number's, and any other a row's.
use Rattle.std.specs.Prelude.{ℕ, if◌then◌else◌, nat_eq}
use Rattle.std.specs.Int.NonZero.{non_zero_u64_get}
use Rattle.walk.specs.declared.shape.Shape.{Shape}
use Rattle.walk.specs.declared.shape.Shape.TheVariants.{Scalar, Row}

abbrev pub size_of : Shape → ℕ
size_of Scalar = 0
size_of (Row n) = non_zero_u64_get n

-- how many numbers a name of that size has
abbrev pub numbers_in : ℕ → ℕ
numbers_in n = if nat_eq n 0 then 1 else n
