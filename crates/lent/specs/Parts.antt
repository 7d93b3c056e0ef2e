-- Two parts of a row of words.
use Rattle.std.specs.Prelude.{◌≡◌, ℕ, List, ◌++◌, length}

pub record Parted (words : List ℕ) (size : ℕ) (front back : List ℕ) : Type 0 where
  pub first : length front ≡ size
  pub whole : front ++ back ≡ words
