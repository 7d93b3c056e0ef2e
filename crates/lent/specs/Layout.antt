-- How a record lies in words: two words for each.
use Rattle.std.specs.Prelude.{ℕ, List, slice_index}

-- the record in a pair of words, by the function that reads one back from its two words
abbrev pub record_in : {R : Type 0} → (ℕ → ℕ → R) → List ℕ → R
record_in decoded pair = decoded (slice_index pair 0) (slice_index pair 1)
