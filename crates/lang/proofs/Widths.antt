-- Words and widths.
use Rattle.std.proofs.Common.{ℕ, ◌^◌, ◌<◌, ◌≤◌, arith, pow_mono}

-- each word is a number of each width from 64 on
pub word_within : (w n : ℕ) → 64 ≤ w → n < 2 ^ 64 → n < 2 ^ w
word_within w n wide word = let more : 2 ^ 64 ≤ 2 ^ w = pow_mono wide in omega arith
