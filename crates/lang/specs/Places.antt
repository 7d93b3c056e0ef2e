-- What stands at places of a text.
use Rattle.std.specs.Prelude.{ℕ, ◌-◌, Bool, not, ◌&&◌, ◌||◌, List, take, drop, ◌==◌}
use Rattle.lang.specs.Base.{Word}
use Rattle.lang.specs.Tokens.{is_blank, is_digit, is_letter}

-- a byte of a name or a number
abbrev pub in_run : ℕ → Bool
in_run b = is_letter b || is_digit b

-- a byte that a word can begin with: neither a blank nor #
abbrev pub begins : ℕ → Bool
begins b = not (is_blank b || b == 35)

-- the bytes from one place up to another
abbrev pub part : List ℕ → ℕ → ℕ → Word
part text from to = take (to - from) (drop from text)

-- two bytes that are one word: == => <=
abbrev pub pair : ℕ → ℕ → Bool
pair a b = (a == 61 || a == 60) && (b == 61 || (a == 61 && b == 62))
