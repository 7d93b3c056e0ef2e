-- Of which kind a word is, and what a kind then stands for.
use Rattle.std.specs.Prelude.{ℕ, ◌^◌, ◌<◌, List, [], ◌∷◌, Some, Option, nat_lt}
use Rattle.std.specs.Option.{unwrap_or}
use Rattle.lang.specs.Base.{when, Word}
use Rattle.lang.specs.Tokens as tokens
use Rattle.lang.specs.Tokens.{written}
use Rattle.lang.specs.declared.token.Token.{Token}
use Rattle.lang.specs.declared.token.Token.TheVariants.{Fixed, Name, Number, Stray, End}

-- the token that a word of this kind is; none at the end
abbrev pub meant : Word → Token → List tokens.Token
meant w (Fixed f) = tokens.fixed f ∷ []
meant w Name = tokens.name w ∷ []
meant w Number = tokens.number (unwrap_or (written w) 0) ∷ []
meant w Stray = tokens.stray ∷ []
meant w End = []

-- a number that is below 2^64
abbrev pub below_limit : ℕ → Option ℕ
below_limit n = when (nat_lt n (2 ^ 64)) (Some n)

-- a token has a byte at least; only the end of the text has none
abbrev pub Nonempty : Token → ℕ → ℕ → Type 0
Nonempty (Fixed f) start end = start < end
Nonempty Name start end = start < end
Nonempty Number start end = start < end
Nonempty Stray start end = start < end
Nonempty End start end = Unit {0}
