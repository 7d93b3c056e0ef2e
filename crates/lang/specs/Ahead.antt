-- The tokens that a cursor has before it, in a text: the one at hand, and those behind.
use Rattle.std.specs.Prelude.{ℕ, List, [], ◌∷◌, drop}
use Rattle.lang.specs.Instr.{name_at, number_at}
use Rattle.lang.specs.Tokens as tokens
use Rattle.lang.specs.Tokens.{tokens}
use Rattle.lang.specs.declared.scan.Cursor.{Cursor}
use Rattle.lang.specs.declared.token.Token.{Token}
use Rattle.lang.specs.declared.token.Token.TheVariants.{Fixed, Name, Number, Stray, End}

abbrev pub ahead_by : List ℕ → ℕ → ℕ → Token → List tokens.Token
ahead_by text start end (Fixed f) = tokens.fixed f ∷ tokens (drop end text)
ahead_by text start end Name = tokens.name (name_at text start) ∷ tokens (drop end text)
ahead_by text start end Number = tokens.number (number_at text start) ∷ tokens (drop end text)
ahead_by text start end Stray = tokens.stray ∷ tokens (drop end text)
ahead_by text start end End = []

abbrev pub ahead : List ℕ → Cursor → List tokens.Token
ahead text c = ahead_by text c.start c.end c.token
