-- Snaps of a reader: when two are the same, and what one step of its tables does to them.
use Rattle.std.proofs.Common.{◌≡◌, ℕ, List, drop, None, refl}
use Rattle.lang.specs.Ahead.{ahead, ahead_by}
use Rattle.lang.specs.Grammar.{onward, a_name}
use Rattle.parse.specs.Reading.{Snap}
use Rattle.lang.specs.Tokens.{tokens}
use Rattle.lang.specs.declared.scan.Cursor.{Cursor}
use Rattle.lang.specs.declared.token.Token.{Token}
use Rattle.lang.specs.declared.token.Token.TheVariants.{Fixed, Name, Number, Stray, End}

pub same_snap : (a b : Snap) → a.text ≡ b.text → a.code ≡ b.code → a.pending ≡ b.pending → a.ahead ≡ b.ahead → a.code_room ≡ b.code_room → a.pending_room ≡ b.pending_room → a ≡ b
same_snap a b o p q r s t = λ i. record { text = o i; code = p i; pending = q i; ahead = r i; code_room = s i; pending_room = t i }

behind_by : (text : List ℕ) (start end : ℕ) (t : Token) → (t ≡ End → ⊥) → tokens (drop end text) ≡ onward (ahead text (record { start = start; end = end; token = t }))
behind_by text start end (Fixed f) h = refl
behind_by text start end Name h = refl
behind_by text start end Number h = refl
behind_by text start end Stray h = refl
behind_by text start end End h = absurd (h refl)

-- the tokens behind the one at hand
pub behind : (text : List ℕ) (c : Cursor) → (c.token ≡ End → ⊥) → tokens (drop c.end text) ≡ onward (ahead text c)
behind text c h = behind_by text c.start c.end c.token h

unnamed_by : (text : List ℕ) (start end : ℕ) (t : Token) → (t ≡ Name → ⊥) → a_name (ahead_by text start end t) ≡ None
unnamed_by text start end (Fixed f) h = refl
unnamed_by text start end Name h = absurd (h refl)
unnamed_by text start end Number h = refl
unnamed_by text start end Stray h = refl
unnamed_by text start end End h = refl

-- another token than a name
pub unnamed : (text : List ℕ) (c : Cursor) → (c.token ≡ Name → ⊥) → a_name (ahead text c) ≡ None
unnamed text c h = unnamed_by text c.start c.end c.token h
