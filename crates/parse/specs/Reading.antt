-- Where a reader stands: its text, what it has written, what is open, which tokens are before it, and how much room its tables have.
use Rattle.std.specs.Prelude.{◌≡◌, ℕ, ◌+◌, ◌-◌, ◌*◌, ◌≤◌, List, [], ◌∷◌, ◌++◌, map, length, take, Some, None, Option, Result, MatchResult, nat_lt, slice_set}
use Rattle.std.specs.List.{slice_get}
use Rattle.lent.specs.Tables.{items, capacity}
use Rattle.lang.specs.Base.{when}
use Rattle.lang.specs.Ahead.{ahead}
use Rattle.lang.specs.Grammar.{Parsed, onward}
use Rattle.lang.specs.Instr.{Instr, instr}
use Rattle.lang.specs.Layout.{node}
use Rattle.parse.specs.Layout.{open_part}
use Rattle.lang.specs.Tokens.{Token}
use Rattle.parse.specs.declared.open.Open.{Open}
use Rattle.parse.specs.declared.reader.Reader.{Reader}
use Rattle.parse.specs.declared.refusal.NoText.{NoText}

pub record Snap : Type 0 where
  pub text : List ℕ
  pub code : List Instr
  pub pending : List Open
  pub ahead : List Token
  pub code_room : ℕ
  pub pending_room : ℕ

abbrev pub snap : Reader → Snap
snap r = record { text = r.text.now; code = map (instr r.text.now) (items node r.code); pending = items open_part r.pending; ahead = ahead r.text.now r.cursor; code_room = capacity r.code; pending_room = capacity r.pending }

-- behind one token more
abbrev pub advanced : Snap → Snap
advanced s = record s { ahead = onward s.ahead }

-- with one instruction more
abbrev pub emitted : Instr → Snap → Snap
emitted i s = record s { code = s.code ++ i ∷ [] }

-- with one part more that is open
abbrev pub opened : Open → Snap → Snap
opened o s = record s { pending = s.pending ++ o ∷ [] }

-- the part that was begun last
abbrev pub last_open : List Open → Option Open
last_open os = slice_get os (length os - 1)

-- the same, if it is above the first `base` parts
abbrev pub last_above : ℕ → List Open → Option Open
last_above base os = when (nat_lt base (length os)) (last_open os)

-- without that part
abbrev pub closed : Snap → Snap
closed s = record s { pending = take (length s.pending - 1) s.pending }

-- with another instruction at an index
abbrev pub patched : ℕ → Instr → Snap → Snap
patched n i s = record s { code = slice_set s.code n i }

-- Each token pays for two instructions, or for one and a part that is open: the tables have room for what is still to come.
pub record Room (s : Snap) : Type 0 where
  pub code : length s.code + length s.pending + 2 * length s.ahead ≤ s.code_room
  pub pending : length s.pending + length s.ahead ≤ s.pending_room

-- what was used between two places is paid for by the tokens between them; the text and the tables are the same
pub record Paid (before after : Snap) : Type 0 where
  pub code : length after.code + length after.pending + 2 * length after.ahead ≤ length before.code + length before.pending + 2 * length before.ahead
  pub pending : length after.pending + length after.ahead ≤ length before.pending + length before.ahead
  pub text : after.text ≡ before.text
  pub code_room : after.code_room ≡ before.code_room
  pub pending_room : after.pending_room ≡ before.pending_room

-- A whole piece has been read: its value, by the grammar, and the code that was written of it.
pub record Read {A : Type 0} (parse : List Token → Parsed A) (coding : A → List Instr) (before after : Snap) : Type 0 where
  pub value : A
  pub parsed : parse before.ahead ≡ Some (value, after.ahead)
  pub code : after.code ≡ before.code ++ coding value
  pub pending : after.pending ≡ before.pending

-- It has been read, or there is none.
abbrev pub Reads : {A B : Type 0} → (List Token → Parsed A) → (A → List Instr) → Snap → Snap → Result B NoText → Type 0
Reads parse coding before after r = MatchResult r (λ _. Read parse coding before after) (λ _. parse before.ahead ≡ None)
