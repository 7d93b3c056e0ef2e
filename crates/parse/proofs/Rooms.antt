-- What is written and opened is paid for by the tokens that are read.
use Rattle.std.proofs.Common.{◌≡◌, ◌+◌, [], ◌∷◌, ◌++◌, length, refl, ◌∙◌, arith}
use Rattle.std.proofs.lemmas.List.{length_push}
use Rattle.lang.specs.Grammar.{onward}
use Rattle.lang.specs.Instr.{Instr}
use Rattle.parse.specs.Reading.{Snap, Room, Paid, advanced, emitted}

pub paid_none : (s : Snap) → Paid s s
paid_none s = record { code = omega arith; pending = omega arith; text = refl; code_room = refl; pending_room = refl }

pub paid_then : (a b c : Snap) → Paid a b → Paid b c → Paid a c
paid_then a b c p q = record { code = omega (arith, p.code, q.code); pending = omega (arith, p.pending, q.pending); text = q.text ∙ p.text; code_room = q.code_room ∙ p.code_room; pending_room = q.pending_room ∙ p.pending_room }

pub room_after : (a b : Snap) → Room a → Paid a b → Room b
room_after a b r p = record { code = omega (arith, r.code, p.code, p.code_room); pending = omega (arith, r.pending, p.pending, p.pending_room) }

-- a token, and one instruction
pub paid_item : (s : Snap) (i : Instr) → length s.ahead ≡ 1 + length (onward s.ahead) → Paid s (emitted i (advanced s))
paid_item s i l = record { code = omega (arith, length_push s.code i, l); pending = omega (arith, l); text = refl; code_room = refl; pending_room = refl }

pub paid_advance : (s : Snap) → length s.ahead ≡ 1 + length (onward s.ahead) → Paid s (advanced s)
paid_advance s l = record { code = omega (arith, l); pending = omega (arith, l); text = refl; code_room = refl; pending_room = refl }

-- three tokens, and one instruction in the place of another
pub paid_row : (s : Snap) (i j : Instr) → length s.ahead ≡ 1 + length (onward s.ahead) → length (onward s.ahead) ≡ 1 + length (onward (onward s.ahead)) → length (onward (onward s.ahead)) ≡ 1 + length (onward (onward (onward s.ahead))) → Paid (emitted j s) (advanced (emitted i (advanced (advanced s))))
paid_row s i j l m n = record { code = omega (arith, length_push s.code i, length_push s.code j, l, m, n); pending = omega (arith, l, m, n); text = refl; code_room = refl; pending_room = refl }

-- a token, and two instructions
pub paid_two : (s : Snap) (i j : Instr) → length s.ahead ≡ 1 + length (onward s.ahead) → Paid s (emitted j (emitted i (advanced s)))
paid_two s i j l = record { code = omega (arith, length_push s.code i, length_push (s.code ++ i ∷ []) j, l); pending = omega (arith, l); text = refl; code_room = refl; pending_room = refl }
