use Rattle.std.proofs.Common.{◌≡◌, true, false, eqb, [], ◌∷◌, length, Some, sym, ap, ◌∙◌, subst, arith}
use Rattle.std.proofs.lemmas.List.{length_push}
use Rattle.std.proofs.lemmas.Bool.{ne_eqb}
use Rattle.lang.specs.Code.{code_size}
use Rattle.lang.specs.Grammar.{starts, onward, expect, a_number}
use Rattle.lang.specs.Instr.{scalar, row, number_at}
use Rattle.lang.specs.declared.token.Fixed.TheVariants.{LeftBracket, RightBracket}
use Rattle.parse.specs.Declaring.{sized}
use Rattle.parse.specs.Reading.{snap, Read, Paid, advanced, emitted}
use Rattle.parse.proofs.Declaring.{sized_number, sized_row}
use Rattle.parse.proofs.Heads.{starts_long, number_long, expect_starts}
use Rattle.parse.proofs.Rooms.{paid_none, paid_row}
use Rattle.parse.proofs.reader.Reader.size.Goals as goal

pub emit-requires : goal.emit-requires
emit-requires c = omega (arith, length_push (snap c.args.self.now).code scalar, c.requires.code)

pub returns-then-not-at : goal.returns-then-not-at
returns-then-not-at c =
    let s = snap c.args.self.now in
    record { reads = λ x. subst (Read (sized x) (λ d. code_size d ∷ []) s) (sym c.emit.ensures) (sized_number s x (sym c.if-not-at.ensures)); paid = subst (Paid (emitted scalar s)) (sym c.emit.ensures) (paid_none _) }

pub emit-requires-2 : goal.emit-requires-2
emit-requires-2 c =
    let s = snap c.args.self.now in
    let two : snap c.number.new.self ≡ advanced (advanced s) = c.in_ok-length.ensures.1 ∙ ap advanced c.advance.ensures in
    omega (arith, length_push s.code scalar, c.requires.code, ap (λ t. length t.code) two, ap (λ t. t.code_room) two)

pub returns : goal.returns
returns c =
    let text = c.args.self.now.text.now in
    let s = snap c.args.self.now in
    let n = number_at text c.in_ok-length.length.0 in
    let two : snap c.number.new.self ≡ advanced (advanced s) = c.in_ok-length.ensures.1 ∙ ap advanced c.advance.ensures in
    let b : starts LeftBracket s.ahead ≡ true = sym c.if-not-at.ensures in
    let m : a_number (onward s.ahead) ≡ Some (n, onward (onward s.ahead)) = ap (λ t. a_number t.ahead) (sym c.advance.ensures) ∙ c.in_ok-length.ensures.0 ∙ (λ i. Some (number_at (c.advance.ensures i).text c.in_ok-length.length.0, (two i).ahead)) in
    let z : eqb n 0 ≡ false = ne_eqb n 0 (λ e. c.if-number_at-eq0.false (c.number_at.ensures ∙ ap (λ t. number_at t.text c.in_ok-length.length.0) two ∙ e)) in
    let wrote : snap c.emit-2.new.self ≡ emitted (row n) (advanced (advanced s)) = c.emit-2.ensures ∙ ap (λ t. emitted (row (number_at t.text c.in_ok-length.length.0)) t) two in
    let after = c.in_ok-expect.ensures.1 ∙ ap advanced wrote in
    let e : expect RightBracket (onward (onward s.ahead)) ≡ Some (onward (onward (onward s.ahead))) = ap (λ t. expect RightBracket t.ahead) (sym wrote) ∙ c.in_ok-expect.ensures.0 ∙ ap (λ t. Some t.ahead) after in
    record {
      reads = λ x. subst (Read (sized x) (λ d. code_size d ∷ []) s) (sym after) (sized_row s x n b m z e);
      paid = subst (Paid (emitted scalar s)) (sym after) (paid_row s (row n) scalar (starts_long LeftBracket s.ahead b) (number_long (onward s.ahead) _ n m) (expect_starts RightBracket (onward (onward s.ahead)) _ e));
    }
