use Rattle.std.proofs.Common.{sym, ap, ◌∙◌, subst}
use Rattle.std.proofs.lemmas.Result.{err_from_is_err_and}
use Rattle.lang.specs.Instr.{number_at}
use Rattle.parse.specs.Reading.{snap}
use Rattle.parse.specs.Whole.{WholeRead, program∞}
use Rattle.parse.proofs.Wholes.{whole_read}
use Rattle.parse.proofs.reader.Reader.program.Goals as goal

pub returns-in_err-expect : goal.returns-in_err-expect
unfolding program∞
returns-in_err-expect c =
    let p = err_from_is_err_and c.from_residual.result c.from_residual.ensures.1 in
    rw p.1 (rw c.in_err-expect.ensures)

pub returns-in_err-width : goal.returns-in_err-width
unfolding program∞
returns-in_err-width c =
    let p = err_from_is_err_and c.from_residual-in_err-width.result c.from_residual-in_err-width.ensures.1 in
    rw p.1 (rw (c.in_ok-expect.ensures.0, c.in_err-width.ensures))

pub returns-in_err-expect-2 : goal.returns-in_err-expect-2
unfolding program∞
returns-in_err-expect-2 c =
    let p = err_from_is_err_and c.from_residual-in_err-expect-2.result c.from_residual-in_err-expect-2.ensures.1 in
    rw p.1 (rw (c.in_ok-expect.ensures.0, c.in_ok-width.ensures.0, c.in_err-expect-2.ensures))

pub returns-in_err-procedures : goal.returns-in_err-procedures
unfolding program∞
returns-in_err-procedures c =
    let p = err_from_is_err_and c.from_residual-in_err-procedures.result c.from_residual-in_err-procedures.ensures.1 in
    rw p.1 (rw (c.in_ok-expect.ensures.0, c.in_ok-width.ensures.0, c.in_ok-expect-2.ensures.0, c.in_err-procedures.ensures))

pub returns : goal.returns
returns c =
    let s = snap c.args.self.now in
    let one = c.in_ok-expect.ensures in
    let two = c.in_ok-width.ensures in
    let three = c.in_ok-expect-2.ensures in
    let read = c.in_ok-procedures.ensures in
    let width = c.number_at.ensures ∙ ap (λ w. number_at w c.in_ok-width.width.0) (read.text ∙ ap (λ r. r.text) three.1 ∙ ap (λ r. r.text) two.1) in
    subst (WholeRead s _) (sym width) (whole_read s _ _ _ _ _ one.0 one.1 two.0 two.1 three.0 three.1 read)
