use Rattle.std.proofs.Common.{Some, sym, ap, ◌∙◌, subst, arith}
use Rattle.std.proofs.lemmas.Result.{err_from_is_err_and}
use Rattle.lang.specs.declared.code.Place.{Place}
use Rattle.lang.specs.declared.token.Fixed.TheVariants as the
use Rattle.parse.specs.InBool.{AtUnit, BehindUnit, Used}
use Rattle.parse.specs.Reading.{snap, advanced}
use Rattle.parse.specs.declared.formula.Turn.TheVariants as turn
use Rattle.parse.specs.declared.open.Open.TheVariants.{Not, Bracket}
use Rattle.parse.proofs.InBool.{not_reads, brackets_reads, yes_reads, comparison_unit, no_unit, enter_used, yes_used, comparison_used}
use Rattle.parse.proofs.reader.Reader.unit.Goals as goal

pub returns-then-at : goal.returns-then-at
returns-then-at c =
    let s = snap c.args.self.now in
    let p : Place = record { 0 = c.args.self.now.cursor.start } in
    let after = c.enter.ensures in
    let word = sym c.if-at.ensures in
    record {
      reads = λ before h. subst (AtUnit before) (sym after) (not_reads before s p h word);
      used = subst (λ t. Used turn.Unit s t (Some turn.Unit)) (sym after) (enter_used turn.Unit the.Not (Not p) s (omega arith) word);
    }

pub returns-then-at-2 : goal.returns-then-at-2
returns-then-at-2 c =
    let s = snap c.args.self.now in
    let after = c.enter-then-at-2.ensures in
    let word = sym c.if-at-2.ensures in
    record {
      reads = λ before h. subst (AtUnit before) (sym after) (brackets_reads before s h word);
      used = subst (λ t. Used turn.Unit s t (Some turn.Unit)) (sym after) (enter_used turn.Unit the.LeftBracket Bracket s (omega arith) word);
    }

pub returns-then-at-4 : goal.returns-then-at-4
returns-then-at-4 c =
    let s = snap c.args.self.now in
    let after = c.advance.ensures ∙ ap advanced c.emit.ensures in
    let word = sym c.if-at-4.ensures in
    record {
      reads = λ before h. subst (BehindUnit before) (sym after) (yes_reads before s h word);
      used = subst (λ t. Used turn.Unit s t (Some turn.Behind)) (sym after) (yes_used s word);
    }

pub returns-in_err-comparison : goal.returns-in_err-comparison
returns-in_err-comparison c =
    let p = err_from_is_err_and c.from_residual.result c.from_residual.ensures.1 in
    let s = snap c.args.self.now in
    rw p.1 (record { reads = λ before h. no_unit before s h (sym c.if-at.ensures) (sym c.if-at-4.ensures) (sym c.if-at-2.ensures) (sym c.if-at-3.ensures) c.in_err-comparison.ensures.reads; used = tt })

pub returns : goal.returns
returns c =
    let s = snap c.args.self.now in
    let t = snap c.comparison.new.self in
    let told = c.in_ok-comparison.ensures in
    record {
      reads = λ before h. comparison_unit before s t h (sym c.if-at.ensures) (sym c.if-at-4.ensures) (sym c.if-at-2.ensures) (sym c.if-at-3.ensures) told.reads told.paid;
      used = comparison_used s t told.reads told.paid;
    }
