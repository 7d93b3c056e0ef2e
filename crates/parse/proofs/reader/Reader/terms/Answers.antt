use Rattle.std.proofs.Common.{◌++◌, ap, ◌∙◌, append_assoc}
use Rattle.std.proofs.lemmas.Result.{err_from_is_err_and}
use Rattle.parse.specs.Parts.{part_code, measure_code}
use Rattle.parse.specs.Procedures.{terms∞}
use Rattle.parse.specs.Reading.{snap}
use Rattle.parse.specs.declared.parts.Header.TheVariants.{Pre, Post}
use Rattle.parse.proofs.reader.Reader.terms.Goals as goal

pub returns-in_err-condition-clause-reads : goal.returns-in_err-condition-clause-reads
unfolding terms∞
returns-in_err-condition-clause-reads c =
    let p = err_from_is_err_and c.from_residual.result c.from_residual.ensures.1 in
    rw p.1 (rw c.in_err-condition.ensures.reads)

pub returns-in_err-condition-2-clause-reads : goal.returns-in_err-condition-2-clause-reads
unfolding terms∞
returns-in_err-condition-2-clause-reads c =
    let p = err_from_is_err_and c.from_residual-in_err-condition-2.result c.from_residual-in_err-condition-2.ensures.1 in
    let a = c.in_ok-condition.ensures in
    rw p.1 (rw (a.reads.parsed, c.in_err-condition-2.ensures.reads))

pub returns-in_err-measured-clause-reads : goal.returns-in_err-measured-clause-reads
unfolding terms∞
returns-in_err-measured-clause-reads c =
    let p = err_from_is_err_and c.from_residual-in_err-measured.result c.from_residual-in_err-measured.ensures.1 in
    let a = c.in_ok-condition.ensures in
    let b = c.in_ok-condition-2.ensures in
    rw p.1 (rw (a.reads.parsed, b.reads.parsed, c.in_err-measured.ensures.reads))

pub returns-clause-reads : goal.returns-clause-reads
unfolding terms∞
returns-clause-reads c =
    let s = snap c.args.self.now in
    let a = c.in_ok-condition.ensures in
    let b = c.in_ok-condition-2.ensures in
    let m = c.in_ok-measured.ensures in
    let bs = part_code Post b.reads.value in
    let ms = measure_code m.reads.value in
    record {
      value = record { pre = a.reads.value; post = b.reads.value; measure = m.reads.value };
      parsed = rw (a.reads.parsed, b.reads.parsed, m.reads.parsed);
      code = m.reads.code ∙ ap (λ k. k ++ ms) (b.reads.code ∙ ap (λ k. k ++ bs) a.reads.code) ∙ append_assoc (s.code ++ part_code Pre a.reads.value) bs ms ∙ append_assoc s.code (part_code Pre a.reads.value) (bs ++ ms);
      pending = m.reads.pending ∙ b.reads.pending ∙ a.reads.pending;
    }
