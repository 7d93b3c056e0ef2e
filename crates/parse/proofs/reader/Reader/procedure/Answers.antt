use Rattle.std.proofs.Common.{◌≡◌, ◌+◌, length, sym, ap, ◌∙◌, subst}
use Rattle.std.proofs.lemmas.Result.{err_from_is_err_and}
use Rattle.parse.specs.Parts.{sealed}
use Rattle.parse.specs.Reading.{snap, Read}
use Rattle.parse.specs.Unbounded.{procedure∞}
use Rattle.parse.specs.declared.parts.Header.TheVariants.{Extent}
use Rattle.parse.proofs.Procs.{procedure_parts, procedure_read}
use Rattle.parse.proofs.reader.Reader.procedure.Goals as goal

pub returns-in_err-extent-clause-reads : goal.returns-in_err-extent-clause-reads
returns-in_err-extent-clause-reads c =
    let p = err_from_is_err_and c.from_residual.result c.from_residual.ensures.1 in
    let s = snap c.args.self.now in
    rw p.1 (procedure_parts s.ahead ∙ rw c.in_err-extent.ensures.reads)

pub returns-in_err-terms-clause-reads : goal.returns-in_err-terms-clause-reads
returns-in_err-terms-clause-reads c =
    let p = err_from_is_err_and c.from_residual-in_err-terms.result c.from_residual-in_err-terms.ensures.1 in
    let s = snap c.args.self.now in
    rw p.1 (procedure_parts s.ahead ∙ rw (c.in_ok-extent.ensures.reads.parsed, c.in_err-terms.ensures.reads))

pub returns-in_err-body-clause-reads : goal.returns-in_err-body-clause-reads
returns-in_err-body-clause-reads c =
    let p = err_from_is_err_and c.from_residual-in_err-body.result c.from_residual-in_err-body.ensures.1 in
    let s = snap c.args.self.now in
    rw p.1 (procedure_parts s.ahead ∙ rw (c.in_ok-extent.ensures.reads.parsed, c.in_ok-terms.ensures.reads.parsed, c.in_err-body.ensures.reads))

pub returns-clause-reads : goal.returns-clause-reads
returns-clause-reads c =
    let s = snap c.args.self.now in
    let t = snap c.signature.new.self in
    let u = snap c.terms.new.self in
    let v = snap c.body.new.self in
    let a = c.in_ok-extent.ensures in
    let b = c.in_ok-terms.ensures in
    let d = c.in_ok-body.ensures in
    let after : snap c.seal.new.self ≡ sealed Extent (length s.code + 1) v = c.seal.ensures ∙ ap (λ n. sealed Extent n v) a.extent in
    subst (Read procedure∞ _ s) (sym after) (procedure_read s t u v a.reads b.reads d.reads)
