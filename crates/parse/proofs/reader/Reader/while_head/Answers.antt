use Rattle.std.proofs.Common.{◌≡◌, None, sym, ap, ◌∙◌, subst}
use Rattle.std.proofs.lemmas.Result.{err_from_is_err_and}
use Rattle.lang.specs.Grammar.{onward}
use Rattle.lang.specs.Instr as instr
use Rattle.parse.specs.Parts.{part_code}
use Rattle.parse.specs.Reading.{snap, Read, advanced, emitted}
use Rattle.parse.specs.Unbounded.{formula∞}
use Rattle.parse.specs.declared.parts.Header.TheVariants.{Test}
use Rattle.parse.proofs.InBlock.{while_headed}
use Rattle.parse.proofs.Rules.{while_head_rule}
use Rattle.parse.proofs.reader.Reader.while_head.Goals as goal

pub returns-in_err-part-clause-reads : goal.returns-in_err-part-clause-reads
returns-in_err-part-clause-reads c =
    let p = err_from_is_err_and c.from_residual.result c.from_residual.ensures.1 in
    let s = snap c.args.self.now in
    let t = advanced (emitted instr.while s) in
    let first : snap c.advance.new.self ≡ t = c.advance.ensures ∙ ap advanced c.emit.ensures in
    let none : formula∞ (onward s.ahead) ≡ None = ap (λ r. formula∞ r.ahead) (sym first) ∙ c.in_err-part.ensures.reads in
    rw p.1 (rw (while_head_rule (onward s.ahead), none))

pub returns-in_err-condition-clause-reads : goal.returns-in_err-condition-clause-reads
returns-in_err-condition-clause-reads c =
    let p = err_from_is_err_and c.from_residual-in_err-condition.result c.from_residual-in_err-condition.ensures.1 in
    let s = snap c.args.self.now in
    let t = advanced (emitted instr.while s) in
    let first : snap c.advance.new.self ≡ t = c.advance.ensures ∙ ap advanced c.emit.ensures in
    let t' = snap c.part.new.self in
    let b = subst (λ r. Read formula∞ (part_code Test) r t') first c.in_ok-part.ensures.reads in
    rw p.1 (rw (while_head_rule (onward s.ahead), b.parsed, c.in_err-condition.ensures.reads))

pub returns-in_err-measured-clause-reads : goal.returns-in_err-measured-clause-reads
returns-in_err-measured-clause-reads c =
    let p = err_from_is_err_and c.from_residual-in_err-measured.result c.from_residual-in_err-measured.ensures.1 in
    let s = snap c.args.self.now in
    let t = advanced (emitted instr.while s) in
    let first : snap c.advance.new.self ≡ t = c.advance.ensures ∙ ap advanced c.emit.ensures in
    let t' = snap c.part.new.self in
    let b = subst (λ r. Read formula∞ (part_code Test) r t') first c.in_ok-part.ensures.reads in
    let i = c.in_ok-condition.ensures in
    rw p.1 (rw (while_head_rule (onward s.ahead), b.parsed, i.reads.parsed, c.in_err-measured.ensures.reads))

pub returns-in_err-open_block-clause-reads : goal.returns-in_err-open_block-clause-reads
returns-in_err-open_block-clause-reads c =
    let p = err_from_is_err_and c.from_residual-in_err-open_block.result c.from_residual-in_err-open_block.ensures.1 in
    let s = snap c.args.self.now in
    let t = advanced (emitted instr.while s) in
    let first : snap c.advance.new.self ≡ t = c.advance.ensures ∙ ap advanced c.emit.ensures in
    let t' = snap c.part.new.self in
    let b = subst (λ r. Read formula∞ (part_code Test) r t') first c.in_ok-part.ensures.reads in
    let i = c.in_ok-condition.ensures in
    let m = c.in_ok-measured.ensures in
    rw p.1 (rw (while_head_rule (onward s.ahead), b.parsed, i.reads.parsed, m.reads.parsed, c.in_err-open_block.ensures.reads))

pub returns-clause-reads : goal.returns-clause-reads
returns-clause-reads c =
    let s = snap c.args.self.now in
    let t = advanced (emitted instr.while s) in
    let first : snap c.advance.new.self ≡ t = c.advance.ensures ∙ ap advanced c.emit.ensures in
    let t' = snap c.part.new.self in
    let b = subst (λ r. Read formula∞ (part_code Test) r t') first c.in_ok-part.ensures.reads in
    let u = snap c.condition.new.self in
    let i = c.in_ok-condition.ensures in
    let v = snap c.measured.new.self in
    let m = c.in_ok-measured.ensures in
    let w = snap c.open_block.new.self in
    let last = c.in_ok-open_block.ensures in
    while_headed s t' u v w b i.reads m.reads last.reads.0 last.reads.1
