use Rattle.std.proofs.Common.{◌≡◌, [], None, sym, ap, ◌∙◌, subst}
use Rattle.std.proofs.lemmas.Result.{err_from_is_err_and}
use Rattle.lang.specs.Code.{code_bool}
use Rattle.lang.specs.Grammar.{onward}
use Rattle.lang.specs.Instr as instr
use Rattle.parse.specs.Reading.{snap, Read, advanced, emitted}
use Rattle.parse.specs.Unbounded.{formula∞}
use Rattle.parse.proofs.InBlock.{if_headed}
use Rattle.parse.proofs.Rules.{if_head_rule}
use Rattle.parse.proofs.reader.Reader.if_head.Goals as goal

pub returns-in_err-formula-clause-reads : goal.returns-in_err-formula-clause-reads
returns-in_err-formula-clause-reads c =
    let p = err_from_is_err_and c.from_residual.result c.from_residual.ensures.1 in
    let s = snap c.args.self.now in
    let t = advanced (emitted instr.if s) in
    let first : snap c.advance.new.self ≡ t = c.advance.ensures ∙ ap advanced c.emit.ensures in
    let none : formula∞ (onward s.ahead) ≡ None = ap (λ r. formula∞ r.ahead) (sym first) ∙ c.in_err-formula.ensures.reads in
    rw p.1 (rw (if_head_rule (onward s.ahead), none))

pub returns-in_err-open_block-clause-reads : goal.returns-in_err-open_block-clause-reads
returns-in_err-open_block-clause-reads c =
    let p = err_from_is_err_and c.from_residual-in_err-open_block.result c.from_residual-in_err-open_block.ensures.1 in
    let s = snap c.args.self.now in
    let t = advanced (emitted instr.if s) in
    let first : snap c.advance.new.self ≡ t = c.advance.ensures ∙ ap advanced c.emit.ensures in
    let u = snap c.formula.new.self in
    let told = c.in_ok-formula.ensures in
    let read = subst (λ r. Read formula∞ (λ b. code_bool b []) r u) first told.reads in
    rw p.1 (rw (if_head_rule (onward s.ahead), read.parsed, c.in_err-open_block.ensures.reads))

pub returns-clause-reads : goal.returns-clause-reads
returns-clause-reads c =
    let s = snap c.args.self.now in
    let t = advanced (emitted instr.if s) in
    let first : snap c.advance.new.self ≡ t = c.advance.ensures ∙ ap advanced c.emit.ensures in
    let u = snap c.formula.new.self in
    let told = c.in_ok-formula.ensures in
    let read = subst (λ r. Read formula∞ (λ b. code_bool b []) r u) first told.reads in
    let v = snap c.open_block.new.self in
    let last = c.in_ok-open_block.ensures in
    if_headed s u v read last.reads.0 last.reads.1
