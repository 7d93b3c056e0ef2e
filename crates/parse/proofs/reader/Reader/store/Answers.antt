use Rattle.std.proofs.Common.{◌≡◌, [], None, sym, ap, ◌∙◌, subst}
use Rattle.std.proofs.lemmas.Result.{err_from_is_err_and}
use Rattle.lang.specs.Code.{code_expr, code_stmt}
use Rattle.lang.specs.Grammar.{onward}
use Rattle.lang.specs.Instr as instr
use Rattle.lang.specs.Instr.{name_at}
use Rattle.lang.specs.Syntax.{store}
use Rattle.parse.specs.Reading.{snap, Read, advanced, emitted}
use Rattle.parse.specs.Unbounded.{sum∞}
use Rattle.parse.proofs.Plain.{two_exprs}
use Rattle.parse.proofs.Rules.{named_statement_rule}
use Rattle.parse.proofs.reader.Reader.store.Goals as goal

pub returns-in_err-expression-clause-reads : goal.returns-in_err-expression-clause-reads
returns-in_err-expression-clause-reads c =
    let p = err_from_is_err_and c.from_residual.result c.from_residual.ensures.1 in
    let text = c.args.self.now.text.now in
    let x = name_at text c.args.name.0 in
    let s = snap c.args.self.now in
    let first = c.advance.ensures in
    let none : sum∞ (onward s.ahead) ≡ None = ap (λ r. sum∞ r.ahead) (sym first) ∙ c.in_err-expression.ensures.reads in
    rw p.1 (rw (named_statement_rule x s.ahead, c.requires.not_call, c.requires.store, none))

pub returns-in_err-expect-clause-reads : goal.returns-in_err-expect-clause-reads
returns-in_err-expect-clause-reads c =
    let p = err_from_is_err_and c.from_residual-in_err-expect.result c.from_residual-in_err-expect.ensures.1 in
    let text = c.args.self.now.text.now in
    let x = name_at text c.args.name.0 in
    let s = snap c.args.self.now in
    let first = c.advance.ensures in
    let i = subst (λ r. Read sum∞ (λ e. code_expr e []) r (snap c.expression.new.self)) first c.in_ok-expression.ensures.reads in
    rw p.1 (rw (named_statement_rule x s.ahead, c.requires.not_call, c.requires.store, i.parsed, c.in_err-expect.ensures))

pub returns-in_err-expect-2-clause-reads : goal.returns-in_err-expect-2-clause-reads
returns-in_err-expect-2-clause-reads c =
    let p = err_from_is_err_and c.from_residual-in_err-expect-2.result c.from_residual-in_err-expect-2.ensures.1 in
    let text = c.args.self.now.text.now in
    let x = name_at text c.args.name.0 in
    let s = snap c.args.self.now in
    let first = c.advance.ensures in
    let i = subst (λ r. Read sum∞ (λ e. code_expr e []) r (snap c.expression.new.self)) first c.in_ok-expression.ensures.reads in
    let gets = c.in_ok-expect.ensures in
    rw p.1 (rw (named_statement_rule x s.ahead, c.requires.not_call, c.requires.store, i.parsed, gets.0, c.in_err-expect-2.ensures))

pub returns-in_err-expression-2-clause-reads : goal.returns-in_err-expression-2-clause-reads
returns-in_err-expression-2-clause-reads c =
    let p = err_from_is_err_and c.from_residual-in_err-expression-2.result c.from_residual-in_err-expression-2.ensures.1 in
    let text = c.args.self.now.text.now in
    let x = name_at text c.args.name.0 in
    let s = snap c.args.self.now in
    let first = c.advance.ensures in
    let i = subst (λ r. Read sum∞ (λ e. code_expr e []) r (snap c.expression.new.self)) first c.in_ok-expression.ensures.reads in
    let gets = c.in_ok-expect.ensures in
    let is = c.in_ok-expect-2.ensures in
    rw p.1 (rw (named_statement_rule x s.ahead, c.requires.not_call, c.requires.store, i.parsed, gets.0, is.0, c.in_err-expression-2.ensures.reads))

pub returns-in_err-finish_statement-clause-reads : goal.returns-in_err-finish_statement-clause-reads
returns-in_err-finish_statement-clause-reads c =
    let p = err_from_is_err_and c.from_residual-in_err-finish_statement.result c.from_residual-in_err-finish_statement.ensures.1 in
    let text = c.args.self.now.text.now in
    let x = name_at text c.args.name.0 in
    let s = snap c.args.self.now in
    let first = c.advance.ensures in
    let i = subst (λ r. Read sum∞ (λ e. code_expr e []) r (snap c.expression.new.self)) first c.in_ok-expression.ensures.reads in
    let gets = c.in_ok-expect.ensures in
    let is = c.in_ok-expect-2.ensures in
    let e = c.in_ok-expression-2.ensures.reads in
    rw p.1 (rw (named_statement_rule x s.ahead, c.requires.not_call, c.requires.store, i.parsed, gets.0, is.0, e.parsed, c.in_err-finish_statement.ensures))

pub returns-clause-reads : goal.returns-clause-reads
unfolding code_stmt
returns-clause-reads c =
    let text = c.args.self.now.text.now in
    let x = name_at text c.args.name.0 in
    let s = snap c.args.self.now in
    let first = c.advance.ensures in
    let i = subst (λ r. Read sum∞ (λ e. code_expr e []) r (snap c.expression.new.self)) first c.in_ok-expression.ensures.reads in
    let gets = c.in_ok-expect.ensures in
    let is = c.in_ok-expect-2.ensures in
    let e = c.in_ok-expression-2.ensures.reads in
    let v = snap c.expect-2.new.self in
    let w = snap c.expression-2.new.self in
    let z = snap c.finish_statement.new.self in
    let ends = c.in_ok-finish_statement.ensures in
    let same = c.in_ok-expression-2.ensures.paid.text ∙ ap (λ r. r.text) is.1 ∙ ap (λ r. r.text) gets.1 ∙ c.in_ok-expression.ensures.paid.text ∙ ap (λ r. r.text) first in
    let last : z ≡ advanced (emitted (instr.store x) w) = ends.1 ∙ ap (λ r. advanced (emitted (instr.store (name_at r c.args.name.0)) w)) same in
    let kept = ap (λ r. r.code) is.1 ∙ ap (λ r. r.code) gets.1 ∙ i.code in
    record {
      value = store x i.value e.value;
      parsed = rw (named_statement_rule x s.ahead, c.requires.not_call, c.requires.store, i.parsed, gets.0, is.0, e.parsed, ends.0);
      code = ap (λ r. r.code) last ∙ two_exprs s.code v.code w.code i.value e.value (instr.store x) kept e.code;
      pending = ap (λ r. r.pending) last ∙ e.pending ∙ ap (λ r. r.pending) is.1 ∙ ap (λ r. r.pending) gets.1 ∙ i.pending;
    }
