use Rattle.std.proofs.Common.{◌≡◌, [], ◌∷◌, ◌++◌, None, sym, ap, ◌∙◌, subst, append_assoc}
use Rattle.std.proofs.lemmas.Result.{err_from_is_err_and}
use Rattle.lang.specs.Code.{code_bool, code_stmt}
use Rattle.lang.specs.Grammar.{onward}
use Rattle.lang.specs.Instr as instr
use Rattle.lang.specs.Syntax.{check}
use Rattle.lang.proofs.Codes.{bool_front}
use Rattle.parse.specs.Reading.{snap, Read}
use Rattle.parse.specs.Unbounded.{formula∞}
use Rattle.parse.proofs.Plain.{statement_check}
use Rattle.parse.proofs.reader.Reader.check.Goals as goal

pub returns-in_err-formula-clause-reads : goal.returns-in_err-formula-clause-reads
returns-in_err-formula-clause-reads c =
    let p = err_from_is_err_and c.from_residual.result c.from_residual.ensures.1 in
    let s = snap c.args.self.now in
    let first = c.advance.ensures in
    let none : formula∞ (onward s.ahead) ≡ None = ap (λ t. formula∞ t.ahead) (sym first) ∙ c.in_err-formula.ensures.reads in
    rw p.1 (statement_check s.ahead c.requires.check ∙ rw none)

pub returns-in_err-finish_statement-clause-reads : goal.returns-in_err-finish_statement-clause-reads
returns-in_err-finish_statement-clause-reads c =
    let p = err_from_is_err_and c.from_residual-in_err-finish_statement.result c.from_residual-in_err-finish_statement.ensures.1 in
    let s = snap c.args.self.now in
    let first = c.advance.ensures in
    let u = snap c.formula.new.self in
    let told = c.in_ok-formula.ensures in
    let read = subst (λ t. Read formula∞ (λ b. code_bool b []) t u) first told.reads in
    rw p.1 (statement_check s.ahead c.requires.check ∙ rw (read.parsed, c.in_err-finish_statement.ensures))

pub returns-clause-reads : goal.returns-clause-reads
unfolding code_stmt
returns-clause-reads c =
    let s = snap c.args.self.now in
    let first = c.advance.ensures in
    let u = snap c.formula.new.self in
    let told = c.in_ok-formula.ensures in
    let read = subst (λ t. Read formula∞ (λ b. code_bool b []) t u) first told.reads in
    let last = c.in_ok-finish_statement.ensures in
    record {
      value = check read.value;
      parsed = statement_check s.ahead c.requires.check ∙ rw (read.parsed, last.0);
      code = ap (λ r. r.code) last.1 ∙ ap (λ k. k ++ instr.check ∷ []) read.code ∙ append_assoc s.code (code_bool read.value []) _ ∙ ap (λ k. s.code ++ k) (sym ((bool_front read.value).splits (instr.check ∷ [])));
      pending = ap (λ r. r.pending) last.1 ∙ read.pending;
    }
