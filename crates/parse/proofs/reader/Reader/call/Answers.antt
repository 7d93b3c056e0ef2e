use Rattle.std.proofs.Common.{◌≡◌, [], ◌∷◌, ◌++◌, None, sym, ap, ◌∙◌, subst, append_assoc}
use Rattle.std.proofs.lemmas.Result.{err_from_is_err_and}
use Rattle.lang.specs.Code.{code_args, code_stmt}
use Rattle.lang.specs.Grammar.{onward}
use Rattle.lang.specs.Instr as instr
use Rattle.lang.specs.Instr.{name_at}
use Rattle.lang.specs.Syntax.{call}
use Rattle.lang.proofs.Codes.{args_front}
use Rattle.parse.specs.Reading.{snap, Read, advanced, emitted}
use Rattle.parse.specs.Unbounded.{maybe_names∞}
use Rattle.parse.proofs.Rules.{named_statement_rule}
use Rattle.parse.proofs.reader.Reader.call.Goals as goal

pub returns-in_err-arguments-clause-reads : goal.returns-in_err-arguments-clause-reads
returns-in_err-arguments-clause-reads c =
    let p = err_from_is_err_and c.from_residual.result c.from_residual.ensures.1 in
    let text = c.args.self.now.text.now in
    let x = name_at text c.args.name.0 in
    let s = snap c.args.self.now in
    let t = advanced (emitted (instr.call x) s) in
    let first : snap c.advance.new.self ≡ t = c.advance.ensures ∙ ap advanced c.emit.ensures in
    let none : maybe_names∞ (onward s.ahead) ≡ None = ap (λ r. maybe_names∞ r.ahead) (sym first) ∙ c.in_err-arguments.ensures.reads in
    rw p.1 (rw (named_statement_rule x s.ahead, c.requires.call, none))

pub returns-in_err-finish_statement-clause-reads : goal.returns-in_err-finish_statement-clause-reads
returns-in_err-finish_statement-clause-reads c =
    let p = err_from_is_err_and c.from_residual-in_err-finish_statement.result c.from_residual-in_err-finish_statement.ensures.1 in
    let text = c.args.self.now.text.now in
    let x = name_at text c.args.name.0 in
    let s = snap c.args.self.now in
    let t = advanced (emitted (instr.call x) s) in
    let first : snap c.advance.new.self ≡ t = c.advance.ensures ∙ ap advanced c.emit.ensures in
    let u = snap c.arguments.new.self in
    let told = c.in_ok-arguments.ensures in
    let read = subst (λ r. Read maybe_names∞ (λ xs. code_args xs []) r u) first told.reads in
    rw p.1 (rw (named_statement_rule x s.ahead, c.requires.call, read.parsed, c.in_err-finish_statement.ensures))

pub returns-clause-reads : goal.returns-clause-reads
unfolding code_stmt
returns-clause-reads c =
    let text = c.args.self.now.text.now in
    let x = name_at text c.args.name.0 in
    let s = snap c.args.self.now in
    let t = advanced (emitted (instr.call x) s) in
    let first : snap c.advance.new.self ≡ t = c.advance.ensures ∙ ap advanced c.emit.ensures in
    let u = snap c.arguments.new.self in
    let told = c.in_ok-arguments.ensures in
    let read = subst (λ r. Read maybe_names∞ (λ xs. code_args xs []) r u) first told.reads in
    let last = c.in_ok-finish_statement.ensures in
    record {
      value = call x read.value;
      parsed = rw (named_statement_rule x s.ahead, c.requires.call, read.parsed, last.0);
      code = ap (λ r. r.code) last.1 ∙ ap (λ k. k ++ instr.end_call ∷ []) read.code ∙ append_assoc (s.code ++ instr.call x ∷ []) (code_args read.value []) _ ∙ append_assoc s.code (instr.call x ∷ []) _ ∙ ap (λ k. s.code ++ instr.call x ∷ k) (sym ((args_front read.value).splits (instr.end_call ∷ [])));
      pending = ap (λ r. r.pending) last.1 ∙ read.pending;
    }
