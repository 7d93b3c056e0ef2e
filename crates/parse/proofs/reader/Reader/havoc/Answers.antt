use Rattle.std.proofs.Common.{◌≡◌, Some, None, sym, ap, ◌∙◌}
use Rattle.std.proofs.lemmas.Result.{err_from_is_err_and}
use Rattle.lang.specs.Code.{code_stmt}
use Rattle.lang.specs.Grammar.{onward, expect, a_name}
use Rattle.lang.specs.Instr as instr
use Rattle.lang.specs.Instr.{name_at}
use Rattle.lang.specs.Syntax.{havoc}
use Rattle.lang.specs.declared.token.Fixed.TheVariants.{Semicolon}
use Rattle.parse.specs.Reading.{snap, advanced, emitted}
use Rattle.parse.proofs.Plain.{statement_any}
use Rattle.parse.proofs.reader.Reader.havoc.Goals as goal

pub returns-in_err-name-clause-reads : goal.returns-in_err-name-clause-reads
returns-in_err-name-clause-reads c =
    let p = err_from_is_err_and c.from_residual.result c.from_residual.ensures.1 in
    let s = snap c.args.self.now in
    let first = c.advance.ensures in
    let none : a_name (onward s.ahead) ≡ None = ap (λ t. a_name t.ahead) (sym first) ∙ c.in_err-name.ensures in
    rw p.1 (statement_any s.ahead c.requires.any ∙ rw none)

pub returns-in_err-finish_statement-clause-reads : goal.returns-in_err-finish_statement-clause-reads
returns-in_err-finish_statement-clause-reads c =
    let p = err_from_is_err_and c.from_residual-in_err-finish_statement.result c.from_residual-in_err-finish_statement.ensures.1 in
    let text = c.args.self.now.text.now in
    let s = snap c.args.self.now in
    let first = c.advance.ensures in
    let x = name_at text c.in_ok-name.name.0 in
    let two : snap c.name.new.self ≡ advanced (advanced s) = c.in_ok-name.ensures.1 ∙ ap advanced first in
    let named : a_name (onward s.ahead) ≡ Some (x, onward (onward s.ahead)) = ap (λ t. a_name t.ahead) (sym first) ∙ c.in_ok-name.ensures.0 ∙ (λ i. Some (name_at (first i).text c.in_ok-name.name.0, (two i).ahead)) in
    let none : expect Semicolon (onward (onward s.ahead)) ≡ None = ap (λ t. expect Semicolon t.ahead) (sym two) ∙ c.in_err-finish_statement.ensures in
    rw p.1 (statement_any s.ahead c.requires.any ∙ rw (named, none))

pub returns-clause-reads : goal.returns-clause-reads
unfolding code_stmt
returns-clause-reads c =
    let text = c.args.self.now.text.now in
    let s = snap c.args.self.now in
    let first = c.advance.ensures in
    let x = name_at text c.in_ok-name.name.0 in
    let two : snap c.name.new.self ≡ advanced (advanced s) = c.in_ok-name.ensures.1 ∙ ap advanced first in
    let named : a_name (onward s.ahead) ≡ Some (x, onward (onward s.ahead)) = ap (λ t. a_name t.ahead) (sym first) ∙ c.in_ok-name.ensures.0 ∙ (λ i. Some (name_at (first i).text c.in_ok-name.name.0, (two i).ahead)) in
    let t = advanced (advanced s) in
    let v = snap c.finish_statement.new.self in
    let last : v ≡ advanced (emitted (instr.havoc x) t) = c.in_ok-finish_statement.ensures.1 ∙ ap (λ r. advanced (emitted (instr.havoc (name_at r.text c.in_ok-name.name.0)) r)) two in
    let ends : expect Semicolon t.ahead ≡ Some v.ahead = ap (λ r. expect Semicolon r.ahead) (sym two) ∙ c.in_ok-finish_statement.ensures.0 in
    record { value = havoc x; parsed = statement_any s.ahead c.requires.any ∙ rw (named, ends); code = ap (λ r. r.code) last; pending = ap (λ r. r.pending) last }
