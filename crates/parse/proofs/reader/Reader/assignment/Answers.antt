use Rattle.std.proofs.Common.{◌≡◌, ap, ◌∙◌}
use Rattle.std.proofs.lemmas.Result.{err_from_is_err_and}
use Rattle.lang.specs.Instr.{assign, name_at}
use Rattle.parse.specs.Reading.{snap, advanced, emitted}
use Rattle.parse.proofs.Plain.{assign_ungets, assign_unread, assign_unended, assigned}
use Rattle.parse.proofs.reader.Reader.assignment.Goals as goal

pub returns-in_err-expect-clause-reads : goal.returns-in_err-expect-clause-reads
returns-in_err-expect-clause-reads c =
    let p = err_from_is_err_and c.from_residual.result c.from_residual.ensures.1 in
    let text = c.args.self.now.text.now in
    rw p.1 (assign_ungets (name_at text c.args.name.0) (snap c.args.self.now) c.requires.not_call c.requires.not_store c.in_err-expect.ensures)

pub returns-in_err-expression-clause-reads : goal.returns-in_err-expression-clause-reads
returns-in_err-expression-clause-reads c =
    let p = err_from_is_err_and c.from_residual-in_err-expression.result c.from_residual-in_err-expression.ensures.1 in
    let text = c.args.self.now.text.now in
    rw p.1 (assign_unread (name_at text c.args.name.0) (snap c.args.self.now) c.requires.not_call c.requires.not_store (snap c.expect.new.self) c.in_ok-expect.ensures.0 c.in_err-expression.ensures.reads)

pub returns-in_err-finish_statement-clause-reads : goal.returns-in_err-finish_statement-clause-reads
returns-in_err-finish_statement-clause-reads c =
    let p = err_from_is_err_and c.from_residual-in_err-finish_statement.result c.from_residual-in_err-finish_statement.ensures.1 in
    let text = c.args.self.now.text.now in
    rw p.1 (assign_unended (name_at text c.args.name.0) (snap c.args.self.now) c.requires.not_call c.requires.not_store (snap c.expect.new.self) c.in_ok-expect.ensures.0 (snap c.expression.new.self) c.in_ok-expression.ensures.reads c.in_err-finish_statement.ensures)

pub returns-clause-reads : goal.returns-clause-reads
returns-clause-reads c =
    let text = c.args.self.now.text.now in
    let first = c.in_ok-expect.ensures in
    let told = c.in_ok-expression.ensures in
    let x = name_at text c.args.name.0 in
    let s = snap c.args.self.now in
    let t = snap c.expect.new.self in
    let u = snap c.expression.new.self in
    let v = snap c.finish_statement.new.self in
    let ends = c.in_ok-finish_statement.ensures in
    let last : v ≡ advanced (emitted (assign x) u) = ends.1 ∙ ap (λ w. advanced (emitted (assign (name_at w c.args.name.0)) u)) (told.paid.text ∙ ap (λ r. r.text) first.1) in
    assigned x s c.requires.not_call c.requires.not_store t first.0 u told.reads first.1 v ends.0 last
