use Rattle.std.proofs.lemmas.Result.{err_from_is_err_and}
use Rattle.parse.specs.Parts.{part_code}
use Rattle.parse.specs.Unbounded.{formula∞, condition∞}
use Rattle.parse.specs.Reading.{snap}
use Rattle.parse.proofs.Clauses.{clause, clause_none, clause_unread, clause_unended}
use Rattle.parse.proofs.Rules.{condition_rule}
use Rattle.parse.proofs.reader.Reader.condition.Goals as goal

pub returns-in_err-expect-clause-reads : goal.returns-in_err-expect-clause-reads
returns-in_err-expect-clause-reads c =
    let p = err_from_is_err_and c.from_residual.result c.from_residual.ensures.1 in
    rw p.1 (clause_none c.args.word formula∞ (condition∞ c.args.word) (part_code c.args.header) (condition_rule c.args.word) (snap c.args.self.now) c.in_err-expect.ensures)

pub returns-in_err-part-clause-reads : goal.returns-in_err-part-clause-reads
returns-in_err-part-clause-reads c =
    let p = err_from_is_err_and c.from_residual-in_err-part.result c.from_residual-in_err-part.ensures.1 in
    let s = snap c.args.self.now in
    let t = snap c.expect.new.self in
    let first = c.in_ok-expect.ensures in
    rw p.1 (clause_unread c.args.word formula∞ (condition∞ c.args.word) (part_code c.args.header) (condition_rule c.args.word) s t first.1 first.0 c.in_err-part.ensures.reads)

pub returns-in_err-expect-2-clause-reads : goal.returns-in_err-expect-2-clause-reads
returns-in_err-expect-2-clause-reads c =
    let p = err_from_is_err_and c.from_residual-in_err-expect-2.result c.from_residual-in_err-expect-2.ensures.1 in
    let s = snap c.args.self.now in
    let t = snap c.expect.new.self in
    let first = c.in_ok-expect.ensures in
    let u = snap c.part.new.self in
    rw p.1 (clause_unended c.args.word formula∞ (condition∞ c.args.word) (part_code c.args.header) (condition_rule c.args.word) s t first.1 first.0 u c.in_ok-part.ensures.reads c.in_err-expect-2.ensures)

pub returns-clause-reads : goal.returns-clause-reads
returns-clause-reads c =
    let s = snap c.args.self.now in
    let t = snap c.expect.new.self in
    let first = c.in_ok-expect.ensures in
    let u = snap c.part.new.self in
    let told = c.in_ok-part.ensures in
    let v = snap c.expect-2.new.self in
    let last = c.in_ok-expect-2.ensures in
    clause c.args.word formula∞ (condition∞ c.args.word) (part_code c.args.header) (condition_rule c.args.word) s t first.1 first.0 u told.reads v last.1 last.0
