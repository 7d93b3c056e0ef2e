use Rattle.std.proofs.Common.{sym}
use Rattle.std.proofs.lemmas.Result.{MatchResult-weaker}
use Rattle.parse.specs.Reading.{snap}
use Rattle.parse.proofs.Declaring.{some_parameters}
use Rattle.parse.proofs.reader.Reader.parameters.Goals as goal

pub returns-clause-reads : goal.returns-clause-reads
returns-clause-reads c =
    let b = sym c.if-at.ensures in
    MatchResult-weaker c.declarations.result c.declarations.ensures.reads (λ _ r. some_parameters (snap c.args.self.now) (snap c.declarations.new.self) b r) (λ _ n. rw b n)
