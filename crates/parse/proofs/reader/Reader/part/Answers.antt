use Rattle.std.proofs.Common.{[]}
use Rattle.lang.specs.Code.{code_bool}
use Rattle.parse.specs.Unbounded.{formula∞}
use Rattle.parse.proofs.Headed.{headed}
use Rattle.parse.proofs.reader.Reader.part.Goals as goal

pub returns-clause-reads : goal.returns-clause-reads
returns-clause-reads c =
    let began = c.head-at.ensures in
    headed c.args.header _ _ _ _ _ began.index began.after c.seal.ensures formula∞ (λ x. code_bool x []) c.in_ok-formula.ensures.reads
