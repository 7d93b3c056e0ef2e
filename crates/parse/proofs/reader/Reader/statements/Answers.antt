use Rattle.std.proofs.Common.{[]}
use Rattle.lang.specs.Code.{code_block}
use Rattle.parse.specs.Unbounded.{block∞}
use Rattle.parse.specs.declared.parts.Header.TheVariants.{Body}
use Rattle.parse.proofs.Headed.{headed}
use Rattle.parse.proofs.reader.Reader.statements.Goals as goal

pub returns-clause-reads : goal.returns-clause-reads
returns-clause-reads c =
    let began = c.head-at.ensures in
    headed Body _ _ _ _ _ began.index began.after c.seal.ensures block∞ (λ x. code_block x []) c.in_ok-block.ensures.reads
