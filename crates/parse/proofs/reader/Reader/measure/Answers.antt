use Rattle.std.proofs.Common.{[]}
use Rattle.lang.specs.Code.{code_expr}
use Rattle.parse.specs.Unbounded.{sum∞}
use Rattle.parse.specs.declared.parts.Header.TheVariants.{Measure}
use Rattle.parse.proofs.Headed.{headed}
use Rattle.parse.proofs.reader.Reader.measure.Goals as goal

pub returns-clause-reads : goal.returns-clause-reads
returns-clause-reads c =
    let began = c.head-at.ensures in
    headed Measure _ _ _ _ _ began.index began.after c.seal.ensures sum∞ (λ x. code_expr x []) c.in_ok-expression.ensures.reads
