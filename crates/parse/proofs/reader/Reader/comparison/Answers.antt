use Rattle.std.proofs.Common.{◌≡◌, [], Some, sym, subst}
use Rattle.lang.specs.Code.{code_expr, code_bool}
use Rattle.lang.specs.Grammar.{comparing}
use Rattle.parse.specs.InBool.{comparison∞}
use Rattle.parse.specs.Reading.{snap, Read}
use Rattle.parse.specs.Unbounded.{sum∞}
use Rattle.parse.proofs.InBool.{comparison_reads}
use Rattle.parse.proofs.reader.Reader.comparison.Goals as goal

pub returns-clause-reads : goal.returns-clause-reads
returns-clause-reads c =
    let a = snap c.args.self.now in
    let b = snap c.expression.new.self in
    let d = snap c.expression-2.new.self in
    let o = c.in-Some.op in
    let found : comparing b.ahead ≡ Some o = sym c.in-Some.ensures in
    let left = c.in_ok-expression.ensures in
    let right = c.in_ok-expression-2.ensures in
    let after = c.emit.ensures in
    subst (Read comparison∞ (λ e. code_bool e []) a) (sym after) (comparison_reads a b d o left.reads found (subst (λ s. Read sum∞ (λ e. code_expr e []) s d) c.advance.ensures right.reads))
