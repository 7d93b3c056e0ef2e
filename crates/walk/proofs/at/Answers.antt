use Rattle.std.proofs.Common.{refl, ap, ◌∙◌}
use Rattle.std.specs.Option.{unwrap_or}
use Rattle.lent.specs.Views.{kept}
use Rattle.lang.specs.Instr.{instr}
use Rattle.lang.specs.Layout.{node}
use Rattle.lang.specs.declared.code.Node.TheVariants.{EndProc}
use Rattle.walk.proofs.Walking.{first_nth}
use Rattle.walk.proofs.at.Goals as goal

pub returns-clause-node : goal.returns-clause-node
returns-clause-node c =
    let f = instr c.args.program.now.text.now in
    let nodes = kept node c.args.program.now.code in
    ap f (c.unwrap_or.ensures ∙ ap (λ o. unwrap_or o EndProc) c.get.ensures) ∙ first_nth f EndProc refl nodes c.args.i
