use Rattle.std.proofs.Common.{◌≤◌, sym, ap, arith}
use Rattle.std.proofs.lemmas.List.{get_or_past}
use Rattle.lang.specs.Layout.{kinds}
use Rattle.lang.proofs.code.record.procedure.Goals as goal

pub returns-in_default : goal.returns-in_default
returns-in_default c =
    let past : 48 ≤ c.args.b = omega arith in
    ap (λ f. f c.args.n) (sym (get_or_past kinds c.args.b _ past))
