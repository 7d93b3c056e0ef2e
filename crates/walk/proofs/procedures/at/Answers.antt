use Rattle.std.proofs.Common.{sym, refl, ap, arith, is_some}
use Rattle.lang.specs.Holding.{code_of}
use Rattle.walk.specs.Roles.{begun_name}
use Rattle.walk.proofs.Outlines.{begun, not_begun}
use Rattle.walk.proofs.Walking.{found_here}
use Rattle.walk.proofs.procedures.at.Goals as goal

pub returns-in_err-place-clause-finds : goal.returns-in_err-place-clause-finds
returns-in_err-place-clause-finds c qs here = rw c.from_residual.ensures (not_begun c.args.program.now c.args.i qs here c.in_err-place.ensures.name)

pub returns : goal.returns
returns c =
    let p = c.args.program.now in
    let inside = (found_here begun_name (code_of p) c.args.i _ refl (sym c.in_ok-place.ensures.name)).within in
    record {
      onward = (omega arith, inside);
      finds = λ qs here. begun p c.args.i _ qs here refl c.in_ok-place.ensures.name c.part_end.ensures;
      start = refl;
      begins = ap is_some c.in_ok-place.ensures.name;
    }
