use Rattle.std.proofs.Common.{sym, refl}
use Rattle.walk.proofs.Walking.{no_name, no_declaration, declared_here}
use Rattle.walk.proofs.declarations.at.Goals as goal

pub returns-in_err-place : goal.returns-in_err-place
returns-in_err-place c = rw c.from_residual.ensures (no_name _ (sym c.in_err-place.ensures.name))

pub returns-in_err-shape : goal.returns-in_err-shape
returns-in_err-shape c = rw c.from_residual-in_err-shape.ensures (no_declaration c.args.program.now c.args.i (sym c.in_err-shape.ensures))

pub returns : goal.returns
returns c = declared_here c.args.program.now c.args.i _ refl c.in_ok-place.ensures.name c.in_ok-shape.ensures c.in_ok-place.ensures.bound
