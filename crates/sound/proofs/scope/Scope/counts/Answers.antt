use Rattle.std.proofs.Common.{refl}
use Rattle.walk.proofs.Finding.{size_none}
use Rattle.sound.proofs.Scopes.{in_once, in_twice}
use Rattle.sound.proofs.scope.Scope.counts.Goals as goal

pub returns-in-Zero : goal.returns-in-Zero
returns-in-Zero c = rw c.in-Zero.is (size_none _ refl)

pub returns-in-One : goal.returns-in-One
returns-in-One c = rw (c.in-One.is, c.is.ensures) (in_once _ c.in-One.a)

pub returns-then-is : goal.returns-then-is
returns-then-is c = rw (c.in-Two.is, ← (in_twice c.args.name.now c.in-Two.a c.in-Two.b), ← c.if-is.ensures, c.if-is.true)

pub returns-else-is : goal.returns-else-is
returns-else-is c = rw (c.in-Two.is, ← (in_twice c.args.name.now c.in-Two.a c.in-Two.b), ← c.if-is.ensures, c.is-else-is.ensures)
