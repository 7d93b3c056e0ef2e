use Rattle.std.proofs.Common.{arith}
use Rattle.walk.specs.Walking.{word}
use Rattle.amount.proofs.Amounts.{head_is, found_sound, call_is}
use Rattle.amount.proofs.call_amount.Goals as goal

pub returns : goal.returns
returns c p holds sound =
    let held = c.args.program.now in
    let name = word held c.in-Call.name in
    let f = c.in-Some.ensures p.procs holds.code in
    let head = head_is held p f.this f.behind c.outline_at.result (c.outline_at.ensures f.this f.behind f.here) (found_sound p sound name f.this f.found) 2 in
    rw c.in-Call.is (omega (arith, head, call_is p c.args.names name f.this f.found))
