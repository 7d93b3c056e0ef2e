use Rattle.std.proofs.Common.{◌≤◌, length, sym, arith}
use Rattle.lang.proofs.Lexing.{part_run, run_past, run_within}
use Rattle.lang.proofs.scan.name.Goals as goal

pub slice_bounds-result-end : goal.slice_bounds-result-end
slice_bounds-result-end c =
    let text = c.args.text.now in
    let fits : c.args.at ≤ length text = omega arith in
    omega (arith, run_within text c.args.at fits, c.run_end.ensures)

pub returns-then-at-text : goal.returns-then-at-text
returns-then-at-text c = rw c.run_end.ensures (part_run c.args.text.now c.args.at)

pub returns-else-at-text : goal.returns-else-at-text
returns-else-at-text c = sym (run_past _ _ c.if-at-text.false)
