use Rattle.std.proofs.Common.{[], ap, ◌∙◌}
use Rattle.lang.specs.Base.{same}
use Rattle.lang.specs.Code.{code_procs}
use Rattle.walk.proofs.Listing.{no_procs, proc_given, proc_begun, procs_on}
use Rattle.walk.proofs.Outlines.{proc_none, proc_here, proc_behind}
use Rattle.walk.proofs.procedures.find_named.Goals as goal

pub returns-then-is : goal.returns-then-is
returns-then-is c qs e =
    let left = c.loop-f.invariant.3 qs e in
    let at = proc_given c.args.program.now c.loop-f.f-iterator c.next.new.self c.loop-f.invariant.2 c.in-Some.f c.in-Some.ensures.steps left.procs left.code in
    record { this = at.this; behind = code_procs at.others []; found = proc_here _ _ _ _ left _ at (c.if-is.ensures ∙ ap (λ t. same t c.args.name.now) c.name.ensures.text); here = proc_begun c.args.program.now c.loop-f.f-iterator c.next.new.self c.loop-f.invariant.2 c.in-Some.f c.in-Some.ensures.steps ∙ at.here }

pub loop-f-preserved : goal.loop-f-preserved
loop-f-preserved c =
    let p = c.args.program.now in
    let here = c.loop-f.invariant.2 in
    let g = c.in-Some.ensures.steps in (
      tt,
      tt,
      procs_on p c.loop-f.f-iterator c.next.new.self here c.in-Some.f g,
      λ qs e.
          let left = c.loop-f.invariant.3 qs e in
          let at = proc_given p c.loop-f.f-iterator c.next.new.self here c.in-Some.f g left.procs left.code in
          rw g.onward.1 (proc_behind _ _ _ _ left _ at (c.if-is.ensures ∙ ap (λ t. same t c.args.name.now) c.name.ensures.text)),
    )

pub returns : goal.returns
returns c qs e =
    let left = c.loop-f.invariant.3 qs e in
    proc_none c.args.program.now _ _ c.loop-f.f-iterator.at left (no_procs c.args.program.now c.loop-f.f-iterator c.next.new.self c.loop-f.invariant.2 c.in-None.ensures.steps left.procs left.code)
