use Rattle.std.proofs.Common.{[], ◌∙◌}
use Rattle.lang.specs.Code.{code_procs}
use Rattle.walk.proofs.Listing.{proc_given, proc_begun, procs_on}
use Rattle.sound.specs.Checking.{well_written}
use Rattle.sound.proofs.Checking.{handed_on}
use Rattle.sound.proofs.Wholes.{all_tested, one_failed, tested_so_far}
use Rattle.sound.proofs.check_written.Goals as goal

pub returns-in_err-check_procedure : goal.returns-in_err-check_procedure
returns-in_err-check_procedure c p holds =
    let held = c.args.program.now in
    let inv = c.loop-f.invariant in
    let g = c.in-Some.ensures.steps in
    let this = proc_given held c.loop-f.f-iterator c.next.new.self inv.2 c.in-Some.f g (inv.3 p holds).procs (inv.3 p holds).code in
    handed_on c.from_residual.result c.from_residual.ensures.0
    ∙ one_failed held c.loop-f.f-iterator c.next.new.self inv.2 (well_written p) _ (inv.3 p holds) c.in-Some.f g this (c.in_err-check_procedure.ensures p holds this.this (code_procs this.others []) (proc_begun held c.loop-f.f-iterator c.next.new.self inv.2 c.in-Some.f g ∙ this.here))

pub loop-f-preserved : goal.loop-f-preserved
loop-f-preserved c =
    let held = c.args.program.now in
    let inv = c.loop-f.invariant in
    let g = c.in-Some.ensures.steps in (
      tt,
      tt,
      procs_on held c.loop-f.f-iterator c.next.new.self inv.2 c.in-Some.f g,
      λ p holds.
          let this = proc_given held c.loop-f.f-iterator c.next.new.self inv.2 c.in-Some.f g (inv.3 p holds).procs (inv.3 p holds).code in
          tested_so_far held c.loop-f.f-iterator c.next.new.self inv.2 (well_written p) _ (inv.3 p holds) c.in-Some.f g this (c.in_ok-check_procedure.ensures p holds this.this (code_procs this.others []) (proc_begun held c.loop-f.f-iterator c.next.new.self inv.2 c.in-Some.f g ∙ this.here)),
    )

pub returns : goal.returns
returns c p holds =
    let inv = c.loop-f.invariant in
    all_tested c.args.program.now c.loop-f.f-iterator c.next.new.self inv.2 (well_written p) _ (inv.3 p holds) c.in-None.ensures.steps
