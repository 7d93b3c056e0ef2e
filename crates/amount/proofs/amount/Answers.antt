use Rattle.std.proofs.Common.{[], arith, ◌∙◌}
use Rattle.lang.specs.Code.{code_procs}
use Rattle.walk.specs.Walking.{rest}
use Rattle.walk.proofs.Listing.{no_procs, proc_given, proc_begun, procs_on, procs_behind}
use Rattle.amount.proofs.Amounts.{weighs_none, first_sound, weighs_more}
use Rattle.amount.proofs.amount.Goals as goal

pub loop-f-preserved : goal.loop-f-preserved
loop-f-preserved c =
    let held = c.args.program.now in
    let inv = c.loop-f.invariant in
    let g = c.in-Some.ensures.steps in (
      tt,
      tt,
      procs_on held c.loop-f.f-iterator c.next.new.self inv.2 c.in-Some.f g,
      omega arith,
      λ p holds sound.
          let left = inv.4 p holds sound in
          let at = proc_given held c.loop-f.f-iterator c.next.new.self inv.2 c.in-Some.f g left.procs left.code in
          let first = first_sound p c.loop-f.total (rest held c.loop-f.f-iterator.at) left at.this at.others at.split in
          let begun = proc_begun held c.loop-f.f-iterator c.next.new.self inv.2 c.in-Some.f g ∙ at.here in
          let behind = procs_behind held c.loop-f.f-iterator c.next.new.self inv.2 c.in-Some.f g ∙ at.behind in
          weighs_more p c.loop-f.total (rest held c.loop-f.f-iterator.at) left at.this at.others at.split c.procedure_amount.result _ _ (c.procedure_amount.ensures p holds sound at.this (code_procs at.others []) begun first) c.saturating_add-total.ensures behind,
    )

pub returns : goal.returns
returns c p holds sound =
    let inv = c.loop-f.invariant in
    let left = inv.4 p holds sound in
    weighs_none p c.loop-f.total (rest c.args.program.now c.loop-f.f-iterator.at) left (no_procs c.args.program.now c.loop-f.f-iterator c.next.new.self inv.2 c.in-None.ensures.steps left.procs left.code) inv.3
