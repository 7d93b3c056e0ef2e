use Rattle.std.proofs.Common.{[], ◌∙◌}
use Rattle.lang.specs.Code.{code_procs}
use Rattle.walk.proofs.Listing.{proc_given, proc_begun, procs_on}
use Rattle.sound.proofs.Checking.{handed_on}
use Rattle.sound.proofs.Wholes.{all_seen, seen_again, ill_declared, declared_so_far}
use Rattle.sound.proofs.check_declared.Goals as goal

pub returns-then-is_some : goal.returns-then-is_some
returns-then-is_some c qs e =
    let held = c.args.program.now in
    let inv = c.loop-f.invariant in
    let this = proc_given held c.loop-f.f-iterator c.next.new.self inv.2 c.in-Some.f c.in-Some.ensures.steps (inv.3 qs e).procs (inv.3 qs e).code in
    seen_again held c.loop-f.f-iterator c.next.new.self inv.2 _ (inv.3 qs e) c.in-Some.f c.in-Some.ensures.steps this c.find_named.result (rw c.name.ensures.text at (c.find_named.ensures this.others this.behind)) c.if-is_some.ensures

pub returns-in_err-check_names : goal.returns-in_err-check_names
returns-in_err-check_names c qs e =
    let held = c.args.program.now in
    let inv = c.loop-f.invariant in
    let g = c.in-Some.ensures.steps in
    let this = proc_given held c.loop-f.f-iterator c.next.new.self inv.2 c.in-Some.f g (inv.3 qs e).procs (inv.3 qs e).code in
    let laid = c.outline_at.ensures this.this (code_procs this.others []) (proc_begun held c.loop-f.f-iterator c.next.new.self inv.2 c.in-Some.f g ∙ this.here) in
    handed_on c.from_residual.result c.from_residual.ensures.0
    ∙ ill_declared held c.loop-f.f-iterator c.next.new.self inv.2 _ (inv.3 qs e) c.in-Some.f g this c.find_named.result (rw c.name.ensures.text at (c.find_named.ensures this.others this.behind)) c.outline_at.result laid c.if-is_some.ensures c.in_err-check_names.ensures

pub loop-f-preserved : goal.loop-f-preserved
loop-f-preserved c =
    let held = c.args.program.now in
    let inv = c.loop-f.invariant in
    let g = c.in-Some.ensures.steps in (
      tt,
      tt,
      procs_on held c.loop-f.f-iterator c.next.new.self inv.2 c.in-Some.f g,
      λ qs e.
          let this = proc_given held c.loop-f.f-iterator c.next.new.self inv.2 c.in-Some.f g (inv.3 qs e).procs (inv.3 qs e).code in
          let laid = c.outline_at.ensures this.this (code_procs this.others []) (proc_begun held c.loop-f.f-iterator c.next.new.self inv.2 c.in-Some.f g ∙ this.here) in
          declared_so_far held c.loop-f.f-iterator c.next.new.self inv.2 _ (inv.3 qs e) c.in-Some.f g this c.find_named.result (rw c.name.ensures.text at (c.find_named.ensures this.others this.behind)) c.outline_at.result laid c.if-is_some.ensures c.in_ok-check_names.ensures,
    )

pub returns : goal.returns
returns c qs e =
    let inv = c.loop-f.invariant in
    all_seen c.args.program.now c.loop-f.f-iterator c.next.new.self inv.2 _ (inv.3 qs e) c.in-None.ensures.steps
