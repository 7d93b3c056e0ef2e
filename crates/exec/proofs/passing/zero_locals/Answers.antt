use Rattle.std.proofs.Common.{ℕ, ◌++◌, replicate, vec_items, sym, ap, ◌∙◌}
use Rattle.eval.specs.States.{counts}
use Rattle.walk.specs.Listing.{declared_in}
use Rattle.exec.proofs.Handing.{zeros_none, zeros_more}
use Rattle.exec.proofs.passing.zero_locals.Goals as goal

pub loop-d-preserved : goal.loop-d-preserved
loop-d-preserved c =
    let n : ℕ = 0 in
    let more = c.in_ok-push_zeros.ensures in
    let behind = replicate (counts (declared_in c.next.new.self)) n in
    (tt, tt, ap (λ xs. xs ++ behind) (more ∙ ap (λ k. vec_items c.loop-d.numbers ++ replicate k n) c.count.ensures) ∙ zeros_more (vec_items c.loop-d.numbers) c.in-Some.ensures.steps ∙ c.loop-d.invariant.2)

pub returns : goal.returns
returns c = sym (zeros_none (vec_items c.loop-d.numbers) _ c.in-None.ensures.steps.0) ∙ c.loop-d.invariant.2
