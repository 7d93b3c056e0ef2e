use Rattle.std.proofs.Common.{take, sym, ap, ◌∙◌, arith}
use Rattle.std.proofs.lemmas.List.{take_min}
use Rattle.lang.specs.Positions.{position_behind}
use Rattle.lang.proofs.Positions.{past_feed, past_other, past_more, past_end}
use Rattle.lang.proofs.position.position_of.Goals as goal
use Rattle.lang.proofs.position.position_of.Goals.{then-b-eq10, else-b-eq10}

pub loop-b-preserved : goal.loop-b-preserved
loop-b-preserved c =
    let p = c.loop-b.p in
    let front = take c.min.result c.args.text.now in
    elim c.if-b-eq10.branch [
      | then-b-eq10 w ↦ (past_more p _ front c.loop-b.b-index c.loop-b-test.true (w.p-is ∙ sym (past_feed p _ w.if-b-eq10.true)) ∙ c.loop-b.invariant.0, (omega (arith, ap (λ q. q.line) w.p-is), omega (arith, ap (λ q. q.column) w.p-is)))
      | else-b-eq10 w ↦ (past_more p _ front c.loop-b.b-index c.loop-b-test.true (w.p-is ∙ sym (past_other p _ w.if-b-eq10.false)) ∙ c.loop-b.invariant.0, (omega (arith, ap (λ q. q.line) w.p-is), omega (arith, ap (λ q. q.column) w.p-is)))
    ]

pub returns : goal.returns
returns c = sym (past_end c.loop-b.p _ c.loop-b.b-index c.loop-b-test.false) ∙ c.loop-b.invariant.0 ∙ ap (λ n. position_behind (take n c.args.text.now)) c.min.ensures ∙ ap position_behind (take_min c.args.at c.args.text.now)
