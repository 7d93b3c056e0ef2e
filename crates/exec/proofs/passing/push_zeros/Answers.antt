use Rattle.std.proofs.Common.{ℕ, [], ◌∷◌, ◌++◌, replicate, vec_items, ap, ◌∙◌, append_assoc}
use Rattle.std.proofs.lemmas.List.{replicate_more}
use Rattle.exec.proofs.passing.push_zeros.Goals as goal

pub loop-preserved : goal.loop-preserved
loop-preserved c =
    let n : ℕ = 0 in
    let before = vec_items c.args.numbers.now in
    c.in_ok-push.ensures.items ∙ ap (λ xs. xs ++ n ∷ []) c.loop.invariant ∙ append_assoc before (replicate c.loop.counter n) (n ∷ []) ∙ ap (λ xs. before ++ xs) (replicate_more c.loop.counter n)
