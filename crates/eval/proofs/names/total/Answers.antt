use Rattle.std.proofs.Common.{◌^◌, ◌∙◌, rules, tests}
use Rattle.std.proofs.lemmas.Iterator.{YieldsList-from_map}
use Rattle.std.proofs.lemmas.Iterator.Consumers.{YieldsList-from_first, sum_by_from_yields_List, fits_by_from_yields_list}
use Rattle.lang.specs.Meaning.{count}
use Rattle.walk.specs.Listing.{declared_in}
use Rattle.walk.specs.Walking.{rest, declared, decl}
use Rattle.eval.proofs.States.{counts_sum}
use Rattle.eval.proofs.names.total.Goals as goal

pub sum-requires-clause-fits : goal.sum-requires-clause-fits
sum-requires-clause-fits c =
    let ds = declared (rest c.args.program.now c.args.from) in
    fits_by_from_yields_list count ds c.map.result (2 ^ 64) (YieldsList-from_map _ count (YieldsList-from_first decl declared_in ds (cc)) c.map.ensures.closure (λ x r q k. search (rules, tests))) (rw (counts_sum ds) c.requires)

pub returns : goal.returns
returns c =
    let ds = declared (rest c.args.program.now c.args.from) in
    sum_by_from_yields_List count ds c.map.result _ c.sum.ensures.ran (YieldsList-from_map _ count (YieldsList-from_first decl declared_in ds (cc)) c.map.ensures.closure (λ x r q k. search (rules, tests))) ∙ counts_sum ds
