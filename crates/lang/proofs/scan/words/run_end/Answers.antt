use Rattle.std.proofs.Common.{rules, tests, ◌+◌, ◌-◌, ◌≤◌, length, drop, ap, ◌∙◌, arith}
use Rattle.std.proofs.lemmas.Iterator.{YieldsList-from_slice}
use Rattle.std.proofs.lemmas.Iterator.Consumers.{YieldsList-at, count_from_yields_List}
use Rattle.std.proofs.lemmas.Iterator.Search.{YieldsList-from_take_while}
use Rattle.std.proofs.lemmas.List.{length-drop, take_all}
use Rattle.std.proofs.lemmas.List.Folds.{length-prefix_len}
use Rattle.lang.specs.Places.{in_run}
use Rattle.lang.proofs.Lexing.{prefix_run}
use Rattle.lang.proofs.scan.words.run_end.Goals as goal

pub returns : goal.returns
returns c =
    let text = c.args.text.now in
    let rest = drop c.args.from text in
    let whole : length rest ≤ length text - c.args.from = omega (arith, length-drop c.args.from text) in
    let source = YieldsList-from_slice rest (c.iter.ensures.rest ∙ take_all _ _ whole) in
    let counted = count_from_yields_List c.take_while.result c.count.result c.count.ensures.ran (YieldsList-from_take_while _ in_run (YieldsList-at c.take_while.ensures.source source) c.take_while.ensures.closure c.take_while.ensures.done (λ x b q k. search (rules, tests))) in
    ap (λ n. c.args.from + n) (counted ∙ length-prefix_len in_run rest ∙ prefix_run rest)
