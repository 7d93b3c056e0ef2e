use Rattle.std.proofs.Common.{rules, tests, ◌+◌, ◌-◌, ◌≤◌, length, drop, sym, ap, ◌∙◌, arith}
use Rattle.std.specs.List.{prefix_len}
use Rattle.std.proofs.lemmas.Iterator.{YieldsList-from_slice}
use Rattle.std.proofs.lemmas.Iterator.Consumers.{YieldsList-at, count_from_yields_List}
use Rattle.std.proofs.lemmas.Iterator.Search.{YieldsList-from_take_while}
use Rattle.std.proofs.lemmas.List.{drop-drop, length-drop, take_all}
use Rattle.std.proofs.lemmas.List.Folds.{length-prefix_len}
use Rattle.lang.specs.Tokens.{between, words_from}
use Rattle.lang.proofs.Lexing.{in_line, words_behind_note}
use Rattle.lang.proofs.scan.words.line_end.Goals as goal

pub returns-clause-words : goal.returns-clause-words
returns-clause-words c =
    let text = c.args.text.now in
    let from = c.args.from in
    let rest = drop from text in
    let whole : length rest ≤ length text - from = omega (arith, length-drop from text) in
    let source = YieldsList-from_slice rest (c.iter.ensures.rest ∙ take_all _ _ whole) in
    let counted = count_from_yields_List c.take_while.result c.count.result c.count.ensures.ran (YieldsList-from_take_while _ in_line (YieldsList-at c.take_while.ensures.source source) c.take_while.ensures.closure c.take_while.ensures.done (λ x b q k. search (rules, tests))) ∙ length-prefix_len in_line rest in
    ap (λ n. words_from between (drop (from + n) text)) counted ∙ ap (words_from between) (sym (drop-drop (prefix_len in_line rest) from text)) ∙ words_behind_note rest
