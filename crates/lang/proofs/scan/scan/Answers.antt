use Rattle.std.proofs.Common.{sym, ◌∙◌}
use Rattle.lang.proofs.Lexing.{ahead_word, tokens_past, tokens_same}
use Rattle.lang.proofs.scan.scan.Goals as goal

pub returns-then-start-text-clause-ahead : goal.returns-then-start-text-clause-ahead
returns-then-start-text-clause-ahead c = sym (tokens_past c.args.text.now _ c.if-start-text.true) ∙ tokens_same _ _ c.skip-start.ensures.words

pub returns-clause-ahead : goal.returns-clause-ahead
returns-clause-ahead c =
    let word = c.word_end-end.ensures in
    ahead_word c.args.text.now _ _ c.kind-token.result word.start word.words word.run c.kind-token.ensures ∙ tokens_same _ _ c.skip-start.ensures.words
