use Rattle.std.proofs.Common.{sym, ◌∙◌, arith}
use Rattle.lang.proofs.Lexing.{words_blank, words_noted}
use Rattle.lang.proofs.scan.words.skip.Goals as goal

pub loop-i-preserved-then-text-i-eq35 : goal.loop-i-preserved-then-text-i-eq35
loop-i-preserved-then-text-i-eq35 c = (c.line_end-i.ensures.words ∙ sym (words_noted _ _ c.loop-i-test.true c.if-text-i-eq35.true) ∙ c.loop-i.invariant.0, omega arith, omega arith)

pub loop-i-preserved : goal.loop-i-preserved
loop-i-preserved c = (sym (words_blank _ _ c.loop-i-test.true (sym c.if-is_blank.ensures)) ∙ c.loop-i.invariant.0, omega arith, omega arith)
