use Rattle.std.proofs.Common.{◌≡◌, ◌+◌, ◌<◌, ◌≤◌, false, length, get_or, sym, ap, arith}
use Rattle.lang.specs.Places.{pair}
use Rattle.lang.proofs.Lexing.{run_more, run_within, words_run, words_one, words_two, part_run, part_one, part_two}
use Rattle.lang.proofs.scan.words.word_end.Goals as goal
use Rattle.lang.proofs.scan.words.word_end.Goals.{else-from-text-via-then-from-text+else-is_pair, else-from-text-via-else-from-text}

pub returns-then-is_run : goal.returns-then-is_run
returns-then-is_run c =
    let text = c.args.text.now in
    let from = c.args.from in
    let is = c.run_end.ensures in
    let e = sym c.if-is_run.ensures in
    let fits : from ≤ length text = omega arith in
    record {
      words = rw (is, part_run text from) (words_run text from c.requires.inside c.requires.word e);
      run = λ _. rw is (part_run text from);
      start = omega (arith, ap length (run_more text from c.requires.inside e));
      within = omega (arith, run_within text from fits);
    }

pub returns-then-is_pair-clause-words : goal.returns-then-is_pair-clause-words
returns-then-is_pair-clause-words c =
    let text = c.args.text.now in
    let from = c.args.from in
    let more = c.if-from-text.true in
    rw (part_two text from more) (words_two text from c.requires.inside c.requires.word (sym c.if-is_run.ensures) more (sym c.if-is_pair.ensures))

pub returns-else-from-text-clause-words : goal.returns-else-from-text-clause-words
returns-else-from-text-clause-words c =
    let text = c.args.text.now in
    let from = c.args.from in
    let single : from + 1 < length text → pair (get_or text from 0) (get_or text (from + 1) 0) ≡ false =
    elim c.else-from-text.branch [ else-from-text-via-then-from-text+else-is_pair w ↦ λ _. sym w.if-is_pair.ensures | else-from-text-via-else-from-text w ↦ λ h. absurd (omega arith) ] in
    rw (part_one text from c.requires.inside) (words_one text from c.requires.inside c.requires.word (sym c.if-is_run.ensures) single)
