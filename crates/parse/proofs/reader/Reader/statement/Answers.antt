use Rattle.std.proofs.Common.{sym, ◌∙◌, arith}
use Rattle.std.proofs.lemmas.Result.{MatchResult-weaker}
use Rattle.lang.specs.Grammar.{onward}
use Rattle.parse.specs.Reading.{snap}
use Rattle.parse.proofs.Heads.{onward_short}
use Rattle.parse.proofs.InBlock.{no_statement, plain_read, if_read, while_read}
use Rattle.parse.proofs.Lessening.{statement∞-shorter, if_head∞-shorter, while_head∞-shorter}
use Rattle.parse.proofs.Plain.{statement_if, statement_while}
use Rattle.parse.proofs.Shorter.{each_at}
use Rattle.parse.proofs.reader.Reader.statement.Goals as goal

pub returns-then-at : goal.returns-then-at
returns-then-at c =
    let s = snap c.args.self.now in
    let t = snap c.if_head.new.self in
    let word = sym c.if-at.ensures in
    let told = c.if_head.ensures in
    record {
      reads = λ before b h. MatchResult-weaker c.if_head.result told.reads (λ _ r. if_read before s h b t word r) (λ _ n. no_statement before s h b (statement_if s.ahead word ∙ rw n));
      paid = told.paid;
      shorter = MatchResult-weaker c.if_head.result told.reads (λ _ r. omega (arith, each_at (if_head∞-shorter (onward s.ahead)) r.parsed, onward_short s.ahead)) (λ _ _. tt);
    }

pub returns-then-at-2 : goal.returns-then-at-2
returns-then-at-2 c =
    let s = snap c.args.self.now in
    let t = snap c.while_head.new.self in
    let word = sym c.if-at-2.ensures in
    let told = c.while_head.ensures in
    record {
      reads = λ before b h. MatchResult-weaker c.while_head.result told.reads (λ _ r. while_read before s h b t word r) (λ _ n. no_statement before s h b (statement_while s.ahead word ∙ rw n));
      paid = told.paid;
      shorter = MatchResult-weaker c.while_head.result told.reads (λ _ r. omega (arith, each_at (while_head∞-shorter (onward s.ahead)) r.parsed, onward_short s.ahead)) (λ _ _. tt);
    }

pub returns-else-at-2 : goal.returns-else-at-2
returns-else-at-2 c =
    let s = snap c.args.self.now in
    let t = snap c.simple_statement.new.self in
    let told = c.simple_statement.ensures in
    record {
      reads = λ before b h. MatchResult-weaker c.simple_statement.result told.reads (λ _ r. plain_read before s h b t r) (λ _ n. no_statement before s h b n);
      paid = told.paid;
      shorter = MatchResult-weaker c.simple_statement.result told.reads (λ _ r. each_at (statement∞-shorter s.ahead) r.parsed) (λ _ _. tt);
    }
