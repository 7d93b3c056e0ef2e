use Rattle.std.proofs.Common.{Some, sym, subst, arith}
use Rattle.lang.specs.declared.code.Place.{Place}
use Rattle.lang.specs.declared.token.Fixed.TheVariants as the
use Rattle.parse.specs.InBool.{AtUnit, Used}
use Rattle.parse.specs.Reading.{snap, advanced, opened}
use Rattle.parse.specs.declared.formula.Turn.TheVariants as turn
use Rattle.parse.specs.declared.open.Open.TheVariants.{And}
use Rattle.parse.proofs.InBool.{denial_written, lone_conjunction, and_reads, conjunction_ends, links_ahead, used_after, enter_used, not_used}
use Rattle.parse.proofs.Rooms.{paid_then}
use Rattle.parse.proofs.reader.Reader.behind_unit.Goals as goal

pub returns-then-write_link : goal.returns-then-write_link
returns-then-write_link c =
    let base = c.args.base in
    let s = snap c.args.self.now in
    let t = snap c.write_link.new.self in
    let one = c.if-write_link.ensures in
    record {
      reads = λ before b h. denial_written before s t base b one.after (sym one.some) h;
      used = subst (λ x. Used turn.Behind s x (Some turn.Behind)) (sym one.after) (not_used base s (sym one.some));
    }

pub returns-then-at : goal.returns-then-at
returns-then-at c =
    let base = c.args.base in
    let s = snap c.args.self.now in
    let t = snap c.write_link.new.self in
    let u = snap c.write_link-2.new.self in
    let one = c.if-write_link.ensures in
    let two = c.write_link-2.ensures in
    let same = links_ahead s t u base one.after two.after in
    let paid = paid_then s t u one.paid two.paid in
    let p : Place = record { 0 = c.write_link-2.new.self.cursor.start } in
    let after = c.enter.ensures in
    let word = sym c.if-at.ensures in
    record {
      reads = λ before b h. subst (AtUnit before) (sym after) (and_reads before u p (lone_conjunction before s t u base b one.after two.after (sym one.some) h) word);
      used = subst (λ x. Used turn.Behind s x (Some turn.Unit)) (sym after) (used_after turn.Behind s u (advanced (opened (And p) u)) (Some turn.Unit) paid same (enter_used turn.Behind the.And (And p) u (omega arith) word));
    }

pub returns : goal.returns
returns c =
    let base = c.args.base in
    let s = snap c.args.self.now in
    let t = snap c.write_link.new.self in
    let u = snap c.write_link-2.new.self in
    let one = c.if-write_link.ensures in
    let two = c.write_link-2.ensures in
    let same = links_ahead s t u base one.after two.after in
    let paid = paid_then s t u one.paid two.paid in
    let told = c.behind_conjunction.ensures in
    record {
      reads = λ before b h. told.reads before b (conjunction_ends before u (lone_conjunction before s t u base b one.after two.after (sym one.some) h) (sym c.if-at.ensures));
      used = used_after turn.Behind s u _ _ paid same told.used;
    }
