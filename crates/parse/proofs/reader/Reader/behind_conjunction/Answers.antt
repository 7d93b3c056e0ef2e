use Rattle.std.proofs.Common.{Some, ◌≡◌, sym, ap, ◌∙◌, subst, arith}
use Rattle.lang.specs.declared.code.Place.{Place}
use Rattle.lang.specs.declared.token.Fixed.TheVariants as the
use Rattle.parse.specs.InBool.{AtUnit, Used}
use Rattle.parse.specs.Reading.{snap, advanced, opened}
use Rattle.parse.specs.declared.formula.Link.TheVariants as link
use Rattle.parse.specs.declared.formula.Turn.TheVariants as turn
use Rattle.parse.specs.declared.open.Open.TheVariants.{Or, Implies}
use Rattle.parse.proofs.InBool.{lone_disjunction, or_reads, implies_reads, formula_ends, linked_ahead, used_after, enter_used, whole_used}
use Rattle.parse.proofs.reader.Reader.behind_conjunction.Goals as goal

pub returns-then-at : goal.returns-then-at
returns-then-at c =
    let base = c.args.base in
    let s = snap c.args.self.now in
    let t = snap c.write_link.new.self in
    let one = c.write_link.ensures in
    let same : t.ahead ≡ s.ahead = ap (λ x. x.ahead) one.after ∙ linked_ahead link.Or base s in
    let p : Place = record { 0 = c.write_link.new.self.cursor.start } in
    let after = c.enter.ensures in
    let word = sym c.if-at.ensures in
    record {
      reads = λ before b h. subst (AtUnit before) (sym after) (or_reads before t p (lone_disjunction before s t base b one.after h) word);
      used = subst (λ x. Used turn.Behind s x (Some turn.Unit)) (sym after) (used_after turn.Behind s t (advanced (opened (Or p) t)) (Some turn.Unit) one.paid same (enter_used turn.Behind the.Or (Or p) t (omega arith) word));
    }

pub returns-then-at-2 : goal.returns-then-at-2
returns-then-at-2 c =
    let base = c.args.base in
    let s = snap c.args.self.now in
    let t = snap c.write_link.new.self in
    let one = c.write_link.ensures in
    let same : t.ahead ≡ s.ahead = ap (λ x. x.ahead) one.after ∙ linked_ahead link.Or base s in
    let p : Place = record { 0 = c.write_link.new.self.cursor.start } in
    let after = c.enter-then-at-2.ensures in
    let word = sym c.if-at-2.ensures in
    record {
      reads = λ before b h. subst (AtUnit before) (sym after) (implies_reads before t p (lone_disjunction before s t base b one.after h) (sym c.if-at.ensures) word);
      used = subst (λ x. Used turn.Behind s x (Some turn.Unit)) (sym after) (used_after turn.Behind s t (advanced (opened (Implies p) t)) (Some turn.Unit) one.paid same (enter_used turn.Behind the.Implies (Implies p) t (omega arith) word));
    }

pub returns : goal.returns
returns c =
    let base = c.args.base in
    let s = snap c.args.self.now in
    let t = snap c.write_link.new.self in
    let one = c.write_link.ensures in
    let same : t.ahead ≡ s.ahead = ap (λ x. x.ahead) one.after ∙ linked_ahead link.Or base s in
    record {
      reads = λ before b h. formula_ends before t (lone_disjunction before s t base b one.after h) (sym c.if-at.ensures) (sym c.if-at-2.ensures);
      used = whole_used s t one.paid same;
    }
