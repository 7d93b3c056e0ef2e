use Rattle.std.proofs.Common.{◌≡◌, ◌<◌, ◌≤◌, true, length, Some, sym, ap, ◌∙◌, subst, arith}
use Rattle.std.proofs.lemmas.Result.{err_from_is_err_and}
use Rattle.lang.specs.Grammar.{additive, multiplicative}
use Rattle.lang.specs.declared.code.Place.{Place}
use Rattle.parse.specs.InExpr.{AtOperand, Used}
use Rattle.parse.specs.Reading.{snap, advanced, opened}
use Rattle.parse.specs.declared.expression.Step.TheVariants.{Operand}
use Rattle.parse.specs.declared.open.Open.TheVariants.{Operator}
use Rattle.parse.proofs.InExpr.{lone_atom, lone_sum, times, plus, sum_ends, whole, completed_ahead, both_ahead, used_after, done_used, operator_used, multiplicative_tight, additive_loose}
use Rattle.parse.proofs.Rooms.{paid_then}
use Rattle.parse.proofs.reader.Reader.operator.Goals as goal

pub returns-in-Some : goal.returns-in-Some
returns-in-Some c =
    let s = snap c.args.self.now in
    let t = snap c.complete.new.self in
    let o = c.in-Some.op in
    let p : Place = record { 0 = c.complete.new.self.cursor.start } in
    let found : multiplicative t.ahead ≡ Some o = sym c.in-Some.ensures in
    let same : t.ahead ≡ s.ahead = ap (λ x. x.ahead) c.complete.ensures.after ∙ completed_ahead true c.args.base s in
    let after : snap c.advance.new.self ≡ advanced (opened (Operator o p) t) = c.advance.ensures ∙ ap advanced c.begin.ensures in
    record {
      reads = λ before b h. subst (AtOperand before) (sym after) (times before t o p (multiplicative_tight t.ahead o found).0 (lone_atom before s t c.args.base b c.complete.ensures.after h) found);
      used = subst (λ x. Used s x (Some Operand)) (sym after) (used_after s t (advanced (opened (Operator o p) t)) (Some Operand) c.complete.ensures.paid same (operator_used t (Operator o p) (multiplicative_tight t.ahead o found).1));
    }

pub returns-in-Some-additive : goal.returns-in-Some-additive
returns-in-Some-additive c =
    let base = c.args.base in
    let s = snap c.args.self.now in
    let t = snap c.complete.new.self in
    let u = snap c.complete-2.new.self in
    let one = c.complete.ensures in
    let two = c.complete-2.ensures in
    let same = both_ahead s t u base one.after two.after in
    let paid = paid_then s t u one.paid two.paid in
    let o = c.in-Some-additive.op in
    let p : Place = record { 0 = c.complete.new.self.cursor.start } in
    let found : additive u.ahead ≡ Some o = sym c.in-Some-additive.ensures in
    let after : snap c.advance-in-Some-additive.new.self ≡ advanced (opened (Operator o p) u) = c.advance-in-Some-additive.ensures ∙ ap advanced c.begin-in-Some-additive.ensures in
    record {
      reads = λ before b h. subst (AtOperand before) (sym after) (plus before u o p (additive_loose u.ahead o found).0 (lone_sum before s t u base b one.after two.after c.in_default.ensures h) found);
      used = subst (λ x. Used s x (Some Operand)) (sym after) (used_after s u (advanced (opened (Operator o p) u)) (Some Operand) paid same (operator_used u (Operator o p) (additive_loose u.ahead o found).1));
    }

pub returns-then-height-base : goal.returns-then-height-base
returns-then-height-base c =
    let base = c.args.base in
    let s = snap c.args.self.now in
    let t = snap c.complete.new.self in
    let u = snap c.complete-2.new.self in
    let one = c.complete.ensures in
    let two = c.complete-2.ensures in
    let same = both_ahead s t u base one.after two.after in
    let paid = paid_then s t u one.paid two.paid in
    record {
      reads = λ before b h.
          let low : length u.pending ≤ length before.pending = omega (arith, c.height.ensures, c.if-height-base.true, b) in
          whole before u (sum_ends before u (lone_sum before s t u base b one.after two.after c.in_default.ensures h) (sym c.in_default-additive.ensures)) low;
      used = done_used s u paid same;
    }

pub returns-in_err-leave : goal.returns-in_err-leave
returns-in_err-leave c =
    let p = err_from_is_err_and c.from_residual.result c.from_residual.ensures.1 in
    let base = c.args.base in
    let s = snap c.args.self.now in
    let t = snap c.complete.new.self in
    let u = snap c.complete-2.new.self in
    let one = c.complete.ensures in
    let two = c.complete-2.ensures in
    rw p.1 (record {
      reads = λ before b h.
          let high : length before.pending < length u.pending = omega (arith, c.height.ensures, c.if-height-base.false, b) in
          c.in_err-leave.ensures.reads before high (sum_ends before u (lone_sum before s t u base b one.after two.after c.in_default.ensures h) (sym c.in_default-additive.ensures));
      used = tt;
    })

pub returns : goal.returns
returns c =
    let base = c.args.base in
    let s = snap c.args.self.now in
    let t = snap c.complete.new.self in
    let u = snap c.complete-2.new.self in
    let one = c.complete.ensures in
    let two = c.complete-2.ensures in
    let same = both_ahead s t u base one.after two.after in
    let paid = paid_then s t u one.paid two.paid in
    let told = c.in_ok-leave.ensures in
    record {
      reads = λ before b h.
          let high : length before.pending < length u.pending = omega (arith, c.height.ensures, c.if-height-base.false, b) in
          told.reads before high (sum_ends before u (lone_sum before s t u base b one.after two.after c.in_default.ensures h) (sym c.in_default-additive.ensures));
      used = used_after s u _ _ paid same told.used;
    }
