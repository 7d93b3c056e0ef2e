use Rattle.std.proofs.Common.{◌≡◌, ℕ, ◌<◌, length, Some, None, sym, ap, ◌∙◌, subst, arith}
use Rattle.std.proofs.lemmas.Result.{err_from_is_err_and}
use Rattle.lang.specs.Grammar.{onward, expect}
use Rattle.lang.specs.Instr as instr
use Rattle.lang.specs.declared.token.Fixed.TheVariants.{RightBracket, RightBrace}
use Rattle.parse.specs.InBool.{BehindUnit, BehindFormula, Used, all_ended}
use Rattle.parse.specs.Reading.{snap, advanced, emitted, closed}
use Rattle.parse.specs.declared.formula.Turn.TheVariants as turn
use Rattle.parse.specs.declared.open.Open.TheVariants.{Bracket, Implies, All}
use Rattle.parse.proofs.Heads.{expect_long}
use Rattle.parse.proofs.InBool.{whole, leaves_brackets, leaves_no_brackets, leaves_all, leaves_no_all, leaves_implication, leaves_nothing, done_used, implication_used, brackets_used, end_used}
use Rattle.parse.proofs.reader.Reader.behind_formula.Goals as goal

pub returns-then-height-base : goal.returns-then-height-base
returns-then-height-base c =
    let s = snap c.args.self.now in
    record {
      reads = λ before b h. whole before s h (omega (arith, c.height.ensures, c.if-height-base.true, b));
      used = done_used s;
    }

pub returns-in_default : goal.returns-in_default
returns-in_default c =
    let s = snap c.args.self.now in
    let none = c.in_default.ensures.value in
    record {
      reads = λ before b h. leaves_nothing before s h (omega (arith, c.height.ensures, c.if-height-base.false, b))
          (λ p e. let z : ◌≡◌ {A = ℕ} 0 1 = cc in omega arith)
          (λ e. let z : ◌≡◌ {A = ℕ} 0 1 = cc in omega arith)
          (λ n e. let z : ◌≡◌ {A = ℕ} 0 1 = cc in omega arith);
      used = tt;
    }

pub returns-in-Implies : goal.returns-in-Implies
returns-in-Implies c =
    let s = snap c.args.self.now in
    let told = c.in-Some.ensures in
    let p = c.in-Implies.place in
    let last = ap Some (sym c.in-Implies.is) ∙ told.value in
    let after = c.emit.ensures ∙ ap (emitted instr.implies) told.after in
    let some : 0 < length s.pending = omega (arith, c.height.ensures, c.if-height-base.false) in
    record {
      reads = λ before b h. subst (BehindFormula before) (sym after) (leaves_implication before s p h (omega (arith, c.height.ensures, c.if-height-base.false, b)) last);
      used = subst (λ t. Used turn.Whole s t (Some turn.Whole)) (sym after) (implication_used s some);
    }

pub returns-in_err-expect-in-Bracket : goal.returns-in_err-expect-in-Bracket
returns-in_err-expect-in-Bracket c =
    let p = err_from_is_err_and c.from_residual.result c.from_residual.ensures.1 in
    let s = snap c.args.self.now in
    let told = c.in-Some.ensures in
    let last = ap Some (sym c.in-Bracket.is) ∙ told.value in
    let none : expect RightBracket s.ahead ≡ None = ap (λ t. expect RightBracket t.ahead) (sym told.after) ∙ c.in_err-expect-in-Bracket.ensures in
    rw p.1 (record { reads = λ before b h. leaves_no_brackets before s h (omega (arith, c.height.ensures, c.if-height-base.false, b)) last none; used = tt })

pub returns-in_err-end_all-in-All : goal.returns-in_err-end_all-in-All
returns-in_err-end_all-in-All c =
    let p = err_from_is_err_and c.from_residual-in_err-end_all-in-All.result c.from_residual-in_err-end_all-in-All.ensures.1 in
    let s = snap c.args.self.now in
    let told = c.in-Some.ensures in
    let last = ap Some (sym c.in-All.is) ∙ told.value in
    let none : expect RightBrace s.ahead ≡ None = ap (λ t. expect RightBrace t.ahead) (sym told.after) ∙ c.in_err-end_all-in-All.ensures in
    rw p.1 (record { reads = λ before b h. leaves_no_all before s c.in-All.at h (omega (arith, c.height.ensures, c.if-height-base.false, b)) last none; used = tt })

pub returns-in_default-part : goal.returns-in_default-part
returns-in_default-part c =
    let s = snap c.args.self.now in
    let told = c.in-Some.ensures.value in
    record {
      reads = λ before b h. leaves_nothing before s h (omega (arith, c.height.ensures, c.if-height-base.false, b))
          (λ p e. let same : c.in-Some.part ≡ Implies p = cc in c.in_default-part.not-Implies p same)
          (λ e. let same : c.in-Some.part ≡ Bracket = cc in c.in_default-part.not-Bracket same)
          (λ n e. let same : c.in-Some.part ≡ All n = cc in c.in_default-part.not-All n same);
      used = tt;
    }

pub returns-in_ok-expect-in-Bracket : goal.returns-in_ok-expect-in-Bracket
returns-in_ok-expect-in-Bracket c =
    let s = snap c.args.self.now in
    let told = c.in-Some.ensures in
    let last = ap Some (sym c.in-Bracket.is) ∙ told.value in
    let after : snap c.expect.new.self ≡ advanced (closed s) = c.in_ok-expect-in-Bracket.ensures.1 ∙ ap advanced told.after in
    let found : expect RightBracket s.ahead ≡ Some (onward s.ahead) = ap (λ t. expect RightBracket t.ahead) (sym told.after) ∙ c.in_ok-expect-in-Bracket.ensures.0 ∙ ap (λ t. Some t.ahead) after in
    let fewer : length (onward s.ahead) < length s.ahead = omega (arith, expect_long RightBracket s.ahead (onward s.ahead) found) in
    record {
      reads = λ before b h. subst (BehindUnit before) (sym after) (leaves_brackets before s h (omega (arith, c.height.ensures, c.if-height-base.false, b)) last found);
      used = subst (λ t. Used turn.Whole s t (Some turn.Behind)) (sym after) (brackets_used s fewer);
    }

pub returns-in_ok-end_all-in-All : goal.returns-in_ok-end_all-in-All
returns-in_ok-end_all-in-All c =
    let s = snap c.args.self.now in
    let n = c.in-All.at in
    let told = c.in-Some.ensures in
    let last = ap Some (sym c.in-All.is) ∙ told.value in
    let after : snap c.end_all.new.self ≡ all_ended n (advanced (closed s)) = c.in_ok-end_all-in-All.ensures.1 ∙ ap (λ t. all_ended n (advanced t)) told.after in
    let found : expect RightBrace s.ahead ≡ Some (onward s.ahead) = ap (λ t. expect RightBrace t.ahead) (sym told.after) ∙ c.in_ok-end_all-in-All.ensures.0 ∙ ap (λ t. Some t.ahead) after in
    let fewer : length (onward s.ahead) < length s.ahead = omega (arith, expect_long RightBrace s.ahead (onward s.ahead) found) in
    record {
      reads = λ before b h. subst (BehindUnit before) (sym after) (leaves_all before s n h (omega (arith, c.height.ensures, c.if-height-base.false, b)) last found);
      used = subst (λ t. Used turn.Whole s t (Some turn.Behind)) (sym after) (end_used n s fewer);
    }
