use Rattle.std.proofs.Common.{◌≡◌, ℕ, ◌<◌, length, Some, None, sym, ap, ◌∙◌, subst, arith}
use Rattle.std.proofs.lemmas.Result.{err_from_is_err_and}
use Rattle.lang.specs.Grammar.{onward, expect}
use Rattle.lang.specs.Instr as instr
use Rattle.lang.specs.Instr.{name_at}
use Rattle.lang.specs.declared.token.Fixed.TheVariants.{RightParen, RightBracket}
use Rattle.parse.specs.InExpr.{BehindAtom, Used, context, parenthesis, row, old_row}
use Rattle.parse.specs.Reading.{snap, advanced, emitted, closed}
use Rattle.parse.specs.declared.expression.Step.TheVariants.{Atom}
use Rattle.parse.proofs.Heads.{expect_long}
use Rattle.parse.proofs.InExpr.{no_context, leaves_not, leaves_paren, leaves_row, leaves_old_row, leaves_nothing, left_used, left_row_used}
use Rattle.parse.proofs.reader.Reader.leave.Goals as goal

pub returns-in_err-expect-in-Paren : goal.returns-in_err-expect-in-Paren
returns-in_err-expect-in-Paren c =
    let p = err_from_is_err_and c.from_residual.result c.from_residual.ensures.1 in
    let s = snap c.args.self.now in
    let told = c.in-Some.ensures in
    let last = ap Some (sym c.in-Paren.is) ∙ told.value in
    let none : expect RightParen s.ahead ≡ None = ap (λ t. expect RightParen t.ahead) (sym told.after) ∙ c.in_err-expect-in-Paren.ensures in
    rw p.1 (record { reads = λ before l h. leaves_not before s parenthesis h l last none; used = tt })

pub returns-in_err-expect-in-Index : goal.returns-in_err-expect-in-Index
returns-in_err-expect-in-Index c =
    let p = err_from_is_err_and c.from_residual-in_err-expect-in-Index.result c.from_residual-in_err-expect-in-Index.ensures.1 in
    let s = snap c.args.self.now in
    let told = c.in-Some.ensures in
    let last = ap Some (sym c.in-Index.is) ∙ told.value in
    let none : expect RightBracket s.ahead ≡ None = ap (λ t. expect RightBracket t.ahead) (sym told.after) ∙ c.in_err-expect-in-Index.ensures in
    rw p.1 (record { reads = λ before l h. leaves_not before s (row c.in-Index.place) h l last none; used = tt })

pub returns-in_err-expect-in-OldIndex : goal.returns-in_err-expect-in-OldIndex
returns-in_err-expect-in-OldIndex c =
    let p = err_from_is_err_and c.from_residual-in_err-expect-in-OldIndex.result c.from_residual-in_err-expect-in-OldIndex.ensures.1 in
    let s = snap c.args.self.now in
    let told = c.in-Some.ensures in
    let last = ap Some (sym c.in-OldIndex.is) ∙ told.value in
    let none : expect RightBracket s.ahead ≡ None = ap (λ t. expect RightBracket t.ahead) (sym told.after) ∙ c.in_err-expect-in-OldIndex.ensures in
    rw p.1 (record { reads = λ before l h. leaves_not before s (old_row c.in-OldIndex.place) h l last none; used = tt })

pub returns-in_default : goal.returns-in_default
returns-in_default c =
    let s = snap c.args.self.now in
    let none = c.in_default.ensures.value in
    record { reads = λ before l h. leaves_nothing before s h l (λ x e. let z : ◌≡◌ {A = ℕ} 0 1 = cc in omega arith); used = tt }

pub returns-in_default-part : goal.returns-in_default-part
returns-in_default-part c =
    let s = snap c.args.self.now in
    let told = c.in-Some.ensures.value in
    record { reads = λ before l h. leaves_nothing before s h l (λ x e. let same : c.in-Some.part ≡ context x = cc in no_context c.in-Some.part c.in_default-part.not-Paren (λ p i. c.in_default-part.not-Index p i) (λ p i. c.in_default-part.not-OldIndex p i) x same); used = tt }

pub returns-in_ok-expect-in-Paren : goal.returns-in_ok-expect-in-Paren
returns-in_ok-expect-in-Paren c =
    let s = snap c.args.self.now in
    let told = c.in-Some.ensures in
    let last = ap Some (sym c.in-Paren.is) ∙ told.value in
    let behind : snap c.expect.new.self ≡ advanced (closed s) = c.in_ok-expect-in-Paren.ensures.1 ∙ ap advanced told.after in
    let found : expect RightParen s.ahead ≡ Some (onward s.ahead) = ap (λ t. expect RightParen t.ahead) (sym told.after) ∙ c.in_ok-expect-in-Paren.ensures.0 ∙ ap (λ t. Some t.ahead) behind in
    let fewer : length (onward s.ahead) < length s.ahead = omega (arith, expect_long RightParen s.ahead (onward s.ahead) found) in
    record {
      reads = λ before l h. subst (BehindAtom before) (sym behind) (leaves_paren before s h l last found);
      used = subst (λ t. Used s t (Some Atom)) (sym behind) (left_used s fewer);
    }

pub returns-in_ok-expect-in-Index : goal.returns-in_ok-expect-in-Index
returns-in_ok-expect-in-Index c =
    let text = c.args.self.now.text.now in
    let s = snap c.args.self.now in
    let told = c.in-Some.ensures in
    let last = ap Some (sym c.in-Index.is) ∙ told.value in
    let behind : snap c.expect-in-Index.new.self ≡ advanced (closed s) = c.in_ok-expect-in-Index.ensures.1 ∙ ap advanced told.after in
    let found : expect RightBracket s.ahead ≡ Some (onward s.ahead) = ap (λ t. expect RightBracket t.ahead) (sym told.after) ∙ c.in_ok-expect-in-Index.ensures.0 ∙ ap (λ t. Some t.ahead) behind in
    let fewer : length (onward s.ahead) < length s.ahead = omega (arith, expect_long RightBracket s.ahead (onward s.ahead) found) in
    let p = c.in-Index.place in
    let after = c.emit.ensures ∙ ap (λ t. emitted (instr.index (name_at t.text p.0)) t) behind in
    record {
      reads = λ before l h. subst (BehindAtom before) (sym after) (leaves_row before s p h l last found);
      used = subst (λ t. Used s t (Some Atom)) (sym after) (left_row_used s (instr.index (name_at text p.0)) fewer);
    }

pub returns-in_ok-expect-in-OldIndex : goal.returns-in_ok-expect-in-OldIndex
returns-in_ok-expect-in-OldIndex c =
    let text = c.args.self.now.text.now in
    let s = snap c.args.self.now in
    let told = c.in-Some.ensures in
    let last = ap Some (sym c.in-OldIndex.is) ∙ told.value in
    let behind : snap c.expect-in-OldIndex.new.self ≡ advanced (closed s) = c.in_ok-expect-in-OldIndex.ensures.1 ∙ ap advanced told.after in
    let found : expect RightBracket s.ahead ≡ Some (onward s.ahead) = ap (λ t. expect RightBracket t.ahead) (sym told.after) ∙ c.in_ok-expect-in-OldIndex.ensures.0 ∙ ap (λ t. Some t.ahead) behind in
    let fewer : length (onward s.ahead) < length s.ahead = omega (arith, expect_long RightBracket s.ahead (onward s.ahead) found) in
    let p = c.in-OldIndex.place in
    let after = c.emit-in-OldIndex.ensures ∙ ap (λ t. emitted (instr.old_index (name_at t.text p.0)) t) behind in
    record {
      reads = λ before l h. subst (BehindAtom before) (sym after) (leaves_old_row before s p h l last found);
      used = subst (λ t. Used s t (Some Atom)) (sym after) (left_row_used s (instr.old_index (name_at text p.0)) fewer);
    }
