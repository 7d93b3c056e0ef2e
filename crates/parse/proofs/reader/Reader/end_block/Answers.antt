use Rattle.std.proofs.Common.{◌≡◌, ℕ, Some, None, sym, ap, ◌∙◌, subst, arith}
use Rattle.std.proofs.lemmas.Result.{err_from_is_err_and}
use Rattle.lang.specs.Grammar.{onward, else_head}
use Rattle.lang.specs.Instr as instr
use Rattle.parse.specs.InBlock.{AtStatement, block_opened}
use Rattle.parse.specs.Parts.{sealed}
use Rattle.parse.specs.Reading.{snap, closed, advanced, emitted}
use Rattle.parse.specs.declared.open.Kind.TheVariants.{Then, Else, Do}
use Rattle.parse.specs.declared.open.Open.TheVariants.{Braces}
use Rattle.parse.specs.declared.parts.Header.TheVariants.{Block}
use Rattle.parse.proofs.InBlock.{then_closed, then_unclosed, else_closed, do_closed, none_closed}
use Rattle.parse.proofs.reader.Reader.end_block.Goals as goal

pub returns-in_default-clause-reads : goal.returns-in_default-clause-reads
returns-in_default-clause-reads c = λ before l h. none_closed before _ h l λ k at e. let told = c.in_default.ensures.value in let z : ◌≡◌ {A = ℕ} 0 1 = cc in omega arith

pub returns-in_default-part-clause-reads : goal.returns-in_default-part-clause-reads
returns-in_default-part-clause-reads c = λ before l h. none_closed before _ h l λ k at e. let told = c.in-Some.ensures.value in let same : c.in-Some.part ≡ Braces k at = cc in c.in_default-part.not-Braces k at same

pub returns-in_err-else_head-in-Then-clause-reads : goal.returns-in_err-else_head-in-Then-clause-reads
returns-in_err-else_head-in-Then-clause-reads c =
    let p = err_from_is_err_and c.from_residual.result c.from_residual.ensures.1 in
    let s = snap c.args.self.now in
    let told = c.in-Some.ensures in
    let last = ap (λ k. Some (Braces k c.in-Braces.at)) (sym c.in-Then.is) ∙ ap Some (sym c.in-Braces.is) ∙ told.value in
    let none : else_head s.ahead ≡ None = ap (λ r. else_head r.ahead) (sym told.after) ∙ c.in_err-else_head-in-Then.ensures.reads in
    rw p.1 (λ before l h. then_unclosed before s h l c.in-Braces.at last none)

pub returns-in_ok-else_head-in-Then-clause-reads : goal.returns-in_ok-else_head-in-Then-clause-reads
returns-in_ok-else_head-in-Then-clause-reads c =
    let s = snap c.args.self.now in
    let told = c.in-Some.ensures in
    let at = c.in-Braces.at in
    let last = ap (λ k. Some (Braces k at)) (sym c.in-Then.is) ∙ ap Some (sym c.in-Braces.is) ∙ told.value in
    let e = c.in_ok-else_head-in-Then.ensures.reads in
    let after : snap c.else_head.new.self ≡ block_opened Else (advanced (sealed (Block Then) at (closed s))) = e.1 ∙ ap (λ r. block_opened Else (advanced (sealed (Block Then) at r))) told.after in
    let found : else_head s.ahead ≡ Some (onward (onward s.ahead)) = ap (λ r. else_head r.ahead) (sym told.after) ∙ e.0 ∙ ap (λ r. Some r.ahead) after in
    λ before l h. subst (AtStatement before) (sym after) (then_closed before s h l at last found)

pub returns-in-Else-clause-reads : goal.returns-in-Else-clause-reads
returns-in-Else-clause-reads c =
    let s = snap c.args.self.now in
    let told = c.in-Some.ensures in
    let at = c.in-Braces.at in
    let last = ap (λ k. Some (Braces k at)) (sym c.in-Else.is) ∙ ap Some (sym c.in-Braces.is) ∙ told.value in
    let after : snap c.emit.new.self ≡ emitted instr.end_if (sealed (Block Else) at (closed s)) = c.emit.ensures ∙ ap (emitted instr.end_if) (c.seal.ensures ∙ (λ i. sealed (Block (c.in-Else.is i)) at (told.after i))) in
    λ before l h. subst (AtStatement before) (sym after) (else_closed before s h l at last)

pub returns-in-Do-clause-reads : goal.returns-in-Do-clause-reads
returns-in-Do-clause-reads c =
    let s = snap c.args.self.now in
    let told = c.in-Some.ensures in
    let at = c.in-Braces.at in
    let last = ap (λ k. Some (Braces k at)) (sym c.in-Do.is) ∙ ap Some (sym c.in-Braces.is) ∙ told.value in
    let after : snap c.emit-in-Do.new.self ≡ emitted instr.end_while (sealed (Block Do) at (closed s)) = c.emit-in-Do.ensures ∙ ap (emitted instr.end_while) (c.seal-in-Do.ensures ∙ (λ i. sealed (Block (c.in-Do.is i)) at (told.after i))) in
    λ before l h. subst (AtStatement before) (sym after) (do_closed before s h l at last)
