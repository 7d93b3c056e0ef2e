use Rattle.std.proofs.Common.{◌≡◌, ◌<◌, length, Some, None, sym, ap, ◌∙◌, subst₂, arith}
use Rattle.std.proofs.lemmas.Result.{err_from_is_err_and}
use Rattle.lang.specs.Grammar.{onward, a_name}
use Rattle.lang.specs.Instr as instr
use Rattle.lang.specs.Instr.{name_at}
use Rattle.parse.specs.InExpr.{InExpr, Used, behind_name, name_step}
use Rattle.parse.specs.Reading.{snap, advanced}
use Rattle.parse.specs.declared.open.Open.TheVariants.{OldIndex}
use Rattle.lang.specs.declared.token.Fixed.TheVariants.{Old}
use Rattle.parse.proofs.Heads.{starts_long, onward_short}
use Rattle.parse.proofs.InExpr.{named_used, old_named, old_unnamed}
use Rattle.parse.proofs.reader.Reader.old_operand.Goals as goal

pub returns-in_err-place : goal.returns-in_err-place
returns-in_err-place c =
    let p = err_from_is_err_and c.from_residual.result c.from_residual.ensures.1 in
    let s = snap c.args.self.now in
    let none : a_name (onward s.ahead) ≡ None = ap (λ t. a_name t.ahead) (sym c.advance.ensures) ∙ c.in_err-place.ensures in
    rw p.1 (record { reads = λ before h. old_unnamed before s h c.requires.1 none; used = tt })

pub returns : goal.returns
returns c =
    let text = c.args.self.now.text.now in
    let s = snap c.args.self.now in
    let p = c.in_ok-place.place in
    let two : snap c.name.new.self ≡ advanced (advanced s) = c.in_ok-place.ensures.1 ∙ ap advanced c.advance.ensures in
    let named : a_name (onward s.ahead) ≡ Some (name_at text p.0, onward (onward s.ahead)) = ap (λ t. a_name t.ahead) (sym c.advance.ensures) ∙ c.in_ok-place.ensures.0 ∙ (λ i. Some (name_at (c.advance.ensures i).text p.0, (two i).ahead)) in
    let after = c.named.ensures.after ∙ ap (λ t. behind_name (OldIndex p) (instr.old (name_at t.text p.0)) t) two in
    let next = c.named.ensures.step ∙ ap name_step two in
    let fewer : length (onward (onward s.ahead)) < length s.ahead = omega (arith, starts_long Old s.ahead c.requires.1, onward_short (onward s.ahead)) in
    record {
      reads = λ before h. subst₂ (λ t n. InExpr before t (Some n)) (sym after) (sym next) (old_named before s p h c.requires.1 named);
      used = subst₂ (λ t n. Used s t (Some n)) (sym after) (sym next) (named_used s (onward (onward s.ahead)) (OldIndex p) (instr.old (name_at text p.0)) fewer);
    }
