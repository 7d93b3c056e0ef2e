use Rattle.std.proofs.Common.{◌≡◌, ◌+◌, ◌≤◌, length, Some, None, sym, ap, ◌∙◌, subst, arith}
use Rattle.std.proofs.lemmas.Result.{err_from_is_err_and}
use Rattle.lang.specs.Grammar.{onward}
use Rattle.lang.specs.Instr.{name_at, number_at}
use Rattle.lang.specs.declared.token.Fixed.TheVariants.{All}
use Rattle.parse.specs.InBool.{AtUnit, Used, all_head, all_begun}
use Rattle.parse.specs.Reading.{snap, advanced}
use Rattle.parse.specs.declared.formula.Turn.TheVariants as turn
use Rattle.parse.proofs.Heads.{starts_long}
use Rattle.parse.proofs.InBool.{all_head_long, all_reads, all_unread, all_used}
use Rattle.parse.proofs.reader.Reader.universal.Goals as goal

pub returns-in_err-name : goal.returns-in_err-name
returns-in_err-name c =
    let p = err_from_is_err_and c.from_residual.result c.from_residual.ensures.1 in
    let s = snap c.args.self.now in
    let none : all_head (onward s.ahead) ≡ None = ap (λ t. all_head t.ahead) (sym c.advance.ensures) ∙ c.in_err-name.ensures in
    rw p.1 (record { reads = λ before h. all_unread before s h c.requires.1 none; used = tt })

pub returns : goal.returns
returns c =
    let text = c.args.self.now.text.now in
    let s = snap c.args.self.now in
    let x = name_at text c.in_ok-name.name.0 in
    let n = number_at text c.in_ok-name.bound.0 in
    let us = onward (onward (onward (onward (onward s.ahead)))) in
    let five : snap c.all_head.new.self ≡ advanced (advanced (advanced (advanced (advanced s)))) = c.in_ok-name.ensures.1 ∙ ap (λ t. advanced (advanced (advanced (advanced t)))) c.advance.ensures in
    let head : all_head (onward s.ahead) ≡ Some ((x, n), us) = ap (λ t. all_head t.ahead) (sym c.advance.ensures) ∙ c.in_ok-name.ensures.0 ∙ (λ i. Some ((name_at (c.advance.ensures i).text c.in_ok-name.name.0, number_at (c.advance.ensures i).text c.in_ok-name.bound.0), (five i).ahead)) in
    let after = c.begin_all.ensures ∙ ap (λ r. all_begun (name_at r.text c.in_ok-name.name.0) (number_at r.text c.in_ok-name.bound.0) r) five in
    let long : 5 + length us ≤ length s.ahead = omega (arith, all_head_long (onward s.ahead) us x n head, starts_long All s.ahead c.requires.1) in
    record {
      reads = λ before h. subst (AtUnit before) (sym after) (all_reads before s x n us h c.requires.1 head);
      used = subst (λ t. Used turn.Unit s t (Some turn.Unit)) (sym after) (all_used x n s us long);
    }
