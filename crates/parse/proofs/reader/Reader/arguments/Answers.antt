use Rattle.std.proofs.Common.{◌≡◌, true, Some, sym, ap, ◌∙◌, subst}
use Rattle.std.proofs.lemmas.Result.{MatchResult-weaker, err_from_is_err_and}
use Rattle.lang.specs.Grammar.{starts, a_name}
use Rattle.lang.specs.Instr as instr
use Rattle.lang.specs.Instr.{name_at}
use Rattle.lang.specs.declared.token.Fixed.TheVariants.{RightParen, Comma}
use Rattle.lang.proofs.Codes.{one_front}
use Rattle.parse.specs.Listed.{AtItem}
use Rattle.parse.specs.Reading.{snap, advanced, emitted, Paid}
use Rattle.parse.specs.Unbounded.{names∞}
use Rattle.parse.proofs.Heads.{name_long, starts_long}
use Rattle.parse.proofs.Listed.{no_item, next_item, last_item, no_end}
use Rattle.parse.proofs.Args.{arg_code, some_names, no_names}
use Rattle.parse.proofs.Rooms.{paid_then, paid_item, paid_advance}
use Rattle.parse.proofs.Rules.{names_rule}
use Rattle.parse.proofs.reader.Reader.arguments.Goals as goal

pub returns-in_err-place-clause-reads : goal.returns-in_err-place-clause-reads
returns-in_err-place-clause-reads c =
    let p = err_from_is_err_and c.from_residual.result c.from_residual.ensures.1 in
    let s₀ = snap c.args.self.now in
    let s = snap c.loop-place.self in
    rw p.1 (no_names s₀ (sym c.if-at.ensures) (no_item a_name arg_code (λ x. one_front _) RightParen names∞ names_rule s₀ s c.loop-place.invariant.0 c.in_err-place.ensures))

pub returns-then-not-at-clause-reads : goal.returns-then-not-at-clause-reads
returns-then-not-at-clause-reads c =
    let text = c.loop-place.self.text.now in
    let s₀ = snap c.args.self.now in
    let s = snap c.loop-place.self in
    let t = snap c.emit.new.self in
    let x = name_at text c.in_ok-place.place.0 in
    let n = c.in_ok-place.ensures in
    let e : t ≡ emitted (instr.arg x) (advanced s) = c.emit.ensures ∙ ap (λ r. emitted (instr.arg (name_at r.text c.in_ok-place.place.0)) r) n.1 in
    let named : a_name s.ahead ≡ Some (x, t.ahead) = n.0 ∙ ap (λ u. Some (x, u.ahead)) (sym c.emit.ensures) in
    let u = snap c.expect.new.self in
    MatchResult-weaker c.expect.result c.expect.ensures
    (λ _ f. some_names s₀ u (sym c.if-at.ensures) (last_item a_name arg_code (λ x. one_front _) RightParen names∞ names_rule s₀ s c.loop-place.invariant.0 t x named (ap (λ u. u.code) e) (ap (λ u. u.pending) e) (sym c.if-not-at.ensures) u f.0 (ap (λ u. u.code) f.1) (ap (λ u. u.pending) f.1)))
    (λ _ none. no_names s₀ (sym c.if-at.ensures) (no_end a_name arg_code (λ x. one_front _) RightParen names∞ names_rule s₀ s c.loop-place.invariant.0 t x named (sym c.if-not-at.ensures) none))

pub loop-place-preserved : goal.loop-place-preserved
loop-place-preserved c =
    let text = c.loop-place.self.text.now in
    let s₀ = snap c.args.self.now in
    let s = snap c.loop-place.self in
    let t = snap c.emit.new.self in
    let x = name_at text c.in_ok-place.place.0 in
    let n = c.in_ok-place.ensures in
    let e : t ≡ emitted (instr.arg x) (advanced s) = c.emit.ensures ∙ ap (λ r. emitted (instr.arg (name_at r.text c.in_ok-place.place.0)) r) n.1 in
    let named : a_name s.ahead ≡ Some (x, t.ahead) = n.0 ∙ ap (λ u. Some (x, u.ahead)) (sym c.emit.ensures) in
    let b : starts Comma t.ahead ≡ true = sym c.if-not-at.ensures in
    let u = snap c.advance-in-loop-place.new.self in
    (subst (AtItem names∞ arg_code s₀) (sym c.advance-in-loop-place.ensures) (next_item a_name arg_code (λ x. one_front _) RightParen names∞ names_rule s₀ s c.loop-place.invariant.0 t x named (ap (λ u. u.code) e) (ap (λ u. u.pending) e) b), paid_then s₀ s u c.loop-place.invariant.1 (paid_then s t u (subst (Paid s) (sym e) (paid_item s (instr.arg x) (name_long s.ahead _ x named))) (subst (Paid t) (sym c.advance-in-loop-place.ensures) (paid_advance t (starts_long Comma t.ahead b)))))
