use Rattle.std.proofs.Common.{sym, ap, subst}
use Rattle.std.proofs.lemmas.Result.{MatchResult-weaker, err_from_is_err_and}
use Rattle.lang.specs.Grammar.{declaration}
use Rattle.lang.specs.declared.token.Fixed.TheVariants.{Comma}
use Rattle.parse.specs.Declaring.{role_code}
use Rattle.parse.specs.Listed.{AtItem}
use Rattle.parse.specs.Reading.{snap, Paid}
use Rattle.parse.specs.Unbounded.{declarations∞}
use Rattle.parse.proofs.Declaring.{role_front}
use Rattle.parse.proofs.Heads.{starts_long}
use Rattle.parse.proofs.Listed.{no_item, next_item, last_item, no_end}
use Rattle.parse.proofs.Rooms.{paid_then, paid_advance}
use Rattle.parse.proofs.Rules.{declarations_rule}
use Rattle.parse.proofs.reader.Reader.declarations.Goals as goal

pub returns-in_err-declaration-clause-reads : goal.returns-in_err-declaration-clause-reads
returns-in_err-declaration-clause-reads c =
    let p = err_from_is_err_and c.from_residual.result c.from_residual.ensures.1 in
    rw p.1 (no_item declaration (role_code c.args.role) (role_front c.args.role) c.args.end (declarations∞ c.args.end) (declarations_rule c.args.end) (snap c.args.self.now) (snap c.loop-self.self) c.loop-self.invariant.0 c.in_err-declaration.ensures.reads)

pub returns-then-not-at-clause-reads : goal.returns-then-not-at-clause-reads
returns-then-not-at-clause-reads c =
    let s₀ = snap c.args.self.now in
    let s = snap c.loop-self.self in
    let t = snap c.declaration.new.self in
    let told = c.in_ok-declaration.ensures in
    let d = told.reads in
    let u = snap c.expect.new.self in
    MatchResult-weaker c.expect.result c.expect.ensures
    (λ _ f. last_item declaration (role_code c.args.role) (role_front c.args.role) c.args.end (declarations∞ c.args.end) (declarations_rule c.args.end) s₀ s c.loop-self.invariant.0 t d.value d.parsed d.code d.pending (sym c.if-not-at.ensures) u f.0 (ap (λ u. u.code) f.1) (ap (λ u. u.pending) f.1))
    (λ _ none. no_end declaration (role_code c.args.role) (role_front c.args.role) c.args.end (declarations∞ c.args.end) (declarations_rule c.args.end) s₀ s c.loop-self.invariant.0 t d.value d.parsed (sym c.if-not-at.ensures) none)

pub loop-self-preserved : goal.loop-self-preserved
loop-self-preserved c =
    let s₀ = snap c.args.self.now in
    let s = snap c.loop-self.self in
    let t = snap c.declaration.new.self in
    let told = c.in_ok-declaration.ensures in
    let d = told.reads in
    let b = sym c.if-not-at.ensures in
    let u = snap c.advance.new.self in
    (subst (AtItem (declarations∞ c.args.end) (role_code c.args.role) s₀) (sym c.advance.ensures) (next_item declaration (role_code c.args.role) (role_front c.args.role) c.args.end (declarations∞ c.args.end) (declarations_rule c.args.end) s₀ s c.loop-self.invariant.0 t d.value d.parsed d.code d.pending b), paid_then s₀ s u c.loop-self.invariant.1 (paid_then s t u told.paid (subst (Paid t) (sym c.advance.ensures) (paid_advance t (starts_long Comma t.ahead b)))))
