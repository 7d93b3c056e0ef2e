use Rattle.std.proofs.Common.{sym, subst, ap, ◌∙◌}
use Rattle.std.proofs.lemmas.Result.{MatchResult-weaker}
use Rattle.lang.specs.declared.token.Fixed.TheVariants.{Semicolon}
use Rattle.parse.specs.Declaring.{role_code}
use Rattle.parse.specs.Listed.{codes}
use Rattle.parse.specs.Reading.{snap, Read}
use Rattle.parse.specs.Unbounded.{declarations∞}
use Rattle.parse.specs.declared.declarations.Role.TheVariants.{Local}
use Rattle.parse.proofs.Declaring.{some_locals}
use Rattle.parse.proofs.reader.Reader.local_variables.Goals as goal

pub returns-clause-reads : goal.returns-clause-reads
returns-clause-reads c =
    let s = snap c.args.self.now in
    let u = snap c.declarations.new.self in
    let b = sym c.if-not-at.ensures in
    let told = c.declarations.ensures in
    MatchResult-weaker c.declarations.result told.reads
    (λ _ r. some_locals s u b (subst (λ t. Read (declarations∞ Semicolon) (codes (role_code Local)) t u) c.advance.ensures r))
    (λ _ n. rw b (ap (λ t. declarations∞ Semicolon t.ahead) (sym c.advance.ensures) ∙ n))
