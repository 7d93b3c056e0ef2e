use Rattle.std.proofs.Common.{◌≡◌, [], ◌∷◌, drop, None, sym, ap, ◌∙◌, subst}
use Rattle.std.proofs.lemmas.Result.{MatchResult-weaker}
use Rattle.lang.specs.Ahead.{ahead_by}
use Rattle.lang.specs.Code.{code_stmt}
use Rattle.lang.specs.Grammar.{a_name}
use Rattle.lang.specs.Instr.{name_at}
use Rattle.lang.specs.Tokens.{tokens, name}
use Rattle.parse.specs.Reading.{snap, Read}
use Rattle.parse.specs.Unbounded.{named_statement∞}
use Rattle.parse.proofs.Plain.{no_statement, named_read, named_unread}
use Rattle.parse.proofs.Snaps.{unnamed}
use Rattle.parse.proofs.reader.Reader.simple_statement.Goals as goal

pub returns-in_default-clause-reads : goal.returns-in_default-clause-reads
returns-in_default-clause-reads c =
    let s = snap c.args.self.now in
    let cursor = c.args.self.now.cursor in
    let unnamed : a_name s.ahead ≡ None = unnamed c.args.self.now.text.now cursor c.in_default.not-Name in
    no_statement s.ahead c.requires.not_if c.requires.not_while (sym c.if-at.ensures) (sym c.if-at-2.ensures) unnamed

pub returns-clause-reads : goal.returns-clause-reads
returns-clause-reads c =
    let text = c.args.self.now.text.now in
    let cursor = c.args.self.now.cursor in
    let s = snap c.args.self.now in
    let x = name_at text cursor.start in
    let first : s.ahead ≡ name x ∷ tokens (drop cursor.end text) = ap (ahead_by text cursor.start cursor.end) c.in-Name.is in
    let t = snap c.named_statement.new.self in
    let told = c.named_statement.ensures in
    MatchResult-weaker c.named_statement.result told.reads
    (λ _ r. named_read s t x _ first (subst (λ r. Read (named_statement∞ (name_at r.text cursor.start)) (λ s. code_stmt s []) r t) c.advance.ensures r))
    (λ _ n. named_unread s x _ first (ap (λ r. named_statement∞ (name_at r.text cursor.start) r.ahead) (sym c.advance.ensures) ∙ n))
