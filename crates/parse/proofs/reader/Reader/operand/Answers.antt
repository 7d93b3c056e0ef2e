use Rattle.std.proofs.Common.{Some, ◌≡◌, ◌<◌, ◌∷◌, length, drop, None, sym, ap, ◌∙◌, subst, subst₂, arith}
use Rattle.lang.specs.declared.code.Place.{Place}
use Rattle.lang.specs.Ahead.{ahead_by}
use Rattle.lang.specs.Grammar.{onward, a_name, a_number}
use Rattle.lang.specs.Instr as instr
use Rattle.lang.specs.Instr.{name_at, number_at}
use Rattle.lang.specs.Tokens.{tokens, number, name}
use Rattle.parse.specs.InExpr.{AtOperand, BehindAtom, InExpr, Used, behind_name, name_step}
use Rattle.parse.specs.Reading.{snap, advanced}
use Rattle.parse.specs.declared.expression.Step.TheVariants.{Operand, Atom}
use Rattle.parse.specs.declared.open.Open.TheVariants.{Index}
use Rattle.parse.proofs.InExpr.{paren_reads, paren_used, number_reads, number_used, name_reads, named_used, no_operand}
use Rattle.parse.proofs.reader.Reader.operand.Goals as goal

pub returns-then-at : goal.returns-then-at
returns-then-at c =
    let s = snap c.args.self.now in
    let after = c.advance.ensures ∙ ap advanced c.begin.ensures in
    record {
      reads = λ before h. subst (AtOperand before) (sym after) (paren_reads before s h (sym c.if-at.ensures));
      used = subst (λ t. Used s t (Some Operand)) (sym after) (paren_used s (sym c.if-at.ensures));
    }

pub returns-in-Number : goal.returns-in-Number
returns-in-Number c =
    let text = c.args.self.now.text.now in
    let cursor = c.args.self.now.cursor in
    let s = snap c.args.self.now in
    let n = number_at text cursor.start in
    let first : s.ahead ≡ number n ∷ tokens (drop cursor.end text) = ap (ahead_by text cursor.start cursor.end) c.in-Number.is in
    let after = c.advance-in-Number.ensures ∙ ap advanced c.emit.ensures in
    let fewer : length (onward s.ahead) < length s.ahead = omega (arith, ap length first, ap (λ ts. length (onward ts)) first) in
    record {
      reads = λ before h. subst (BehindAtom before) (sym after) (number_reads before s n _ h first);
      used = subst (λ t. Used s t (Some Atom)) (sym after) (number_used s (instr.num n) fewer);
    }

pub returns-in-Name : goal.returns-in-Name
returns-in-Name c =
    let text = c.args.self.now.text.now in
    let cursor = c.args.self.now.cursor in
    let s = snap c.args.self.now in
    let p : Place = record { 0 = cursor.start } in
    let first : s.ahead ≡ name (name_at text p.0) ∷ tokens (drop cursor.end text) = ap (ahead_by text cursor.start cursor.end) c.in-Name.is in
    let after = c.named.ensures.after ∙ ap (λ t. behind_name (Index p) (instr.var (name_at t.text p.0)) t) c.advance-in-Name.ensures in
    let next = c.named.ensures.step ∙ ap name_step c.advance-in-Name.ensures in
    let fewer : length (onward s.ahead) < length s.ahead = omega (arith, ap length first, ap (λ ts. length (onward ts)) first) in
    record {
      reads = λ before h. subst₂ (λ t n. InExpr before t (Some n)) (sym after) (sym next) (name_reads before s p _ h first);
      used = subst₂ (λ t n. Used s t (Some n)) (sym after) (sym next) (named_used s (onward s.ahead) (Index p) (instr.var (name_at text p.0)) fewer);
    }

pub returns-in-Fixed : goal.returns-in-Fixed
returns-in-Fixed c =
    let s = snap c.args.self.now in
    let cases = c.in-Fixed.is in
    let unnamed : a_name s.ahead ≡ None = grind (arith, cases) in
    let uncounted : a_number s.ahead ≡ None = grind (arith, cases) in
    record { reads = λ before h. no_operand before s h (sym c.if-at.ensures) (sym c.if-at-2.ensures) unnamed uncounted; used = tt }
