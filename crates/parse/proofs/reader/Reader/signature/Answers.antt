use Rattle.std.proofs.Common.{◌≡◌, [], ◌∷◌, ◌++◌, Some, None, sym, ap, ◌∙◌, append_assoc}
use Rattle.std.proofs.lemmas.Result.{err_from_is_err_and}
use Rattle.lang.specs.Code.{code_params}
use Rattle.lang.specs.Grammar.{onward, expect, a_name}
use Rattle.lang.specs.Instr as instr
use Rattle.lang.specs.Instr.{name_at}
use Rattle.lang.specs.declared.token.Fixed.TheVariants.{LeftParen}
use Rattle.parse.specs.Procedures.{signature∞}
use Rattle.parse.specs.Reading.{snap, advanced, emitted}
use Rattle.parse.proofs.reader.Reader.signature.Goals as goal

pub returns-in_err-name-clause-reads : goal.returns-in_err-name-clause-reads
unfolding signature∞
returns-in_err-name-clause-reads c =
    let p = err_from_is_err_and c.from_residual.result c.from_residual.ensures.1 in
    rw p.1 (rw c.in_err-name.ensures)

pub returns-in_err-expect-clause-reads : goal.returns-in_err-expect-clause-reads
unfolding signature∞
returns-in_err-expect-clause-reads c =
    let p = err_from_is_err_and c.from_residual-in_err-expect.result c.from_residual-in_err-expect.ensures.1 in
    let text = c.args.self.now.text.now in
    let s = snap c.args.self.now in
    let f = name_at text c.in_ok-name.name.0 in
    let first = c.in_ok-name.ensures in
    let named : a_name s.ahead ≡ Some (f, onward s.ahead) = first.0 ∙ ap (λ r. Some (f, r.ahead)) first.1 in
    let t = emitted (instr.extent 0) (emitted (instr.proc f) (advanced s)) in
    let wrote : snap c.head-extent.new.self ≡ t = c.head-extent.ensures.after ∙ ap (emitted (instr.extent 0)) (c.emit.ensures ∙ ap (λ r. emitted (instr.proc (name_at r.text c.in_ok-name.name.0)) r) first.1) in
    let none : expect LeftParen (onward s.ahead) ≡ None = ap (λ r. expect LeftParen r.ahead) (sym wrote) ∙ c.in_err-expect.ensures in
    rw p.1 (rw (named, none))

pub returns-in_err-parameters-clause-reads : goal.returns-in_err-parameters-clause-reads
unfolding signature∞
returns-in_err-parameters-clause-reads c =
    let p = err_from_is_err_and c.from_residual-in_err-parameters.result c.from_residual-in_err-parameters.ensures.1 in
    let text = c.args.self.now.text.now in
    let s = snap c.args.self.now in
    let f = name_at text c.in_ok-name.name.0 in
    let first = c.in_ok-name.ensures in
    let named : a_name s.ahead ≡ Some (f, onward s.ahead) = first.0 ∙ ap (λ r. Some (f, r.ahead)) first.1 in
    let t = emitted (instr.extent 0) (emitted (instr.proc f) (advanced s)) in
    let wrote : snap c.head-extent.new.self ≡ t = c.head-extent.ensures.after ∙ ap (emitted (instr.extent 0)) (c.emit.ensures ∙ ap (λ r. emitted (instr.proc (name_at r.text c.in_ok-name.name.0)) r) first.1) in
    let u = snap c.expect.new.self in
    let found : expect LeftParen (onward s.ahead) ≡ Some u.ahead = ap (λ r. expect LeftParen r.ahead) (sym wrote) ∙ c.in_ok-expect.ensures.0 in
    let past : u ≡ advanced t = c.in_ok-expect.ensures.1 ∙ ap advanced wrote in
    rw p.1 (rw (named, found, c.in_err-parameters.ensures.reads))

pub returns-clause-reads : goal.returns-clause-reads
unfolding signature∞
returns-clause-reads c =
    let text = c.args.self.now.text.now in
    let s = snap c.args.self.now in
    let f = name_at text c.in_ok-name.name.0 in
    let first = c.in_ok-name.ensures in
    let named : a_name s.ahead ≡ Some (f, onward s.ahead) = first.0 ∙ ap (λ r. Some (f, r.ahead)) first.1 in
    let t = emitted (instr.extent 0) (emitted (instr.proc f) (advanced s)) in
    let wrote : snap c.head-extent.new.self ≡ t = c.head-extent.ensures.after ∙ ap (emitted (instr.extent 0)) (c.emit.ensures ∙ ap (λ r. emitted (instr.proc (name_at r.text c.in_ok-name.name.0)) r) first.1) in
    let u = snap c.expect.new.self in
    let found : expect LeftParen (onward s.ahead) ≡ Some u.ahead = ap (λ r. expect LeftParen r.ahead) (sym wrote) ∙ c.in_ok-expect.ensures.0 in
    let past : u ≡ advanced t = c.in_ok-expect.ensures.1 ∙ ap advanced wrote in
    let v = snap c.parameters.new.self in
    let told = c.in_ok-parameters.ensures in
    let xs = told.reads.value in
    record {
      value = record { name = f; params = xs };
      parsed = rw (named, found, told.reads.parsed);
      code = told.reads.code ∙ ap (λ r. r.code ++ code_params xs []) past ∙ append_assoc (s.code ++ instr.proc f ∷ []) (instr.extent 0 ∷ []) _ ∙ append_assoc s.code (instr.proc f ∷ []) _;
      pending = told.reads.pending ∙ ap (λ r. r.pending) past;
    }
