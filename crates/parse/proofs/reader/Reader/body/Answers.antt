use Rattle.std.proofs.Common.{[], ◌∷◌, ◌++◌, length, Some, sym, ap, ◌∙◌, append_assoc, arith}
use Rattle.std.proofs.lemmas.Result.{err_from_is_err_and}
use Rattle.std.proofs.lemmas.List.{length_push}
use Rattle.lang.specs.Code.{code_locals}
use Rattle.lang.specs.Instr as instr
use Rattle.parse.specs.Procedures.{body∞, block_code}
use Rattle.parse.specs.Reading.{snap}
use Rattle.lang.specs.declared.token.Fixed.TheVariants.{LeftBrace}
use Rattle.parse.proofs.Heads.{expect_starts}
use Rattle.parse.proofs.reader.Reader.body.Goals as goal

pub returns-in_err-expect-clause-reads : goal.returns-in_err-expect-clause-reads
unfolding body∞
returns-in_err-expect-clause-reads c =
    let p = err_from_is_err_and c.from_residual.result c.from_residual.ensures.1 in
    rw p.1 (rw c.in_err-expect.ensures)

pub returns-in_err-local_variables-clause-reads : goal.returns-in_err-local_variables-clause-reads
unfolding body∞
returns-in_err-local_variables-clause-reads c =
    let p = err_from_is_err_and c.from_residual-in_err-local_variables.result c.from_residual-in_err-local_variables.ensures.1 in
    rw p.1 (rw (c.in_ok-expect.ensures.0, c.in_err-local_variables.ensures.reads))

pub returns-in_err-statements-clause-reads : goal.returns-in_err-statements-clause-reads
unfolding body∞
returns-in_err-statements-clause-reads c =
    let p = err_from_is_err_and c.from_residual-in_err-statements.result c.from_residual-in_err-statements.ensures.1 in
    let first = c.in_ok-expect.ensures in
    let ys = c.in_ok-local_variables.ensures in
    rw p.1 (rw (first.0, ys.reads.parsed, c.in_err-statements.ensures.reads))

pub returns-clause-reads : goal.returns-clause-reads
unfolding body∞
returns-clause-reads c =
    let s = snap c.args.self.now in
    let first = c.in_ok-expect.ensures in
    let ys = c.in_ok-local_variables.ensures in
    let ss = c.in_ok-statements.ensures in
    let ls = code_locals ys.reads.value [] in
    let bs = block_code ss.reads.value in
    record {
      value = record { locals = ys.reads.value; block = ss.reads.value };
      parsed = rw (first.0, ys.reads.parsed, ss.reads.parsed) (ap (λ r. Some (record { locals = ys.reads.value; block = ss.reads.value }, r.ahead)) (sym c.emit.ensures));
      code = ap (λ r. r.code) c.emit.ensures ∙ ap (λ k. k ++ instr.end_proc ∷ []) (ss.reads.code ∙ ap (λ k. k ++ bs) (ys.reads.code ∙ ap (λ r. r.code ++ ls) first.1)) ∙ append_assoc (s.code ++ ls) bs _ ∙ append_assoc s.code ls _;
      pending = ap (λ r. r.pending) c.emit.ensures ∙ ss.reads.pending ∙ ys.reads.pending ∙ ap (λ r. r.pending) first.1;
    }

pub emit-requires : goal.emit-requires
emit-requires c =
    let s = snap c.args.self.now in
    let t = snap c.expect.new.self in
    let u = snap c.local_variables.new.self in
    let long = expect_starts LeftBrace s.ahead t.ahead c.in_ok-expect.ensures.0 in
    let ahead = ap (λ r. length r.ahead) c.in_ok-expect.ensures.1 in
    let code = ap (λ r. length r.code) c.in_ok-expect.ensures.1 in
    let pending = ap (λ r. length r.pending) c.in_ok-expect.ensures.1 in
    let room = ap (λ r. r.code_room) c.in_ok-expect.ensures.1 in
    omega (arith, long, ahead, code, pending, room, c.requires.code, c.in_ok-local_variables.ensures.paid.code, c.in_ok-local_variables.ensures.paid.code_room, c.in_ok-statements.ensures.paid.code, c.in_ok-statements.ensures.paid.code_room, length_push u.code (instr.body 0))
