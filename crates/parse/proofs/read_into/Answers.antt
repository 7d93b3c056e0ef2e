use Rattle.std.proofs.Common.{[], ◌++◌, map, sym, refl, ap, ◌∙◌}
use Rattle.std.proofs.lemmas.Result.{err_from_is_err_and}
use Rattle.lent.specs.Tables.{items}
use Rattle.lang.specs.Code.{code_procs}
use Rattle.lang.specs.Instr.{instr}
use Rattle.lang.specs.Layout.{node}
use Rattle.parse.specs.Whole.{program∞}
use Rattle.parse.proofs.Wholes.{reads_is, room_for}
use Rattle.parse.proofs.read_into.Goals as goal

pub program-requires : goal.program-requires
program-requires c = room_for c.args.text.now _ (ap (map (instr c.args.text.now)) c.requires.empty.0) c.requires.empty.1 c.scan.ensures.ahead c.requires.room.0 c.requires.room.1

pub returns-in_err-width : goal.returns-in_err-width
returns-in_err-width c =
    let text = c.args.text.now in
    let p = err_from_is_err_and c.from_residual.result c.from_residual.ensures.1 in
    rw p.1 (reads_is text ∙ ap program∞ (sym c.scan.ensures.ahead) ∙ c.in_err-width.ensures)

pub returns : goal.returns
returns c =
    let text = c.args.text.now in
    let h = c.in_ok-width.ensures in
    record {
      program = record { width = c.in_ok-width.width; procs = h.procs };
      reads = reads_is text ∙ ap program∞ (sym c.scan.ensures.ahead) ∙ h.parsed;
      text = refl;
      holds = record {
        width = refl;
        code = ap (map (instr text)) c.freeze.ensures.value ∙ (λ i. map (instr (sym h.text i)) (items node c.program.new.self.code)) ∙ h.code ∙ ap (λ k. map (instr text) k ++ code_procs h.procs []) c.requires.empty.0;
      };
    }
