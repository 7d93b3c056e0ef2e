use Rattle.std.proofs.Common.{◌<◌, vec_items, sym, refl, ap, ◌∙◌, arith}
use Rattle.walk.specs.Walking.{word}
use Rattle.eval.proofs.States.{values_at, values_missing}
use Rattle.eval.specs.States.{slot_of}
use Rattle.exec.specs.Activating.{names}
use Rattle.exec.specs.Running.{stage}
use Rattle.exec.proofs.Acting.{havoc_failed, havoc_on}
use Rattle.exec.proofs.Drawing.{as_many}
use Rattle.exec.proofs.Driving.{stays_onward}
use Rattle.exec.proofs.Halting.{failure_halts}
use Rattle.exec.proofs.Stepping.{same_less}
use Rattle.exec.proofs.Writing.{unmoved, still_sized, row_length, overwritten}
use Rattle.exec.proofs.machine.Machine.havoc.Goals as goal

pub returns-in_err-slot : goal.returns-in_err-slot
returns-in_err-slot c =
    let s = stage c.args.self.now in
    let held = s.running.program.now in
    let a = s.running in
    failure_halts s _ _ c.from_residual.result _ c.from_residual.ensures.1 (λ p hold is_sound v. havoc_failed held s p hold is_sound v c.args.here.at c.args.here.fuel (word held c.args.name) c.requires.fuel c.requires.next (values_missing (names held a) (vec_items a.numbers) (word held c.args.name) (ap (slot_of (names held a) 0) (sym c.at.ensures.text) ∙ sym c.in_err-slot.ensures.found)))

pub copy-requires : goal.copy-requires
copy-requires c = omega (arith, c.in_ok-slot.ensures.within, as_many _ _ _ _ (c.as_slice.ensures.value ∙ c.in_ok-values.ensures))

pub invariant_of-running : goal.invariant_of-running
invariant_of-running c = record { sized = still_sized c.args.self.now.running c.in_ok-slot.slot c.as_slice.result.now _ c.in_ok-slot.ensures.within (as_many _ _ _ _ (c.as_slice.ensures.value ∙ c.in_ok-values.ensures)) c.copy.ensures }

pub returns : goal.returns
returns c =
    let s = stage c.args.self.now in
    let a = s.running in
    let held = a.program.now in
    let u = c.args.here.fuel in
    let pos : 0 < u = omega (arith, c.requires.fuel) in
    let x = word held c.args.name in
    let slot = c.in_ok-slot.slot in
    let found = ap (slot_of (names held a) 0) (sym c.at.ensures.text) ∙ sym c.in_ok-slot.ensures.found in
    let drawn = c.in_ok-values.ensures in
    let value = c.as_slice.ensures.value in
    let size = as_many _ _ _ _ (value ∙ drawn) in
    let wrote = overwritten held a _ (unmoved refl refl refl refl) a.sized.current x slot found c.as_slice.result.now size c.copy.ensures in
    record {
      less = same_less u s.frames s.frames refl pos;
      onward = stays_onward s _ _ _ wrote.stays refl (record { taken = slot.size; rest_is = c.behind-self.ensures }) (λ p hold is_sound v. havoc_on held s p hold is_sound v c.args.here.at u x c.requires.fuel _ slot.size c.skip.result _ c.as_slice.result.now (values_at (names held a) (vec_items a.numbers) x slot found) (row_length (names held a) (vec_items a.numbers) x slot found a.sized.current) wrote (value ∙ drawn) refl c.behind-self.ensures c.skip.ensures c.requires.next);
    }
