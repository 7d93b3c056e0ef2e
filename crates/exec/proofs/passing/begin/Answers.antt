use Rattle.std.proofs.Common.{length, vec_items, refl, ap, ◌∙◌}
use Rattle.exec.proofs.Handing.{begun, begun_long}
use Rattle.exec.proofs.passing.begin.Goals as goal

pub returns : goal.returns
returns c = begun c.args.program.now c.args.params c.args.locals (vec_items c.args.numbers) _ c.requires refl refl refl (c.in_ok-olds.ensures.items ∙ c.as_slice.ensures.value) c.in_ok-zero_locals.ensures

pub invariant_of-result : goal.invariant_of-result
invariant_of-result c =
    record {
      sized = record {
        current = begun_long c.args.program.now c.args.params c.args.locals (vec_items c.args.numbers) _ c.requires c.in_ok-zero_locals.ensures;
        initial = ap length (c.in_ok-olds.ensures.items ∙ c.as_slice.ensures.value) ∙ c.requires;
      };
    }
