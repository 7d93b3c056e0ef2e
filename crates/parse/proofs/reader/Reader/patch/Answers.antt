use Rattle.std.proofs.Common.{map, refl, ap, ◌∙◌}
use Rattle.std.proofs.lemmas.List.{map-set}
use Rattle.lang.specs.Instr.{instr}
use Rattle.lang.specs.Layout.{node}
use Rattle.lent.specs.Tables.{items}
use Rattle.parse.proofs.Snaps.{same_snap}
use Rattle.parse.proofs.reader.Reader.patch.Goals as goal

pub returns : goal.returns
returns c =
    let view = instr c.args.self.now.text.now in
    same_snap _ _ refl (ap (map view) c.set.ensures.items ∙ map-set view (items node c.args.self.now.code) c.args.at c.args.node) refl refl c.set.ensures.capacity refl
