use Rattle.std.proofs.Common.{map, set, ap, ◌∙◌}
use Rattle.std.proofs.Math.Seq.{take-set-lt}
use Rattle.std.proofs.lemmas.List.{map-set}
use Rattle.lent.specs.Layout.{record_in}
use Rattle.lent.specs.Tables.{items}
use Rattle.lent.proofs.table.Table.set.Goals as goal

pub returns-then-i-self-clause-items : goal.returns-then-i-self-clause-items
returns-then-i-self-clause-items g c =
    let read = record_in g.R.Record.decoded in
    let t = c.args.self.now in
    ap (map read) (take-set-lt t.len t.pairs.now c.args.i _ c.if-i-self.true) ∙ map-set read _ _ _ ∙ ap (λ x. set (items g.R.Record.decoded t) c.args.i x) c.encode-a.ensures
