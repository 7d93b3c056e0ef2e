use Rattle.std.proofs.Common.{◌≡◌, Some, None, sym, ap, ◌∙◌}
use Rattle.std.proofs.lemmas.Result.{err_from_is_err_and}
use Rattle.lang.specs.Grammar.{expect, else_head}
use Rattle.lang.specs.declared.token.Fixed.TheVariants.{Else}
use Rattle.parse.specs.InBlock.{block_opened}
use Rattle.parse.specs.Parts.{sealed}
use Rattle.parse.specs.Reading.{snap, advanced}
use Rattle.parse.specs.declared.open.Kind.TheVariants as kind
use Rattle.parse.specs.declared.open.Kind.TheVariants.{Then}
use Rattle.parse.specs.declared.parts.Header.TheVariants.{Block}
use Rattle.parse.proofs.reader.Reader.else_head.Goals as goal

pub returns-in_err-expect-clause-reads : goal.returns-in_err-expect-clause-reads
unfolding else_head
returns-in_err-expect-clause-reads c =
    let p = err_from_is_err_and c.from_residual.result c.from_residual.ensures.1 in
    let s = snap c.args.self.now in
    let none : expect Else s.ahead ≡ None = ap (λ r. expect Else r.ahead) (sym c.seal.ensures) ∙ c.in_err-expect.ensures in
    rw p.1 (rw none)

pub returns-in_err-open_block-clause-reads : goal.returns-in_err-open_block-clause-reads
unfolding else_head
returns-in_err-open_block-clause-reads c =
    let p = err_from_is_err_and c.from_residual-in_err-open_block.result c.from_residual-in_err-open_block.ensures.1 in
    let s = snap c.args.self.now in
    let found : expect Else s.ahead ≡ Some (snap c.expect.new.self).ahead = ap (λ r. expect Else r.ahead) (sym c.seal.ensures) ∙ c.in_ok-expect.ensures.0 in
    rw p.1 (rw (found, c.in_err-open_block.ensures.reads))

pub returns-clause-reads : goal.returns-clause-reads
unfolding else_head
returns-clause-reads c =
    let s = snap c.args.self.now in
    let t = sealed (Block Then) c.args.at s in
    let found : expect Else s.ahead ≡ Some (snap c.expect.new.self).ahead = ap (λ r. expect Else r.ahead) (sym c.seal.ensures) ∙ c.in_ok-expect.ensures.0 in
    let u : snap c.expect.new.self ≡ advanced t = c.in_ok-expect.ensures.1 ∙ ap advanced c.seal.ensures in
    let last = c.in_ok-open_block.ensures in
    (rw (found, last.reads.0), last.reads.1 ∙ ap (block_opened kind.Else) u)
