use Rattle.std.proofs.Common.{ℕ, List, refl, ap, ◌∙◌, codes, string_bytes, rules, tests}
use Rattle.std.proofs.lemmas.Iterator.{YieldsList-from_map_by}
use Rattle.std.proofs.lemmas.Iterator.Consumers.{YieldsList-from_first}
use Rattle.runner.proofs.Joining.{joined_text}
use Rattle.runner.specs.Written.{declared_text}
use Rattle.runner.specs.declared.parameters.Parameter.{Parameter}
use Rattle.walk.specs.Listing.{declared_in}
use Rattle.walk.specs.Walking.{decl, declared, rest}
use Rattle.runner.proofs.parameters.signature.Goals as goal

pub returns : goal.returns
returns c =
    let ds = declared (rest c.args.program.now c.args.params) in
    let text : Parameter → List ℕ = λ p. declared_text (decl p.0) in
    joined_text string_bytes _ text (codes ", ") c.join.result declared_text ds
    (YieldsList-from_map_by _ text declared_text (YieldsList-from_first decl declared_in ds (ap declared_in c.map.ensures.source ∙ c.from.ensures)) c.map.ensures.closure (λ x r q k. search (rules, tests)))
    c.join.ensures.text (λ x. refl)
