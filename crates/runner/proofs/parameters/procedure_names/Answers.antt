use Rattle.std.proofs.Common.{ℕ, List, map, refl, ap, ◌∙◌, codes, string_bytes, rules, tests}
use Rattle.std.proofs.lemmas.Iterator.{YieldsList-from_map_by}
use Rattle.bstr.specs.BStr.{bstr_bytes}
use Rattle.bstr.specs.declared.bstr.BStr.{BStr}
use Rattle.lang.specs.Syntax.{Proc}
use Rattle.runner.proofs.Joining.{joined_text}
use Rattle.runner.proofs.Procedures.{names_given}
use Rattle.runner.specs.Written.{name_text}
use Rattle.walk.specs.Walking.{rest}
use Rattle.walk.specs.declared.procedures.Procedures.{Procedures}
use Rattle.runner.proofs.parameters.procedure_names.Goals as goal

pub returns : goal.returns
returns c p holds =
    let text : BStr → List ℕ = λ b. name_text (bstr_bytes b) in
    let names = map (λ (q : Proc). q.name) p.procs in
    joined_text string_bytes _ text (codes ", ") c.join.result name_text names
    (YieldsList-from_map_by _ text name_text (names_given c.args.program.now p.procs _ (ap (λ (s : Procedures). s.program.now) c.map.ensures.source ∙ c.from.ensures.program) (ap (λ (s : Procedures). rest c.args.program.now s.at) c.map.ensures.source ∙ ap (rest c.args.program.now) c.from.ensures.at ∙ holds.code)) c.map.ensures.closure (λ x r q k. search (rules, tests)))
    c.join.ensures.text (λ x. refl)
