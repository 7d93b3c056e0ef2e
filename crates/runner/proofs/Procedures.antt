-- What procedures give by their names, one after the other.
use Rattle.std.proofs.Common.{◌≡◌, List, [], ◌∷◌, map, length, get_or, drop, ap, sym, ◌∙◌, arith}
use Rattle.std.specs.Iterator.{AlwaysYields}
use Rattle.std.proofs.lemmas.Iterator.{YieldsList}
use Rattle.lang.specs.Code.{code_procs}
use Rattle.lang.specs.Syntax.{Proc}
use Rattle.lang.specs.declared.program.Program.{Program}
use Rattle.walk.proofs.Listing.{no_procs, proc_given, procs_on, procs_behind}
use Rattle.walk.specs.Listing.{GivesProcedure}
use Rattle.walk.specs.Walking.{rest, name_of}
use Rattle.walk.specs.declared.procedures.Procedures.{Procedures}

module _ (held : Program) where
  names_come : (qs : List Proc) (s : Procedures) → s.program.now ≡ held → rest held s.at ≡ code_procs qs [] → AlwaysYields GivesProcedure name_of s (map (λ q. q.name) qs)
  names_come [] s here e = λ f t g. let none = ap length (proc_given held s t here f g [] e).split in omega (arith, none)
  names_come (q ∷ qs) s here e = (
    λ t g. let some = ap length (no_procs held s t here g (q ∷ qs) e) in omega (arith, some),
    λ f t g.
        let at = proc_given held s t here f g (q ∷ qs) e in
        let this : q ≡ at.this = ap (λ l. get_or l 0 q) at.split in
        let others : qs ≡ at.others = ap (drop 1) at.split in
        (at.name ∙ sym (ap (λ (r : Proc). r.name) this), names_come qs t (procs_on held s t here f g) (procs_behind held s t here f g ∙ at.behind ∙ sym (ap (λ rs. code_procs rs []) others))),
  )

  pub names_given : (qs : List Proc) (s : Procedures) → s.program.now ≡ held → rest held s.at ≡ code_procs qs [] → YieldsList GivesProcedure name_of s (map (λ q. q.name) qs)
  names_given qs s here e = record { runs = names_come qs s here e }
