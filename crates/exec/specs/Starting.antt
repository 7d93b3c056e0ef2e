-- The beginning of a procedure's run.
use Rattle.std.specs.Prelude.{◌≡◌, ℕ, List, []}
use Rattle.lang.specs.declared.program.Program.{Program}
use Rattle.walk.specs.declared.procedures.Outline.{Outline}
use Rattle.exec.specs.Passing.{Begun}
use Rattle.exec.specs.Running.{Stage}

pub record Started (held : Program) (o : Outline) (ns cs : List ℕ) (s : Stage) : Type 0 where
  pub begun : Begun held o.params o.locals ns s.running
  pub no_frames : s.frames ≡ []
  pub all_left : s.choices ≡ cs
