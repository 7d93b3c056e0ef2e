use Rattle.std.proofs.lemmas.Slice.{pushed}
use Rattle.std.proofs.Common.{[], ◌∷◌, refl}
use Rattle.exec.proofs.Framing.{stack_push}
use Rattle.exec.proofs.frame.push.Goals as goal

pub returns : goal.returns
returns g c = stack_push c.args.frames.now c.push.new.self c.args.frame (pushed (c.args.frame ∷ []) refl c.in_ok-push.was c.push.ensures.items)
