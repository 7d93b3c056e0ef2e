-- Frames on a stack, and how long they can go on.
use Rattle.std.specs.Prelude.{ℕ, ◌+◌, ◌^◌, List, [], ◌∷◌, Some, None, Option, reverse, vec_items, Vec}
use Rattle.std.specs.declared.alloc.Global.{Global}
use Rattle.exec.specs.declared.activation.Activation.{Activation}
use Rattle.exec.specs.declared.frame.Frame.{Frame}
use Rattle.exec.specs.declared.frame.Frame.TheVariants.{Go, Return}
use Rattle.exec.specs.declared.frame.Point.{Point}
use Rattle.exec.specs.declared.frame.Work.{Work}
use Rattle.exec.specs.declared.frame.Work.TheVariants.{Block, Loop}

-- the last that was pushed first
unfoldable pub stack : {T : Type 0} → Vec T Global → List T
stack v = reverse (vec_items v)

-- what is done next; none where the last frame says it
abbrev pub Mode : Type 0
Mode = Option Work

-- an index with so much fuel, and statements and a loop there
abbrev pub point : ℕ → ℕ → Point
point at u = record { at = at; fuel = u }

abbrev pub block : ℕ → ℕ → Work
block at u = Block (point at u)

abbrev pub round : ℕ → ℕ → Work
round at u = Loop (point at u)

-- more than all that can come of so much fuel
abbrev pub work_weight : Work → ℕ
work_weight (Block here) = 4 ^ here.fuel
work_weight (Loop here) = 4 ^ here.fuel

abbrev pub mode_weight : Mode → ℕ
mode_weight None = 0
mode_weight (Some work) = work_weight work

abbrev pub frame_weight : Frame → ℕ
frame_weight (Go work) = work_weight work + 1
frame_weight (Return a xs behind) = 4 ^ behind.fuel + 1

unfoldable pub weight : List Frame → ℕ
weight [] = 0
weight (f ∷ fs) = frame_weight f + weight fs

-- where the names of the procedure are declared that began first
unfoldable pub bottom : Activation → List Frame → ℕ × ℕ
bottom a [] = (a.params, a.locals)
bottom a (Go work ∷ fs) = bottom a fs
bottom a (Return b xs behind ∷ fs) = bottom b fs
