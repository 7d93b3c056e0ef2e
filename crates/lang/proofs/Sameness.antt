-- Two words are the same exactly if the library's test of their bytes says so.
use Rattle.std.proofs.Common.{◌≡◌, [], ◌∷◌, refl, ap}
use Rattle.std.specs.Prelude.{nat_eq, ◌&&◌}
use Rattle.std.specs.Cmp.Lexicographic.{pointwise}
use Rattle.lang.specs.Base.{Word, same}

pub pointwise_same : (v w : Word) → pointwise nat_eq v w ≡ same v w
pointwise_same [] [] = refl
pointwise_same [] (y ∷ w) = refl
pointwise_same (x ∷ v) [] = refl
pointwise_same (x ∷ v) (y ∷ w) = ap (λ b. nat_eq x y && b) (pointwise_same v w)
