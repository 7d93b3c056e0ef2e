-- Whether a name is among others, looked for from the front.
use Rattle.std.proofs.Common.{◌≡◌, true, false, List, ◌∷◌, Decides, sym, rules}
use Rattle.std.proofs.lemmas.Bool.Decides.{Decides-like, same_from_decides}
use Rattle.std.proofs.lemmas.Slice.Eq.{compares_Decides}
use Rattle.lang.specs.Base.{Word, same, among}

same_decides : (v w : Word) → Decides (same v w) (v ≡ w)
same_decides v w = compares_Decides same (search rules) v w

pub same_symmetric : (v w : Word) → same v w ≡ same w v
same_symmetric v w = same_from_decides (same v w) (same w v) (same_decides v w) (Decides-like (same w v) sym sym (same_decides w v))

module _ (x v : Word) {ws vs : List Word} (front : ws ≡ v ∷ vs) where
  pub among_here : true ≡ same v x → true ≡ among x ws
  among_here e = rw (front, same_symmetric x v, ← e)

  pub among_behind : false ≡ same v x → among x vs ≡ among x ws
  among_behind e = rw (front, same_symmetric x v, ← e)
