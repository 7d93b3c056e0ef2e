-- Sums as they are taken in code: one by one, and up to the largest number.
use Rattle.std.proofs.Common.{◌≡◌, ℕ, ◌+◌, ◌*◌, min, true, false, List, [], ◌∷◌, ◌++◌, sym, refl, ap, ◌∙◌, arith}
use Rattle.lang.specs.Amount.{size_decls}
use Rattle.lang.specs.Base.{Word}
use Rattle.lang.specs.Instr.{Instr}
use Rattle.walk.specs.Roles.{role, ends}
use Rattle.lang.specs.Syntax.{Decl}
use Rattle.walk.specs.Walking.{first}
use Rattle.amount.specs.Weighing.{Load, counts, times, back, adds, sets, measures, calls, load, most, turned, counted, added, called, weighed, no_calls}
use Rattle.amount.specs.declared.factors.Factors.{Factors}

pub sizes_none : {ds : List Decl} → ds ≡ [] → size_decls ds ≡ 0
unfolding size_decls
sizes_none e = rw e

pub sizes_more : {ds es : List Decl} {d : Decl} → ds ≡ d ∷ es → size_decls ds ≡ (1 + d.size) + size_decls es
unfolding size_decls
sizes_more e = rw e

pub sizes_append : (ds es : List Decl) → size_decls (ds ++ es) ≡ size_decls ds + size_decls es
unfolding size_decls
sizes_append [] es = omega arith
sizes_append (d ∷ ds) es = rw (sizes_append ds es) (omega arith)

join : (t x c w v : ℕ) → min (t + (x + (c + w))) most ≡ v → min (min (t + (x + c)) most + w) most ≡ v
join t x c w v e = omega arith

pub no_call : (l : Load) → called no_calls l ≡ 0
no_call (counts c) = refl
no_call (times n) = refl
no_call back = refl
no_call (adds a b) = refl
no_call (sets a b c) = refl
no_call measures = refl
no_call (calls f) = refl

module _ (g : Word → ℕ) (n m : ℕ) (s : Factors) where
  pub weighed_end : (k : List Instr) → ends (role (first k)) ≡ true → weighed g n m s k ≡ 0
  unfolding weighed
  weighed_end [] e = refl
  weighed_end (i ∷ k) e = rw e

  module _ {j k : List Instr} {i : Instr} (here : j ≡ i ∷ k) (on : ends (role i) ≡ false) where
    step : weighed g n m s j ≡ ((turned m s (load i)).now * counted (load i) + added n (load i)) + (called g (load i) + weighed g n m (turned m s (load i)) k)
    unfolding weighed
    step = rw (here, on)

    -- t: what was weighed before the instruction, u: with it
    pub weighed_more : (t u v : ℕ) (r : Factors) → r ≡ turned m s (load i) → u ≡ min (t + ((r.now * counted (load i) + added n (load i)) + called g (load i))) most → min (t + weighed g n m s j) most ≡ v → min (u + weighed g n m r k) most ≡ v
    weighed_more t u v r is_r is_u so_far =
        rw (is_u, is_r) (join t _ (called g (load i)) (weighed g n m (turned m s (load i)) k) v (ap (λ z. min (t + z) most) (sym step) ∙ so_far))
