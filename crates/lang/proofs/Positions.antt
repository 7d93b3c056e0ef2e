-- Lines and columns, one byte after the other.
use Rattle.std.proofs.Common.{◌≡◌, ℕ, ◌+◌, ◌<◌, ◌≤◌, List, length, get_or, drop, sym, ap, ◌∙◌}
use Rattle.std.proofs.lemmas.List.{drop_more, drop_all}
use Rattle.std.proofs.lemmas.Bool.{eq-eqb, ne_eqb}
use Rattle.lang.specs.Positions.{past, past_all}
use Rattle.lang.specs.declared.position.Position.{Position}

pub past_feed : (p : Position) (b : ℕ) → b ≡ 10 → past p b ≡ record { line = p.line + 1; column = 1 }
past_feed p b e = rw (eq-eqb b 10 e)

pub past_other : (p : Position) (b : ℕ) → (b ≡ 10 → ⊥) → past p b ≡ record { line = p.line; column = p.column + 1 }
past_other p b n = rw (ne_eqb b 10 n)

pub past_more : (p q : Position) (bs : List ℕ) (i : ℕ) → i < length bs → q ≡ past p (get_or bs i 0) → past_all q (drop (i + 1) bs) ≡ past_all p (drop i bs)
unfolding past_all
past_more p q bs i h e = ap (λ r. past_all r (drop (i + 1) bs)) e ∙ sym (ap (past_all p) (drop_more bs i 0 h))

pub past_end : (p : Position) (bs : List ℕ) (i : ℕ) → length bs ≤ i → past_all p (drop i bs) ≡ p
unfolding past_all
past_end p bs i h = ap (past_all p) (drop_all i bs h)
