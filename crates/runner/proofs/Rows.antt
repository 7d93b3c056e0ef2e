-- A row is written as `{:?}` writes a list of numbers.
use Rattle.std.proofs.Common.{◌≡◌, ℕ, List, [], ◌∷◌, ◌++◌, Some, flat_map, decimal, refl, ap, sym, ◌∙◌, append_assoc}
use Rattle.std.specs.Fmt.{comma_space, debug_items, debug_list, ◌++?◌}
use Rattle.runner.specs.Written.{row_text}

items_behind : (ns : List ℕ) → debug_items (λ n. Some (decimal n)) comma_space ns ≡ Some (flat_map (λ n. comma_space ++ decimal n) ns)
items_behind [] = refl
items_behind (n ∷ ns) = ap (λ o. Some comma_space ++? Some (decimal n) ++? o) (items_behind ns) ∙ ap (λ bs. Some bs) (sym (append_assoc comma_space (decimal n) (flat_map (λ k. comma_space ++ decimal k) ns)))

pub debug_row : (ns : List ℕ) → debug_list (λ n. Some (decimal n)) ns ≡ Some (row_text ns)
debug_row [] = refl
debug_row (n ∷ ns) = ap (λ o. Some (91 ∷ []) ++? (Some [] ++? Some (decimal n) ++? o) ++? Some (93 ∷ [])) (items_behind ns)
