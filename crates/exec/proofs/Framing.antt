-- Frames on a stack, and their weight.
use Rattle.std.proofs.Common.{◌≡◌, ℕ, ◌+◌, ◌≤◌, List, [], ◌∷◌, ◌++◌, reverse, length, Some, None, vec_items, vec_len, Option, Vec, sym, refl, ap, ◌∙◌, arith, MatchOption}
use Rattle.std.proofs.lemmas.List.{reverse-append}
use Rattle.std.specs.Option.{option_to_list}
use Rattle.std.specs.declared.alloc.Global.{Global}
use Rattle.exec.specs.Framing.{stack, bottom}
use Rattle.exec.specs.declared.activation.Activation.{Activation}
use Rattle.exec.specs.declared.frame.Frame.{Frame}
use Rattle.exec.specs.declared.frame.Frame.TheVariants.{Go, Return}
use Rattle.exec.specs.declared.frame.Point.{Point}
use Rattle.exec.specs.declared.frame.Work.{Work}

pub stack_push : {T : Type 0} (v w : Vec T Global) (f : T) → vec_items w ≡ vec_items v ++ f ∷ [] → stack w ≡ f ∷ stack v
unfolding stack
stack_push v w f e = ap reverse e ∙ reverse-append (vec_items v) (f ∷ [])

empty_list : {A : Type 0} (xs : List A) → length xs ≤ 0 → xs ≡ []
empty_list [] h = refl
empty_list (x ∷ xs) h = absurd (omega arith)

bottom_of : (a b : Activation) (fs : List Frame) → b.params ≡ a.params → b.locals ≡ a.locals → bottom b fs ≡ bottom a fs
unfolding bottom
bottom_of a b [] e f = rw (e, f)
bottom_of a b (Go work ∷ fs) e f = bottom_of a b fs e f
bottom_of a b (Return c xs behind ∷ fs) e f = refl

pub popped_cases : {T : Type 0} (v w : Vec T Global) (o : Option T) → vec_items v ≡ vec_items w ++ option_to_list o → MatchOption o ((vec_len v ≡ 0) × (vec_len w ≡ 0)) (λ _. vec_len w + 1 ≡ vec_len v) → length (vec_items v) ≡ vec_len v → MatchOption o (stack v ≡ []) (λ f. stack v ≡ f ∷ stack w)
unfolding stack
popped_cases v w None e t n = ap reverse (empty_list (vec_items v) (omega (arith, t.0, n)))
popped_cases v w (Some f) e t n = ap reverse e ∙ reverse-append (vec_items w) (f ∷ [])

-- the procedure that began first
module _ (a b : Activation) {fs gs : List Frame} where
  pub bottom_same : b.params ≡ a.params → b.locals ≡ a.locals → gs ≡ fs → bottom b gs ≡ bottom a fs
  bottom_same e f g = ap (bottom b) g ∙ bottom_of a b fs e f

pub bottom_go : (a : Activation) {work : Work} {fs gs : List Frame} → gs ≡ Go work ∷ fs → bottom a gs ≡ bottom a fs
unfolding bottom
bottom_go a e = ap (bottom a) e

pub bottom_return : (a : Activation) {b c : Activation} {xs : ℕ} {behind : Point} {fs gs : List Frame} → b ≡ c → gs ≡ Return b xs behind ∷ fs → bottom a gs ≡ bottom c fs
unfolding bottom
bottom_return a {fs = fs} is e = ap (bottom a) e ∙ ap (λ d. bottom d fs) is

pub bottom_none : (a : Activation) {fs : List Frame} → fs ≡ [] → (a.params, a.locals) ≡ bottom a fs
unfolding bottom
bottom_none a e = sym (ap (bottom a) e)
