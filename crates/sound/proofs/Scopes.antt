-- Where a name is found that stands in a scope: among the names of `all`, the parameters or the locals.
use Rattle.std.proofs.Common.{◌≡◌, ℕ, cond, Some, None, sym, refl, ap, ◌∙◌}
use Rattle.std.specs.Option.{option_or}
use Rattle.lang.specs.Base.{Word, same}
use Rattle.sound.specs.Scopes.{counters, env}
use Rattle.walk.specs.Listing.{declared_in}
use Rattle.walk.specs.Walking.{size_in}
use Rattle.walk.specs.declared.name.Name.{Name}
use Rattle.walk.specs.declared.nest.Nest.TheVariants.{One, Two}
use Rattle.sound.specs.declared.scope.Scope.{Scope}
use Rattle.walk.proofs.Finding.{size_none, size_more, size_append}

module _ (x : Word) where
  pub in_once : (a : Name) → cond (same a.text.now x) (Some 0) None ≡ size_in (counters (One a)) x
  in_once a = rw (size_more, ← (size_none x refl))

  pub in_twice : (a b : Name) → cond (same b.text.now x) (Some 0) (cond (same a.text.now x) (Some 0) None) ≡ size_in (counters (Two a b)) x
  in_twice a b = rw (size_more, ← (in_once a))

module _ (s : Scope) (x : Word) where
  split : size_in (env s).names x ≡ option_or (size_in (counters s.counting) x) (option_or (size_in (declared_in s.params) x) (size_in (declared_in s.locals) x))
  split = size_append (counters s.counting) _ x ∙ ap (option_or (size_in (counters s.counting) x)) (size_append (declared_in s.params) (declared_in s.locals) x)

  pub in_counters : {n : ℕ} → Some n ≡ size_in (counters s.counting) x → Some n ≡ size_in (env s).names x
  in_counters e = sym (split ∙ rw (← e) refl)

  pub in_params : {n : ℕ} → None ≡ size_in (counters s.counting) x → Some n ≡ size_in (declared_in s.params) x → Some n ≡ size_in (env s).names x
  in_params e f = sym (split ∙ rw (← e, ← f) refl)

  pub in_locals : None ≡ size_in (counters s.counting) x → None ≡ size_in (declared_in s.params) x → size_in (declared_in s.locals) x ≡ size_in (env s).names x
  in_locals e f = sym (split ∙ rw (← e, ← f) refl)
