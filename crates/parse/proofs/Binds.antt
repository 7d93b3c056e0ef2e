-- The laws of options in sequence.
use Rattle.std.proofs.Common.{◌≡◌, Some, None, Option, refl}
use Rattle.lang.specs.Base.{◌>>=◌}

pub >>=-assoc : {A B C : Type 0} (m : Option A) (f : A → Option B) (g : B → Option C) → ((m >>= f) >>= g) ≡ (m >>= λ x. f x >>= g)
>>=-assoc None f g = refl
>>=-assoc (Some x) f g = refl

pub >>=-ext : {A B : Type 0} (m : Option A) {f g : A → Option B} → ((x : A) → f x ≡ g x) → (m >>= f) ≡ (m >>= g)
>>=-ext None h = refl
>>=-ext (Some x) h = h x

pub >>=-some : {A : Type 0} (m : Option A) → (m >>= Some) ≡ m
>>=-some None = refl
>>=-some (Some x) = refl
