-- Finding a name among declarations.
use Rattle.std.proofs.Common.{◌≡◌, Bool, true, false, cond, List, [], ◌∷◌, ◌++◌, Some, None, Option, refl}
use Rattle.std.specs.Option.{option_or}
use Rattle.lang.specs.Base.{◌>>=◌, Word, same}
use Rattle.lang.specs.Soundness.{find_decl}
use Rattle.lang.specs.Syntax.{Decl}
use Rattle.walk.specs.Walking.{size_in}

size_cond : (b : Bool) (d : Decl) (o : Option Decl) → (cond b (Some d) o >>= λ d. Some d.size) ≡ cond b (Some d.size) (o >>= λ d. Some d.size)
size_cond true d o = refl
size_cond false d o = refl

pub size_more : (d : Decl) (ds : List Decl) (x : Word) → size_in (d ∷ ds) x ≡ cond (same d.name x) (Some d.size) (size_in ds x)
unfolding find_decl
size_more d ds x = size_cond (same d.name x) d (find_decl ds x)

module _ (x : Word) where
  pub size_none : {ds : List Decl} → ds ≡ [] → None ≡ size_in ds x
  unfolding find_decl
  size_none e = rw e

  pub size_here : {ds es : List Decl} {d : Decl} → ds ≡ d ∷ es → true ≡ same d.name x → Some d.size ≡ size_in ds x
  size_here {es = es} {d = d} e t = rw (e, size_more d es x, ← t)

  pub size_behind : {ds es : List Decl} {d : Decl} → ds ≡ d ∷ es → false ≡ same d.name x → size_in es x ≡ size_in ds x
  size_behind {es = es} {d = d} e t = rw (e, size_more d es x, ← t)

cond_option_or : {A : Type 0} (b : Bool) (x : A) (o q : Option A) → cond b (Some x) (option_or o q) ≡ option_or (cond b (Some x) o) q
cond_option_or true x o q = refl
cond_option_or false x o q = refl

pub find_append : (ds es : List Decl) (x : Word) → find_decl (ds ++ es) x ≡ option_or (find_decl ds x) (find_decl es x)
unfolding find_decl
find_append [] es x = refl
find_append (d ∷ ds) es x = rw (find_append ds es x) (cond_option_or (same d.name x) d (find_decl ds x) (find_decl es x))

size_option_or : (o q : Option Decl) → (option_or o q >>= λ d. Some d.size) ≡ option_or (o >>= λ d. Some d.size) (q >>= λ d. Some d.size)
size_option_or None q = refl
size_option_or (Some d) q = refl

pub size_append : (ds es : List Decl) (x : Word) → size_in (ds ++ es) x ≡ option_or (size_in ds x) (size_in es x)
size_append ds es x = rw (find_append ds es x) (size_option_or (find_decl ds x) (find_decl es x))
