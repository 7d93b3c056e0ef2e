-- The names of a procedure: that each is declared once, and the like, part by part.
use Rattle.std.proofs.Common.{◌≡◌, ℕ, Bool, true, false, cond, ◌&&◌, ◌||◌, leb, List, [], ◌∷◌, ◌++◌, map, length, is_some, Some, None, Option, sym, refl, ap, ◌∙◌, append-nil}
use Rattle.std.specs.Option.{option_map, option_or}
use Rattle.std.proofs.Math.Bool.{and_assoc, and-true}
use Rattle.lang.specs.Base.{◌>>=◌, all_of, Word, same, among, distinct}
use Rattle.sound.specs.Checking.{apart, well_declared}
use Rattle.lang.specs.Soundness.{find_decl, decl_name}
use Rattle.lang.specs.Syntax.{Decl}
use Rattle.walk.specs.Shapes.{size_of}
use Rattle.walk.specs.Walking.{size_in}
use Rattle.walk.specs.declared.shape.Shape.{Shape}
use Rattle.walk.proofs.Among.{same_symmetric}
use Rattle.walk.proofs.Finding.{find_append}

pub some_or : {A : Type 0} (b : Bool) (x : A) (o : Option A) → is_some (cond b (Some x) o) ≡ (b || is_some o)
some_or true x o = refl
some_or false x o = refl

module _ (es : List Decl) {ds : List Decl} where
  pub apart_none : ds ≡ [] → true ≡ apart ds es
  unfolding apart
  apart_none e = rw e

  module _ {x : Word} {n : ℕ} {rest : List Decl} (e : ds ≡ record { name = x; size = n } ∷ rest) where
    pub not_apart : true ≡ is_some (find_decl (rest ++ es) x) → false ≡ apart ds es
    unfolding apart
    not_apart t = rw (e, ← t)

    pub apart_so_far : false ≡ is_some (find_decl (rest ++ es) x) → apart rest es ≡ apart ds es
    unfolding apart
    apart_so_far t = rw (e, ← t)

some_size : (o : Option Decl) → is_some (o >>= λ d. Some d.size) ≡ is_some o
some_size None = refl
some_size (Some d) = refl

pub some_shape : (o : Option Shape) → is_some (option_map size_of o) ≡ is_some o
some_shape None = refl
some_shape (Some s) = refl

some_option_or : {A : Type 0} (o q : Option A) → is_some (option_or o q) ≡ (is_some o || is_some q)
some_option_or None q = refl
some_option_or (Some x) q = refl

module _ (ds es : List Decl) (x : Word) where
  pub there : is_some (find_decl (ds ++ es) x) ≡ (is_some (size_in ds x) || is_some (size_in es x))
  there = rw (some_size (find_decl ds x), some_size (find_decl es x), find_append ds es x) (some_option_or (find_decl ds x) (find_decl es x))

-- names as tests, and as declarations that are found
among_there : (x : Word) (ds : List Decl) → among x (map decl_name ds) ≡ is_some (find_decl ds x)
unfolding find_decl
among_there x [] = refl
among_there x (d ∷ ds) = rw (same_symmetric x d.name, among_there x ds) (sym (some_or (same d.name x) d (find_decl ds x)))

distinct_append : (ds es : List Decl) → distinct (map decl_name (ds ++ es)) ≡ (apart ds es && distinct (map decl_name es))
unfolding apart
distinct_append [] es = refl
distinct_append (d ∷ ds) es = rw (among_there d.name (ds ++ es), distinct_append ds es, and_assoc)

distinct_apart : (ds es : List Decl) → distinct (map decl_name (ds ++ es)) ≡ (apart ds es && apart es [])
distinct_apart ds es = distinct_append ds es ∙ ap (λ b. apart ds es && b) (ap (λ l. distinct (map decl_name l)) (sym (append-nil es)) ∙ distinct_append es [] ∙ and-true (apart es []))

all_append : {A : Type 0} (f : A → Bool) (xs ys : List A) → all_of f (xs ++ ys) ≡ (all_of f xs && all_of f ys)
all_append f [] ys = refl
all_append f (x ∷ xs) ys = rw (all_append f xs ys, and_assoc)

abbrev pub short : List Decl → Bool
short ds = all_of (λ d. leb d.size 16) ds

-- The declarations of a procedure, test by test. ps, ls: the parameters and locals, qs, ms: as they are gone through; es: none.
module _ {ps ls qs ms es : List Decl} (params : qs ≡ ps) (locals : ms ≡ ls) (none : es ≡ []) (few : true ≡ leb (length (ps ++ ls)) 64) where
  by_parts : well_declared ps ls ≡ ((apart qs ms && apart ms es) && (short qs && short ms))
  by_parts = rw (← few, distinct_apart ps ls, all_append (λ d. leb d.size 16) ps ls, params, locals, none)

  pub params_again : false ≡ apart qs ms → false ≡ well_declared ps ls
  params_again a = sym (by_parts ∙ rw (← a) refl)

  module _ (a : true ≡ apart qs ms) where
    pub locals_again : false ≡ apart ms es → false ≡ well_declared ps ls
    locals_again b = sym (by_parts ∙ rw (← a, ← b) refl)

    module _ (b : true ≡ apart ms es) where
      pub short_params : {b : Bool} → true ≡ short qs → b ≡ short ms → b ≡ well_declared ps ls
      short_params r s = s ∙ sym (by_parts ∙ rw (← a, ← b, ← r) refl)
