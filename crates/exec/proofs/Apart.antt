-- What a sound procedure declares and does.
use Rattle.std.proofs.Common.{◌≡◌, ℕ, Bool, true, false, not, leb, List, [], ◌∷◌, ◌++◌, map, length, Some, sym, refl, ap, ◌∙◌, inl, inr, arith}
use Rattle.std.proofs.lemmas.Bool.{and_parts, or_parts, not-true, eq-eqb, cases_Bool}
use Rattle.lang.specs.Base.{all_of, Word, same, among, distinct}
use Rattle.lang.specs.Soundness.{find_decl, find_proc, decl_name, proc_name, scope, sound_bool, sound_expr, sound_block, sound_proc, sound}
use Rattle.lang.specs.Syntax.{Decl, Proc, Program}
use Rattle.exec.specs.Activating.{Among, none, one}

same_self : (w : Word) → same w w ≡ true
same_self [] = refl
same_self (x ∷ w) = rw (eq-eqb x x refl) (same_self w)

among_cons : (c : Decl) {ds : List Decl} (es fs : List Decl) → Among ds es → among c.name (map decl_name (es ++ fs)) ≡ false → Among (c ∷ ds) es
unfolding find_decl
among_cons c [] fs none h = none
among_cons c (e ∷ es) fs (one found others) h =
    let both = or_parts (same c.name e.name) (among c.name (map decl_name (es ++ fs))) h in
    one (rw both.0 found) (among_cons c es fs others both.1)

pub distinct_among : (ds es : List Decl) → distinct (map decl_name (ds ++ es)) ≡ true → Among (ds ++ es) ds
unfolding find_decl
distinct_among [] es h = none
distinct_among (d ∷ ds) es h =
    let both = and_parts (not (among d.name (map decl_name (ds ++ es)))) (distinct (map decl_name (ds ++ es))) h in
    one (rw (same_self d.name)) (among_cons d ds es (distinct_among ds es both.1) (not-true (among d.name (map decl_name (ds ++ es))) both.0))

pub record SoundProc (p : Program) (q : Proc) : Type 0 where
  pub apart : Among (q.params ++ q.locals) q.params
  pub body : sound_block p (q.params ++ q.locals) q.params q.body ≡ true
  pub pre : sound_bool p.width 0 q.params q.params q.pre ≡ true

pub proc_parts : (p : Program) (q : Proc) → sound_proc p q ≡ true → SoundProc p q
unfolding sound_proc
proc_parts p q h =
    let one_part = and_parts (distinct (map decl_name (scope q))) _ h in
    let two = and_parts (all_of (λ d. leb d.size 16) (scope q)) _ one_part.1 in
    let three = and_parts (leb (length (scope q)) 64) _ two.1 in
    let four = and_parts (sound_bool p.width 0 q.params q.params q.pre) _ three.1 in
    let five = and_parts (sound_bool p.width 0 q.params q.params q.post) _ four.1 in
    let six = and_parts (sound_expr q.params q.params q.measure) (sound_block p (scope q) q.params q.body) five.1 in
    record { apart = distinct_among q.params q.locals one_part.0; body = six.1; pre = four.0 }

found_in : (f : Proc → Bool) (qs : List Proc) (x : Word) (q : Proc) → all_of f qs ≡ true → find_proc qs x ≡ Some q → f q ≡ true
unfolding find_proc
found_in f [] x q h e = let z : ◌≡◌ {A = ℕ} 0 1 = cc in absurd (omega arith)
found_in f (r ∷ qs) x q h e =
    let both = and_parts (f r) (all_of f qs) h in
    elim (cases_Bool (same r.name x)) [
      | inl t ↦
          let here : Some r ≡ Some q = rw t at e in
          let is : r ≡ q = cc in
          ap f (sym is) ∙ both.0
      | inr t ↦ found_in f qs x q both.1 (rw t at e)
    ]

pub all_sound : (p : Program) → sound p ≡ true → all_of (sound_proc p) p.procs ≡ true
unfolding sound
all_sound p h =
    let one_part = and_parts (leb 1 p.width) _ h in
    let two = and_parts (leb p.width 64) _ one_part.1 in
    (and_parts (distinct (map proc_name p.procs)) (all_of (sound_proc p) p.procs) two.1).1

pub found_sound : (p : Program) (x : Word) (q : Proc) → sound p ≡ true → find_proc p.procs x ≡ Some q → SoundProc p q
found_sound p x q h e = proc_parts p q (found_in (sound_proc p) p.procs x q (all_sound p h) e)
