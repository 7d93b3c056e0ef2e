-- Whole programs: calls come to an end, since the measure falls, or stays and the rank falls.
use Rattle.std.proofs.Common.{◌≡◌, ℕ, zero, suc, ◌%◌, ◌^◌, ◌<◌, ◌≤◌, true, leb, List, [], ◌∷◌, ◌++◌, map, length, Some, inl, inr, mod-eq_of_lt, arith}
use mathlib.Core.List.{reverse_aux}
use Rattle.std.proofs.lemmas.Bool.{cases_Bool, and_parts}
use Rattle.std.specs.List.{flat_map}
use Rattle.lang.specs.Base.{Word, same, all_of, distinct}
use Rattle.lang.specs.Meaning.{State, true_in}
use Rattle.lang.specs.Soundness.{find_proc, decl_name, proc_name, scope, sound_expr, sound_bool, sound_proc, sound}
use Rattle.lang.specs.Syntax.{Proc, Program}
use Rattle.vc.proofs.Agreement.{some_injective}
use Rattle.vc.proofs.Call.{ProcSound, Finishes, measure_at, Callees, AllSound}
use Rattle.vc.proofs.Procedure.{finishes}
use Rattle.vc.proofs.Running.{Scene}
use Rattle.vc.specs.Conditions.{Condition, context, rank, walk_proc, proc_conditions, conditions_under}
use Rattle.vc.specs.Symbolic.{Setting}
use Rattle.vc.specs.Theorem.{AllValid, Fits, KeepsPromise, ShownHolds}

-- Soundness of one procedure from that of all.
found_sound : (p : Program) (qs : List Proc) (f : Word) (q : Proc) → all_of (sound_proc p) qs ≡ true → find_proc qs f ≡ Some q → sound_proc p q ≡ true
unfolding find_proc
found_sound p [] f q h e = let z : ◌≡◌ {A = ℕ} 0 1 = cc in absurd (omega arith)
found_sound p (r ∷ qs) f q h e =
    let parts = and_parts (sound_proc p r) _ h in
    elim (cases_Bool (same r.name f)) [
      | inl t ↦
          let is : r ≡ q = some_injective (rw t at e) in
          rw is at parts.0
      | inr t ↦ found_sound p qs f q parts.1 (rw t at e)
    ]

proc_sound : (p : Program) (q : Proc) → sound_proc p q ≡ true → ProcSound p q
unfolding sound_proc
proc_sound p q h =
    let a = and_parts (distinct (map decl_name (scope q))) _ h in
    let b = and_parts (all_of (λ d. leb d.size 16) (scope q)) _ a.1 in
    let c = and_parts (leb (length (scope q)) 64) _ b.1 in
    let d = and_parts (sound_bool p.width 0 q.params q.params q.pre) _ c.1 in
    let e = and_parts (sound_bool p.width 0 q.params q.params q.post) _ d.1 in
    let f = and_parts (sound_expr q.params q.params q.measure) _ e.1 in
    record { apart = a.0; pre = d.0; post = e.0; measure = f.0; body = f.1 }

all_sound : (p : Program) → sound p ≡ true → AllSound p
unfolding sound
all_sound p h =
    let a = and_parts (leb 1 p.width) _ h in
    let b = and_parts (leb p.width 64) _ a.1 in
    let c = and_parts (distinct (map proc_name p.procs)) _ b.1 in
    λ f q e. proc_sound p q (found_sound p p.procs f q c.1 e)

-- Validity of the conditions of one procedure from that of all.
valid_left : {w : ℕ} (ks ls : List Condition) → AllValid w (ks ++ ls) → AllValid w ks
valid_left [] ls v = AllValid.none_left
valid_left (k ∷ ks) ls (AllValid.and_this h v) = AllValid.and_this h (valid_left ks ls v)

valid_right : {w : ℕ} (ks ls : List Condition) → AllValid w (ks ++ ls) → AllValid w ls
valid_right [] ls v = v
valid_right (k ∷ ks) ls (AllValid.and_this h v) = valid_right ks ls v

valid_both : {w : ℕ} (ks ls : List Condition) → AllValid w (reverse_aux ks ls) → AllValid w ks × AllValid w ls
valid_both [] ls v = (AllValid.none_left, v)
valid_both {w} (k ∷ ks) ls v =
    let rest = valid_both ks (k ∷ ls) v in
    taken rest.0 rest.1
  where
    taken : AllValid w ks → AllValid w (k ∷ ls) → AllValid w (k ∷ ks) × AllValid w ls
    taken a (AllValid.and_this h b) = (AllValid.and_this h a, b)

found_valid : (s : Setting) (p : Program) (qs : List Proc) (f : Word) (q : Proc) → AllValid p.width (flat_map (proc_conditions s p) qs) → find_proc qs f ≡ Some q → AllValid p.width (walk_proc (context s p q)).conditions
unfolding find_proc proc_conditions
found_valid s p [] f q v e = let z : ◌≡◌ {A = ℕ} 0 1 = cc in absurd (omega arith)
found_valid s p (r ∷ qs) f q v e =
    elim (cases_Bool (same r.name f)) [
      | inl t ↦
          let is : r ≡ q = some_injective (rw t at e) in
          let first = (valid_both (walk_proc (context s p r)).conditions [] (valid_left (proc_conditions s p r) _ v)).0 in
          rw is at first
      | inr t ↦ found_valid s p qs f q (valid_right (proc_conditions s p r) _ v) (rw t at e)
    ]

-- Recursion on the measure, and for each of its values on the rank.
module _ (p : Program) (lit : ℕ → ℕ) (faithful : (n : ℕ) → n < 2 ^ p.width → lit n ≡ n) (sounds : AllSound p) (valid : (f : Word) (q : Proc) → find_proc p.procs f ≡ Some q → AllValid p.width (walk_proc (context (record { width = p.width; literal = lit }) p q)).conditions) where
  abbrev AllFinish : (Proc → State → Type 0) → Type 0
  AllFinish P = (f : Word) (q : Proc) → find_proc p.procs f ≡ Some q → (s : State) (cs : List ℕ) → Fits p.width q.params s → true_in p.width s s q.pre ≡ true → P q s → Finishes p q s cs

  abbrev scene : (q : Proc) (s : State) → Fits p.width q.params s → Scene
  scene q s f = record { program = p; literal = lit; faithful = faithful; proc = q; begin = s; fits = f }

  by_rank : (n : ℕ) → AllFinish (λ q s. measure_at p q s < n) → (m : ℕ) → AllFinish (λ q s. (measure_at p q s ≤ n) × (rank p.procs q.name < m))
  by_rank n below zero f q is s cs fits pre l = absurd (omega arith)
  by_rank n below (suc m) f q is s cs fits pre l =
      let callees : Callees (scene q s fits) =
      λ f' q' is' s' cs' fits' pre' smaller. elim smaller [ inl a ↦ below f' q' is' s' cs' fits' pre' (omega arith) | inr a ↦ by_rank n below m f' q' is' s' cs' fits' pre' (omega arith) ] in
      finishes (scene q s fits) (sounds f q is) sounds callees pre (valid f q is) cs

  by_measure : (n : ℕ) → AllFinish (λ q s. measure_at p q s < n)
  by_measure zero f q is s cs fits pre l = absurd (omega arith)
  by_measure (suc n) f q is s cs fits pre l = by_rank n (by_measure n) (suc (rank p.procs q.name)) f q is s cs fits pre (omega arith)

-- any setting in which a written number that fits stands for itself
pub shown_holds_under : (p : Program) (lit : ℕ → ℕ) → ((n : ℕ) → n < 2 ^ p.width → lit n ≡ n) → sound p ≡ true → AllValid p.width (conditions_under (record { width = p.width; literal = lit }) p) → (f : Word) (q : Proc) → find_proc p.procs f ≡ Some q → (s : State) (cs : List ℕ) → Fits p.width q.params s → true_in p.width s s q.pre ≡ true → KeepsPromise p q s cs
unfolding conditions_under
shown_holds_under p lit faithful sound valid f q is s cs fits pre =
    let each : (f : Word) (q : Proc) → find_proc p.procs f ≡ Some q → AllValid p.width (walk_proc (context (record { width = p.width; literal = lit }) p q)).conditions = λ f q e. found_valid _ p p.procs f q valid e in
    let z = by_measure p lit faithful (all_sound p sound) each (suc (measure_at p q s)) f q is s cs fits pre (omega arith) in
    record { fuel = z.fuel; ending = z.ending; runs = z.runs; promised = z.promised }

pub shown_holds : ShownHolds
shown_holds p sound valid f q is s cs fits pre = shown_holds_under p (λ n. n % 2 ^ p.width) (λ n l. mod-eq_of_lt l) sound valid f q is s cs fits pre
