-- Calls: what the callee promises, of the state that it was handed, holds of the state that it hands back.
use Rattle.std.proofs.Common.{◌≡◌, ℕ, suc, ◌<◌, ◌≤◌, Bool, true, false, cond, ◌&&◌, ltb, ◌⊎◌, List, map, Some, None, Option, unwrap_or, sym, refl, ◌∙◌, inl, inr}
use Rattle.std.proofs.lemmas.List.{map-append}
use Rattle.std.proofs.lemmas.Bool.{cases_Bool, and_parts, ltb-true, leb-true, both_ways}
use Rattle.lang.specs.Base.{maybe, Word, distinct}
use Rattle.lang.specs.Meaning.{State, compares, eval, true_in, pass, Run, ok, exec, run_proc}
use Rattle.lang.specs.Soundness.{find_proc, same_sizes, decl_name, scope, sound_expr, sound_bool, sound_stmt, sound_block}
use Rattle.lang.specs.Syntax.{call, Proc, Program}
use Rattle.lang.specs.declared.syntax.Comparison.TheVariants.{Less, AtMost}
use Rattle.vc.proofs.Agreement.{some_injective, Knows, expr_agrees, bool_agrees}
use Rattle.vc.proofs.Passing.{passed, pass_back_there, distinct_front}
use Rattle.vc.proofs.Reaching.{asserted, reaches_assert, reaches_assume, havocked}
use Rattle.vc.proofs.Running.{Scene, setting_of, context_of, bits, names, at, Goes, run_stmt, StmtGoes, from_suc, evaluates, assured_holds, holds_assured, value_true, knows_now, knows_began}
use Rattle.vc.proofs.States.{state_of, knows, fits_front, Agree, agree_same, agree_then, Reaches}
use Rattle.vc.proofs.Static.{follows_measured, follows_havoc, follows_promised}
use Rattle.vc.specs.Conditions.{SymState, assert, changed, rank, falls_by, measure_falls, pass_terms, call_asked, call_measured, call_promised, call_changed, after_call, walk_stmt}
use Rattle.vc.specs.Symbolic.{Store, symbolic_expr, symbolic_bool, assured}
use Rattle.vc.specs.Terms.{truth_of}
use Rattle.vc.specs.Theorem.{AllValid, Fits, params_of}

-- the parts of a sound procedure
pub record ProcSound (p : Program) (q : Proc) : Type 0 where
  pub apart : distinct (map decl_name (scope q)) ≡ true
  pub pre : sound_bool p.width 0 q.params q.params q.pre ≡ true
  pub post : sound_bool p.width 0 q.params q.params q.post ≡ true
  pub measure : sound_expr q.params q.params q.measure ≡ true
  pub body : sound_block p (scope q) q.params q.body ≡ true

-- a run of a procedure to its end, with its postcondition true
pub record Finishes (p : Program) (q : Proc) (s : State) (cs : List ℕ) : Type 0 where
  pub fuel : ℕ
  pub ending : Run
  pub runs : (k : ℕ) → fuel ≤ k → run_proc k p q (at s cs) ≡ ok ending
  pub fits : Fits p.width (scope q) ending.state
  pub promised : true_in p.width (params_of q ending.state) s q.post ≡ true

-- what gets smaller from call to call; 0 where it fails
abbrev pub measure_at : Program → Proc → State → ℕ
measure_at p q s = unwrap_or (eval p.width s s q.measure) 0

-- q, begun in s, may be called by r, begun in o
abbrev pub Smaller : Program → Proc → State → Proc → State → Type 0
Smaller p q s r o = (measure_at p q s < measure_at p r o) ⊎ ((measure_at p q s ≤ measure_at p r o) × (rank p.procs q.name < rank p.procs r.name))

abbrev pub Callees : Scene → Type 0
Callees c =
    (f : Word) (q : Proc) → find_proc c.program.procs f ≡ Some q → (s : State) (cs : List ℕ) → Fits (bits c) q.params s → true_in (bits c) s s q.pre ≡ true → Smaller c.program q s c.proc c.begin → Finishes c.program q s cs

abbrev pub AllSound : Program → Type 0
AllSound p = (f : Word) (q : Proc) → find_proc p.procs f ≡ Some q → ProcSound p q

smaller_by : (p : Program) (q r : Proc) (s o : State) (m n : ℕ) → eval p.width s s q.measure ≡ Some m → eval p.width o o r.measure ≡ Some n → compares (cond (ltb (rank p.procs q.name) (rank p.procs r.name)) AtMost Less) m n ≡ true → Smaller p q s r o
unfolding compares
smaller_by p q r s o m n e f h =
    elim (cases_Bool (ltb (rank p.procs q.name) (rank p.procs r.name))) [
      | inl t ↦ inr (rw (e, f) (leb-true m n (rw t at h)), ltb-true _ _ t)
      | inr t ↦ inl (rw (e, f) (ltb-true m n (rw t at h)))
    ]

module _ (c : Scene) (own : ProcSound c.program c.proc) (q : Proc) (theirs : ProcSound c.program q) (xs : List Word) (apart : distinct xs ≡ true) (sizes : same_sizes (names c) q.params xs ≡ true) (v : SymState) (valid : AllValid (bits c) (after_call (context_of c) v q xs).conditions) where
  -- the parameters
  abbrev args : Store
  args = pass_terms v.current q.params xs

  abbrev asked : SymState
  asked = call_asked (context_of c) v q args

  abbrev measured : SymState
  measured = call_measured (context_of c) asked q args

  abbrev changed_by : SymState
  changed_by = call_changed (context_of c) v q xs

  abbrev results : Store
  results = pass_terms changed_by.current q.params xs

  valid_measured : AllValid (bits c) measured.conditions
  unfolding after_call call_changed
  valid_measured = (follows_havoc measured xs).valid (bits c) ((follows_promised (context_of c) changed_by q args results).valid (bits c) valid)

  valid_asked : AllValid (bits c) asked.conditions
  valid_asked = (follows_measured (context_of c) asked q args).valid (bits c) valid_measured

  module _ (g : ℕ → ℕ) (st : State) (cs : List ℕ) (r : Reaches (bits c) g v st c.begin) (f : Fits (bits c) (names c) st) where
    here : Agree v.next g g
    here = agree_same v.next g

    abbrev handed : State
    handed = state_of (bits c) g args

    handed_is : (h : ℕ → ℕ) → Agree v.next g h → state_of (bits c) h args ≡ handed
    handed_is h a = some_injective (sym (passed (bits c) h (names c) st v.current (knows_now c v r f h a) q.params xs sizes).is ∙ (passed (bits c) g (names c) st v.current (knows_now c v r f g here) q.params xs sizes).is)

    passes : pass st q.params xs ≡ Some handed
    passes = (passed (bits c) g (names c) st v.current (knows_now c v r f g here) q.params xs sizes).is

    handed_fits : Fits (bits c) q.params handed
    handed_fits = (passed (bits c) g (names c) st v.current (knows_now c v r f g here) q.params xs sizes).fits

    knows_args : (h : ℕ → ℕ) → Agree v.next g h → Knows (bits c) h q.params handed args
    knows_args h a =
        let e = handed_is h a in
        let known : Knows (bits c) h q.params (state_of (bits c) h args) args = record { at = knows (bits c) h q.params args (rw e handed_fits) } in
        rw e at known

    asks : true_in (bits c) handed handed q.pre ≡ true
    unfolding call_asked
    asks =
        let k = knows_args g here in
        rw (assured_holds (bool_agrees (bits c) c.literal c.faithful g 0 q.params q.params handed handed args args q.pre k k theirs.pre) (asserted v _ valid_asked r g here))

    smaller : Smaller c.program q handed c.proc c.begin
    unfolding call_asked call_measured assert truth_of
    smaller =
        let k = knows_args g here in
        let o = knows_began c v r f g here in
        let new = expr_agrees (bits c) c.literal c.faithful g q.params q.params handed handed args args q.measure k k theirs.measure in
        let old = expr_agrees (bits c) c.literal c.faithful g c.proc.params c.proc.params c.begin c.begin v.initial v.initial c.proc.measure o o own.measure in
        let new_term = symbolic_expr (setting_of c) args args q.measure in
        let old_term = symbolic_expr (setting_of c) v.initial v.initial c.proc.measure in
        let falls = asserted asked (measure_falls (falls_by (context_of c) q) new_term old_term) valid_measured (reaches_assert v _ r) g here in
        let p = and_parts (truth_of (bits c) g new_term.safe && truth_of (bits c) g old_term.safe) _ falls in
        let s = and_parts (truth_of (bits c) g new_term.safe) _ p.0 in
        smaller_by c.program q c.proc handed c.begin _ _ (evaluates new s.0) (evaluates old s.1) p.1

    call_found : (name : Word) → find_proc c.program.procs name ≡ Some q → Finishes c.program q handed cs → Goes c (run_stmt c (call name xs)) xs v (after_call (context_of c) v q xs) g st cs
    unfolding after_call call_changed call_measured call_asked call_promised assert exec
    call_found name is z =
        let cells = params_of q z.ending.state in
        let names_apart = distinct_front (map decl_name q.params) (map decl_name q.locals) (rw map-append at theirs.apart) in
        let cells_fit = fits_front q.params q.locals z.ending.state z.fits in
        let back = pass_back_there q.params xs z.ending.state st cells_fit names_apart sizes apart f in
        let before = reaches_assert asked _ (reaches_assert v _ r) in
        let new = havocked (bits c) g (names c) xs measured st back.state c.begin before f back.fits back.outside in
        let late = (follows_havoc measured xs).later in
        let results_are : (h : ℕ → ℕ) → Agree changed_by.next new.numbers h → state_of (bits c) h results ≡ cells =
        λ h a. some_injective (sym (passed (bits c) h (names c) back.state changed_by.current (knows_now c changed_by new.reaches back.fits h a) q.params xs sizes).is ∙ back.again) in
        let knows_results : (h : ℕ → ℕ) → Agree changed_by.next new.numbers h → Knows (bits c) h q.params cells results =
        λ h a.
        let e = results_are h a in
        let known : Knows (bits c) h q.params (state_of (bits c) h results) results = record { at = knows (bits c) h q.params results (rw e cells_fit) } in
        rw e at known in
        let promised : (h : ℕ → ℕ) → Agree changed_by.next new.numbers h → truth_of (bits c) h (assured (symbolic_bool (setting_of c) results args q.post)) ≡ true =
        λ h a. holds_assured (bool_agrees (bits c) c.literal c.faithful h 0 q.params q.params cells handed results args q.post (knows_results h a) (knows_args h (agree_then changed_by.next late new.agrees a)) theirs.post) (value_true _ z.promised) in
        record {
          numbers = new.numbers;
          agrees = new.agrees;
          fuel = suc z.fuel;
          ending = at back.state z.ending.choices;
          runs = from_suc (λ k. run_stmt c (call name xs) k (at st cs) ≡ ok (at back.state z.ending.choices)) z.fuel (λ k l. rw (is, passes, z.runs k l, back.is));
          reaches = reaches_assume changed_by _ new.reaches promised;
          fits = back.fits;
          outside = back.outside;
        }

-- the procedure of a sound call
pub record Callee (p : Program) (f : Word) (t : Proc → Bool) : Type 0 where
  pub proc : Proc
  pub is : find_proc p.procs f ≡ Some proc
  pub meets : t proc ≡ true

callee_from : (p : Program) (f : Word) (t : Proc → Bool) (o : Option Proc) → find_proc p.procs f ≡ o → maybe o false t ≡ true → Callee p f t
callee_from p f t None e h = absurd (both_ways false refl h)
callee_from p f t (Some q) e h = record { proc = q; is = e; meets = h }

pub call_goes : (c : Scene) → ProcSound c.program c.proc → AllSound c.program → Callees c → (f : Word) (xs : List Word) → StmtGoes c (call f xs)
unfolding walk_stmt changed sound_stmt
call_goes c own sounds callees f xs v sound valid g st cs r fits =
    let q = callee_from c.program f (λ q. distinct xs && same_sizes (names c) q.params xs) (find_proc c.program.procs f) refl sound in
    let p = and_parts (distinct xs) _ q.meets in
    let theirs = sounds f q.proc q.is in
    let valid' : AllValid (bits c) (after_call (context_of c) v q.proc xs).conditions = rw q.is at valid in
    let z = callees f q.proc q.is (state_of (bits c) g (pass_terms v.current q.proc.params xs)) cs (handed_fits c own q.proc theirs xs p.0 p.1 v valid' g st cs r fits) (asks c own q.proc theirs xs p.0 p.1 v valid' g st cs r fits) (smaller c own q.proc theirs xs p.0 p.1 v valid' g st cs r fits) in
    rw q.is (call_found c own q.proc theirs xs p.0 p.1 v valid' g st cs r fits f q.is z)
