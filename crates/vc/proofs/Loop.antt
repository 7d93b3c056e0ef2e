-- Loops: the measure bounds the rounds, and the invariant carries from one to the next.
use Rattle.std.proofs.Common.{◌≡◌, ℕ, zero, suc, ◌+◌, ◌<◌, ◌≤◌, true, false, not, List, Some, unwrap_or, sym, ◌∙◌, inl, inr, arith}
use Rattle.std.proofs.lemmas.Bool.{cases_Bool, and_parts, not_from_false, ltb-true}
use Rattle.lang.specs.Base.{Word}
use Rattle.lang.specs.Meaning.{State, compares, eval, holds, exec, ok, Run}
use Rattle.lang.specs.Soundness.{sound_expr, sound_bool, sound_stmt, sound_block}
use Rattle.lang.specs.Syntax.{Expr, BoolExpr, loop, Block}
use Rattle.vc.proofs.Agreement.{some_injective}
use Rattle.vc.proofs.Reaching.{asserted, reaches_assert, required, reaches_require, reaches_assume, reaches_resume, havocked}
use Rattle.vc.proofs.Running.{Scene, context_of, bits, names, at, run_stmt, run_block, StmtGoes, BlockGoes, from_one, from_suc, evaluates, settles, assured_holds, holds_assured, expr_at, bool_at}
use Rattle.vc.proofs.States.{Outside, outside_same, outside_then, Agree, agree_same, agree_then, Reaches}
use Rattle.vc.proofs.Static.{Follows, follows_then, follows_assert, follows_havoc, follows_start, follows_body, follows_round, round_end, follows_block}
use Rattle.vc.specs.Conditions.{SymState, assume, assert, resume, evaluated, judged, decreased, loop_entry, loop_head, loop_test, loop_body, loop_round, loop_end, loop_start, changed, changed_block, walk_stmt, walk_block}
use Rattle.vc.specs.Symbolic.{assured}
use Rattle.vc.specs.Terms.{Formula, value, truth_of}
use Rattle.vc.specs.Theorem.{AllValid, Fits}

module _ (c : Scene) (b i : BoolExpr) (e : Expr) (body : Block) (v : SymState) (sound : sound_stmt c.program (names c) c.proc.params (loop b i e body) ≡ true) (valid : AllValid (bits c) (walk_stmt (context_of c) v (loop b i e body)).conditions) where
  abbrev xs : List Word
  xs = changed_block body

  abbrev entered : SymState
  entered = loop_entry (context_of c) v i xs

  abbrev head : SymState
  head = loop_head (context_of c) entered i

  abbrev tested : SymState
  tested = loop_start (context_of c) v b i xs

  abbrev in_body : SymState
  in_body = loop_body (context_of c) tested b e

  abbrev body_end : SymState
  body_end = walk_block (context_of c) in_body body

  abbrev round : SymState
  round = loop_round (context_of c) tested i e body_end

  abbrev behind : SymState
  behind = loop_end (context_of c) tested b round

  record Sounds : Type 0 where
    test : sound_bool (bits c) 0 (names c) c.proc.params b ≡ true
    invariant : sound_bool (bits c) 0 (names c) c.proc.params i ≡ true
    measure : sound_expr (names c) c.proc.params e ≡ true
    inner : sound_block c.program (names c) c.proc.params body ≡ true

  sounds : Sounds
  unfolding sound_stmt
  sounds =
      let p = and_parts (sound_bool (bits c) 0 (names c) c.proc.params b) _ sound in
      let q = and_parts (sound_bool (bits c) 0 (names c) c.proc.params i) _ p.1 in
      let r = and_parts (sound_expr (names c) c.proc.params e) _ q.1 in
      record { test = p.0; invariant = q.0; measure = r.0; inner = r.1 }

  valid_round : AllValid (bits c) round.conditions
  unfolding walk_stmt
  valid_round = (round_end (context_of c) tested b round).valid (bits c) valid

  valid_end : AllValid (bits c) body_end.conditions
  valid_end = (follows_round (context_of c) tested i e body_end).valid (bits c) valid_round

  valid_body : AllValid (bits c) in_body.conditions
  valid_body = (follows_block (context_of c) body in_body).valid (bits c) valid_end

  valid_tested : AllValid (bits c) tested.conditions
  valid_tested = (follows_body (context_of c) tested b e).valid (bits c) valid_body

  valid_entered : AllValid (bits c) entered.conditions
  valid_entered = (follows_start (context_of c) v b i xs).valid (bits c) valid_tested

  valid_entry : AllValid (bits c) (assert v (assured (judged (context_of c) v i))).conditions
  unfolding loop_entry
  valid_entry = (follows_havoc (assert v (assured (judged (context_of c) v i))) xs).valid (bits c) valid_entered

  -- g₀, st₀: where the loop was come to
  module _ (g₀ : ℕ → ℕ) (st₀ : State) (r₀ : Reaches (bits c) g₀ v st₀ c.begin) (f₀ : Fits (bits c) (names c) st₀) where
    -- a state between rounds
    record Between (st : State) : Type 0 where
      fits : Fits (bits c) (names c) st
      outside : Outside xs st₀ st
      invariant : holds (bits c) st c.begin i ≡ Some true

    first : Between st₀
    first = record { fits = f₀; outside = outside_same xs st₀; invariant = assured_holds (bool_at c v r₀ f₀ g₀ (agree_same v.next g₀) i sounds.invariant) (asserted v _ valid_entry r₀ g₀ (agree_same v.next g₀)) }

    -- the numbers of the unknowns at the test
    record Tested (st : State) : Type 0 where
      numbers : ℕ → ℕ
      agrees : Agree v.next g₀ numbers
      reaches : Reaches (bits c) numbers tested st c.begin
      decided : (h : ℕ → ℕ) → Agree tested.next numbers h → holds (bits c) st c.begin b ≡ Some (truth_of (bits c) h (judged (context_of c) tested b).formula)

    at_test : (st : State) → Between st → Tested st
    unfolding loop_start loop_test loop_head loop_entry assume assert
    at_test st x =
        let entry = reaches_assert v (assured (judged (context_of c) v i)) r₀ in
        let new = havocked (bits c) g₀ (names c) xs (assert v (assured (judged (context_of c) v i))) st₀ st c.begin entry f₀ x.fits x.outside in
        let inv = λ (h : ℕ → ℕ) (a : Agree entered.next new.numbers h). holds_assured (bool_at c entered new.reaches x.fits h a i sounds.invariant) x.invariant in
        let at_head = reaches_assume entered (assured (judged (context_of c) entered i)) new.reaches inv in
        let safe = (judged (context_of c) head b).safe in
        record {
          numbers = new.numbers;
          agrees = new.agrees;
          reaches = reaches_require head safe valid_tested at_head;
          decided = λ h a. settles (bool_at c head at_head x.fits h a b sounds.test) (required head safe valid_tested at_head h a);
        }

    -- one round more, and what it comes to
    record Rounded (st : State) (cs : List ℕ) : Type 0 where
      fuel : ℕ
      ending : Run
      runs : (k : ℕ) → fuel ≤ k → run_block c body k (at st cs) ≡ ok ending
      between : Between ending.state
      before : ℕ
      after : ℕ
      was : eval (bits c) st c.begin e ≡ Some before
      is : eval (bits c) ending.state c.begin e ≡ Some after
      less : after < before

    one_round : (st : State) (cs : List ℕ) (x : Between st) (t : Tested st) → truth_of (bits c) t.numbers (judged (context_of c) tested b).formula ≡ true → BlockGoes c body → Rounded st cs
    unfolding loop_body loop_round assume assert truth_of compares
    one_round st cs x t yes' goes =
        let test = (judged (context_of c) tested b).formula in
        let old = evaluated (context_of c) tested e in
        let here = agree_same tested.next t.numbers in
        let true_test : (h : ℕ → ℕ) → Agree tested.next t.numbers h → truth_of (bits c) h test ≡ true = λ h a. some_injective (sym (t.decided h a) ∙ t.decided t.numbers here) ∙ yes' in
        let begun = reaches_assume tested test t.reaches true_test in
        let measured = reaches_require (assume tested test) old.safe valid_body begun in
        let y = goes in_body sounds.inner valid_end t.numbers st cs measured x.fits in
        let there = agree_same body_end.next y.numbers in
        let inv = assured (judged (context_of c) body_end i) in
        let new = evaluated (context_of c) body_end e in
        let kept = asserted body_end inv ((follows_assert (assert body_end inv) (decreased new old)).valid (bits c) valid_round) y.reaches y.numbers there in
        let falls = asserted (assert body_end inv) (decreased new old) valid_round (reaches_assert body_end inv y.reaches) y.numbers there in
        let parts = and_parts (truth_of (bits c) y.numbers new.safe) _ falls in
        record {
          fuel = y.fuel;
          ending = y.ending;
          runs = y.runs;
          between = record { fits = y.fits; outside = outside_then x.outside y.outside; invariant = assured_holds (bool_at c body_end y.reaches y.fits y.numbers there i sounds.invariant) kept };
          before = value (bits c) y.numbers old.term;
          after = value (bits c) y.numbers new.term;
          was = evaluates (expr_at c tested t.reaches x.fits y.numbers y.agrees e sounds.measure) (required (assume tested test) old.safe valid_body begun y.numbers y.agrees);
          is = evaluates (expr_at c body_end y.reaches y.fits y.numbers there e sounds.measure) parts.0;
          less = ltb-true _ _ parts.1;
        }

    -- from between two rounds to the end
    record Looped (st : State) (cs : List ℕ) : Type 0 where
      numbers : ℕ → ℕ
      agrees : Agree v.next g₀ numbers
      fuel : ℕ
      ending : Run
      runs : (k : ℕ) → fuel ≤ k → run_stmt c (loop b i e body) k (at st cs) ≡ ok ending
      reaches : Reaches (bits c) numbers behind ending.state c.begin
      fits : Fits (bits c) (names c) ending.state
      outside : Outside xs st₀ ending.state

    tested_round : Follows tested round
    tested_round = follows_then (follows_body (context_of c) tested b e) (follows_then (follows_block (context_of c) body in_body) (follows_round (context_of c) tested i e body_end))

    stops : (st : State) (cs : List ℕ) (x : Between st) (t : Tested st) → truth_of (bits c) t.numbers (judged (context_of c) tested b).formula ≡ false → Looped st cs
    unfolding loop_end assume resume exec truth_of
    stops st cs x t no' =
        let test = (judged (context_of c) tested b).formula in
        let here = agree_same tested.next t.numbers in
        let l = tested_round.later in
        let off : (h : ℕ → ℕ) → Agree round.next t.numbers h → not (truth_of (bits c) h test) ≡ true =
        λ h a. not_from_false _ (some_injective (sym (t.decided h (agree_then round.next l here a)) ∙ t.decided t.numbers here) ∙ no') in
        record {
          numbers = t.numbers;
          agrees = t.agrees;
          fuel = 1;
          ending = at st cs;
          runs = from_one (λ k. run_stmt c (loop b i e body) k (at st cs) ≡ ok (at st cs)) (λ k. rw (t.decided t.numbers here, no'));
          reaches = reaches_assume (resume tested round) (Formula.negate test) (reaches_resume tested round t.numbers tested_round t.reaches here) off;
          fits = x.fits;
          outside = x.outside;
        }

    again : (st : State) (cs : List ℕ) (t : Tested st) → truth_of (bits c) t.numbers (judged (context_of c) tested b).formula ≡ true → (y : Rounded st cs) → Looped y.ending.state y.ending.choices → Looped st cs
    unfolding exec
    again st cs t yes' y z =
        record {
          numbers = z.numbers;
          agrees = z.agrees;
          fuel = suc (y.fuel + z.fuel);
          ending = z.ending;
          runs = from_suc (λ k. run_stmt c (loop b i e body) k (at st cs) ≡ ok z.ending) (y.fuel + z.fuel) (λ k l. rw (t.decided t.numbers (agree_same tested.next t.numbers), yes', y.runs k (omega arith)) (z.runs k (omega arith)));
          reaches = z.reaches;
          fits = z.fits;
          outside = z.outside;
        }

    -- n: a bound on the measure, where the test is true
    rounds : (n : ℕ) (st : State) (cs : List ℕ) → BlockGoes c body → Between st → ((m : ℕ) → eval (bits c) st c.begin e ≡ Some m → m < n) → Looped st cs
    rounds zero st cs goes x most =
        let t = at_test st x in
        elim (cases_Bool (truth_of (bits c) t.numbers (judged (context_of c) tested b).formula)) [
          | inl yes' ↦
              let y = one_round st cs x t yes' goes in
              let l = most y.before y.was in
              absurd (omega arith)
          | inr no' ↦ stops st cs x t no'
        ]
    rounds (suc n) st cs goes x most =
        let t = at_test st x in
        elim (cases_Bool (truth_of (bits c) t.numbers (judged (context_of c) tested b).formula)) [
          | inl yes' ↦
              let y = one_round st cs x t yes' goes in
              let l = most y.before y.was in
              let k = y.less in
              again st cs t yes' y (rounds n y.ending.state y.ending.choices goes y.between (λ m q. let same : y.after ≡ m = some_injective (sym y.is ∙ q) in omega arith))
          | inr no' ↦ stops st cs x t no'
        ]

pub loop_goes : (c : Scene) (b i : BoolExpr) (e : Expr) (body : Block) → BlockGoes c body → StmtGoes c (loop b i e body)
unfolding walk_stmt changed
loop_goes c b i e body goes v sound valid g st cs r f =
    let z = rounds c b i e body v sound valid g st r f (suc (unwrap_or (eval (bits c) st c.begin e) 0)) st cs goes (first c b i e body v sound valid g st r f) (λ m q. rw q (omega arith)) in
    record { numbers = z.numbers; agrees = z.agrees; fuel = z.fuel; ending = z.ending; runs = z.runs; reaches = z.reaches; fits = z.fits; outside = z.outside }
