-- Whole procedures: from any state of the parameters in which the precondition is true.
use Rattle.std.proofs.Common.{◌≡◌, ℕ, zero, suc, ◌+◌, ◌-◌, ◌<◌, ◌≤◌, true, List, [], ◌∷◌, ◌++◌, length, get_or, replicate, sym, refl, ap, ◌∙◌, arith}
use Rattle.std.proofs.lemmas.Bool.{and_parts, le-ltb}
use Rattle.lang.specs.Meaning.{State, true_in, count, zeros, ok, exec_block, run_proc}
use Rattle.lang.specs.Soundness.{sound_stmt, sound_block}
use Rattle.lang.specs.Syntax.{Stmt, assign, store, branch, loop, check, call, havoc, Block, end, seq, Decl}
use Rattle.vc.proofs.Agreement.{values, Knows, bool_agrees}
use Rattle.vc.proofs.Branch.{branch_goes}
use Rattle.vc.proofs.Call.{ProcSound, Finishes, Callees, AllSound, call_goes}
use Rattle.vc.proofs.Loop.{loop_goes}
use Rattle.vc.proofs.Reaching.{asserted, reaches_assume, fill, fill_agrees, unknown_values, cell_is}
use Rattle.vc.proofs.Running.{Scene, context_of, bits, names, at, run_block, StmtGoes, BlockGoes, from_one, from_suc, assured_holds, holds_assured, value_true, knows_now, knows_began}
use Rattle.vc.proofs.Simple.{assign_goes, store_goes, check_goes, havoc_goes}
use Rattle.vc.proofs.States.{state_of, state_append, found_append, knows, fits_append, front_values, fits_zeros, outside_same, outside_then, outside_left, outside_right, Agree, agree_same, agree_then, Reaches}
use Rattle.vc.proofs.Static.{follows_stmt, follows_block, follows_assert}
use Rattle.vc.specs.Conditions.{SymState, all_true, unknowns, Fresh, fresh_params, zero_terms, proc_start, proc_end, judged, changed, changed_block, walk_stmt, walk_block, walk_proc}
use Rattle.vc.specs.Symbolic.{assured}
use Rattle.vc.specs.Terms.{Term, value}
use Rattle.vc.specs.Theorem.{AllValid, Fits, params_of}

-- Blocks.
end_goes : (c : Scene) → BlockGoes c end
unfolding walk_block changed_block exec_block
end_goes c v sound valid g st cs r f =
    record {
      numbers = g;
      agrees = agree_same v.next g;
      fuel = 1;
      ending = at st cs;
      runs = from_one (λ k. run_block c end k (at st cs) ≡ ok (at st cs)) (λ k. refl);
      reaches = r;
      fits = f;
      outside = outside_same [] st;
    }

seq_goes : (c : Scene) (s : Stmt) (ss : Block) → StmtGoes c s → BlockGoes c ss → BlockGoes c (seq s ss)
unfolding walk_block changed_block exec_block sound_block
seq_goes c s ss first rest v sound valid g st cs r f =
    let p = and_parts (sound_stmt c.program (names c) c.proc.params s) _ sound in
    let u = walk_stmt (context_of c) v s in
    let x = first v p.0 ((follows_block (context_of c) ss u).valid (bits c) valid) g st cs r f in
    let y = rest u p.1 valid x.numbers x.ending.state x.ending.choices x.reaches x.fits in
    record {
      numbers = y.numbers;
      agrees = agree_then u.next (follows_stmt (context_of c) s v).later x.agrees y.agrees;
      fuel = suc (x.fuel + y.fuel);
      ending = y.ending;
      runs = from_suc (λ k. run_block c (seq s ss) k (at st cs) ≡ ok y.ending) (x.fuel + y.fuel) (λ k l. rw (x.runs k (omega arith)) (y.runs k (omega arith)));
      reaches = y.reaches;
      fits = y.fits;
      outside = outside_then (outside_left (changed s) (changed_block ss) x.outside) (outside_right (changed s) (changed_block ss) y.outside);
    }

module _ (c : Scene) (own : ProcSound c.program c.proc) (sounds : AllSound c.program) (callees : Callees c) where
  mutual
    stmt_goes : (s : Stmt) → StmtGoes c s
    stmt_goes (assign x e) = assign_goes c x e
    stmt_goes (store x i e) = store_goes c x i e
    stmt_goes (branch b a d) = branch_goes c b a d (block_goes a) (block_goes d)
    stmt_goes (loop b i e a) = loop_goes c b i e a (block_goes a)
    stmt_goes (check b) = check_goes c b
    stmt_goes (call f xs) = call_goes c own sounds callees f xs
    stmt_goes (havoc x) = havoc_goes c x

    block_goes : (b : Block) → BlockGoes c b
    block_goes end = end_goes c
    block_goes (seq s ss) = seq_goes c s ss (stmt_goes s) (block_goes ss)

-- The beginning: numbers for the parameters' unknowns.
begin_with : State → ℕ → (ℕ → ℕ) → ℕ → ℕ
begin_with [] n g = g
begin_with (c ∷ cs) n g = begin_with cs (n + length c.values) (fill g n c.values)

begin_agrees : (cs : State) (n : ℕ) (g : ℕ → ℕ) → Agree n g (begin_with cs n g)
unfolding begin_with
begin_agrees [] n g = agree_same n g
begin_agrees (c ∷ cs) n g = agree_then (n + length c.values) (omega arith) (fill_agrees g n c.values) (begin_agrees cs (n + length c.values) (fill g n c.values))

params_later : (ds : List Decl) (n : ℕ) → n ≤ (fresh_params ds n).next
unfolding fresh_params
params_later [] n = omega arith
params_later (d ∷ ds) n =
    let l = params_later ds (n + count d) in
    omega arith

params_state : (w : ℕ) (ds : List Decl) (s : State) (n : ℕ) (g : ℕ → ℕ) → Fits w ds s → (h : ℕ → ℕ) → Agree (fresh_params ds n).next (begin_with s n g) h → state_of w h (fresh_params ds n).store ≡ s
unfolding fresh_params begin_with
params_state w [] [] n g f h a = refl
params_state w [] (c ∷ s) n g f h a = elim f [ ]
params_state w (d ∷ ds) [] n g f h a = elim f [ ]
params_state w (d ∷ ds) (c ∷ s) n g (Fits.and_this m l small r) h a =
    let many : n + length c.values ≡ n + count d = ap (λ k. n + k) l in
    let later : Agree (fresh_params ds (n + count d)).next (begin_with s (n + count d) (fill g n c.values)) h = rw many at a in
    let late = params_later ds (n + count d) in
    let filled = begin_agrees s (n + count d) (fill g n c.values) in
    let there : (i : ℕ) → n ≤ i → i < n + length c.values → h i ≡ get_or c.values (i - n) 0 =
    λ i p q.
    let e : fill g n c.values i ≡ get_or c.values (i - n) 0 = rw (le-ltb i n p) in
    sym (later.at i (omega arith)) ∙ sym (filled.at i (omega arith)) ∙ e in
    let vs : values w h (unknowns (count d) n) ≡ c.values = rw (← l) (unknown_values w h c.values n small there) in
    rw (params_state w ds s (n + count d) (fill g n c.values) r h later) (ap (λ z. z ∷ s) (cell_is c d.name _ (sym m) vs))

zero_values : (w : ℕ) (g : ℕ → ℕ) (n : ℕ) → values w g (replicate n (Term.num 0)) ≡ replicate n 0
unfolding value
zero_values w g zero = refl
zero_values w g (suc n) = ap (λ r. 0 ∷ r) (zero_values w g n)

zeros_state : (w : ℕ) (g : ℕ → ℕ) (ds : List Decl) → state_of w g (zero_terms ds) ≡ zeros ds
unfolding zero_terms
zeros_state w g [] = refl
zeros_state w g (d ∷ ds) = rw (zero_values w g (count d)) (ap (λ s. record { name = d.name; values = replicate (count d) 0 } ∷ s) (zeros_state w g ds))

module _ (c : Scene) (own : ProcSound c.program c.proc) (pre : true_in (bits c) c.begin c.begin c.proc.pre ≡ true) where
  abbrev fresh : Fresh
  fresh = fresh_params c.proc.params 0

  numbers₀ : ℕ → ℕ
  numbers₀ = begin_with c.begin 0 (λ i. 0)

  abbrev bare : SymState
  bare = record { current = fresh.store ++ zero_terms c.proc.locals; initial = fresh.store; given = []; next = fresh.next; conditions = [] }

  params_are : (h : ℕ → ℕ) → Agree fresh.next numbers₀ h → state_of (bits c) h fresh.store ≡ c.begin
  unfolding numbers₀
  params_are h a = params_state (bits c) c.proc.params c.begin 0 (λ i. 0) c.fits h a

  reaches_bare : Reaches (bits c) numbers₀ bare (c.begin ++ zeros c.proc.locals) c.begin
  unfolding all_true
  reaches_bare = record { now_is = λ h a. state_append (bits c) h fresh.store _ ∙ rw (params_are h a, zeros_state (bits c) h c.proc.locals); began = params_are; granted = λ h a. refl }

  reaches_start : Reaches (bits c) numbers₀ (proc_start (context_of c) fresh) (c.begin ++ zeros c.proc.locals) c.begin
  unfolding proc_start
  reaches_start =
      reaches_assume bare _ reaches_bare
      (λ h a.
      let e = params_are h a in
      let known : Knows (bits c) h c.proc.params (state_of (bits c) h fresh.store) fresh.store = record { at = knows (bits c) h c.proc.params fresh.store (rw e c.fits) } in
      let k : Knows (bits c) h c.proc.params c.begin fresh.store = rw e at known in
      holds_assured (bool_agrees (bits c) c.literal c.faithful h 0 c.proc.params c.proc.params c.begin c.begin fresh.store fresh.store c.proc.pre k k own.pre) (value_true _ pre))

-- The end: the postcondition speaks of the parameters.
module _ (c : Scene) (v : SymState) {g : ℕ → ℕ} {st : State} (r : Reaches (bits c) g v st c.begin) (f : Fits (bits c) (names c) st) where
  knows_params : Knows (bits c) g c.proc.params (params_of c.proc st) v.current
  knows_params =
      record {
        at = λ x d e.
            let k = (knows_now c v r f g (agree_same v.next g)).at x d (found_append c.proc.params c.proc.locals x d e) in
            rw (front_values c.proc.params c.proc.locals st x d f e) k;
      }

pub finishes : (c : Scene) → ProcSound c.program c.proc → AllSound c.program → Callees c → true_in (bits c) c.begin c.begin c.proc.pre ≡ true → AllValid (bits c) (walk_proc (context_of c)).conditions → (cs : List ℕ) → Finishes c.program c.proc c.begin cs
unfolding walk_proc proc_end run_proc
finishes c own sounds callees pre valid cs =
    let start = proc_start (context_of c) (fresh_params c.proc.params 0) in
    let ended = walk_block (context_of c) start c.proc.body in
    let goal = assured (judged (context_of c) ended c.proc.post) in
    let begun = fits_append c.fits (fits_zeros (bits c) c.proc.locals) in
    let x = block_goes c own sounds callees c.proc.body start own.body ((follows_assert ended goal).valid (bits c) valid) (numbers₀ c own pre) _ cs (reaches_start c own pre) begun in
    let there = agree_same ended.next x.numbers in
    let settled = bool_agrees (bits c) c.literal c.faithful x.numbers 0 c.proc.params c.proc.params (params_of c.proc x.ending.state) c.begin ended.current ended.initial c.proc.post (knows_params c ended x.reaches x.fits) (knows_began c ended x.reaches x.fits x.numbers there) own.post in
    record {
      fuel = suc x.fuel;
      ending = x.ending;
      runs = from_suc (λ k. run_proc k c.program c.proc (at c.begin cs) ≡ ok x.ending) x.fuel (λ k l. x.runs k l);
      fits = x.fits;
      promised = rw (assured_holds settled (asserted ended goal valid x.reaches x.numbers there));
    }
