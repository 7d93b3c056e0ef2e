-- Operations one after the other, as code is gone through.
use Rattle.std.proofs.Common.{◌≡◌, ℕ, zero, suc, ◌+◌, ◌^◌, ◌<◌, ◌≤◌, min, Bool, true, false, cond, List, [], ◌∷◌, length, drop, Some, None, Option, Ok, Err, Result, unwrap_or, sym, refl, ap, ◌∙◌, inl, inr, add-one, arith}
use Rattle.std.proofs.lemmas.Bool.{both_ways, cases_eq}
use Rattle.std.specs.Bool.{then_some}
use Rattle.std.specs.Option.{MatchOption}
use Rattle.std.specs.Result.{result_ok, result_unwrap_or}
use Rattle.lang.proofs.Codes.{bool_front}
use Rattle.lang.specs.Base.{◌>>=◌, Word}
use Rattle.lang.specs.Code.{code_bool}
use Rattle.lang.specs.Holding.{code_of}
use Rattle.lang.specs.Instr as instr
use Rattle.lang.specs.Instr.{Instr}
use Rattle.lang.specs.Meaning.{bind, all_below, holds}
use Rattle.lang.specs.Syntax.{BoolExpr}
use Rattle.lang.specs.declared.code.Node.{Node}
use Rattle.lang.specs.declared.program.Program.{Program}
use Rattle.walk.proofs.Outlines.{skipped, part_skipped, behind_part}
use Rattle.walk.proofs.Walking.{here}
use Rattle.walk.specs.Nests.{nested}
use Rattle.walk.specs.Spans.{span}
use Rattle.walk.specs.Walking.{first, rest, word}
use Rattle.walk.specs.declared.nest.Nest.{Nest}
use Rattle.eval.proofs.Ops.{code_ops_bool, apply_bool, nesting_bool}
use Rattle.eval.specs.Evaluating.{OperandAt, Reached, Walked, Stepped, Counted, AllEnd}
use Rattle.eval.specs.Kinds.{kind, plain, operand, counter_name, limit_of}
use Rattle.eval.specs.Naming.{bound, depth, inside, state_old, state_now}
use Rattle.eval.specs.Ops.{Op, num, var, old, binary, index, old_index, truth, compare, conj, disj, implies, negate, all, pop_truth, code_all, code_op, code_ops, ops_bool, op_nesting, ops_nesting, nesting, push_truth, apply, apply_all}
use Rattle.eval.specs.Stacking.{top, under}
use Rattle.eval.specs.declared.failure.Failure.{Failure}
use Rattle.eval.specs.declared.scope.Counter.{Counter}
use Rattle.eval.specs.declared.scope.Scope.{Scope}
use Rattle.eval.specs.declared.stacks.Stacks.{Stacks}

-- an operation begins at an index
operand_here : (held : Program) (i : ℕ) (n : Node) → instr.instr held.text.now n ≡ first (rest held i) → true ≡ operand (instr.instr held.text.now n) → length (code_of held) < 2 ^ 64 → OperandAt held i n
operand_here held i n e t h =
    let there = here (code_of held) i (λ end. both_ways (operand (instr.instr held.text.now n)) (ap operand (e ∙ end)) (sym t)) in
    record { here = rw e there.splits; begins = sym t; within = there.within; room = omega arith }

pub operand_if : (held : Program) (i : ℕ) (n : Node) (b : Bool) → instr.instr held.text.now n ≡ first (rest held i) → b ≡ operand (instr.instr held.text.now n) → length (code_of held) < 2 ^ 64 → MatchOption (then_some b n) (operand (first (rest held i)) ≡ false) (λ m. OperandAt held i m)
operand_if held i n true e t h = operand_here held i n e t h
operand_if held i n false e t h = ap operand (sym e) ∙ sym t

pub begins_so : (op : Op) (k : List Instr) → operand (first (code_op op k)) ≡ true
begins_so (num n) k = refl
begins_so (var x) k = refl
begins_so (old x) k = refl
begins_so (binary o) k = refl
begins_so (index x) k = refl
begins_so (old_index x) k = refl
begins_so truth k = refl
begins_so (compare o) k = refl
begins_so conj k = refl
begins_so disj k = refl
begins_so implies k = refl
begins_so negate k = refl
begins_so (all x n a) k = refl

-- where an `all` ends
module _ (held : Program) (next : ℕ) where
  pub all_ends : (at end r : ℕ) → at ≡ min (next + 1) (length (code_of held)) → end ≡ min (at + 1 + span (first (rest held at))) (length (code_of held)) → r ≡ min (end + 1) (length (code_of held)) → AllEnd held next r
  all_ends at end r is_at is_end is_r =
      record {
        onward = λ h. omega arith;
        is = λ m a k e.
            let at_length = skipped (code_of held) next at _ e 1 is_at in
            let at_end = part_skipped (code_of held) at end _ at_length is_end ∙ behind_part (code_bool a) (instr.end_all ∷ k) (bool_front a) in
            skipped (code_of held) end r _ at_end 1 is_r;
      }

module _ (s : Scope) where
  module _ (i : Instr) (next : ℕ) (before : Stacks) where
    -- an `all`, with what its rounds say
    not_plain : (x : Word) (op : Op) (j : Instr) (k : List Instr) → kind j ≡ plain op → Some x ≡ counter_name (kind i) → i ∷ rest s.names.program.now next ≡ j ∷ k → ⊥
    not_plain x op j k kj named e =
        let none : Some x ≡ None = named ∙ ap (λ c. counter_name (kind (first c))) e ∙ ap counter_name kj in
        let z : ◌≡◌ {A = ℕ} 0 1 = cc in
        omega arith

    module _ (x : Word) (named : Some x ≡ counter_name (kind i)) (many body r : ℕ) (is_many : many ≡ limit_of (kind (first (rest s.names.program.now next)))) (is_body : body ≡ min (next + 2) (length (code_of s.names.program.now))) (value : Option Bool) (mid : Stacks) (counted : Counted s x many body value before mid) (truths : List (Option Bool)) (pushed : truths ≡ value ∷ mid.truths) (ends : AllEnd s.names.program.now next r) where
      abbrev after : Stacks
      after = record mid { truths = truths }

      all_step : (y : Word) (m : ℕ) (a : BoolExpr) (k : List Instr) → i ∷ rest s.names.program.now next ≡ code_op (all y m a) k → depth s + suc (nesting a) ≤ 2 → s.names.program.now.width.0 ≤ 64 → (rest s.names.program.now r ≡ k) × (after ≡ apply s.names.program.now.width.0 (inside s) (state_old s.names) (all y m a) before)
      all_step y m a k e nested wide =
          let code = code_of s.names.program.now in
          let behind : rest s.names.program.now next ≡ code_all m a k = ap (drop 1) e in
          let some : Some x ≡ Some y = named ∙ ap (λ c. counter_name (kind (first c))) e in
          let same_name : x ≡ y = cc in
          let same_limit : many ≡ m = is_many ∙ ap (λ c. limit_of (kind (first c))) behind in
          let at_body = skipped code next body _ behind 2 is_body in
          let says = counted.is a k at_body nested wide in
          (ends.is m a k behind, rw (pushed, says.0, says.1, same_name, same_limit))

      pub counted_step : Stepped s i next r before after
      counted_step =
          let at : (op : Op) (k : List Instr) → i ∷ rest s.names.program.now next ≡ code_op op k → depth s + op_nesting op ≤ 2 → s.names.program.now.width.0 ≤ 64 → (rest s.names.program.now r ≡ k) × (after ≡ apply s.names.program.now.width.0 (inside s) (state_old s.names) op before) =
          λ op. elim op as (λ op. (k : List Instr) → i ∷ rest s.names.program.now next ≡ code_op op k → depth s + op_nesting op ≤ 2 → s.names.program.now.width.0 ≤ 64 → (rest s.names.program.now r ≡ k) × (after ≡ apply s.names.program.now.width.0 (inside s) (state_old s.names) op before)) [
            | num m ↦ λ k e nested wide. absurd (not_plain x (num m) (instr.num m) k refl named e)
            | var y ↦ λ k e nested wide. absurd (not_plain x (var y) (instr.var y) k refl named e)
            | old y ↦ λ k e nested wide. absurd (not_plain x (old y) (instr.old y) k refl named e)
            | binary o ↦ λ k e nested wide. absurd (not_plain x (binary o) (instr.binary o) k refl named e)
            | index y ↦ λ k e nested wide. absurd (not_plain x (index y) (instr.index y) k refl named e)
            | old_index y ↦ λ k e nested wide. absurd (not_plain x (old_index y) (instr.old_index y) k refl named e)
            | truth ↦ λ k e nested wide. absurd (not_plain x truth instr.truth k refl named e)
            | compare o ↦ λ k e nested wide. absurd (not_plain x (compare o) (instr.compare o) k refl named e)
            | conj ↦ λ k e nested wide. absurd (not_plain x conj instr.conj k refl named e)
            | disj ↦ λ k e nested wide. absurd (not_plain x disj instr.disj k refl named e)
            | implies ↦ λ k e nested wide. absurd (not_plain x implies instr.implies k refl named e)
            | negate ↦ λ k e nested wide. absurd (not_plain x negate instr.negate k refl named e)
            | all y m a ↦ λ k e nested wide. all_step y m a k e nested wide
          ] in
          record { onward = ends.onward; is = at }

  -- what is left to do in front of an instruction that is none
  pub record Left (i : Instr) (k code : List Instr) (st goal : Stacks) : Type 0 where
    pub ops : List Op
    pub code_is : code ≡ code_ops ops (i ∷ k)
    pub nested : depth s + ops_nesting ops ≤ 2
    pub same : apply_all s.names.program.now.width.0 (inside s) (state_old s.names) ops st ≡ goal

  module _ (i : Instr) (k : List Instr) (stops : operand i ≡ false) (goal : Stacks) where
    step_on : (ops : List Op) (at r : ℕ) (node : Node) (st st' : Stacks) → rest s.names.program.now at ≡ code_ops ops (i ∷ k) → depth s + ops_nesting ops ≤ 2 → apply_all s.names.program.now.width.0 (inside s) (state_old s.names) ops st ≡ goal → OperandAt s.names.program.now at node → Stepped s (instr.instr s.names.program.now.text.now node) (at + 1) r st st' → s.names.program.now.width.0 ≤ 64 → Left i k (rest s.names.program.now r) st' goal
    unfolding code_ops ops_nesting apply_all
    step_on [] at r node st st' e nested same there stepped wide =
        let begin : i ≡ instr.instr s.names.program.now.text.now node = ap first (sym e ∙ there.here) in
        absurd (both_ways (operand i) stops (ap operand begin ∙ there.begins))
    step_on (op ∷ ops) at r node st st' e nested same there stepped wide =
        let done = stepped.is op (code_ops ops (i ∷ k)) (sym there.here ∙ e) (omega arith) wide in
        record { ops = ops; code_is = done.0; nested = omega arith; same = ap (apply_all s.names.program.now.width.0 (inside s) (state_old s.names) ops) done.1 ∙ same }

    pub left_on : (at r : ℕ) (node : Node) (st st' : Stacks) → Left i k (rest s.names.program.now at) st goal → OperandAt s.names.program.now at node → Stepped s (instr.instr s.names.program.now.text.now node) (at + 1) r st st' → s.names.program.now.width.0 ≤ 64 → Left i k (rest s.names.program.now r) st' goal
    left_on at r node st st' left there stepped wide = step_on left.ops at r node st st' left.code_is left.nested left.same there stepped wide

    end_here : (ops : List Op) (at : ℕ) (st : Stacks) → rest s.names.program.now at ≡ code_ops ops (i ∷ k) → apply_all s.names.program.now.width.0 (inside s) (state_old s.names) ops st ≡ goal → operand (first (rest s.names.program.now at)) ≡ false → (rest s.names.program.now at ≡ i ∷ k) × (st ≡ goal)
    unfolding code_ops apply_all
    end_here [] at st e same f = (e, same)
    end_here (op ∷ ops) at st e same f = absurd (both_ways (operand (first (rest s.names.program.now at))) f (ap (λ c. operand (first c)) e ∙ begins_so op (code_ops ops (i ∷ k))))

  pub nothing_left : (os : List Op) (i : Instr) (k : List Instr) → operand i ≡ false → (at : ℕ) (st before : Stacks) → Left i k (rest s.names.program.now at) st (apply_all s.names.program.now.width.0 (inside s) (state_old s.names) os before) → operand (first (rest s.names.program.now at)) ≡ false → Reached s os (i ∷ k) at before st
  nothing_left os i k stops at st before left f =
      let last = end_here i k stops _ left.ops at st left.code_is left.same f in
      record { here = last.0; stacks = last.1 }

-- rounds
next_round : (v : Option Bool) (o : Option Bool) → unwrap_or v false ≡ false → (v >>= λ b. cond b o (Some false)) ≡ v
next_round None o e = refl
next_round (Some true) o e = let z : ◌≡◌ {A = ℕ} 0 1 = cc in absurd (omega arith)
next_round (Some false) o e = refl

-- the first round that is not true decides
pub decided : (f : ℕ → Option Bool) (m n : ℕ) (v : Option Bool) → m ≤ n → all_below m f ≡ v → unwrap_or v false ≡ false → all_below n f ≡ v
unfolding all_below
decided f m zero v h e t = let z : m ≡ 0 = omega arith in rw z at e
decided f m (suc n) v h e t =
    elim (cases_eq m (suc n)) [
      | inl z ↦ rw z at e
      | inr z ↦ rw (decided f m n v (omega arith) e t) (next_round v (f n) t)
    ]

pub one_more : (f : ℕ → Option Bool) (m : ℕ) → all_below m f ≡ Some true → all_below (m + 1) f ≡ f m
unfolding all_below
one_more f m e = rw (add-one, e)

pub unwrapped : (r : Result Bool Failure) (b : Bool) → b ≡ result_unwrap_or r false → unwrap_or (result_ok r) false ≡ b
unwrapped (Ok t) b e = sym e
unwrapped (Err f) b e = sym e

pub is_some_true : (v : Option Bool) → unwrap_or v false ≡ true → v ≡ Some true
is_some_true None e = let z : ◌≡◌ {A = ℕ} 0 1 = cc in absurd (omega arith)
is_some_true (Some true) e = refl
is_some_true (Some false) e = let z : ◌≡◌ {A = ℕ} 0 1 = cc in absurd (omega arith)

-- all rounds so far were true
pub record SoFar (s : Scope) (x : Word) (body value : ℕ) (st before : Stacks) : Type 0 where
  pub is : (a : BoolExpr) (k : List Instr) → rest s.names.program.now body ≡ code_bool a (instr.end_all ∷ k) → depth s + suc (nesting a) ≤ 2 → s.names.program.now.width.0 ≤ 64 → (all_below value (λ v. holds s.names.program.now.width.0 (bind (inside s) x v) (state_old s.names) a) ≡ Some true) × (st ≡ before)

pub no_round : (s : Scope) (x : Word) (body : ℕ) (st : Stacks) → SoFar s x body 0 st st
unfolding all_below
no_round s x body st = record { is = λ a k here nested wide. (refl, refl) }

module _ (s : Scope) (c : Counter) (body : ℕ) (st before : Stacks) (so_far : SoFar s (word c.program.now c.place) body c.value st before) where
  abbrev counter : Word
  counter = word c.program.now c.place

  -- one round
  module _ (inner : Nest Counter) (deeper : nested inner ≡ c ∷ nested s.counters) (r : ℕ) (st₁ : Stacks) (walked : Walked (record { names = s.names; counters = inner }) body r st st₁) (t : Option Bool) (is_top : t ≡ top st₁.truths) (truths : List (Option Bool)) (popped : truths ≡ under st₁.truths) where
    abbrev st₂ : Stacks
    st₂ = record st₁ { truths = truths }

    deep : length (nested inner) ≡ suc (depth s)
    deep = ap length deeper

    round : (a : BoolExpr) (k : List Instr) → rest s.names.program.now body ≡ code_bool a (instr.end_all ∷ k) → depth s + suc (nesting a) ≤ 2 → s.names.program.now.width.0 ≤ 64 → (t ≡ holds s.names.program.now.width.0 (bind (inside s) counter c.value) (state_old s.names) a) × (st₂ ≡ st)
    unfolding code_ops apply_all ops_nesting
    round a k here nested wide =
        let w = s.names.program.now.width.0 in
        let reached = walked.is (ops_bool a []) instr.end_all k (here ∙ sym (code_ops_bool a [] (instr.end_all ∷ k))) refl (omega (arith, deep, nesting_bool a [])) wide in
        let left : st₁ ≡ push_truth (holds w (bind (inside s) counter c.value) (state_old s.names) a) st = reached.stacks ∙ apply_bool w (state_old s.names) (inside (record { names = s.names; counters = inner })) a [] st ∙ ap (λ cs. push_truth (holds w (bound cs (state_now s.names)) (state_old s.names) a) st) deeper in
        (is_top ∙ ap (λ s. top s.truths) left, ap (λ ts. record st₁ { truths = ts }) popped ∙ ap pop_truth left)

    pub round_true : unwrap_or t false ≡ true → SoFar s counter body (c.value + 1) st₂ before
    round_true true_now =
        record {
          is = λ a k here nested wide.
              let done = so_far.is a k here nested wide in
              let this = round a k here nested wide in
              (one_more _ c.value done.0 ∙ sym this.0 ∙ is_some_true t true_now, this.1 ∙ done.1);
        }

    pub round_other : (many : ℕ) → c.value < many → unwrap_or t false ≡ false → Counted s counter many body t before st₂
    round_other many h other =
        record {
          is = λ a k here nested wide.
              let done = so_far.is a k here nested wide in
              let this = round a k here nested wide in
              (sym (decided _ (c.value + 1) many t (omega arith) (one_more _ c.value done.0 ∙ sym this.0) other), this.1 ∙ done.1);
        }

-- operations so far
pub record Going (s : Scope) (from at : ℕ) (st before : Stacks) : Type 0 where
  pub is : (os : List Op) (i : Instr) (k : List Instr) → rest s.names.program.now from ≡ code_ops os (i ∷ k) → operand i ≡ false → depth s + ops_nesting os ≤ 2 → s.names.program.now.width.0 ≤ 64 → Left s i k (rest s.names.program.now at) st (apply_all s.names.program.now.width.0 (inside s) (state_old s.names) os before)

module _ (s : Scope) (from : ℕ) (before : Stacks) where
  module _ (at : ℕ) (st : Stacks) (going : Going s from at st before) where
    pub going_on : (node : Node) (r : ℕ) (st' : Stacks) → OperandAt s.names.program.now at node → Stepped s (instr.instr s.names.program.now.text.now node) (at + 1) r st st' → Going s from r st' before
    going_on node r st' there stepped = record { is = λ os i k e stops nested wide. left_on s i k stops _ at r node st st' (going.is os i k e stops nested wide) there stepped wide }

    pub gone : operand (first (rest s.names.program.now at)) ≡ false → Walked s from at before st
    gone f = record { is = λ os i k e stops nested wide. nothing_left s os i k stops at st before (going.is os i k e stops nested wide) f }
