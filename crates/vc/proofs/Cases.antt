-- Worked texts, by computation.
use Rattle.std.proofs.Common.{◌≡◌, ℕ, Bool, true, ◌&&◌, List, [], ◌∷◌, take, refl}
use Rattle.std.proofs.lemmas.Bool.{and_parts, and_right, not_from_true}
use Rattle.lang.specs.Grammar as grammar
use Rattle.lang.specs.Meaning.{compares}
use Rattle.lang.specs.Soundness.{find_decl, find_proc, sound_expr, sound_bool, same_sizes, sound_stmt, sound_block, sound_proc, sound}
use Rattle.lang.specs.Syntax.{num, var, old, binary, truth, compare, assign, branch, check, call, havoc, end, seq, Decl, Proc, Program}
use Rattle.lang.specs.Tokens.{words_from, token, tokens}
use Rattle.lang.specs.declared.syntax.ArithOp.TheVariants.{Add}
use Rattle.lang.specs.declared.syntax.Comparison.TheVariants.{Equal, Less}
use Rattle.vc.specs.Conditions.{Condition, all_true, broken_at, assume, assert, with_current, resume, unknowns, renew, havoc_names, join_terms, join_stores, guarded, join, changed, changed_block, after_assign, after_store, after_check, branch_test, branch_then, branch_else, branch_end, loop_entry, loop_head, loop_test, loop_start, loop_body, loop_round, loop_end, pass_terms, rank, call_asked, call_measured, call_promised, call_changed, after_call, walk_stmt, walk_block, fresh_params, zero_terms, proc_start, proc_end, walk_proc, proc_conditions, conditions_under, conditions}
use Rattle.vc.specs.Symbolic.{lookup, update, single, select, stored, computes, symbolic_expr, every, symbolic_bool}
use Rattle.vc.specs.Terms.{wrapped, value, truth_of}
use Rattle.vc.specs.Theorem.{AllValid}
use Rattle.vc.specs.Worked.{standstill, any_sum, any_number, each_other, FirstBroken, Worked}

-- all that texts are read with
reading : ℕ
unfolding words_from token tokens grammar.sum grammar.sum_rest grammar.product grammar.product_rest grammar.atom grammar.formula grammar.disjunction grammar.disjunction_rest grammar.conjunction grammar.conjunction_rest grammar.unit grammar.names grammar.declaration grammar.declarations grammar.condition grammar.measured grammar.named_statement grammar.if_head grammar.else_head grammar.while_head grammar.block grammar.statement grammar.procedure grammar.procedures grammar.program grammar.reads find_decl find_proc sound_expr sound_bool same_sizes sound_stmt sound_block sound_proc sound
reading = 0

-- and conditions computed
computing : ℕ
unfolding compares all_true broken_at assume assert with_current resume unknowns renew havoc_names join_terms join_stores guarded join changed changed_block after_assign after_store after_check branch_test branch_then branch_else branch_end loop_entry loop_head loop_test loop_start loop_body loop_round loop_end pass_terms rank call_asked call_measured call_promised call_changed after_call walk_stmt walk_block fresh_params zero_terms proc_start proc_end walk_proc proc_conditions conditions_under lookup update single select stored computes symbolic_expr every symbolic_bool wrapped value truth_of
computing = 0

-- conditions whose goals are true by themselves
abbrev goals_true : ℕ → (ℕ → ℕ) → List Condition → Bool
goals_true w g [] = true
goals_true w g (k ∷ ks) = truth_of w g k.goal && goals_true w g ks

by_goals : (w : ℕ) (ks : List Condition) → ((g : ℕ → ℕ) → goals_true w g ks ≡ true) → AllValid w ks
unfolding broken_at
by_goals w [] h = AllValid.none_left
by_goals w (k ∷ ks) h =
    AllValid.and_this (λ g. and_right (all_true w g k.given) _ (not_from_true _ (and_parts (truth_of w g k.goal) _ (h g)).0)) (by_goals w ks (λ g. (and_parts (truth_of w g k.goal) _ (h g)).1))

-- The trees of some of the texts; names are letters.
abbrev number : ℕ → Decl
number c = record { name = c ∷ []; size = 0 }

abbrev any_sum_tree : Program
any_sum_tree =
    record {
      width = 3;
      procs = record {
        name = 102 ∷ [];
        params = number 120 ∷ number 121 ∷ [];
        pre = truth;
        post = compare Equal (var (120 ∷ [])) (binary Add (old (120 ∷ [])) (old (121 ∷ [])));
        measure = num 0;
        locals = [];
        body = seq (assign (120 ∷ []) (binary Add (var (120 ∷ [])) (var (121 ∷ [])))) end;
      } ∷ [];
    }

any_sum_breaks : FirstBroken any_sum 0 (7 ∷ 1 ∷ [])
unfolding reading computing
any_sum_breaks = record { program = any_sum_tree; read = refl; before = AllValid.none_left; broken = refl }

abbrev standstill_tree : Program
standstill_tree =
    record {
      width = 2;
      procs = record {
        name = 102 ∷ 97 ∷ 99 ∷ [];
        params = number 110 ∷ [];
        pre = truth;
        post = compare Equal (var (110 ∷ [])) (num 0);
        measure = var (110 ∷ []);
        locals = [];
        body = seq (branch (compare Less (num 0) (var (110 ∷ []))) (seq (call (102 ∷ 97 ∷ 99 ∷ []) ((110 ∷ []) ∷ [])) end) end) end;
      } ∷ [];
    }

standstill_breaks : FirstBroken standstill 2 (1 ∷ [])
unfolding reading computing
standstill_breaks = record { program = standstill_tree; read = refl; before = by_goals 2 (take 2 (conditions standstill_tree)) (λ g. refl); broken = refl }

abbrev any_number_tree : Program
any_number_tree =
    record {
      width = 2;
      procs = record { name = 103 ∷ []; params = number 120 ∷ []; pre = truth; post = truth; measure = num 0; locals = []; body = seq (havoc (120 ∷ [])) (seq (check (compare Less (var (120 ∷ [])) (num 3))) end) } ∷ [];
    }

any_number_breaks : FirstBroken any_number 0 (0 ∷ 3 ∷ [])
unfolding reading computing
any_number_breaks = record { program = any_number_tree; read = refl; before = AllValid.none_left; broken = refl }

abbrev calling : ℕ → ℕ → Proc
calling c d = record { name = c ∷ []; params = number 120 ∷ []; pre = truth; post = truth; measure = var (120 ∷ []); locals = []; body = seq (call (d ∷ []) ((120 ∷ []) ∷ [])) end }

abbrev each_other_tree : Program
each_other_tree = record { width = 2; procs = calling 104 107 ∷ calling 107 104 ∷ [] }

each_other_breaks : FirstBroken each_other 1 (0 ∷ [])
unfolding reading computing
each_other_breaks = record { program = each_other_tree; read = refl; before = by_goals 2 (take 1 (conditions each_other_tree)) (λ g. refl); broken = refl }

pub worked : Worked
unfolding reading computing
worked =
    record {
      sum_has = refl;
      any_sum_has = refl;
      any_sum_breaks = any_sum_breaks;
      most_has = refl;
      exchange_has = refl;
      clear_has = refl;
      descent_has = refl;
      standstill_has = refl;
      standstill_breaks = standstill_breaks;
      any_number_has = refl;
      any_number_breaks = any_number_breaks;
      each_other_has = refl;
      each_other_breaks = each_other_breaks;
    }
