-- Where the parts of statements stand in the code.
use Rattle.std.proofs.Common.{◌≡◌, ℕ, ◌+◌, min, List, [], ◌∷◌, length, drop, sym, ap, ◌∙◌, arith}
use Rattle.std.proofs.lemmas.List.{drop-drop}
use Rattle.lang.proofs.Codes.{bool_front, expr_front, block_front}
use Rattle.lang.specs.Code.{code_expr, code_bool, code_stmt, code_block}
use Rattle.lang.specs.Holding.{code_of}
use Rattle.lang.specs.Instr as instr
use Rattle.lang.specs.Instr.{Instr}
use Rattle.lang.specs.Syntax.{Expr, BoolExpr, loop, Block}
use Rattle.lang.specs.declared.program.Program.{Program}
use Rattle.walk.proofs.Outlines.{behind_part, skipped}
use Rattle.walk.specs.Walking.{first, rest}
use Rattle.walk.specs.Spans.{span}
use Rattle.exec.specs.Parts.{code_ways, code_rounds, BranchLaid, LoopLaid}
use Rattle.exec.specs.declared.parts.Rounds.{Rounds}
use Rattle.exec.specs.declared.parts.Ways.{Ways}

-- one part on
pub span_skipped : (code : List Instr) (i r : ℕ) (k : List Instr) → drop i code ≡ k → r ≡ min (i + 1 + span (first (drop i code))) (length code) → drop r code ≡ drop (span (first k)) (drop 1 k)
span_skipped code i r k here e =
    let n = span (first k) in
    let order : i + 1 + n ≡ i + (1 + n) = omega arith in
    skipped code i r k here (1 + n) (e ∙ ap (λ m. min m (length code)) (ap (λ j. i + 1 + span (first j)) here ∙ order)) ∙ sym (drop-drop n 1 k)

module _ (held : Program) where
  abbrev pub PartEnd : ℕ → ℕ → Type 0
  PartEnd i r = r ≡ min (i + 1 + span (first (rest held i))) (length (code_of held))

  abbrev pub Skips : ℕ → ℕ → ℕ → Type 0
  Skips i n r = r ≡ min (i + n) (length (code_of held))

  module _ (c d : Block) (k : List Instr) (i other end : ℕ) (here : rest held i ≡ code_ways c d k) (is_other : PartEnd i other) where
    else_here : rest held other ≡ instr.else (length (code_block d [])) ∷ code_block d (instr.end_if ∷ k)
    else_here = span_skipped (code_of held) i other _ here is_other ∙ behind_part (code_block c) _ (block_front c)

    end_here : PartEnd other end → rest held end ≡ instr.end_if ∷ k
    end_here is_end = span_skipped (code_of held) other end _ else_here is_end ∙ behind_part (code_block d) _ (block_front d)

  pub ways_laid : (i other end : ℕ) (w : Ways) → PartEnd i other → PartEnd other end → Skips i 1 w.then → Skips other 1 w.otherwise → Skips end 1 w.behind → BranchLaid held i w
  ways_laid i other end w is_other is_end is_then is_otherwise is_behind =
      record {
        then_code = λ c d k h. skipped (code_of held) i w.then _ h 1 is_then;
        else_code = λ c d k h. skipped (code_of held) other w.otherwise _ (else_here c d k i other end h is_other) 1 is_otherwise;
        behind_code = λ c d k h. skipped (code_of held) end w.behind _ (end_here c d k i other end h is_other is_end) 1 is_behind;
      }

  module _ (at test invariant measure body end : ℕ) (is_test : Skips at 1 test) (is_invariant : PartEnd test invariant) (is_measure : PartEnd invariant measure) (is_body : PartEnd measure body) where
    module _ (b i : BoolExpr) (e : Expr) (c : Block) (k : List Instr) (here : rest held at ≡ code_stmt (loop b i e c) k) where
      test_here : rest held test ≡ instr.test (length (code_bool b [])) ∷ code_bool b (code_rounds i e c k)
      unfolding code_stmt
      test_here = skipped (code_of held) at test (code_stmt (loop b i e c) k) here 1 is_test

      invariant_here : rest held invariant ≡ code_rounds i e c k
      invariant_here = span_skipped (code_of held) test invariant _ test_here is_invariant ∙ behind_part (code_bool b) _ (bool_front b)

      measure_here : rest held measure ≡ instr.measure (length (code_expr e [])) ∷ code_expr e (instr.rounds (length (code_block c [])) ∷ code_block c (instr.end_while ∷ k))
      measure_here = span_skipped (code_of held) invariant measure _ invariant_here is_measure ∙ behind_part (code_bool i) _ (bool_front i)

      body_here : rest held body ≡ instr.rounds (length (code_block c [])) ∷ code_block c (instr.end_while ∷ k)
      body_here = span_skipped (code_of held) measure body _ measure_here is_body ∙ behind_part (code_expr e) _ (expr_front e)

      loop_end_here : PartEnd body end → rest held end ≡ instr.end_while ∷ k
      loop_end_here is_end = span_skipped (code_of held) body end _ body_here is_end ∙ behind_part (code_block c) _ (block_front c)

      test_begins : (r : ℕ) → Skips at 2 r → rest held r ≡ code_bool b (code_rounds i e c k)
      unfolding code_stmt
      test_begins r is = skipped (code_of held) at r (code_stmt (loop b i e c) k) here 2 is

    pub rounds_laid : (r : Rounds) → PartEnd body end → Skips at 2 r.test → Skips body 1 r.body → Skips end 1 r.behind → LoopLaid held at r
    rounds_laid r is_end at_test at_body at_behind =
        record {
          test_code = λ b i e c k h. test_begins b i e c k h r.test at_test;
          body_code = λ b i e c k h. skipped (code_of held) body r.body _ (body_here b i e c k h) 1 at_body;
          behind_code = λ b i e c k h. skipped (code_of held) end r.behind _ (loop_end_here b i e c k h is_end) 1 at_behind;
        }
