-- Where the parts of a procedure stand in its code, and where the next procedure does.
use Rattle.std.proofs.Common.{◌≡◌, ℕ, suc, ◌+◌, ◌*◌, min, true, false, cond, eqb, List, [], ◌∷◌, length, drop, Some, None, Option, sym, refl, ap, ◌∙◌, inl, inr, arith}
use Rattle.std.proofs.lemmas.List.{drop-drop, drop_all, drop_at}
use Rattle.std.proofs.lemmas.Bool.{cases_Bool, eqb-true, cases_lt}
use Rattle.lang.specs.Base.{Word, same}
use Rattle.lang.specs.Code.{code_bool, code_expr, code_size, code_params, code_locals, code_block, code_parts, code_proc, code_procs}
use Rattle.lang.specs.Holding.{code_of}
use Rattle.lang.specs.Instr as instr
use Rattle.lang.specs.Instr.{Instr}
use Rattle.walk.specs.Roles.{role, declared_size, begun_name}
use Rattle.walk.specs.Spans.{span}
use Rattle.lang.specs.Soundness.{find_proc}
use Rattle.lang.specs.Syntax.{Decl, Proc}
use Rattle.walk.specs.Walking.{first, rest, word, name_of, declared, code_head, Laid, ProcAt, Left}
use Rattle.lang.specs.declared.program.Program.{Program}
use Rattle.walk.specs.declared.procedures.Outline.{Outline}
use Rattle.walk.specs.declared.procedures.Procedure.{Procedure}
use Rattle.lang.proofs.Codes.{Front, one_front, then_front, bool_front, expr_front, block_front, params_front, locals_front}
use Rattle.walk.proofs.Walking.{no_name}

-- a size, as it stands in code
sized_by : (d : Decl) → declared_size (role (code_size d)) ≡ Some d.size
sized_by d = elim (cases_Bool (eqb d.size 0)) [ inl e ↦ rw e (ap Some (sym (eqb-true d.size 0 e))) | inr e ↦ rw e refl ]

-- declarations end where no other begins
pub declared_params : (ds : List Decl) (k : List Instr) → declared k ≡ [] → declared (code_params ds k) ≡ ds
unfolding declared
declared_params [] k e = e
declared_params (d ∷ ds) k e = rw (sized_by d, declared_params ds k e)

pub declared_locals : (ds : List Decl) (k : List Instr) → declared k ≡ [] → declared (code_locals ds k) ≡ ds
unfolding declared
declared_locals [] k e = e
declared_locals (d ∷ ds) k e = rw (sized_by d, declared_locals ds k e)

twice_more : (n : ℕ) → 2 * suc n ≡ suc (suc (2 * n))
twice_more n = omega arith

pub behind_params : (ds : List Decl) (k : List Instr) → drop (2 * length ds) (code_params ds k) ≡ k
behind_params [] k = refl
behind_params (d ∷ ds) k = rw (twice_more (length ds)) (behind_params ds k)

pub behind_locals : (ds : List Decl) (k : List Instr) → drop (2 * length ds) (code_locals ds k) ≡ k
behind_locals [] k = refl
behind_locals (d ∷ ds) k = rw (twice_more (length ds)) (behind_locals ds k)

-- behind a part that is put in front of other code
pub behind_part : (f : List Instr → List Instr) (k : List Instr) → Front f → drop (length (f [])) (f k) ≡ k
behind_part f k front = rw (front.splits k) (drop_at (f []) k (length (f [])) refl)

-- no index behind the last is any other
pub drop_min : (code : List Instr) (n : ℕ) → drop (min n (length code)) code ≡ drop n code
drop_min code n =
    elim (cases_lt n (length code)) [
      | inl h ↦ let e : min n (length code) ≡ n = omega arith in rw e
      | inr h ↦ let e : min n (length code) ≡ length code = omega arith in rw e (drop_all (length code) code (omega arith) ∙ sym (drop_all n code h))
    ]

-- the rest of the code behind what was skipped
module _ (code : List Instr) (i r : ℕ) (k : List Instr) (here : drop i code ≡ k) where
  pub skipped : (n : ℕ) → r ≡ min (i + n) (length code) → drop r code ≡ drop n k
  skipped n e = rw e (drop_min code (i + n) ∙ sym (drop-drop n i code) ∙ ap (drop n) here)

  pub part_skipped : r ≡ min (i + 1 + span (first (drop i code))) (length code) → drop r code ≡ drop (span (first k)) (drop 1 k)
  part_skipped e =
      let n = span (first k) in
      let order : i + 1 + n ≡ i + (1 + n) = omega arith in
      skipped (1 + n) (e ∙ ap (λ m. min m (length code)) (ap (λ j. i + 1 + span (first j)) here ∙ order)) ∙ sym (drop-drop n 1 k)

  pub declared_skipped : r ≡ i + 2 * length (declared (drop i code)) → drop r code ≡ drop (2 * length (declared k)) k
  declared_skipped e = rw (e, ← (drop-drop (2 * length (declared (drop i code))) i code), here) refl

module _ (q : Proc) (k : List Instr) where
  abbrev pub body_code : List Instr
  body_code = code_block q.body (instr.end_proc ∷ k)

  abbrev pub locals_code : List Instr
  locals_code = code_locals q.locals (instr.body (length (code_block q.body [])) ∷ body_code)

  params_end : declared (code_head q locals_code) ≡ []
  params_end = no_name (code_head q locals_code) refl

  locals_end : declared (instr.body (length (code_block q.body [])) ∷ body_code) ≡ []
  locals_end = no_name (instr.body (length (code_block q.body [])) ∷ body_code) refl

  behind_head : (code : List Instr) (h a b l : ℕ) → drop h code ≡ code_head q locals_code → a ≡ min (h + 1 + span (first (drop h code))) (length code) → b ≡ min (a + 1 + span (first (drop a code))) (length code) → l ≡ min (b + 1 + span (first (drop b code))) (length code) → drop l code ≡ locals_code
  behind_head code h a b l here e f g =
      let at_post = part_skipped code h a _ here e ∙ behind_part (code_bool q.pre) _ (bool_front q.pre) in
      let at_measure = part_skipped code a b _ at_post f ∙ behind_part (code_bool q.post) _ (bool_front q.post) in
      part_skipped code b l _ at_measure g ∙ behind_part (code_expr q.measure) _ (expr_front q.measure)

  -- the parameters stand behind the name and the length
  at_params : (code : List Instr) (i r : ℕ) → drop i code ≡ code_proc q k → r ≡ min (i + 2) (length code) → drop r code ≡ code_parts q k
  at_params code i r here e = skipped code i r (code_proc q k) here 2 e

  pub params_are : (code : List Instr) (i r : ℕ) → drop i code ≡ code_proc q k → r ≡ min (i + 2) (length code) → declared (drop r code) ≡ q.params
  params_are code i r here e = ap declared (at_params code i r here e) ∙ declared_params q.params (code_head q locals_code) params_end

  pub laid : (held : Program) (i a b e : ℕ) (o : Outline) →
      rest held i ≡ code_proc q k →
      o.params ≡ min (i + 2) (length (code_of held)) →
      o.head ≡ o.params + 2 * length (declared (rest held o.params)) →
      a ≡ min (o.head + 1 + span (first (rest held o.head))) (length (code_of held)) →
      b ≡ min (a + 1 + span (first (rest held a))) (length (code_of held)) →
      o.locals ≡ min (b + 1 + span (first (rest held b))) (length (code_of held)) →
      e ≡ o.locals + 2 * length (declared (rest held o.locals)) →
      o.body ≡ min (e + 1) (length (code_of held)) →
      Laid held o q k
  laid held i a b e o here is_params is_head is_a is_b is_locals is_e is_body =
      let code = code_of held in
      let params = declared_params q.params (code_head q locals_code) params_end in
      let locals = declared_locals q.locals (instr.body (length (code_block q.body [])) ∷ body_code) locals_end in
      let params_here = at_params code i o.params here is_params in
      let at_head : rest held o.head ≡ code_head q locals_code = declared_skipped code o.params o.head (code_parts q k) params_here is_head ∙ rw params (behind_params q.params (code_head q locals_code)) in
      let at_locals : rest held o.locals ≡ locals_code = behind_head code o.head a b o.locals at_head is_a is_b is_locals in
      let at_body : rest held e ≡ instr.body (length (code_block q.body [])) ∷ body_code = declared_skipped code o.locals e locals_code at_locals is_e ∙ rw locals (behind_locals q.locals (instr.body (length (code_block q.body [])) ∷ body_code)) in
      record { params = params_are code i o.params here is_params; locals = ap declared at_locals ∙ locals; head = at_head; body = skipped code e o.body _ at_body 1 is_body }

parts_front : (q : Proc) → Front (code_parts q)
parts_front q = then_front (params_front q.params) (then_front (one_front _) (then_front (bool_front q.pre) (then_front (one_front _) (then_front (bool_front q.post) (then_front (one_front _) (then_front (expr_front q.measure) (then_front (locals_front q.locals) (then_front (one_front _) (then_front (block_front q.body) (one_front _))))))))))

-- what stands at the beginning of procedures, and behind the first
pub begun : (held : Program) (i : ℕ) (f : Procedure) (qs : List Proc) → rest held i ≡ code_procs qs [] → f.program.now ≡ held → Some (word held f.place) ≡ begun_name (role (first (rest held i))) → f.next ≡ min (i + 1 + 1 + span (first (rest held (i + 1)))) (length (code_of held)) → ProcAt held i f qs
begun held i f [] here same e g = let z : ◌≡◌ {A = ℕ} 0 1 = cc in absurd (omega arith)
begun held i f (q ∷ qs) here same e g =
    let named : name_of f ≡ word held f.place = ap (λ (p : Program). word p f.place) same in
    let k = code_procs qs [] in
    let next : rest held (i + 1) ≡ instr.extent (length (code_parts q [])) ∷ code_parts q k = sym (drop-drop 1 i (code_of held)) ∙ ap (drop 1) here in
    record { this = q; others = qs; split = refl; name = let this : Some (word held f.place) ≡ Some q.name = e ∙ ap (λ k. begun_name (role (first k))) here in cc; named = named; here = here; behind = part_skipped (code_of held) (i + 1) f.next _ next g ∙ behind_part (code_parts q) k (parts_front q) }

pub not_begun : (held : Program) (i : ℕ) (qs : List Proc) → rest held i ≡ code_procs qs [] → None ≡ begun_name (role (first (rest held i))) → qs ≡ []
not_begun held i [] here e = refl
not_begun held i (q ∷ qs) here e = let z : ◌≡◌ {A = ℕ} 0 1 = cc in absurd (omega arith)

-- the search for a procedure, one procedure on
module _ (held : Program) (x : Word) (value : Option Proc) (i : ℕ) (left : Left (λ qs. find_proc qs x) (rest held i) value) where
  pub proc_none : left.procs ≡ [] → value ≡ None
  unfolding find_proc
  proc_none e = sym left.same ∙ rw e refl

  module _ (f : Procedure) (at : ProcAt held i f left.procs) where
    step : find_proc left.procs x ≡ cond (same (name_of f) x) (Some at.this) (find_proc at.others x)
    unfolding find_proc
    step = rw (at.split, at.name)

    pub proc_here : true ≡ same (name_of f) x → value ≡ Some at.this
    proc_here t = sym left.same ∙ step ∙ rw (← t) refl

    pub proc_behind : false ≡ same (name_of f) x → Left (λ qs. find_proc qs x) (rest held f.next) value
    proc_behind t = record { procs = at.others; code = at.behind; same = sym (step ∙ rw (← t) refl) ∙ left.same }
