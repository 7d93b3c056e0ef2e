-- How much whole procedures and programs are, from what is weighed of their parts.
use Rattle.std.proofs.Common.{◌≡◌, ℕ, ◌+◌, ◌*◌, ◌≤◌, min, Bool, true, ◌&&◌, leb, List, [], ◌∷◌, ◌++◌, map, length, Some, sym, refl, ap, ◌∙◌, inl, inr, arith}
use Rattle.std.proofs.lemmas.Bool.{and_parts, leb-true, cases_Bool}
use Rattle.lang.specs.Amount.{size_expr, size_bool, size_decls, size_block, size_proc, size_procs, amount}
use Rattle.lang.specs.Base.{all_of, Word, same, distinct}
use Rattle.sound.specs.Checking.{well_declared, well_written}
use Rattle.lang.specs.Code.{code_block, code_locals, code_procs}
use Rattle.lang.specs.Holding.{Holds}
use Rattle.lang.specs.Instr as instr
use Rattle.lang.specs.Instr.{Instr}
use Rattle.lang.specs.Soundness.{find_proc, decl_name, proc_name, scope, sound_expr, sound_bool, sound_block, sound_proc, sound}
use Rattle.lang.specs.Syntax.{Decl, Proc, Program}
use Rattle.walk.specs.Walking.{rest, declared, code_head, Laid}
use Rattle.amount.specs.Weighing.{level, most, weighed, no_calls, call_size, Weighs}
use Rattle.lang.specs.declared.program.Program as lent
use Rattle.walk.specs.declared.procedures.Outline.{Outline}
use Rattle.amount.proofs.Weighing.{expr_weighs, bool_weighs, block_weighs, level_room}
use Rattle.sound.proofs.Wholes.{proc_parts}

-- what is sound of a procedure
record SoundParts (p : Program) (q : Proc) : Type 0 where
  few : length (scope q) ≤ 64
  short : all_of (λ d. leb d.size 16) (scope q) ≡ true
  pre : sound_bool p.width 0 q.params q.params q.pre ≡ true
  post : sound_bool p.width 0 q.params q.params q.post ≡ true
  body : sound_block p (scope q) q.params q.body ≡ true

sound_parts : (p : Program) (q : Proc) → sound_proc p q ≡ true → SoundParts p q
sound_parts p q t =
    let both = and_parts (well_declared q.params q.locals) (well_written p q) (sym (proc_parts p q) ∙ t) in
    let names = and_parts (leb (length (scope q)) 64) _ both.0 in
    let written = and_parts (sound_bool p.width 0 q.params q.params q.pre && (sound_bool p.width 0 q.params q.params q.post && sound_expr q.params q.params q.measure)) (sound_block p (scope q) q.params q.body) both.1 in
    let head = and_parts (sound_bool p.width 0 q.params q.params q.pre) _ written.0 in
    record {
      few = leb-true (length (scope q)) 64 names.0;
      short = (and_parts (distinct (map decl_name (scope q))) _ names.1).1;
      pre = head.0;
      post = (and_parts (sound_bool p.width 0 q.params q.params q.post) _ head.1).0;
      body = written.1;
    }

-- few names with short rows are not much
small : (ds : List Decl) → all_of (λ d. leb d.size 16) ds ≡ true → size_decls ds ≤ 17 * length ds
unfolding size_decls
small [] t = omega arith
small (d ∷ ds) t =
    let both = and_parts (leb d.size 16) _ t in
    omega (arith, leb-true d.size 16 both.0, small ds both.1)

locals_weigh : (g : Word → ℕ) (n m c : ℕ) (ds : List Decl) (j : ℕ) (k : List Instr) → weighed g n m (level c) (code_locals ds (instr.body j ∷ k)) ≡ 0
unfolding weighed
locals_weigh g n m c [] j k = refl
locals_weigh g n m c (d ∷ ds) j k = refl

module _ (p : Program) (q : Proc) (is_sound : SoundParts p q) where
  head_weighs : (m j : ℕ) (k : List Instr) → weighed no_calls 0 m (level 1) (code_head q (code_locals q.locals (instr.body j ∷ k))) ≡ size_bool q.pre + (size_bool q.post + m * size_expr q.measure)
  unfolding weighed
  head_weighs m j k =
      rw (bool_weighs no_calls 0 m p.width 0 q.params q.params (level 1) q.pre _ is_sound.pre (level_room 1 (omega arith)), bool_weighs no_calls 0 m p.width 0 q.params q.params (level 1) q.post _ is_sound.post (level_room 1 (omega arith)), expr_weighs no_calls 0 m (level m) q.measure _, locals_weigh no_calls 0 m m q.locals j k) (omega arith)

  body_weighs : (n : ℕ) (k : List Instr) → weighed (call_size p n) n 2 (level 1) (code_block q.body (instr.end_proc ∷ k)) ≡ size_block p n q.body
  unfolding weighed
  body_weighs n k = rw (block_weighs p n (scope q) q.params q.body _ is_sound.body) (omega arith)

-- a procedure by its outline
module _ (held : lent.Program) (p : Program) (q : Proc) (k : List Instr) (o : Outline) (laid : Laid held o q k) (is_sound : sound_proc p q ≡ true) where
  pub head_is : (m : ℕ) → weighed no_calls 0 m (level 1) (rest held o.head) ≡ size_bool q.pre + (size_bool q.post + m * size_expr q.measure)
  head_is m = ap (weighed no_calls 0 m (level 1)) laid.head ∙ head_weighs p q (sound_parts p q is_sound) m _ _

  body_is : (n : ℕ) → weighed (call_size p n) n 2 (level 1) (rest held o.body) ≡ size_block p n q.body
  body_is n = ap (weighed (call_size p n) n 2 (level 1)) laid.body ∙ body_weighs p q (sound_parts p q is_sound) n k

  names_are : min (size_decls (declared (rest held o.params) ++ declared (rest held o.locals))) most ≡ size_decls (scope q)
  names_are = rw (laid.params, laid.locals) (omega (arith, small (scope q) (sound_parts p q is_sound).short, (sound_parts p q is_sound).few))

  pub procedure_is : (n head body r : ℕ) → n ≡ min (size_decls (declared (rest held o.params) ++ declared (rest held o.locals))) most → head ≡ min (weighed no_calls 0 1 (level 1) (rest held o.head)) most → body ≡ min (weighed (call_size p n) n 2 (level 1) (rest held o.body)) most → r ≡ min (min (n + head) most + body) most → r ≡ min (size_proc p q) most
  unfolding size_proc
  procedure_is n head body r is_n is_head is_body is_r =
      let names = is_n ∙ names_are in
      let block : size_block p n q.body ≡ size_block p (size_decls (scope q)) q.body = ap (λ m. size_block p m q.body) names in
      omega (arith, names, block, head_is 1, body_is n, is_head, is_body, is_r)

found_in : (P : Proc → Bool) (qs : List Proc) (x : Word) (q : Proc) → all_of P qs ≡ true → find_proc qs x ≡ Some q → P q ≡ true
unfolding find_proc
found_in P [] x q t e = let z : ◌≡◌ {A = ℕ} 0 1 = cc in absurd (omega arith)
found_in P (r ∷ qs) x q t e =
    let both = and_parts (P r) _ t in
    elim (cases_Bool (same r.name x)) [
      | inl h ↦ let here : Some r ≡ Some q = rw h at e in let same : r ≡ q = cc in ap P (sym same) ∙ both.0
      | inr h ↦ found_in P qs x q both.1 (rw h at e)
    ]

pub call_is : (p : Program) (n : ℕ) (f : Word) (q : Proc) → find_proc p.procs f ≡ Some q → call_size p n f ≡ 4 + (2 * n + (size_bool q.pre + (size_bool q.post + 2 * size_expr q.measure)))
call_is p n f q e = rw e

module _ (p : Program) (is_sound : sound p ≡ true) where
  all_sound : all_of (sound_proc p) p.procs ≡ true
  unfolding sound
  all_sound =
      let one = and_parts (leb 1 p.width) _ is_sound in
      let two = and_parts (leb p.width 64) _ one.1 in
      (and_parts (distinct (map proc_name p.procs)) _ two.1).1

  pub found_sound : (x : Word) (q : Proc) → find_proc p.procs x ≡ Some q → sound_proc p q ≡ true
  found_sound x q e = found_in (sound_proc p) p.procs x q all_sound e

  -- one procedure after the other
  pub weighs_all : (held : lent.Program) → Holds held p → Weighs p (rest held 0) 1
  unfolding amount
  weighs_all held holds = record { procs = p.procs; code = holds.code; sound = all_sound; so_far = refl }

module _ (p : Program) (t : ℕ) (k : List Instr) (left : Weighs p k t) where
  pub weighs_none : left.procs ≡ [] → t ≤ most → t ≡ min (amount p) most
  unfolding size_procs
  weighs_none e h = omega (arith, left.so_far, ap (size_procs p) e)

  module _ (q : Proc) (qs : List Proc) (e : left.procs ≡ q ∷ qs) where
    pub first_sound : sound_proc p q ≡ true
    first_sound = (and_parts (sound_proc p q) _ (ap (all_of (sound_proc p)) (sym e) ∙ left.sound)).0

    pub weighs_more : (a u : ℕ) (j : List Instr) → a ≡ min (size_proc p q) most → u ≡ min (t + a) most → j ≡ code_procs qs [] → Weighs p j u
    unfolding size_procs
    weighs_more a u j is_a is_u behind = record {
      procs = qs;
      code = behind;
      sound = (and_parts (sound_proc p q) _ (ap (all_of (sound_proc p)) (sym e) ∙ left.sound)).1;
      so_far = omega (arith, left.so_far, ap (size_procs p) e);
    }
