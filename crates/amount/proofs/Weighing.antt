-- Gone through as code, a sound piece of a program weighs as much as there is to show of it.
use Rattle.std.proofs.Common.{◌≡◌, ℕ, zero, suc, ◌+◌, ◌*◌, ◌^◌, ◌<◌, ◌≤◌, min, true, not, ltb, leb, List, [], ◌∷◌, is_some, sym, refl, ◌∙◌, mul_assoc, mul-le-mul, mul-one, mul-add, arith}
use Rattle.std.proofs.lemmas.Bool.{and_parts, ltb-true, leb-true}
use Rattle.lang.specs.Amount.{size_expr, size_bool, size_stmt, size_block}
use Rattle.lang.specs.Base.{Word}
use Rattle.lang.specs.Code.{code_expr, code_bool, code_args, code_stmt, code_block}
use Rattle.lang.specs.Instr as instr
use Rattle.lang.specs.Instr.{Instr}
use Rattle.lang.specs.Soundness.{find_decl, sound_expr, sound_bool, sound_stmt, sound_block}
use Rattle.lang.specs.Syntax.{Expr, num, var, old, binary, index, old_index, BoolExpr, truth, compare, conj, disj, implies, negate, for_all, Stmt, assign, store, branch, loop, check, call, havoc, Block, end, seq, Decl, Program}
use Rattle.amount.specs.Weighing.{times, back, turned, level, most, weighed, call_size}
use Rattle.amount.specs.declared.factors.Factors.{Factors}

-- Where n `all` stand around, there is room for what is inside the others, and their numbers are small.
abbrev pub Room : ℕ → Factors → Type 0
Room zero s = (s.outer ≡ s.now) × (s.outermost ≡ s.now) × (s.now ≤ 3)
Room (suc zero) s = (s.outermost ≡ s.outer) × (s.now ≤ 48)
Room (suc (suc n)) s = Unit {0}

-- an `all` that counts to c begins and ends there
pub record Enters (m d c : ℕ) (s : Factors) : Type 0 where
  pub room : Room (suc d) (turned m s (times c))
  pub now : (turned m s (times c)).now ≡ s.now * c
  pub out : turned m (turned m s (times c)) back ≡ s

enters : (m d c : ℕ) (s : Factors) → Room d s → d < 2 → c ≤ 16 → Enters m d c s
enters m zero c s h l le =
    let small : s.now * c ≤ 3 * 16 = mul-le-mul h.2 le in
    let now : min (s.now * c) most ≡ s.now * c = omega arith in
    record { room = (h.0, omega arith); now = now; out = λ i. record { now = s.now; outer = s.outer; outermost = (h.0 ∙ sym h.1) i } }
enters m (suc zero) c s h l le =
    let small : s.now * c ≤ 48 * 16 = mul-le-mul h.1 le in
    let now : min (s.now * c) most ≡ s.now * c = omega arith in
    record { room = tt; now = now; out = λ i. record { now = s.now; outer = s.outer; outermost = sym h.0 i } }
enters m (suc (suc d)) c s h l le = absurd (omega arith)

-- what is sound of an `all`
pub record Counts (w d : ℕ) (ds os : List Decl) (x : Word) (c : ℕ) (a : BoolExpr) : Type 0 where
  pub shallow : d < 2
  pub near : c ≤ 16
  pub inside : sound_bool w (suc d) (record { name = x; size = 0 } ∷ ds) os a ≡ true

counts_if_sound : (w d : ℕ) (ds os : List Decl) (x : Word) (c : ℕ) (a : BoolExpr) → sound_bool w d ds os (for_all x c a) ≡ true → Counts w d ds os x c a
unfolding sound_bool
counts_if_sound w d ds os x c a t =
    let one = and_parts (ltb d 2) _ t in
    let two = and_parts (leb c 16) _ one.1 in
    let three = and_parts (leb c (2 ^ w)) _ two.1 in
    record { shallow = ltb-true d 2 one.0; near = leb-true c 16 two.0; inside = (and_parts (not (is_some (find_decl ds x))) _ three.1).1 }

module _ (g : Word → ℕ) (n m : ℕ) where
  pub expr_weighs : (s : Factors) (e : Expr) (k : List Instr) → weighed g n m s (code_expr e k) ≡ s.now * size_expr e + weighed g n m s k
  unfolding code_expr size_expr weighed
  expr_weighs s (num x) k = omega arith
  expr_weighs s (var x) k = omega arith
  expr_weighs s (old x) k = omega arith
  expr_weighs s (binary o a b) k = rw (expr_weighs s a (code_expr b (instr.binary o ∷ k)), expr_weighs s b (instr.binary o ∷ k)) (simp mul-add (omega arith))
  expr_weighs s (index x i) k = rw (expr_weighs s i (instr.index x ∷ k)) (simp mul-add (omega arith))
  expr_weighs s (old_index x i) k = rw (expr_weighs s i (instr.old_index x ∷ k)) (simp mul-add (omega arith))

  spread : (x c size : ℕ) → x * (1 + c * (1 + size)) ≡ x + (x * c + x * c * size)
  spread x c size = simp (mul-add, mul-one, ← (mul_assoc x c size)) (omega arith)

  pub bool_weighs : (w d : ℕ) (ds os : List Decl) (s : Factors) (b : BoolExpr) (k : List Instr) → sound_bool w d ds os b ≡ true → Room d s → weighed g n m s (code_bool b k) ≡ s.now * size_bool b + weighed g n m s k
  unfolding code_bool size_bool weighed sound_bool
  bool_weighs w d ds os s truth k t h = omega arith
  bool_weighs w d ds os s (compare o a b) k t h = rw (expr_weighs s a (code_expr b (instr.compare o ∷ k)), expr_weighs s b (instr.compare o ∷ k)) (simp mul-add (omega arith))
  bool_weighs w d ds os s (conj a b) k t h =
      let both = and_parts (sound_bool w d ds os a) _ t in
      rw (bool_weighs w d ds os s a (code_bool b (instr.conj ∷ k)) both.0 h, bool_weighs w d ds os s b (instr.conj ∷ k) both.1 h) (simp mul-add (omega arith))
  bool_weighs w d ds os s (disj a b) k t h =
      let both = and_parts (sound_bool w d ds os a) _ t in
      rw (bool_weighs w d ds os s a (code_bool b (instr.disj ∷ k)) both.0 h, bool_weighs w d ds os s b (instr.disj ∷ k) both.1 h) (simp mul-add (omega arith))
  bool_weighs w d ds os s (implies a b) k t h =
      let both = and_parts (sound_bool w d ds os a) _ t in
      rw (bool_weighs w d ds os s a (code_bool b (instr.implies ∷ k)) both.0 h, bool_weighs w d ds os s b (instr.implies ∷ k) both.1 h) (simp mul-add (omega arith))
  bool_weighs w d ds os s (negate a) k t h = rw (bool_weighs w d ds os s a (instr.negate ∷ k) t h) (simp mul-add (omega arith))
  bool_weighs w d ds os s (for_all x c a) k t h =
      let is = counts_if_sound w d ds os x c a t in
      let in_all = enters m d c s h is.shallow is.near in
      rw (bool_weighs w (suc d) (record { name = x; size = 0 } ∷ ds) os (turned m s (times c)) a (instr.end_all ∷ k) is.inside in_all.room, in_all.now, in_all.out, spread s.now c (size_bool a)) (omega arith)

  args_weigh : (s : Factors) (xs : List Word) (k : List Instr) → weighed g n m s (code_args xs k) ≡ weighed g n m s k
  unfolding weighed
  args_weigh s [] k = refl
  args_weigh s (x ∷ xs) k = rw (args_weigh s xs k) (omega arith)

pub level_room : (c : ℕ) → c ≤ 3 → Room 0 (level c)
level_room c h = (refl, refl, h)

module _ (p : Program) (n : ℕ) (ds os : List Decl) where
  abbrev weighs : ℕ → List Instr → ℕ
  weighs c k = weighed (call_size p n) n 2 (level c) k

  mutual
    unfolding code_stmt size_stmt sound_stmt weighed

    pub stmt_weighs : (s : Stmt) (k : List Instr) → sound_stmt p ds os s ≡ true → weighs 1 (code_stmt s k) ≡ size_stmt p n s + weighs 1 k
    stmt_weighs (assign x e) k t = rw (expr_weighs (call_size p n) n 2 (level 1) e (instr.assign x ∷ k)) (omega arith)
    stmt_weighs (store x i e) k t = rw (expr_weighs (call_size p n) n 2 (level 1) i (code_expr e (instr.store x ∷ k)), expr_weighs (call_size p n) n 2 (level 1) e (instr.store x ∷ k)) (omega arith)
    stmt_weighs (branch b c d) k t =
        let one = and_parts (sound_bool p.width 0 ds os b) _ t in
        let two = and_parts (sound_block p ds os c) _ one.1 in
        rw (bool_weighs (call_size p n) n 2 p.width 0 ds os (level 2) b _ one.0 (level_room 2 (omega arith)), block_weighs c _ two.0, block_weighs d _ two.1) (omega arith)
    stmt_weighs (loop b i e c) k t =
        let one = and_parts (sound_bool p.width 0 ds os b) _ t in
        let two = and_parts (sound_bool p.width 0 ds os i) _ one.1 in
        let three = and_parts (sound_expr ds os e) _ two.1 in
        rw (bool_weighs (call_size p n) n 2 p.width 0 ds os (level 2) b _ one.0 (level_room 2 (omega arith)), bool_weighs (call_size p n) n 2 p.width 0 ds os (level 3) i _ two.0 (level_room 3 (omega arith)), expr_weighs (call_size p n) n 2 (level 2) e _, block_weighs c _ three.1) (omega arith)
    stmt_weighs (check b) k t = rw (bool_weighs (call_size p n) n 2 p.width 0 ds os (level 1) b _ t (level_room 1 (omega arith))) (omega arith)
    stmt_weighs (call f xs) k t = rw (args_weigh (call_size p n) n 2 (level 1) xs (instr.end_call ∷ k)) (omega arith)
    stmt_weighs (havoc x) k t = omega arith

    pub block_weighs : (ss : Block) (k : List Instr) → sound_block p ds os ss ≡ true → weighs 1 (code_block ss k) ≡ size_block p n ss + weighs 1 k
    block_weighs end k t = omega arith
    block_weighs (seq s ss) k t =
        let both = and_parts (sound_stmt p ds os s) _ t in
        rw (stmt_weighs s (code_block ss k) both.0, block_weighs ss k both.1) (omega arith)
