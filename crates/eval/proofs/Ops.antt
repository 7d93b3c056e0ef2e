-- Expressions as rows of operations: their code, what they leave on the stacks, and how deep `all` stands in them.
use Rattle.std.proofs.Common.{◌≡◌, ℕ, suc, ◌+◌, ◌^◌, ◌<◌, ◌≤◌, max, true, not, ◌&&◌, ltb, leb, List, ◌∷◌, is_some, refl, ap, ◌∙◌, arith}
use Rattle.std.proofs.lemmas.Bool.{and_parts, ltb-true}
use Rattle.lang.specs.Code.{code_expr, code_bool}
use Rattle.lang.specs.Instr.{Instr}
use Rattle.lang.specs.Meaning.{State, eval, holds}
use Rattle.lang.specs.Soundness.{find_decl, sound_bool}
use Rattle.lang.specs.Syntax.{Expr, num, var, old, binary, index, old_index, BoolExpr, truth, compare, conj, disj, implies, negate, for_all, Decl}
use Rattle.walk.specs.Walking.{first}
use Rattle.eval.specs.Kinds.{operand}
use Rattle.eval.specs.Ops as ops
use Rattle.eval.specs.Ops.{Op, code_ops, ops_expr, ops_bool, nesting, ops_nesting, push_number, push_truth, apply_all}
use Rattle.eval.specs.declared.stacks.Stacks.{Stacks}

-- their code
pub code_ops_expr : (e : Expr) (os : List Op) (k : List Instr) → code_ops (ops_expr e os) k ≡ code_expr e (code_ops os k)
unfolding code_ops ops_expr code_expr
code_ops_expr (num n) os k = refl
code_ops_expr (var x) os k = refl
code_ops_expr (old x) os k = refl
code_ops_expr (binary o a b) os k = code_ops_expr a (ops_expr b (ops.binary o ∷ os)) k ∙ ap (code_expr a) (code_ops_expr b (ops.binary o ∷ os) k)
code_ops_expr (index x i) os k = code_ops_expr i (ops.index x ∷ os) k
code_ops_expr (old_index x i) os k = code_ops_expr i (ops.old_index x ∷ os) k

pub code_ops_bool : (b : BoolExpr) (os : List Op) (k : List Instr) → code_ops (ops_bool b os) k ≡ code_bool b (code_ops os k)
unfolding code_ops ops_bool code_bool
code_ops_bool truth os k = refl
code_ops_bool (compare o a b) os k = code_ops_expr a (ops_expr b (ops.compare o ∷ os)) k ∙ ap (code_expr a) (code_ops_expr b (ops.compare o ∷ os) k)
code_ops_bool (conj a b) os k = code_ops_bool a (ops_bool b (ops.conj ∷ os)) k ∙ ap (code_bool a) (code_ops_bool b (ops.conj ∷ os) k)
code_ops_bool (disj a b) os k = code_ops_bool a (ops_bool b (ops.disj ∷ os)) k ∙ ap (code_bool a) (code_ops_bool b (ops.disj ∷ os) k)
code_ops_bool (implies a b) os k = code_ops_bool a (ops_bool b (ops.implies ∷ os)) k ∙ ap (code_bool a) (code_ops_bool b (ops.implies ∷ os) k)
code_ops_bool (negate a) os k = code_ops_bool a (ops.negate ∷ os) k
code_ops_bool (for_all x n a) os k = refl

-- what they leave on the stacks
module _ (w : ℕ) (s o : State) where
  pub apply_expr : (e : Expr) (os : List Op) (st : Stacks) → apply_all w s o (ops_expr e os) st ≡ apply_all w s o os (push_number (eval w s o e) st)
  unfolding apply_all ops_expr eval
  apply_expr (num n) os st = refl
  apply_expr (var x) os st = refl
  apply_expr (old x) os st = refl
  apply_expr (binary k a b) os st = apply_expr a (ops_expr b (ops.binary k ∷ os)) st ∙ apply_expr b (ops.binary k ∷ os) (push_number (eval w s o a) st)
  apply_expr (index x i) os st = apply_expr i (ops.index x ∷ os) st
  apply_expr (old_index x i) os st = apply_expr i (ops.old_index x ∷ os) st

module _ (w : ℕ) (o : State) where
  pub apply_bool : (s : State) (b : BoolExpr) (os : List Op) (st : Stacks) → apply_all w s o (ops_bool b os) st ≡ apply_all w s o os (push_truth (holds w s o b) st)
  unfolding apply_all ops_bool holds
  apply_bool s truth os st = refl
  apply_bool s (compare k a b) os st = apply_expr w s o a (ops_expr b (ops.compare k ∷ os)) st ∙ apply_expr w s o b (ops.compare k ∷ os) (push_number (eval w s o a) st)
  apply_bool s (conj a b) os st = apply_bool s a (ops_bool b (ops.conj ∷ os)) st ∙ apply_bool s b (ops.conj ∷ os) (push_truth (holds w s o a) st)
  apply_bool s (disj a b) os st = apply_bool s a (ops_bool b (ops.disj ∷ os)) st ∙ apply_bool s b (ops.disj ∷ os) (push_truth (holds w s o a) st)
  apply_bool s (implies a b) os st = apply_bool s a (ops_bool b (ops.implies ∷ os)) st ∙ apply_bool s b (ops.implies ∷ os) (push_truth (holds w s o a) st)
  apply_bool s (negate a) os st = apply_bool s a (ops.negate ∷ os) st
  apply_bool s (for_all x n a) os st = refl

-- how deep `all` stands in them
flat : (n : ℕ) → max 0 n ≡ n
flat n = omega arith

pub nesting_expr : (e : Expr) (os : List Op) → ops_nesting (ops_expr e os) ≡ ops_nesting os
unfolding ops_nesting ops_expr
nesting_expr (num n) os = flat (ops_nesting os)
nesting_expr (var x) os = flat (ops_nesting os)
nesting_expr (old x) os = flat (ops_nesting os)
nesting_expr (binary o a b) os = nesting_expr a (ops_expr b (ops.binary o ∷ os)) ∙ nesting_expr b (ops.binary o ∷ os) ∙ flat (ops_nesting os)
nesting_expr (index x i) os = nesting_expr i (ops.index x ∷ os) ∙ flat (ops_nesting os)
nesting_expr (old_index x i) os = nesting_expr i (ops.old_index x ∷ os) ∙ flat (ops_nesting os)

pub nesting_bool : (b : BoolExpr) (os : List Op) → ops_nesting (ops_bool b os) ≡ max (nesting b) (ops_nesting os)
unfolding ops_nesting ops_bool nesting
nesting_bool truth os = refl
nesting_bool (compare o a b) os = nesting_expr a (ops_expr b (ops.compare o ∷ os)) ∙ nesting_expr b (ops.compare o ∷ os)
nesting_bool (conj a b) os = omega (arith, nesting_bool a (ops_bool b (ops.conj ∷ os)), nesting_bool b (ops.conj ∷ os), flat (ops_nesting os))
nesting_bool (disj a b) os = omega (arith, nesting_bool a (ops_bool b (ops.disj ∷ os)), nesting_bool b (ops.disj ∷ os), flat (ops_nesting os))
nesting_bool (implies a b) os = omega (arith, nesting_bool a (ops_bool b (ops.implies ∷ os)), nesting_bool b (ops.implies ∷ os), flat (ops_nesting os))
nesting_bool (negate a) os = nesting_bool a (ops.negate ∷ os) ∙ ap (max (nesting a)) (flat (ops_nesting os))
nesting_bool (for_all x n a) os = refl

-- in a sound program it is two deep at most
pub sound_nesting : (w n : ℕ) (ds os : List Decl) (b : BoolExpr) → n ≤ 2 → sound_bool w n ds os b ≡ true → n + nesting b ≤ 2
unfolding sound_bool nesting
sound_nesting w n ds os truth h e = omega arith
sound_nesting w n ds os (compare o a b) h e = omega arith
sound_nesting w n ds os (conj a b) h e =
    let parts = and_parts (sound_bool w n ds os a) (sound_bool w n ds os b) e in
    omega (arith, sound_nesting w n ds os a h parts.0, sound_nesting w n ds os b h parts.1)
sound_nesting w n ds os (disj a b) h e =
    let parts = and_parts (sound_bool w n ds os a) (sound_bool w n ds os b) e in
    omega (arith, sound_nesting w n ds os a h parts.0, sound_nesting w n ds os b h parts.1)
sound_nesting w n ds os (implies a b) h e =
    let parts = and_parts (sound_bool w n ds os a) (sound_bool w n ds os b) e in
    omega (arith, sound_nesting w n ds os a h parts.0, sound_nesting w n ds os b h parts.1)
sound_nesting w n ds os (negate a) h e = sound_nesting w n ds os a h e
sound_nesting w n ds os (for_all x k a) h e =
    let inner = sound_bool w (suc n) (record { name = x; size = 0 } ∷ ds) os a in
    let one = and_parts (ltb n 2) (leb k 16 && (leb k (2 ^ w) && (not (is_some (find_decl ds x)) && inner))) e in
    let two = and_parts (leb k 16) (leb k (2 ^ w) && (not (is_some (find_decl ds x)) && inner)) one.1 in
    let three = and_parts (leb k (2 ^ w)) (not (is_some (find_decl ds x)) && inner) two.1 in
    let four = and_parts (not (is_some (find_decl ds x))) inner three.1 in
    let less : n < 2 = ltb-true n 2 one.0 in
    omega (arith, sound_nesting w (suc n) (record { name = x; size = 0 } ∷ ds) os a less four.1)

-- their first instructions
pub first_expr : (e : Expr) (k : List Instr) → operand (first (code_expr e k)) ≡ true
unfolding code_expr
first_expr (num n) k = refl
first_expr (var x) k = refl
first_expr (old x) k = refl
first_expr (binary o a b) k = first_expr a _
first_expr (index x i) k = first_expr i _
first_expr (old_index x i) k = first_expr i _

pub first_bool : (b : BoolExpr) (k : List Instr) → operand (first (code_bool b k)) ≡ true
unfolding code_bool
first_bool truth k = refl
first_bool (compare o a b) k = first_expr a _
first_bool (conj a b) k = first_bool a _
first_bool (disj a b) k = first_bool a _
first_bool (implies a b) k = first_bool a _
first_bool (negate a) k = first_bool a _
first_bool (for_all x n a) k = refl
