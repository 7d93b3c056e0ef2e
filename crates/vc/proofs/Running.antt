-- What is shown of each statement: a run from a state that the walk has reached comes to one that the walk has reached behind it.
use Rattle.std.proofs.Common.{◌≡◌, ℕ, zero, suc, ◌^◌, ◌<◌, ◌≤◌, Bool, true, false, ◌&&◌, List, Some, None, Option, unwrap_or, sym, refl, ap, ◌∙◌, arith}
use Rattle.std.proofs.lemmas.Bool.{and_parts, both_ways}
use Rattle.lang.specs.Base.{when, Word}
use Rattle.lang.specs.Meaning.{State, scalar, eval, holds, Run, Outcome, ok, exec, exec_block}
use Rattle.lang.specs.Soundness.{is_scalar, scope, sound_expr, sound_bool, sound_stmt, sound_block}
use Rattle.lang.specs.Syntax.{Expr, BoolExpr, Stmt, Block, Decl, Proc, Program}
use Rattle.vc.proofs.Agreement.{some_injective, Knows, Agrees, Settles, expr_agrees, bool_agrees}
use Rattle.vc.proofs.States.{state_of, knows, Outside, Agree, Reaches}
use Rattle.vc.specs.Conditions.{SymState, Context, evaluated, judged, changed, changed_block, walk_stmt, walk_block}
use Rattle.vc.specs.Symbolic.{Setting, lookup, single, Evaluated, Judged, symbolic_expr, assured}
use Rattle.vc.specs.Terms.{value, truth_of}
use Rattle.vc.specs.Theorem.{AllValid, Fits}

-- A procedure of a program, and the state of its parameters in which it was begun. A written number that fits stands for itself.
pub record Scene : Type 0 where
  pub program : Program
  pub literal : ℕ → ℕ
  pub faithful : (n : ℕ) → n < 2 ^ program.width → literal n ≡ n
  pub proc : Proc
  pub begin : State
  pub fits : Fits program.width proc.params begin

abbrev pub setting_of : Scene → Setting
setting_of c = record { width = c.program.width; literal = c.literal }

abbrev pub context_of : Scene → Context
context_of c = record { setting = setting_of c; procs = c.program.procs; proc = c.proc }

abbrev pub bits : Scene → ℕ
bits c = c.program.width

abbrev pub names : Scene → List Decl
names c = scope c.proc

abbrev pub at : State → List ℕ → Run
at st cs = record { state = st; choices = cs }

pub record Goes (c : Scene) (run : ℕ → Run → Outcome) (xs : List Word) (v v' : SymState) (g : ℕ → ℕ) (st : State) (cs : List ℕ) : Type 0 where
  pub numbers : ℕ → ℕ
  pub agrees : Agree v.next g numbers
  pub fuel : ℕ
  pub ending : Run
  pub runs : (k : ℕ) → fuel ≤ k → run k (at st cs) ≡ ok ending
  pub reaches : Reaches (bits c) numbers v' ending.state c.begin
  pub fits : Fits (bits c) (names c) ending.state
  pub outside : Outside xs st ending.state

abbrev pub run_stmt : Scene → Stmt → ℕ → Run → Outcome
run_stmt c s k r = exec k c.program c.begin s r

abbrev pub run_block : Scene → Block → ℕ → Run → Outcome
run_block c b k r = exec_block k c.program c.begin b r

abbrev pub StmtGoes : Scene → Stmt → Type 0
StmtGoes c s =
    (v : SymState) → sound_stmt c.program (names c) c.proc.params s ≡ true → AllValid (bits c) (walk_stmt (context_of c) v s).conditions → (g : ℕ → ℕ) (st : State) (cs : List ℕ) → Reaches (bits c) g v st c.begin → Fits (bits c) (names c) st → Goes c (run_stmt c s) (changed s) v (walk_stmt (context_of c) v s) g st cs

abbrev pub BlockGoes : Scene → Block → Type 0
BlockGoes c b =
    (v : SymState) → sound_block c.program (names c) c.proc.params b ≡ true → AllValid (bits c) (walk_block (context_of c) v b).conditions → (g : ℕ → ℕ) (st : State) (cs : List ℕ) → Reaches (bits c) g v st c.begin → Fits (bits c) (names c) st → Goes c (run_block c b) (changed_block b) v (walk_block (context_of c) v b) g st cs

-- fuel of one more
pub from_one : (P : ℕ → Type 0) → ((k : ℕ) → P (suc k)) → (k : ℕ) → 1 ≤ k → P k
from_one P f zero l = absurd (omega arith)
from_one P f (suc k) l = f k

pub from_suc : (P : ℕ → Type 0) (n : ℕ) → ((k : ℕ) → n ≤ k → P (suc k)) → (k : ℕ) → suc n ≤ k → P k
from_suc P n f zero l = absurd (omega arith)
from_suc P n f (suc k) l = f k (omega arith)

-- Evaluation where terms agree.
pub evaluates : {w : ℕ} {g : ℕ → ℕ} {r : Option ℕ} {t : Evaluated} → Agrees w g r t → truth_of w g t.safe ≡ true → r ≡ Some (value w g t.term)
evaluates a e = a.is ∙ rw e

pub settles : {w : ℕ} {g : ℕ → ℕ} {r : Option Bool} {x : Judged} → Settles w g r x → truth_of w g x.safe ≡ true → r ≡ Some (truth_of w g x.formula)
settles a e = a.is ∙ rw e

pub assured_holds : {w : ℕ} {g : ℕ → ℕ} {r : Option Bool} {x : Judged} → Settles w g r x → truth_of w g (assured x) ≡ true → r ≡ Some true
unfolding truth_of
assured_holds {w} {g} {r} {x} a e =
    let p = and_parts (truth_of w g x.safe) _ e in
    settles a p.0 ∙ ap Some p.1

some_true : (s f : Bool) → when s (Some f) ≡ Some true → (s && f) ≡ true
some_true true f e = some_injective e
some_true false f e = let z : ◌≡◌ {A = ℕ} 0 1 = cc in absurd (omega arith)

pub holds_assured : {w : ℕ} {g : ℕ → ℕ} {r : Option Bool} {x : Judged} → Settles w g r x → r ≡ Some true → truth_of w g (assured x) ≡ true
unfolding truth_of
holds_assured {w} {g} {r} {x} a e = some_true (truth_of w g x.safe) (truth_of w g x.formula) (sym a.is ∙ e)

pub value_true : (r : Option Bool) → unwrap_or r false ≡ true → r ≡ Some true
value_true None e = absurd (both_ways false refl e)
value_true (Some b) e = ap Some e

module _ (c : Scene) (v : SymState) {g : ℕ → ℕ} {st : State} (r : Reaches (bits c) g v st c.begin) (f : Fits (bits c) (names c) st) (h : ℕ → ℕ) (a : Agree v.next g h) where
  pub knows_now : Knows (bits c) h (names c) st v.current
  knows_now =
      let e = r.now_is h a in
      let known : Knows (bits c) h (names c) (state_of (bits c) h v.current) v.current = record { at = knows (bits c) h (names c) v.current (rw e f) } in
      rw e at known

  pub knows_began : Knows (bits c) h c.proc.params c.begin v.initial
  knows_began =
      let e = r.began h a in
      let known : Knows (bits c) h c.proc.params (state_of (bits c) h v.initial) v.initial = record { at = knows (bits c) h c.proc.params v.initial (rw e c.fits) } in
      rw e at known

  pub expr_at : (e : Expr) → sound_expr (names c) c.proc.params e ≡ true → Agrees (bits c) h (eval (bits c) st c.begin e) (evaluated (context_of c) v e)
  expr_at e s = expr_agrees (bits c) c.literal c.faithful h (names c) c.proc.params st c.begin v.current v.initial e knows_now knows_began s

  pub bool_at : (b : BoolExpr) → sound_bool (bits c) 0 (names c) c.proc.params b ≡ true → Settles (bits c) h (holds (bits c) st c.begin b) (judged (context_of c) v b)
  bool_at b s = bool_agrees (bits c) c.literal c.faithful h 0 (names c) c.proc.params st c.begin v.current v.initial b knows_now knows_began s

  -- the number of a name
  pub scalar_at : (x : Word) → is_scalar (names c) x ≡ true → scalar st x ≡ Some (value (bits c) h (single (lookup v.current x)))
  unfolding eval symbolic_expr sound_expr truth_of
  scalar_at x s = evaluates (expr_at (Expr.var x) s) refl
