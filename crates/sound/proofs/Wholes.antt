-- Whole procedures and programs: what is checked of them one after the other is that they are sound.
use Rattle.std.proofs.Common.{Bor, Option, MatchOption, ◌≡◌, ℕ, Bool, true, false, not, ◌&&◌, leb, List, [], ◌∷◌, map, length, is_some, Some, None, sym, refl, ◌∙◌, append-nil}
use Rattle.std.proofs.Math.Bool.{and_assoc, and-true, and-false}
use Rattle.lang.specs.Base.{all_of, Word, same, among, distinct}
use Rattle.sound.specs.Checking.{Env, meets_all, well_declared, all_declared, well_written}
use Rattle.lang.specs.Code.{code_block, code_locals, code_procs}
use Rattle.lang.specs.Instr as instr
use Rattle.lang.specs.Instr.{Instr}
use Rattle.lang.specs.Soundness.{find_proc, decl_name, proc_name, scope, sound_expr, sound_bool, sound_block, sound_proc, sound}
use Rattle.lang.specs.Syntax.{Decl, Proc, Program}
use Rattle.sound.specs.Scopes.{env}
use Rattle.walk.specs.Listing.{declared_in, GivesProcedure}
use Rattle.walk.specs.declared.procedures.Procedures.{Procedures}
use Rattle.walk.proofs.Listing.{no_procs, procs_behind}
use Rattle.walk.specs.declared.declarations.Declarations.{Declarations}
use Rattle.walk.specs.Walking.{rest, name_of, declared, code_head, Laid, ProcAt, ProcFound, Left}
use Rattle.lang.specs.declared.program.Program as lent
use Rattle.walk.specs.declared.nest.Nest.TheVariants.{Zero}
use Rattle.sound.specs.declared.scope.Scope.{Scope}
use Rattle.walk.specs.declared.procedures.Outline.{Outline}
use Rattle.walk.specs.declared.procedures.Procedure.{Procedure}
use Rattle.sound.proofs.Checking.{expr_meets, bool_meets, block_meets}
use Rattle.walk.proofs.Among.{same_symmetric}
use Rattle.sound.proofs.Naming.{some_or}

-- a head ends in front of locals or the body
ends_there : (p : Program) (e : Env) (ds : List Decl) (n : ℕ) (k : List Instr) → meets_all p e (code_locals ds (instr.body n ∷ k)) ≡ true
unfolding meets_all
ends_there p e [] n k = refl
ends_there p e (d ∷ ds) n k = refl

module _ (p : Program) (q : Proc) where
  head_meets : (n : ℕ) (k : List Instr) → meets_all p (record { depth = 0; names = q.params; olds = q.params }) (code_head q (code_locals q.locals (instr.body n ∷ k))) ≡ (sound_bool p.width 0 q.params q.params q.pre && (sound_bool p.width 0 q.params q.params q.post && sound_expr q.params q.params q.measure))
  unfolding meets_all
  head_meets n k =
      let e : Env = record { depth = 0; names = q.params; olds = q.params } in
      rw (bool_meets p e q.pre _, bool_meets p e q.post _, expr_meets p e q.measure _, ends_there p e q.locals n k) (rw and-true refl)

  body_meets : (k : List Instr) → meets_all p (record { depth = 0; names = scope q; olds = q.params }) (code_block q.body (instr.end_proc ∷ k)) ≡ sound_block p (scope q) q.params q.body
  unfolding meets_all
  body_meets k = block_meets p (scope q) q.params q.body (instr.end_proc ∷ k) ∙ and-true _

-- what is known in a procedure outside of `all`
abbrev pub outside_all : Bor lent.Program → Declarations → Declarations → Scope
outside_all program ps ls = record { program = program; params = ps; locals = ls; counting = Zero }

-- a procedure by its outline, with its parameters ps and locals ls; in its head there are none, es
module _ (program : Bor lent.Program) (p : Program) (q : Proc) (k : List Instr) (o : Outline) (laid : Laid program.now o q k) (ps es : Declarations) (params : declared_in ps ≡ declared (rest program.now o.params)) (none : declared_in es ≡ []) where
  abbrev held : lent.Program
  held = program.now

  head_is : meets_all p (env (outside_all program ps es)) (rest held o.head) ≡ (sound_bool p.width 0 q.params q.params q.pre && (sound_bool p.width 0 q.params q.params q.post && sound_expr q.params q.params q.measure))
  head_is = rw (params, laid.params, none, append-nil q.params, laid.head) (head_meets p q _ _)

  pub head_unsound : false ≡ meets_all p (env (outside_all program ps es)) (rest held o.head) → false ≡ well_written p q
  head_unsound t = rw (← head_is, ← t)

  module _ (ls : Declarations) (locals : declared_in ls ≡ declared (rest held o.locals)) where
    body_is : meets_all p (env (outside_all program ps ls)) (rest held o.body) ≡ sound_block p (scope q) q.params q.body
    body_is = rw (params, laid.params, locals, laid.locals, laid.body) (body_meets p q k)

    pub head_sound : true ≡ meets_all p (env (outside_all program ps es)) (rest held o.head) → meets_all p (env (outside_all program ps ls)) (rest held o.body) ≡ well_written p q
    head_sound t = rw (← head_is, ← t) body_is

regroup : (d r l a b c s : Bool) → (d && (r && (l && (a && (b && (c && s)))))) ≡ ((l && (d && r)) && ((a && (b && c)) && s))
regroup true true true a b c s = simp and_assoc
regroup true true false a b c s = refl
regroup true false true a b c s = refl
regroup true false false a b c s = refl
regroup false r true a b c s = refl
regroup false r false a b c s = refl

pub proc_parts : (p : Program) (q : Proc) → sound_proc p q ≡ (well_declared q.params q.locals && well_written p q)
unfolding sound_proc
proc_parts p q = regroup (distinct (map decl_name (scope q))) (all_of (λ d. leb d.size 16) (scope q)) (leb (length (scope q)) 64) (sound_bool p.width 0 q.params q.params q.pre) (sound_bool p.width 0 q.params q.params q.post) (sound_expr q.params q.params q.measure) (sound_block p (scope q) q.params q.body)

among_procs : (x : Word) (qs : List Proc) → among x (map proc_name qs) ≡ is_some (find_proc qs x)
unfolding find_proc
among_procs x [] = refl
among_procs x (q ∷ qs) = rw (same_symmetric x q.name, among_procs x qs) (sym (some_or (same q.name x) q (find_proc qs x)))

shuffle : (n d w s o a t : Bool) → (s && o) ≡ (a && t) → ((n && s) && ((d && w) && o)) ≡ ((n && (d && a)) && (w && t))
shuffle true true true s o a t e = e
shuffle true true false s o a t e = and-false s ∙ sym (and-false a)
shuffle true false w s o a t e = and-false s
shuffle false d w s o a t e = refl

procs_parts : (p : Program) (qs : List Proc) → (distinct (map proc_name qs) && all_of (sound_proc p) qs) ≡ (all_declared qs && all_of (well_written p) qs)
unfolding all_declared
procs_parts p [] = refl
procs_parts p (q ∷ qs) = rw (among_procs q.name qs, proc_parts p q) (shuffle (not (is_some (find_proc qs q.name))) (well_declared q.params q.locals) (well_written p q) (distinct (map proc_name qs)) (all_of (sound_proc p) qs) (all_declared qs) (all_of (well_written p) qs) (procs_parts p qs))

module _ (p : Program) where
  sound_parts : sound p ≡ ((leb 1 p.width && leb p.width 64) && (all_declared p.procs && all_of (well_written p) p.procs))
  unfolding sound
  sound_parts = rw (and_assoc, procs_parts p p.procs)

  module _ {w : ℕ} (width : w ≡ p.width) where
    pub no_width : false ≡ (leb 1 w && leb w 64) → false ≡ sound p
    no_width t = sym (sound_parts ∙ rw (← width, ← t) refl)

    module _ (wide : true ≡ (leb 1 w && leb w 64)) where
      pub not_all_declared : false ≡ all_declared p.procs → false ≡ sound p
      not_all_declared t = sym (sound_parts ∙ rw (← width, ← wide, ← t) refl)

      pub sound_if_written : true ≡ all_declared p.procs → all_of (well_written p) p.procs ≡ sound p
      sound_if_written t = sym (sound_parts ∙ rw (← width, ← wide, ← t) refl)

same_found : (held : lent.Program) (qs : List Proc) (x : Word) (r : Option ℕ) → MatchOption r (find_proc qs x ≡ None) (λ i. ProcFound held i qs x) → is_some (find_proc qs x) ≡ is_some r
same_found held qs x None e = rw e refl
same_found held qs x (Some i) f = rw f.found refl

-- procedure by procedure, what is declared; s, t: the procedures that are left, before and behind a call of `next`
module _ (held : lent.Program) (s t : Procedures) (here : s.program.now ≡ held) (value : Bool) (left : Left all_declared (rest held s.at) value) where
  pub all_seen : GivesProcedure s None t → true ≡ value
  unfolding all_declared
  all_seen g = sym (sym left.same ∙ rw (no_procs held s t here g left.procs left.code) refl)

  module _ (f : Procedure) (g : GivesProcedure s (Some f) t) (at : ProcAt held s.at f left.procs) where
    first_seen : value ≡ (not (is_some (find_proc at.others (name_of f))) && (well_declared at.this.params at.this.locals && all_declared at.others))
    unfolding all_declared
    first_seen = sym left.same ∙ rw (at.split, at.name)

    module _ (r : Option ℕ) (again : MatchOption r (find_proc at.others (name_of f) ≡ None) (λ i. ProcFound held i at.others (name_of f))) where
      seen : value ≡ (not (is_some r) && (well_declared at.this.params at.this.locals && all_declared at.others))
      seen = first_seen ∙ rw (same_found held at.others (name_of f) r again) refl

      pub seen_again : true ≡ is_some r → false ≡ value
      seen_again e = sym (seen ∙ rw (← e) refl)

      module _ (o : Outline) (laid : Laid held o at.this (code_procs at.others [])) (once : false ≡ is_some r) where
        first_declared : value ≡ (well_declared (declared (rest held o.params)) (declared (rest held o.locals)) && all_declared at.others)
        first_declared = seen ∙ rw (← once, laid.params, laid.locals) refl

        pub ill_declared : false ≡ well_declared (declared (rest held o.params)) (declared (rest held o.locals)) → false ≡ value
        ill_declared w = sym (first_declared ∙ rw (← w) refl)

        pub declared_so_far : true ≡ well_declared (declared (rest held o.params)) (declared (rest held o.locals)) → Left all_declared (rest held t.at) value
        declared_so_far w = record { procs = at.others; code = procs_behind held s t here f g ∙ at.behind; same = sym (first_declared ∙ rw (← w) refl) }

-- and a test of each
module _ (held : lent.Program) (s t : Procedures) (here : s.program.now ≡ held) (test : Proc → Bool) (value : Bool) (left : Left (all_of test) (rest held s.at) value) where
  pub all_tested : GivesProcedure s None t → true ≡ value
  all_tested g = sym (sym left.same ∙ rw (no_procs held s t here g left.procs left.code) refl)

  module _ (f : Procedure) (g : GivesProcedure s (Some f) t) (at : ProcAt held s.at f left.procs) where
    pub one_failed : false ≡ test at.this → false ≡ value
    one_failed e = sym (sym left.same ∙ rw (at.split, ← e) refl)

    pub tested_so_far : true ≡ test at.this → Left (all_of test) (rest held t.at) value
    tested_so_far e = record { procs = at.others; code = procs_behind held s t here f g ∙ at.behind; same = sym (sym left.same ∙ rw (at.split, ← e) refl) }
