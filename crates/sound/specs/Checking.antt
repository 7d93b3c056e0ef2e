-- Soundness as code is gone through: what each instruction has to meet, with the names that there are where it stands.
use Rattle.std.specs.Prelude.{ℕ, zero, suc, ◌^◌, Bool, true, false, cond, not, ◌&&◌, List, [], ◌∷◌, ◌++◌, map, length, is_some, nat_le, nat_lt}
use Rattle.lang.specs.Base.{maybe, all_of, Word, distinct}
use Rattle.lang.specs.Instr.{Instr}
use Rattle.walk.specs.Roles.{Use, number, row, old_number, old_row, whole, Role, uses, counter, limit, counted, calls, passes, declares, sized, begins, part, leaves, plain, role, ends}
use Rattle.lang.specs.Soundness.{find_decl, find_proc, is_scalar, is_row, same_sizes, decl_name, scope, sound_expr, sound_bool, sound_block}
use Rattle.lang.specs.Syntax.{Decl, Proc, Program}
use Rattle.walk.specs.Walking.{passed}

-- how many `all` stand around, the names that there are, and those with which the procedure began
pub record Env : Type 0 where
  pub depth : ℕ
  pub names : List Decl
  pub olds : List Decl

-- may a name be used so?
abbrev pub usable : Env → Use → Word → Bool
usable e number x = is_scalar e.names x
usable e row x = is_row e.names x
usable e old_number x = is_scalar e.olds x
usable e old_row x = is_row e.olds x
usable e whole x = is_some (find_decl e.names x)

-- a name for an `all`
abbrev pub fresh : Env → Word → Bool
fresh e x = nat_lt e.depth 2 && not (is_some (find_decl e.names x))

-- how far an `all` counts
abbrev pub near : ℕ → ℕ → Bool
near w n = nat_le n 16 && nat_le n (2 ^ w)

-- a call of f with the arguments xs
abbrev pub callable : Program → Env → Word → List Word → Bool
callable p e f xs = maybe (find_proc p.procs f) false λ q. distinct xs && same_sizes e.names q.params xs

-- what an instruction has to meet; k: the code behind it
abbrev pub meets : Program → Env → Role → List Instr → Bool
meets p e (uses u x) k = usable e u x
meets p e (counter x) k = fresh e x
meets p e (limit n) k = near p.width n
meets p e counted k = true
meets p e (calls f) k = callable p e f (passed k)
meets p e (passes x) k = true
meets p e (declares x) k = true
meets p e (sized n) k = true
meets p e (begins f) k = true
meets p e (part n) k = true
meets p e leaves k = true
meets p e plain k = true

abbrev pub one_less : ℕ → ℕ
one_less zero = zero
one_less (suc n) = n

abbrev pub all_but_first : List Decl → List Decl
all_but_first [] = []
all_but_first (d ∷ ds) = ds

-- the first names are those of `all`, so many
abbrev pub without_first : ℕ → List Decl → List Decl
without_first zero ds = ds
without_first (suc n) ds = all_but_first ds

-- an `all` begins, with its name, and ends
abbrev pub inside : Env → Word → Env
inside e x = record { depth = suc e.depth; names = record { name = x; size = 0 } ∷ e.names; olds = e.olds }

abbrev pub outside : Env → Env
outside e = record { depth = one_less e.depth; names = without_first e.depth e.names; olds = e.olds }

-- what there is behind an instruction
abbrev pub behind : Env → Role → Env
behind e (uses u x) = e
behind e (counter x) = inside e x
behind e (limit n) = e
behind e counted = outside e
behind e (calls f) = e
behind e (passes x) = e
behind e (declares x) = e
behind e (sized n) = e
behind e (begins f) = e
behind e (part n) = e
behind e leaves = e
behind e plain = e

-- each instruction up to the end of the head or the body with which the code begins
unfoldable pub meets_all : Program → Env → List Instr → Bool
meets_all p e [] = true
meets_all p e (i ∷ k) = cond (ends (role i)) true (meets p e (role i) k && meets_all p (behind e (role i)) k)

-- no name of ds comes again in ds or in es
unfoldable pub apart : List Decl → List Decl → Bool
apart [] es = true
apart (d ∷ ds) es = not (is_some (find_decl (ds ++ es) d.name)) && apart ds es

-- the parameters ps and locals ls of a procedure
abbrev pub well_declared : List Decl → List Decl → Bool
well_declared ps ls = nat_le (length (ps ++ ls)) 64 && (distinct (map decl_name (ps ++ ls)) && all_of (λ d. nat_le d.size 16) (ps ++ ls))

-- names of procedures and what is declared in them
unfoldable pub all_declared : List Proc → Bool
all_declared [] = true
all_declared (q ∷ qs) = not (is_some (find_proc qs q.name)) && (well_declared q.params q.locals && all_declared qs)

-- what is said of a procedure, and its statements
abbrev pub well_written : Program → Proc → Bool
well_written p q = (sound_bool p.width 0 q.params q.params q.pre && (sound_bool p.width 0 q.params q.params q.post && sound_expr q.params q.params q.measure)) && sound_block p (scope q) q.params q.body
