-- The programs that the small texts read as.
use Rattle.std.specs.Prelude.{◌≡◌, ℕ, [], ◌∷◌, Some, codes}
use Prim.Native.String.{String}
use Rattle.lang.specs.Syntax.{Expr, num, var, old, binary, index, old_index, truth, compare, conj, for_all, assign, store, branch, check, call, havoc, end, seq, Decl, Proc, Program}
use Rattle.lang.specs.declared.syntax.ArithOp.TheVariants.{Add, Sub}
use Rattle.lang.specs.declared.syntax.Comparison.TheVariants.{Equal, Less, AtMost}
use Rattle.vc.specs.Worked as worked
use Rattle.vc.specs.Worked.{program_of}

abbrev number : String → Decl
number x = record { name = codes x; size = 0 }

abbrev row : String → ℕ → Decl
row x n = record { name = codes x; size = n }

abbrev now : String → Expr
now x = var (codes x)

abbrev at : String → Expr → Expr
at x i = index (codes x) i

abbrev pub sum : Program
sum =
    record {
      width = 3;
      procs = record {
        name = codes "f";
        params = number "x" ∷ number "y" ∷ [];
        pre = conj (compare Less (now "x") (num 4)) (compare Less (now "y") (num 4));
        post = compare Equal (now "x") (binary Add (old (codes "x")) (old (codes "y")));
        measure = num 0;
        locals = [];
        body = seq (assign (codes "x") (binary Add (now "x") (now "y"))) end;
      } ∷ [];
    }

abbrev pub most : Program
most =
    record {
      width = 2;
      procs = record {
        name = codes "mx";
        params = row "a" 2 ∷ number "m" ∷ [];
        pre = truth;
        post = for_all (codes "i") 2 (compare AtMost (at "a" (now "i")) (now "m"));
        measure = num 0;
        locals = [];
        body = seq (assign (codes "m") (at "a" (num 0))) (seq (branch (compare Less (now "m") (at "a" (num 1))) (seq (assign (codes "m") (at "a" (num 1))) end) end) end);
      } ∷ [];
    }

abbrev pub exchange : Program
exchange =
    record {
      width = 2;
      procs = record {
        name = codes "s";
        params = row "a" 2 ∷ number "i" ∷ number "j" ∷ [];
        pre = conj (compare Less (now "i") (num 2)) (compare Less (now "j") (num 2));
        post = conj (compare Equal (at "a" (now "i")) (old_index (codes "a") (now "j"))) (compare Equal (at "a" (now "j")) (old_index (codes "a") (now "i")));
        measure = num 0;
        locals = number "t" ∷ [];
        body = seq (assign (codes "t") (at "a" (now "i"))) (seq (store (codes "a") (now "i") (at "a" (now "j"))) (seq (store (codes "a") (now "j") (now "t")) end));
      } ∷ [];
    }

abbrev pub descent : Program
descent =
    record {
      width = 2;
      procs = record {
        name = codes "fac";
        params = number "n" ∷ [];
        pre = compare Less (now "n") (num 3);
        post = compare Equal (now "n") (num 0);
        measure = now "n";
        locals = [];
        body = seq (branch (compare Less (num 0) (now "n")) (seq (assign (codes "n") (binary Sub (now "n") (num 1))) (seq (call (codes "fac") (codes "n" ∷ [])) end)) end) end;
      } ∷ [];
    }

abbrev pub any_number : Program
any_number =
    record {
      width = 2;
      procs = record {
        name = codes "g";
        params = number "x" ∷ [];
        pre = truth;
        post = truth;
        measure = num 0;
        locals = [];
        body = seq (havoc (codes "x")) (seq (check (compare Less (now "x") (num 3))) end);
      } ∷ [];
    }

abbrev calling : String → String → Proc
calling f g = record { name = codes f; params = number "x" ∷ []; pre = truth; post = truth; measure = now "x"; locals = []; body = seq (call (codes g) (codes "x" ∷ [])) end }

abbrev pub each_other : Program
each_other = record { width = 2; procs = calling "h" "k" ∷ calling "k" "h" ∷ [] }

pub record ReadAs : Type 0 where
  pub sum_read : program_of worked.sum ≡ Some sum
  pub most_read : program_of worked.most ≡ Some most
  pub exchange_read : program_of worked.exchange ≡ Some exchange
  pub descent_read : program_of worked.descent ≡ Some descent
  pub any_number_read : program_of worked.any_number ≡ Some any_number
  pub each_other_read : program_of worked.each_other ≡ Some each_other
