-- Whole texts: where a reader is among the procedures, and what reading a text says.
use Rattle.std.specs.Prelude.{◌≡◌, ℕ, ◌+◌, ◌*◌, ◌<◌, List, [], ◌++◌, length, Some, None, Option}
use Rattle.lang.specs.Base.{◌>>=◌}
use Rattle.lang.specs.Code.{code_proc, code_procs}
use Rattle.lang.specs.Grammar.{expect, a_number, reads}
use Rattle.lang.specs.Holding.{Holds}
use Rattle.lang.specs.Syntax as syntax
use Rattle.lang.specs.Syntax.{Proc}
use Rattle.lang.specs.Tokens.{Token}
use Rattle.lang.specs.declared.token.Fixed.TheVariants as the
use Rattle.lang.specs.declared.program.Program.{Program}
use Rattle.parse.specs.Listed.{codes}
use Rattle.parse.specs.Reading.{Snap}
use Rattle.parse.specs.Unbounded.{procedures∞}
use Rattle.parse.specs.declared.ReadError.{ReadError}
use Rattle.parse.specs.declared.ReadError.TheVariants.{NoText, Few}

-- A procedure is to be read next, or the end of the text.
pub record AtProcedure (before s : Snap) : Type 0 where
  pub read : List Proc
  pub code : s.code ≡ before.code ++ codes code_proc read
  pub pending : s.pending ≡ before.pending
  pub text : s.text ≡ before.text
  pub rest : procedures∞ before.ahead ≡ (procedures∞ s.ahead >>= λ qs. Some (read ++ qs))

-- All procedures have been read.
pub record AllRead (before after : Snap) : Type 0 where
  pub procs : List Proc
  pub parsed : procedures∞ before.ahead ≡ Some procs
  pub code : after.code ≡ before.code ++ code_procs procs []
  pub text : after.text ≡ before.text

-- The width, and all procedures.
unfoldable pub program∞ : List Token → Option syntax.Program
program∞ ts = do
  t1 ← expect the.Width ts
  (w, t2) ← a_number t1
  t3 ← expect the.Semicolon t2
  qs ← procedures∞ t3
  Some (record { width = w; procs = qs })

-- The whole text has been read; w: the width.
pub record WholeRead (before after : Snap) (w : ℕ) : Type 0 where
  pub procs : List Proc
  pub parsed : program∞ before.ahead ≡ Some (record { width = w; procs = procs })
  pub code : after.code ≡ before.code ++ code_procs procs []
  pub text : after.text ≡ before.text

-- The program is the one that the text reads as.
pub record ReadsAs (bytes : List ℕ) (held : Program) : Type 0 where
  pub program : syntax.Program
  pub reads : reads bytes ≡ Some program
  pub text : held.text.now ≡ bytes
  pub holds : Holds held program

-- t: the text; n: how many words were lent
abbrev pub Refused : List ℕ → ℕ → ReadError → Type 0
Refused t n (NoText e) = reads t ≡ None
Refused t n Few = n < 65536 + 64 * length t
