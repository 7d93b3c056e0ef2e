-- Statements that have no statements inside.
use Rattle.std.proofs.Common.{◌≡◌, ℕ, true, false, List, [], ◌∷◌, ◌++◌, Some, None, sym, ap, ◌∙◌, append_assoc, arith}
use Rattle.lang.specs.Base.{◌>>=◌, Word}
use Rattle.lang.specs.Code.{code_expr, code_stmt}
use Rattle.lang.specs.Grammar.{starts, onward, expect, a_name, ended, else_head}
use Rattle.lang.specs.Instr as instr
use Rattle.lang.specs.Instr.{Instr}
use Rattle.lang.specs.Syntax.{Expr, assign, branch, loop, check, havoc}
use Rattle.lang.specs.Tokens.{Token, fixed, name, number, stray}
use Rattle.lang.specs.declared.token.Fixed.TheVariants as the
use Rattle.lang.proofs.Codes.{expr_front}
use Rattle.parse.specs.Reading.{Snap, Read, advanced, emitted}
use Rattle.parse.specs.Unbounded.{sum∞, formula∞, named_statement∞, if_head∞, while_head∞, block∞, statement∞}
use Rattle.parse.proofs.Heads.{fixed_ahead}
use Rattle.parse.proofs.Rules.{named_statement_rule, statement_end, statement_fixed, statement_name, statement_number, statement_stray}

-- x = e;
module _ (x : Word) (s : Snap) (b : starts the.LeftParen s.ahead ≡ false) (b' : starts the.LeftBracket s.ahead ≡ false) where
  pub assign_ungets : expect the.Gets s.ahead ≡ None → named_statement∞ x s.ahead ≡ None
  assign_ungets e = rw (named_statement_rule x s.ahead, b, b', e)

  module _ (t : Snap) (e : expect the.Gets s.ahead ≡ Some t.ahead) where
    pub assign_unread : sum∞ t.ahead ≡ None → named_statement∞ x s.ahead ≡ None
    assign_unread n = rw (named_statement_rule x s.ahead, b, b', e, n)

    module _ (u : Snap) (h : Read sum∞ (λ e. code_expr e []) t u) where
      pub assign_unended : expect the.Semicolon u.ahead ≡ None → named_statement∞ x s.ahead ≡ None
      assign_unended n = rw (named_statement_rule x s.ahead, b, b', e, h.parsed, n)

      pub assigned : t ≡ advanced s → (v : Snap) → expect the.Semicolon u.ahead ≡ Some v.ahead → v ≡ advanced (emitted (instr.assign x) u) → Read (named_statement∞ x) (λ s. code_stmt s []) s v
      unfolding code_stmt
      assigned first v f last = record {
        value = assign x h.value;
        parsed = rw (named_statement_rule x s.ahead, b, b', e, h.parsed, f);
        code = ap (λ r. r.code) last ∙ ap (λ k. k ++ instr.assign x ∷ []) h.code ∙ append_assoc t.code (code_expr h.value []) _ ∙ (λ j. (first j).code ++ sym ((expr_front h.value).splits (instr.assign x ∷ [])) j);
        pending = ap (λ r. r.pending) last ∙ h.pending ∙ ap (λ r. r.pending) first;
      }

-- A statement by its first token.
pub statement_check : (ts : List Token) → starts the.Check ts ≡ true → statement∞ ts ≡ (formula∞ (onward ts) >>= λ p. ended (check p.0) p.1)
statement_check ts h = let f = fixed_ahead the.Check ts h in ap statement∞ f.is ∙ statement_fixed f.token (onward ts) ∙ rw (← f.spells)

pub statement_any : (ts : List Token) → starts the.Any ts ≡ true → statement∞ ts ≡ (a_name (onward ts) >>= λ p. ended (havoc p.0) p.1)
statement_any ts h = let f = fixed_ahead the.Any ts h in ap statement∞ f.is ∙ statement_fixed f.token (onward ts) ∙ rw (← f.spells)

pub statement_if : (ts : List Token) → starts the.If ts ≡ true → statement∞ ts ≡ (if_head∞ (onward ts) >>= λ p. block∞ p.1 >>= λ q. else_head q.1 >>= λ us. block∞ us >>= λ r. Some (branch p.0 q.0 r.0, r.1))
statement_if ts h = let f = fixed_ahead the.If ts h in ap statement∞ f.is ∙ statement_fixed f.token (onward ts) ∙ rw (← f.spells)

pub statement_while : (ts : List Token) → starts the.While ts ≡ true → statement∞ ts ≡ (while_head∞ (onward ts) >>= λ p. block∞ p.1 >>= λ q. Some (loop p.0.test p.0.invariant p.0.measure q.0, q.1))
statement_while ts h = let f = fixed_ahead the.While ts h in ap statement∞ f.is ∙ statement_fixed f.token (onward ts) ∙ rw (← f.spells)

-- two expressions, and what is done with them
pub two_exprs : (is js ks : List Instr) (a b : Expr) (i : Instr) → js ≡ is ++ code_expr a [] → ks ≡ js ++ code_expr b [] → ks ++ i ∷ [] ≡ is ++ code_expr a (code_expr b (i ∷ []))
two_exprs is js ks a b i e f =
    ap (λ k. k ++ i ∷ []) (f ∙ ap (λ k. k ++ code_expr b []) e) ∙ append_assoc (is ++ code_expr a []) (code_expr b []) (i ∷ []) ∙ append_assoc is (code_expr a []) (code_expr b [] ++ i ∷ [])
    ∙ ap (λ k. is ++ k) (ap (λ k. code_expr a [] ++ k) (sym ((expr_front b).splits (i ∷ []))) ∙ sym ((expr_front a).splits (code_expr b (i ∷ []))))

-- nothing that begins a statement
pub no_statement : (ts : List Token) → starts the.If ts ≡ false → starts the.While ts ≡ false → starts the.Check ts ≡ false → starts the.Any ts ≡ false → a_name ts ≡ None → statement∞ ts ≡ None
no_statement [] a b c d n = statement_end
no_statement (fixed f ∷ ts) a b c d n = statement_fixed f ts ∙ rw (a, b, c, d)
no_statement (name x ∷ ts) a b c d n = let z : ◌≡◌ {A = ℕ} 0 1 = cc in absurd (omega arith)
no_statement (number m ∷ ts) a b c d n = statement_number m ts
no_statement (stray ∷ ts) a b c d n = statement_stray ts

pub named_read : (s t : Snap) (x : Word) (ts : List Token) → s.ahead ≡ name x ∷ ts → Read (named_statement∞ x) (λ s. code_stmt s []) (advanced s) t → Read statement∞ (λ s. code_stmt s []) s t
named_read s t x ts e r = record { value = r.value; parsed = ap statement∞ e ∙ statement_name x ts ∙ ap (λ us. named_statement∞ x (onward us)) (sym e) ∙ r.parsed; code = r.code; pending = r.pending }

pub named_unread : (s : Snap) (x : Word) (ts : List Token) → s.ahead ≡ name x ∷ ts → named_statement∞ x (onward s.ahead) ≡ None → statement∞ s.ahead ≡ None
named_unread s x ts e n = ap statement∞ e ∙ statement_name x ts ∙ ap (λ us. named_statement∞ x (onward us)) (sym e) ∙ n
