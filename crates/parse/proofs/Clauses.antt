-- A word, a piece and a semicolon.
use Rattle.std.proofs.Common.{◌≡◌, List, ◌++◌, Some, None, ap, ◌∙◌}
use Rattle.lang.specs.Base.{◌>>=◌}
use Rattle.lang.specs.Grammar.{Parsed, expect}
use Rattle.lang.specs.Instr.{Instr}
use Rattle.lang.specs.Tokens.{Token}
use Rattle.lang.specs.declared.token.Fixed.{Fixed}
use Rattle.lang.specs.declared.token.Fixed.TheVariants.{Semicolon}
use Rattle.parse.specs.Reading.{Snap, Read, advanced}

module _ {A : Type 0} (word : Fixed) (piece whole : List Token → Parsed A) (coding : A → List Instr) (rule : (ts : List Token) → whole ts ≡ (expect word ts >>= λ us. piece us >>= λ p. expect Semicolon p.1 >>= λ ws. Some (p.0, ws))) (s : Snap) where
  pub clause_none : expect word s.ahead ≡ None → whole s.ahead ≡ None
  clause_none e = rw (rule s.ahead, e)

  module _ (t : Snap) (first : t ≡ advanced s) (e : expect word s.ahead ≡ Some t.ahead) where
    pub clause_unread : piece t.ahead ≡ None → whole s.ahead ≡ None
    clause_unread n = rw (rule s.ahead, e, n)

    module _ (u : Snap) (h : Read piece coding t u) where
      pub clause_unended : expect Semicolon u.ahead ≡ None → whole s.ahead ≡ None
      clause_unended n = rw (rule s.ahead, e, h.parsed, n)

      pub clause : (v : Snap) → v ≡ advanced u → expect Semicolon u.ahead ≡ Some v.ahead → Read whole coding s v
      clause v last f = record {
        value = h.value;
        parsed = rw (rule s.ahead, e, h.parsed, f);
        code = ap (λ r. r.code) last ∙ h.code ∙ ap (λ r. r.code ++ coding h.value) first;
        pending = ap (λ r. r.pending) last ∙ h.pending ∙ ap (λ r. r.pending) first;
      }
