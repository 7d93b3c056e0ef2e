-- Whole texts.
use Rattle.std.proofs.Common.{◌≡◌, ℕ, ◌*◌, ◌≤◌, Bool, true, false, true≢false, eqb, List, [], ◌∷◌, ◌++◌, length, Some, None, sym, refl, ap, ◌∙◌, append_assoc, append-nil, arith}
use Rattle.std.proofs.lemmas.Bool.{eqb-true}
use Rattle.lang.specs.Base.{◌>>=◌, when}
use Rattle.lang.specs.Code.{code_proc, code_procs}
use Rattle.lang.specs.Grammar.{is, expect, a_number, reads}
use Rattle.lang.specs.Syntax.{Proc}
use Rattle.lang.specs.Tokens.{Token, tokens}
use Rattle.lang.specs.declared.token.Fixed.TheVariants as the
use Rattle.lang.proofs.Codes.{Front, one_front, then_front, params_front, locals_front, bool_front, expr_front, block_front}
use Rattle.lang.proofs.Lexing.{tokens_few}
use Rattle.parse.specs.Listed.{codes}
use Rattle.parse.specs.Reading.{Snap, Read, Room, advanced}
use Rattle.parse.specs.Unbounded.{procedure∞, procedures∞}
use Rattle.parse.specs.Whole.{AtProcedure, AllRead, WholeRead, program∞}
use Rattle.parse.proofs.Binds.{>>=-assoc, >>=-ext}
use Rattle.parse.proofs.Listed.{codes_more}
use Rattle.parse.proofs.Rules.{procedures_end, procedures_rule, reads_rule}

proc_front : (q : Proc) → Front (code_proc q)
proc_front q = then_front (one_front _) (then_front (one_front _) (then_front (params_front q.params) (then_front (one_front _) (then_front (bool_front q.pre) (then_front (one_front _) (then_front (bool_front q.post) (then_front (one_front _) (then_front (expr_front q.measure) (then_front (locals_front q.locals) (then_front (one_front _) (then_front (block_front q.body) (one_front _))))))))))))

procs_code : (qs : List Proc) → codes code_proc qs ≡ code_procs qs []
procs_code [] = refl
procs_code (q ∷ qs) = ap (code_proc q) (procs_code qs)

-- the rule for procedures by what is expected
procedures_by : (ts : List Token) → (ts ≡ [] → ⊥) → procedures∞ ts ≡ (expect the.Proc ts >>= λ us. procedure∞ us >>= λ p. procedures∞ p.1 >>= λ qs. Some (p.0 ∷ qs))
procedures_by [] h = absurd (h refl)
procedures_by (t ∷ ts) h = procedures_rule t ts ∙ go (is the.Proc t)
  where
    go : (b : Bool) → when b (procedure∞ ts >>= λ p. procedures∞ p.1 >>= λ qs. Some (p.0 ∷ qs)) ≡ (when b (Some ts) >>= λ us. procedure∞ us >>= λ p. procedures∞ p.1 >>= λ qs. Some (p.0 ∷ qs))
    go true = refl
    go false = refl

none_left : (ts : List Token) → eqb (length ts) 0 ≡ true → ts ≡ []
none_left [] e = refl
none_left (t ∷ ts) e = absurd (omega (arith, eqb-true (length (t ∷ ts)) 0 e))

module _ (before s : Snap) (h : AtProcedure before s) where
  pub all_read : eqb (length s.ahead) 0 ≡ true → AllRead before s
  all_read at_end = let e = none_left s.ahead at_end in record { procs = h.read; parsed = h.rest ∙ rw (e, procedures_end) (ap Some (append-nil h.read)); code = h.code ∙ ap (λ k. before.code ++ k) (procs_code h.read); text = h.text }

  module _ (more : eqb (length s.ahead) 0 ≡ false) where
    some : s.ahead ≡ [] → ⊥
    some e = let z : true ≡ false = ap (λ ts. eqb (length ts) 0) (sym e) ∙ more in true≢false z

    pub no_procedure : expect the.Proc s.ahead ≡ None → procedures∞ before.ahead ≡ None
    no_procedure e = h.rest ∙ rw (procedures_by s.ahead some, e)

    pub unread_procedure : (t : Snap) → expect the.Proc s.ahead ≡ Some t.ahead → procedure∞ t.ahead ≡ None → procedures∞ before.ahead ≡ None
    unread_procedure t e n = h.rest ∙ rw (procedures_by s.ahead some, e, n)

    pub next_procedure : (t u : Snap) → expect the.Proc s.ahead ≡ Some t.ahead → t ≡ advanced s → Read procedure∞ (λ q. code_proc q []) t u → u.text ≡ t.text → AtProcedure before u
    next_procedure t u e first r same = record {
      read = h.read ++ r.value ∷ [];
      code = r.code ∙ ap (λ x. x.code ++ code_proc r.value []) first ∙ ap (λ k. k ++ code_proc r.value []) h.code ∙ append_assoc before.code _ _ ∙ ap (λ k. before.code ++ k) (sym (codes_more code_proc proc_front h.read r.value));
      pending = r.pending ∙ ap (λ x. x.pending) first ∙ h.pending;
      text = same ∙ ap (λ x. x.text) first ∙ h.text;
      rest = h.rest ∙ rw (procedures_by s.ahead some, e, r.parsed) (>>=-assoc (procedures∞ u.ahead) _ _) ∙ >>=-ext (procedures∞ u.ahead) (λ qs. ap Some (sym (append_assoc h.read (r.value ∷ []) qs)));
    }

pub reads_is : (text : List ℕ) → reads text ≡ program∞ (tokens text)
unfolding program∞
reads_is text = reads_rule text

pub whole_read : (s t u v w : Snap) (n : ℕ) → expect the.Width s.ahead ≡ Some t.ahead → t ≡ advanced s → a_number t.ahead ≡ Some (n, u.ahead) → u ≡ advanced t → expect the.Semicolon u.ahead ≡ Some v.ahead → v ≡ advanced u → AllRead v w → WholeRead s w n
unfolding program∞
whole_read s t u v w n e₁ f₁ e₂ f₂ e₃ f₃ r = record { procs = r.procs; parsed = rw (e₁, e₂, e₃, r.parsed); code = r.code ∙ ap (λ k. k ++ code_procs r.procs []) (ap (λ x. x.code) f₃ ∙ ap (λ x. x.code) f₂ ∙ ap (λ x. x.code) f₁); text = r.text ∙ ap (λ x. x.text) f₃ ∙ ap (λ x. x.text) f₂ ∙ ap (λ x. x.text) f₁ }

-- a text has no more tokens than bytes, so the tables have room for all
pub room_for : (text : List ℕ) (s : Snap) → s.code ≡ [] → s.pending ≡ [] → s.ahead ≡ tokens text → 2 * length text ≤ s.code_room → length text ≤ s.pending_room → Room s
room_for text s c p a r q =
    let few = tokens_few text in
    record { code = omega (arith, ap length c, ap length p, ap length a, few); pending = omega (arith, ap length p, ap length a, few) }
