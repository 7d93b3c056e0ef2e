-- Reading items with commas, whatever the items are.
use Rattle.std.proofs.Common.{◌≡◌, Bool, true, false, cond, List, [], ◌∷◌, ◌++◌, Some, None, sym, refl, ap, ◌∙◌, append_assoc}
use Rattle.lang.specs.Base.{◌>>=◌}
use Rattle.lang.specs.Grammar.{Parsed, starts, onward, expect}
use Rattle.lang.specs.Instr.{Instr}
use Rattle.lang.specs.Tokens.{Token}
use Rattle.lang.specs.declared.token.Fixed.{Fixed}
use Rattle.lang.specs.declared.token.Fixed.TheVariants.{Comma}
use Rattle.lang.proofs.Codes.{Front}
use Rattle.parse.specs.Listed.{codes, AtItem}
use Rattle.parse.specs.Reading.{Snap, Read, advanced}
use Rattle.parse.proofs.Binds.{>>=-assoc, >>=-ext}

pub codes_more : {A : Type 0} (coding : A → List Instr → List Instr) → ((x : A) → Front (coding x)) → (xs : List A) (x : A) → codes coding (xs ++ x ∷ []) ≡ codes coding xs ++ coding x []
codes_more coding front [] x = refl
codes_more coding front (y ∷ xs) x = ap (coding y) (codes_more coding front xs x) ∙ (front y).splits (codes coding xs ++ coding x []) ∙ sym (append_assoc (coding y []) (codes coding xs) (coding x [])) ∙ ap (λ is. is ++ coding x []) (sym ((front y).splits (codes coding xs)))

module _ {A : Type 0} (item : List Token → Parsed A) (coding : A → List Instr → List Instr) (front : (x : A) → Front (coding x)) (last : Fixed) (items : List Token → Parsed (List A)) (rule : (ts : List Token) → items ts ≡ (item ts >>= λ p. cond (starts Comma p.1) (items (onward p.1) >>= λ q. Some (p.0 ∷ q.0, q.1)) (expect last p.1 >>= λ us. Some (p.0 ∷ [], us)))) where
  -- behind an item, by whether there is a comma
  abbrev after : List A → A → List Token → Bool → Parsed (List A)
  after xs x us b = cond b (items (onward us) >>= λ q. Some (xs ++ x ∷ q.0, q.1)) (expect last us >>= λ vs. Some (xs ++ x ∷ [], vs))

  after_more : (xs : List A) (x : A) (us : List Token) (b : Bool) → (after [] x us b >>= λ p. Some (xs ++ p.0, p.1)) ≡ after xs x us b
  after_more xs x us true = >>=-assoc (items (onward us)) _ _
  after_more xs x us false = >>=-assoc (expect last us) _ _

  module _ (before s : Snap) (h : AtItem items coding before s) where
    pub no_item : item s.ahead ≡ None → items before.ahead ≡ None
    no_item n = h.rest ∙ rw (rule s.ahead, n)

    behind : (x : A) (us : List Token) → item s.ahead ≡ Some (x, us) → items before.ahead ≡ after h.read x us (starts Comma us)
    behind x us n = h.rest ∙ rw (rule s.ahead, n) (after_more h.read x us (starts Comma us))

    written : (t : Snap) (x : A) → t.code ≡ s.code ++ coding x [] → t.code ≡ before.code ++ codes coding (h.read ++ x ∷ [])
    written t x c = c ∙ ap (λ is. is ++ coding x []) h.code ∙ append_assoc before.code (codes coding h.read) (coding x []) ∙ ap (λ is. before.code ++ is) (sym (codes_more coding front h.read x))

    pub next_item : (t : Snap) (x : A) → item s.ahead ≡ Some (x, t.ahead) → t.code ≡ s.code ++ coding x [] → t.pending ≡ s.pending → starts Comma t.ahead ≡ true → AtItem items coding before (advanced t)
    next_item t x n c p b = record {
      read = h.read ++ x ∷ [];
      code = written t x c;
      pending = p ∙ h.pending;
      rest = behind x t.ahead n ∙ rw b (>>=-ext (items (onward t.ahead)) λ q. ap (λ xs. Some (xs, q.1)) (sym (append_assoc h.read (x ∷ []) q.0)));
    }

    pub last_item : (t : Snap) (x : A) → item s.ahead ≡ Some (x, t.ahead) → t.code ≡ s.code ++ coding x [] → t.pending ≡ s.pending → starts Comma t.ahead ≡ false → (u : Snap) → expect last t.ahead ≡ Some u.ahead → u.code ≡ t.code → u.pending ≡ t.pending → Read items (codes coding) before u
    last_item t x n c p b u e d q = record { value = h.read ++ x ∷ []; parsed = behind x t.ahead n ∙ rw (b, e); code = d ∙ written t x c; pending = q ∙ p ∙ h.pending }

    pub no_end : (t : Snap) (x : A) → item s.ahead ≡ Some (x, t.ahead) → starts Comma t.ahead ≡ false → expect last t.ahead ≡ None → items before.ahead ≡ None
    no_end t x n b e = behind x t.ahead n ∙ rw (b, e)
