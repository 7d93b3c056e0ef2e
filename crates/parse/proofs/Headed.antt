-- Code with its length in front.
use Rattle.std.proofs.Common.{◌≡◌, ℕ, ◌+◌, ◌-◌, List, [], ◌∷◌, ◌++◌, length, set, Some, sym, refl, ap, ◌∙◌, append_assoc, arith, length-append}
use Rattle.std.proofs.lemmas.List.{set_at, length_push}
use Rattle.lang.specs.Grammar.{Parsed}
use Rattle.lang.specs.Instr.{Instr}
use Rattle.lang.specs.Tokens.{Token}
use Rattle.parse.specs.Parts.{header_instr, sealed}
use Rattle.parse.specs.Reading.{Snap, Read, emitted}
use Rattle.parse.specs.declared.parts.Header.{Header}

header_set : (is js : List Instr) (i j : Instr) → set ((is ++ i ∷ []) ++ js) (length is) j ≡ is ++ j ∷ js
header_set is js i j = ap (λ k. set k (length is) j) (append_assoc is (i ∷ []) js) ∙ set_at is i js j (length is) refl

-- a piece behind its header: s before both, t behind the header, u behind the piece, v with its length
module _ (h : Header) (s t u v : Snap) (at : ℕ) (here : at ≡ length s.code) (begun : t ≡ emitted (header_instr h 0) s) (ended : v ≡ sealed h at u) where
  pub headed : {A : Type 0} (parse : List Token → Parsed A) (coding : A → List Instr) → Read parse coding t u → Read parse (λ x. header_instr h (length (coding x)) ∷ coding x) s v
  headed parse coding r =
      let js = coding r.value in
      let code : u.code ≡ (s.code ++ header_instr h 0 ∷ []) ++ js = r.code ∙ ap (λ x. x.code ++ js) begun in
      let long : length u.code - (at + 1) ≡ length js = omega (arith, ap length code, here, length-append (s.code ++ header_instr h 0 ∷ []) js, length_push s.code (header_instr h 0)) in
      record {
        value = r.value;
        parsed = ap (λ x. parse x.ahead) (sym begun) ∙ r.parsed ∙ ap (λ x. Some (r.value, x.ahead)) (sym ended);
        code = ap (λ x. x.code) ended ∙ (λ i. set (code i) (here i) (header_instr h (long i))) ∙ header_set s.code js (header_instr h 0) _;
        pending = ap (λ x. x.pending) ended ∙ r.pending ∙ ap (λ x. x.pending) begun;
      }
