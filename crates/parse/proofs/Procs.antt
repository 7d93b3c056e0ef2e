-- Whole procedures.
use Rattle.std.proofs.Common.{◌≡◌, ◌+◌, ◌-◌, List, [], ◌∷◌, ◌++◌, length, set, Some, Option, sym, refl, ap, ◌∙◌, append_assoc, arith, length-append}
use Rattle.std.proofs.lemmas.List.{length_push, set_at}
use Rattle.lang.specs.Base.{◌>>=◌}
use Rattle.lang.specs.Code.{code_expr, code_bool, code_block, code_params, code_locals, code_parts, code_proc}
use Rattle.lang.specs.Grammar.{expect, a_name}
use Rattle.lang.specs.Instr as instr
use Rattle.lang.specs.Instr.{Instr}
use Rattle.lang.specs.Syntax.{Proc}
use Rattle.lang.specs.Tokens.{Token}
use Rattle.lang.specs.declared.token.Fixed.TheVariants as the
use Rattle.lang.proofs.Codes.{params_front, locals_front, bool_front, expr_front, block_front}
use Rattle.parse.specs.Parts.{part_code, measure_code}
use Rattle.parse.specs.Procedures.{Signature, Terms, Body, signature∞, terms∞, body∞, signature_code, terms_code, body_code}
use Rattle.parse.specs.Reading.{Snap, Read, patched}
use Rattle.parse.specs.Unbounded.{parameters∞, condition∞, measured∞, local_variables∞, block∞, procedure∞}
use Rattle.parse.specs.declared.parts.Header.TheVariants.{Pre, Post}
use Rattle.parse.proofs.Binds.{>>=-assoc, >>=-ext}
use Rattle.parse.proofs.Rules.{procedure_rule}

-- The grammar's procedure in its three parts.
module _ {A : Type 0} (ts : List Token) where
  in_signature : (f : Signature × List Token → Option A) → (signature∞ ts >>= f) ≡ (a_name ts >>= λ p. expect the.LeftParen p.1 >>= λ us. parameters∞ us >>= λ q. f (record { name = p.0; params = q.0 }, q.1))
  unfolding signature∞
  in_signature f = >>=-assoc (a_name ts) _ f ∙ >>=-ext (a_name ts) (λ p. >>=-assoc (expect the.LeftParen p.1) _ f ∙ >>=-ext (expect the.LeftParen p.1) (λ us. >>=-assoc (parameters∞ us) _ f))

  in_terms : (f : Terms × List Token → Option A) → (terms∞ ts >>= f) ≡ (condition∞ the.Pre ts >>= λ p. condition∞ the.Post p.1 >>= λ q. measured∞ q.1 >>= λ r. f (record { pre = p.0; post = q.0; measure = r.0 }, r.1))
  unfolding terms∞
  in_terms f = >>=-assoc (condition∞ the.Pre ts) _ f ∙ >>=-ext (condition∞ the.Pre ts) (λ p. >>=-assoc (condition∞ the.Post p.1) _ f ∙ >>=-ext (condition∞ the.Post p.1) (λ q. >>=-assoc (measured∞ q.1) _ f))

  in_body : (f : Body × List Token → Option A) → (body∞ ts >>= f) ≡ (expect the.LeftBrace ts >>= λ us. local_variables∞ us >>= λ p. block∞ p.1 >>= λ q. f (record { locals = p.0; block = q.0 }, q.1))
  unfolding body∞
  in_body f = >>=-assoc (expect the.LeftBrace ts) _ f ∙ >>=-ext (expect the.LeftBrace ts) (λ us. >>=-assoc (local_variables∞ us) _ f ∙ >>=-ext (local_variables∞ us) (λ p. >>=-assoc (block∞ p.1) _ f))

abbrev pub made_of : Signature → Terms → Body → Proc
made_of a b c = record { name = a.name; params = a.params; pre = b.pre; post = b.post; measure = b.measure; locals = c.locals; body = c.block }

pub procedure_parts : (ts : List Token) → procedure∞ ts ≡ (signature∞ ts >>= λ p. terms∞ p.1 >>= λ q. body∞ q.1 >>= λ r. Some (made_of p.0 q.0 r.0, r.1))
procedure_parts ts =
    procedure_rule ts
    ∙ sym (in_signature ts _ ∙ >>=-ext (a_name ts) (λ p. >>=-ext (expect the.LeftParen p.1) (λ us. >>=-ext (parameters∞ us) (λ xs. in_terms xs.1 _ ∙ >>=-ext (condition∞ the.Pre xs.1) (λ a. >>=-ext (condition∞ the.Post a.1) (λ b. >>=-ext (measured∞ b.1) (λ e. in_body e.1 _)))))))

-- its code, likewise
parts_code : (a : Signature) (b : Terms) (c : Body) → code_parts (made_of a b c) [] ≡ code_params a.params [] ++ (terms_code b ++ body_code c)
parts_code a b c =
    let end = instr.body (length (code_block c.block [])) ∷ code_block c.block (instr.end_proc ∷ []) in
    let ms = instr.measure (length (code_expr b.measure [])) in
    let bs = instr.post (length (code_bool b.post [])) in
    let pres = instr.pre (length (code_bool b.pre [])) in
    let body : code_locals c.locals end ≡ body_code c = (locals_front c.locals).splits end ∙ ap (λ k. code_locals c.locals [] ++ instr.body (length (code_block c.block [])) ∷ k) ((block_front c.block).splits (instr.end_proc ∷ [])) in
    (params_front a.params).splits _ ∙ ap (λ k. code_params a.params [] ++ k)
    (ap (λ k. pres ∷ k) ((bool_front b.pre).splits _ ∙ ap (λ k. code_bool b.pre [] ++ bs ∷ k) ((bool_front b.post).splits _ ∙ ap (λ k. code_bool b.post [] ++ ms ∷ k) ((expr_front b.measure).splits _ ∙ ap (λ k. code_expr b.measure [] ++ k) body)))
    ∙ sym (append_assoc (part_code Pre b.pre) (part_code Post b.post ++ measure_code b.measure) (body_code c) ∙ ap (λ k. part_code Pre b.pre ++ k) (append_assoc (part_code Post b.post) (measure_code b.measure) (body_code c))))

-- the length of the whole is written behind the name
extent_set : (is js : List Instr) (i : Instr) → set ((is ++ i ∷ instr.extent 0 ∷ []) ++ js) (length is + 1) (instr.extent (length ((is ++ i ∷ instr.extent 0 ∷ []) ++ js) - ((length is + 1) + 1))) ≡ is ++ i ∷ instr.extent (length js) ∷ js
extent_set is js i =
    let front = is ++ i ∷ [] in
    let split : (is ++ i ∷ instr.extent 0 ∷ []) ++ js ≡ front ++ instr.extent 0 ∷ js = append_assoc is _ js ∙ sym (append_assoc is (i ∷ []) _) in
    let here : length is + 1 ≡ length front = omega (arith, length_push is i) in
    let long : length ((is ++ i ∷ instr.extent 0 ∷ []) ++ js) - ((length is + 1) + 1) ≡ length js = omega (arith, ap length split, length-append front (instr.extent 0 ∷ js), length_push is i) in
    (λ j. set (split j) (here j) (instr.extent (long j))) ∙ set_at front (instr.extent 0) js (instr.extent (length js)) (length front) refl ∙ append_assoc is (i ∷ []) _

pub procedure_read : (s t u v : Snap) → Read signature∞ signature_code s t → Read terms∞ terms_code t u → Read body∞ body_code u v → Read procedure∞ (λ q. code_proc q []) s (patched (length s.code + 1) (instr.extent (length v.code - ((length s.code + 1) + 1))) v)
procedure_read s t u v a b c =
    let i = instr.proc a.value.name in
    let ps = code_params a.value.params [] in
    let rest = ps ++ (terms_code b.value ++ body_code c.value) in
    let whole : v.code ≡ (s.code ++ i ∷ instr.extent 0 ∷ []) ++ rest =
    c.code ∙ ap (λ k. k ++ body_code c.value) (b.code ∙ ap (λ k. k ++ terms_code b.value) a.code) ∙ append_assoc _ (terms_code b.value) _ ∙ append_assoc s.code _ _ ∙ sym (append_assoc s.code (i ∷ instr.extent 0 ∷ []) rest) in
    record {
      value = made_of a.value b.value c.value;
      parsed = procedure_parts s.ahead ∙ rw (a.parsed, b.parsed, c.parsed);
      code = ap (λ k. set k (length s.code + 1) (instr.extent (length k - ((length s.code + 1) + 1)))) whole ∙ extent_set s.code rest i ∙ ap (λ k. s.code ++ i ∷ instr.extent (length k) ∷ k) (sym (parts_code a.value b.value c.value));
      pending = c.pending ∙ b.pending ∙ a.pending;
    }
