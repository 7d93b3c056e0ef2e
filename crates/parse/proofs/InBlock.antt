-- Each step of reading a block keeps what the grammar makes of the rest.
use Rattle.std.proofs.Common.{◌≡◌, ℕ, ◌+◌, ◌-◌, ◌<◌, ◌≤◌, true, false, List, [], ◌∷◌, ◌++◌, length, take, set, Some, None, sym, refl, ap, ◌∙◌, subst, append_assoc, append-nil, arith, length-append}
use Rattle.std.proofs.lemmas.List.{length_push, set_at}
use Rattle.lang.specs.Base.{◌>>=◌}
use Rattle.lang.specs.Code.{code_expr, code_bool, code_stmt, code_block}
use Rattle.lang.specs.Grammar.{Parsed, starts, onward, expect, else_head, LoopHead}
use Rattle.lang.specs.Instr as instr
use Rattle.lang.specs.Instr.{Instr}
use Rattle.lang.specs.Syntax.{BoolExpr, Stmt, branch, loop, Block, end, seq}
use Rattle.lang.specs.Tokens.{Token}
use Rattle.lang.specs.declared.token.Fixed.TheVariants as the
use Rattle.lang.proofs.Codes.{one_front, then_front, stmt_front, block_front, bool_front, expr_front}
use Rattle.parse.specs.InBlock.{listed, Nest, outermost, in_then, in_else, in_loop, around, then_code, loop_code, nest_code, Placed, after_block, AtStatement, block_opened, BlockWhole, Headed}
use Rattle.parse.specs.Listed.{codes}
use Rattle.parse.specs.Parts.{sealed, part_code, measure_code}
use Rattle.parse.specs.Reading.{Snap, Read, advanced, emitted, closed, last_open}
use Rattle.parse.specs.Unbounded.{formula∞, condition∞, measured∞, block∞, statement∞, if_head∞, while_head∞}
use Rattle.parse.specs.declared.open.Open.{Open}
use Rattle.parse.specs.declared.open.Open.TheVariants.{Braces}
use Rattle.parse.specs.declared.parts.Header.TheVariants as header
use Rattle.parse.specs.declared.parts.Header.TheVariants.{Test, Invariant}
use Rattle.parse.specs.declared.open.Kind.{Kind}
use Rattle.parse.specs.declared.open.Kind.TheVariants as kind
use Rattle.parse.proofs.Binds.{>>=-assoc, >>=-ext, >>=-some}
use Rattle.parse.proofs.InExpr.{last_is, rest_is}
use Rattle.parse.proofs.Listed.{codes_more}
use Rattle.parse.proofs.Plain.{statement_if, statement_while}
use Rattle.parse.proofs.Rules.{block_rule, if_head_rule, while_head_rule}

-- if b {
pub if_headed : (s u v : Snap) → Read formula∞ (λ b. code_bool b []) (advanced (emitted instr.if s)) u → expect the.LeftBrace u.ahead ≡ Some v.ahead → v ≡ block_opened kind.Then u → Headed (λ ts. if_head∞ (onward ts)) then_code kind.Then s v
if_headed s u v h e last = record {
  value = h.value;
  parsed = rw (if_head_rule (onward s.ahead), h.parsed, e);
  code = ap (λ r. r.code) last ∙ ap (λ k. k ++ instr.then 0 ∷ []) h.code ∙ append_assoc (s.code ++ instr.if ∷ []) (code_bool h.value []) _ ∙ append_assoc s.code (instr.if ∷ []) _ ∙ ap (λ k. s.code ++ instr.if ∷ k) (sym ((bool_front h.value).splits (instr.then 0 ∷ [])));
  at = length u.code;
  placed = omega (arith, ap (λ r. length r.code) last, length_push u.code (instr.then 0));
  pending = ap (λ r. r.pending) last ∙ ap (λ os. os ++ Braces kind.Then (length u.code) ∷ []) h.pending;
}

-- while b keep b; less e; {
pub while_headed : (s t u v w : Snap) → Read formula∞ (part_code Test) (advanced (emitted instr.while s)) t → Read (condition∞ the.Keep) (part_code Invariant) t u → Read measured∞ measure_code u v → expect the.LeftBrace v.ahead ≡ Some w.ahead → w ≡ block_opened kind.Do v → Headed (λ ts. while_head∞ (onward ts)) loop_code kind.Do s w
while_headed s t u v w b i m e last =
    let bs = part_code Test b.value in
    let is = part_code Invariant i.value in
    let ms = measure_code m.value in
    record {
      value = record { test = b.value; invariant = i.value; measure = m.value };
      parsed = rw (while_head_rule (onward s.ahead), b.parsed, i.parsed, m.parsed, e);
      code = ap (λ r. r.code) last ∙ ap (λ k. k ++ instr.rounds 0 ∷ []) (m.code ∙ ap (λ k. k ++ ms) (i.code ∙ ap (λ k. k ++ is) b.code))
          ∙ append_assoc _ ms _ ∙ append_assoc _ is _ ∙ append_assoc (s.code ++ instr.while ∷ []) bs _ ∙ append_assoc s.code (instr.while ∷ []) _;
      at = length v.code;
      placed = omega (arith, ap (λ r. length r.code) last, length_push v.code (instr.rounds 0));
      pending = ap (λ r. r.pending) last ∙ ap (λ os. os ++ Braces kind.Do (length v.code) ∷ []) (m.pending ∙ i.pending ∙ b.pending);
    }

-- the code of statements, one behind the other
listed_code : (ss : List Stmt) (k : List Instr) → code_block (listed ss end) k ≡ codes code_stmt ss ++ k
unfolding code_block
listed_code [] k = refl
listed_code (s ∷ ss) k = ap (code_stmt s) (listed_code ss k) ∙ (stmt_front s).splits (codes code_stmt ss ++ k) ∙ sym (append_assoc (code_stmt s []) (codes code_stmt ss) k) ∙ ap (λ is. is ++ k) (sym ((stmt_front s).splits (codes code_stmt ss)))

listed_whole : (ss : List Stmt) → code_block (listed ss end) [] ≡ codes code_stmt ss
listed_whole ss = listed_code ss [] ∙ append-nil (codes code_stmt ss)

listed_more : (ss : List Stmt) (s : Stmt) (c : Block) → listed (ss ++ s ∷ []) c ≡ listed ss (seq s c)
listed_more [] s c = refl
listed_more (t ∷ ss) s c = ap (seq t) (listed_more ss s c)

-- The length of a block is written where its header stands: behind `front`, and before the block's code.
module _ (heading : ℕ → Instr) (front body : List Instr) (at : ℕ) (placed : at + 1 ≡ length (front ++ heading 0 ∷ [])) where
  sealed_code : (code : List Instr) → code ≡ (front ++ heading 0 ∷ []) ++ body → set code at (heading (length code - (at + 1))) ≡ front ++ heading (length body) ∷ body
  sealed_code code e =
      let here : at ≡ length front = omega (arith, length_push front (heading 0)) in
      let long : length code - (at + 1) ≡ length body = omega (arith, ap length e, length-append (front ++ heading 0 ∷ []) body) in
      ap (λ n. set code at (heading n)) long ∙ (λ j. set ((e ∙ append_assoc front (heading 0 ∷ []) body) j) (here j) (heading (length body))) ∙ set_at front (heading 0) body (heading (length body)) (length front) refl

-- the same where the header ends a head h, behind other code x
sealed_in : (heading : ℕ → Instr) (base x h body code : List Instr) (at : ℕ) → at + 1 ≡ length base + length (x ++ (h ++ heading 0 ∷ [])) → code ≡ base ++ ((x ++ (h ++ heading 0 ∷ [])) ++ body) → set code at (heading (length code - (at + 1))) ≡ base ++ (x ++ (h ++ heading (length body) ∷ body))
sealed_in heading base x h body code at p e =
    let front = base ++ (x ++ h) in
    let whole : (k : List Instr) → base ++ (x ++ (h ++ k)) ≡ front ++ k = λ k. ap (λ y. base ++ y) (sym (append_assoc x h k)) ∙ sym (append_assoc base (x ++ h) k) in
    let placed : at + 1 ≡ length (front ++ heading 0 ∷ []) = p ∙ sym (length-append base (x ++ (h ++ heading 0 ∷ []))) ∙ ap length (whole (heading 0 ∷ [])) in
    let split : code ≡ (front ++ heading 0 ∷ []) ++ body = e ∙ sym (append_assoc base (x ++ (h ++ heading 0 ∷ [])) body) ∙ ap (λ k. k ++ body) (whole (heading 0 ∷ [])) in
    sealed_code heading front body at placed code split ∙ sym (whole (heading (length body) ∷ body))

then_split : (b : BoolExpr) → then_code b ≡ (instr.if ∷ code_bool b []) ++ instr.then 0 ∷ []
then_split b = ap (λ k. instr.if ∷ k) ((bool_front b).splits (instr.then 0 ∷ []))

-- the head of an `if` up to the end of its first block
abbrev then_block : BoolExpr → Block → List Instr
then_block b c = instr.if ∷ code_bool b (instr.then (length (code_block c [])) ∷ code_block c [])

else_split : (b : BoolExpr) (c : Block) (k : List Instr) → instr.if ∷ code_bool b (instr.then (length (code_block c [])) ∷ code_block c k) ≡ then_block b c ++ k
else_split b c k = (then_front (one_front instr.if) (then_front (bool_front b) (then_front (one_front (instr.then (length (code_block c [])))) (block_front c)))).splits k

-- what the first block's code is once its length is written
then_sealed : (b : BoolExpr) (ss : List Stmt) → (instr.if ∷ code_bool b []) ++ instr.then (length (codes code_stmt ss)) ∷ codes code_stmt ss ≡ then_block b (listed ss end)
then_sealed b ss = ap (λ k. instr.if ∷ k) (sym ((bool_front b).splits (instr.then (length (codes code_stmt ss)) ∷ codes code_stmt ss))) ∙ ap (λ k. instr.if ∷ code_bool b (instr.then (length k) ∷ k)) (sym (listed_whole ss))

-- the head of a loop up to its block
abbrev loop_front : LoopHead → List Instr
loop_front h = instr.while ∷ part_code Test h.test ++ (part_code Invariant h.invariant ++ measure_code h.measure)

loop_split : (h : LoopHead) (k : List Instr) → instr.while ∷ part_code Test h.test ++ (part_code Invariant h.invariant ++ (measure_code h.measure ++ k)) ≡ loop_front h ++ k
loop_split h k = ap (λ y. instr.while ∷ part_code Test h.test ++ y) (sym (append_assoc (part_code Invariant h.invariant) (measure_code h.measure) k)) ∙ ap (λ y. instr.while ∷ y) (sym (append_assoc (part_code Test h.test) (part_code Invariant h.invariant ++ measure_code h.measure) k))

loop_stmt : (h : LoopHead) (c : Block) → code_stmt (loop h.test h.invariant h.measure c) [] ≡ loop_front h ++ instr.rounds (length (code_block c [])) ∷ code_block c (instr.end_while ∷ [])
unfolding code_stmt
loop_stmt h c =
    let k = instr.rounds (length (code_block c [])) ∷ code_block c (instr.end_while ∷ []) in
    let ms = instr.measure (length (code_expr h.measure [])) in
    let is = instr.invariant (length (code_bool h.invariant [])) in
    ap (λ y. instr.while ∷ instr.test (length (code_bool h.test [])) ∷ y) ((bool_front h.test).splits _ ∙ ap (λ y. code_bool h.test [] ++ is ∷ y) ((bool_front h.invariant).splits _ ∙ ap (λ y. code_bool h.invariant [] ++ ms ∷ y) ((expr_front h.measure).splits k)))
    ∙ loop_split h k

module _ (before : Snap) where
  -- `else {` behind the first block of an `if`
  else_by : (s : Snap) (b : BoolExpr) (at : ℕ) (ss : List Stmt) (n : Nest) (read : List Stmt) → Placed (length before.code) (in_then b at ss n) → s.pending ≡ before.pending ++ around (in_then b at ss n) → s.code ≡ before.code ++ (nest_code (in_then b at ss n) ++ codes code_stmt read) → block∞ before.ahead ≡ after_block (in_then b at ss n) (listed read end) s.ahead → else_head s.ahead ≡ Some (onward (onward s.ahead)) → AtStatement before (block_opened kind.Else (advanced (sealed (header.Block kind.Then) at (closed s))))
  unfolding after_block
  else_by s b at ss n read p o c r e =
      let x = nest_code n ++ codes code_stmt ss in
      let c' = listed read end in
      let base = before.code in
      let seal : set s.code at (instr.then (length s.code - (at + 1))) ≡ base ++ (x ++ then_block b c') =
      sealed_in instr.then base x (instr.if ∷ code_bool b []) (codes code_stmt read) s.code at (p.0 ∙ ap (λ k. length base + length (x ++ k)) (then_split b)) (c ∙ ap (λ k. base ++ ((x ++ k) ++ codes code_stmt read)) (then_split b))
      ∙ ap (λ k. base ++ (x ++ k)) (then_sealed b read) in
      let at₂ = length (set s.code at (instr.then (length s.code - (at + 1)))) in
      let nest₂ = in_else b c' at₂ ss n in
      let code₂ : set s.code at (instr.then (length s.code - (at + 1))) ++ instr.else 0 ∷ [] ≡ base ++ nest_code nest₂ =
      ap (λ k. k ++ instr.else 0 ∷ []) seal ∙ append_assoc base (x ++ then_block b c') _ ∙ ap (λ k. base ++ k) (append_assoc x (then_block b c') _ ∙ ap (λ k. x ++ k) (sym (else_split b c' (instr.else 0 ∷ [])))) in
      record {
        read = [];
        nest = nest₂;
        placed = (sym (length_push _ (instr.else 0)) ∙ ap length code₂ ∙ length-append base (nest_code nest₂), p.1);
        pending = ap (λ os. take (length os - 1) os ++ Braces kind.Else at₂ ∷ []) (o ∙ sym (append_assoc before.pending (around n) (Braces kind.Then at ∷ []))) ∙ ap (λ os. os ++ Braces kind.Else at₂ ∷ []) (rest_is (before.pending ++ around n) (Braces kind.Then at)) ∙ append_assoc before.pending (around n) _;
        code = code₂ ∙ ap (λ k. base ++ k) (sym (append-nil (nest_code nest₂)));
        rest = r ∙ rw e;
      }

  -- a statement with its last block: what it was in, and its code
  ends_by : (s : Snap) (st : Stmt) (ss : List Stmt) (n : Nest) (part : Open) (code' : List Instr) (last : Instr) → Placed (length before.code) n → s.pending ≡ before.pending ++ (around n ++ part ∷ []) → code' ++ last ∷ [] ≡ before.code ++ ((nest_code n ++ codes code_stmt ss) ++ code_stmt st []) → block∞ before.ahead ≡ (block∞ s.ahead >>= λ p. after_block n (listed ss (seq st p.0)) p.1) → AtStatement before (emitted last (record s { code = code'; pending = (closed s).pending }))
  ends_by s st ss n part code' last p o c r = record {
    read = ss ++ st ∷ [];
    nest = n;
    placed = p;
    pending = ap (λ os. take (length os - 1) os) (o ∙ sym (append_assoc before.pending (around n) (part ∷ []))) ∙ rest_is (before.pending ++ around n) part;
    code = c ∙ ap (λ k. before.code ++ k) (append_assoc (nest_code n) (codes code_stmt ss) _ ∙ ap (λ k. nest_code n ++ k) (sym (codes_more code_stmt stmt_front ss st)));
    rest = r ∙ >>=-ext (block∞ s.ahead) (λ p. ap (λ c. after_block n c p.1) (sym (listed_more ss st p.0)));
  }

  fi_by : (s : Snap) (b : BoolExpr) (c : Block) (at : ℕ) (ss : List Stmt) (n : Nest) (read : List Stmt) → Placed (length before.code) (in_else b c at ss n) → s.pending ≡ before.pending ++ around (in_else b c at ss n) → s.code ≡ before.code ++ (nest_code (in_else b c at ss n) ++ codes code_stmt read) → block∞ before.ahead ≡ after_block (in_else b c at ss n) (listed read end) s.ahead → AtStatement before (emitted instr.end_if (sealed (header.Block kind.Else) at (closed s)))
  unfolding after_block code_stmt
  fi_by s b c at ss n read p o e r =
      let x = nest_code n ++ codes code_stmt ss in
      let base = before.code in
      let d = listed read end in
      let head = else_split b c (instr.else 0 ∷ []) in
      let seal = sealed_in instr.else base x (then_block b c) (codes code_stmt read) s.code at (p.0 ∙ ap (λ k. length base + length (x ++ k)) head) (e ∙ ap (λ k. base ++ ((x ++ k) ++ codes code_stmt read)) head) in
      let stmt : (then_block b c ++ instr.else (length (codes code_stmt read)) ∷ codes code_stmt read) ++ instr.end_if ∷ [] ≡ code_stmt (branch b c d) [] =
      append_assoc (then_block b c) _ (instr.end_if ∷ []) ∙ ap (λ k. then_block b c ++ instr.else (length (codes code_stmt read)) ∷ k) (sym (listed_code read (instr.end_if ∷ [])))
      ∙ ap (λ m. then_block b c ++ instr.else (length m) ∷ code_block d (instr.end_if ∷ [])) (sym (listed_whole read)) ∙ sym (else_split b c (instr.else (length (code_block d [])) ∷ code_block d (instr.end_if ∷ []))) in
      ends_by s (branch b c d) ss n (Braces kind.Else at) _ instr.end_if p.1 o
      (ap (λ k. k ++ instr.end_if ∷ []) seal ∙ append_assoc base _ _ ∙ ap (λ k. base ++ k) (append_assoc x _ _ ∙ ap (λ k. x ++ k) stmt))
      r

  od_by : (s : Snap) (h : LoopHead) (at : ℕ) (ss : List Stmt) (n : Nest) (read : List Stmt) → Placed (length before.code) (in_loop h at ss n) → s.pending ≡ before.pending ++ around (in_loop h at ss n) → s.code ≡ before.code ++ (nest_code (in_loop h at ss n) ++ codes code_stmt read) → block∞ before.ahead ≡ after_block (in_loop h at ss n) (listed read end) s.ahead → AtStatement before (emitted instr.end_while (sealed (header.Block kind.Do) at (closed s)))
  unfolding after_block
  od_by s h at ss n read p o e r =
      let x = nest_code n ++ codes code_stmt ss in
      let base = before.code in
      let c = listed read end in
      let head = loop_split h (instr.rounds 0 ∷ []) in
      let seal = sealed_in instr.rounds base x (loop_front h) (codes code_stmt read) s.code at (p.0 ∙ ap (λ k. length base + length (x ++ k)) head) (e ∙ ap (λ k. base ++ ((x ++ k) ++ codes code_stmt read)) head) in
      let stmt : (loop_front h ++ instr.rounds (length (codes code_stmt read)) ∷ codes code_stmt read) ++ instr.end_while ∷ [] ≡ code_stmt (loop h.test h.invariant h.measure c) [] =
      append_assoc (loop_front h) _ (instr.end_while ∷ []) ∙ ap (λ k. loop_front h ++ instr.rounds (length (codes code_stmt read)) ∷ k) (sym (listed_code read (instr.end_while ∷ [])))
      ∙ ap (λ m. loop_front h ++ instr.rounds (length m) ∷ code_block c (instr.end_while ∷ [])) (sym (listed_whole read)) ∙ sym (loop_stmt h c) in
      ends_by s (loop h.test h.invariant h.measure c) ss n (Braces kind.Do at) _ instr.end_while p.1 o
      (ap (λ k. k ++ instr.end_while ∷ []) seal ∙ append_assoc base _ _ ∙ ap (λ k. base ++ k) (append_assoc x _ _ ∙ ap (λ k. x ++ k) stmt))
      r

  -- what was begun last, by what the block stands in
  last_in : (s : Snap) (os : List Open) (o p : Open) → s.pending ≡ before.pending ++ (os ++ o ∷ []) → Some p ≡ last_open s.pending → o ≡ p
  last_in s os o p e l = let f = ap last_open (e ∙ sym (append_assoc before.pending os (o ∷ []))) in let g = last_is (before.pending ++ os) o in cc

  not_outermost : {P : Type 0} (s : Snap) → s.pending ≡ before.pending ++ [] → length before.pending < length s.pending → P
  not_outermost s e l = absurd (omega (arith, ap length (e ∙ append-nil before.pending)))

  module _ (s : Snap) (h : BlockWhole before s) (l : length before.pending < length s.pending) (at : ℕ) where
    pub then_closed : Some (Braces kind.Then at) ≡ last_open s.pending → else_head s.ahead ≡ Some (onward (onward s.ahead)) → AtStatement before (block_opened kind.Else (advanced (sealed (header.Block kind.Then) at (closed s))))
    then_closed o e = go h.nest h.placed h.pending h.code h.rest
      where
        go : (n : Nest) → Placed (length before.code) n → s.pending ≡ before.pending ++ around n → s.code ≡ before.code ++ (nest_code n ++ codes code_stmt h.read) → block∞ before.ahead ≡ after_block n (listed h.read end) s.ahead → AtStatement before (block_opened kind.Else (advanced (sealed (header.Block kind.Then) at (closed s))))
        go outermost p q c r = not_outermost s q l
        go (in_then b at' ss n) p q c r =
            let f = last_in s (around n) (Braces kind.Then at') (Braces kind.Then at) q o in
            let same : at' ≡ at = cc in
            subst (λ m. AtStatement before (block_opened kind.Else (advanced (sealed (header.Block kind.Then) m (closed s))))) same (else_by s b at' ss n h.read p q c r e)
        go (in_else b c' at' ss n) p q c r = let f = last_in s (around n) (Braces kind.Else at') (Braces kind.Then at) q o in let z : ◌≡◌ {A = ℕ} 0 1 = cc in absurd (omega arith)
        go (in_loop h' at' ss n) p q c r = let f = last_in s (around n) (Braces kind.Do at') (Braces kind.Then at) q o in let z : ◌≡◌ {A = ℕ} 0 1 = cc in absurd (omega arith)

    pub then_unclosed : Some (Braces kind.Then at) ≡ last_open s.pending → else_head s.ahead ≡ None → block∞ before.ahead ≡ None
    unfolding after_block
    then_unclosed o e = go h.nest h.pending h.rest
      where
        go : (n : Nest) → s.pending ≡ before.pending ++ around n → block∞ before.ahead ≡ after_block n (listed h.read end) s.ahead → block∞ before.ahead ≡ None
        go outermost q r = not_outermost s q l
        go (in_then b at' ss n) q r = r ∙ rw e
        go (in_else b c' at' ss n) q r = let f = last_in s (around n) (Braces kind.Else at') (Braces kind.Then at) q o in let z : ◌≡◌ {A = ℕ} 0 1 = cc in absurd (omega arith)
        go (in_loop h' at' ss n) q r = let f = last_in s (around n) (Braces kind.Do at') (Braces kind.Then at) q o in let z : ◌≡◌ {A = ℕ} 0 1 = cc in absurd (omega arith)

    pub else_closed : Some (Braces kind.Else at) ≡ last_open s.pending → AtStatement before (emitted instr.end_if (sealed (header.Block kind.Else) at (closed s)))
    else_closed o = go h.nest h.placed h.pending h.code h.rest
      where
        go : (n : Nest) → Placed (length before.code) n → s.pending ≡ before.pending ++ around n → s.code ≡ before.code ++ (nest_code n ++ codes code_stmt h.read) → block∞ before.ahead ≡ after_block n (listed h.read end) s.ahead → AtStatement before (emitted instr.end_if (sealed (header.Block kind.Else) at (closed s)))
        go outermost p q c r = not_outermost s q l
        go (in_then b at' ss n) p q c r = let f = last_in s (around n) (Braces kind.Then at') (Braces kind.Else at) q o in let z : ◌≡◌ {A = ℕ} 0 1 = cc in absurd (omega arith)
        go (in_else b c' at' ss n) p q c r =
            let f = last_in s (around n) (Braces kind.Else at') (Braces kind.Else at) q o in
            let same : at' ≡ at = cc in
            subst (λ m. AtStatement before (emitted instr.end_if (sealed (header.Block kind.Else) m (closed s)))) same (fi_by s b c' at' ss n h.read p q c r)
        go (in_loop h' at' ss n) p q c r = let f = last_in s (around n) (Braces kind.Do at') (Braces kind.Else at) q o in let z : ◌≡◌ {A = ℕ} 0 1 = cc in absurd (omega arith)

    pub do_closed : Some (Braces kind.Do at) ≡ last_open s.pending → AtStatement before (emitted instr.end_while (sealed (header.Block kind.Do) at (closed s)))
    do_closed o = go h.nest h.placed h.pending h.code h.rest
      where
        go : (n : Nest) → Placed (length before.code) n → s.pending ≡ before.pending ++ around n → s.code ≡ before.code ++ (nest_code n ++ codes code_stmt h.read) → block∞ before.ahead ≡ after_block n (listed h.read end) s.ahead → AtStatement before (emitted instr.end_while (sealed (header.Block kind.Do) at (closed s)))
        go outermost p q c r = not_outermost s q l
        go (in_then b at' ss n) p q c r = let f = last_in s (around n) (Braces kind.Then at') (Braces kind.Do at) q o in let z : ◌≡◌ {A = ℕ} 0 1 = cc in absurd (omega arith)
        go (in_else b c' at' ss n) p q c r = let f = last_in s (around n) (Braces kind.Else at') (Braces kind.Do at) q o in let z : ◌≡◌ {A = ℕ} 0 1 = cc in absurd (omega arith)
        go (in_loop h' at' ss n) p q c r =
            let f = last_in s (around n) (Braces kind.Do at') (Braces kind.Do at) q o in
            let same : at' ≡ at = cc in
            subst (λ m. AtStatement before (emitted instr.end_while (sealed (header.Block kind.Do) m (closed s)))) same (od_by s h' at' ss n h.read p q c r)

  -- nothing else has statements inside
  pub none_closed : (s : Snap) → BlockWhole before s → length before.pending < length s.pending → ((k : Kind) (at : ℕ) → Some (Braces k at) ≡ last_open s.pending → ⊥) → block∞ before.ahead ≡ None
  none_closed s h l f = go h.nest h.pending
    where
      found : (os : List Open) (o : Open) → s.pending ≡ before.pending ++ (os ++ o ∷ []) → Some o ≡ last_open s.pending
      found os o e = sym (ap last_open (e ∙ sym (append_assoc before.pending os (o ∷ []))) ∙ last_is (before.pending ++ os) o)

      go : (n : Nest) → s.pending ≡ before.pending ++ around n → block∞ before.ahead ≡ None
      go outermost q = not_outermost s q l
      go (in_then b at ss n) q = absurd (f kind.Then at (found (around n) (Braces kind.Then at) q))
      go (in_else b c at ss n) q = absurd (f kind.Else at (found (around n) (Braces kind.Else at) q))
      go (in_loop h at ss n) q = absurd (f kind.Do at (found (around n) (Braces kind.Do at) q))

-- A block begins.
pub begun : (s : Snap) → AtStatement s s
unfolding after_block
begun s = record { read = []; nest = outermost; placed = tt; pending = sym (append-nil s.pending); code = sym (append-nil s.code); rest = sym (>>=-some (block∞ s.ahead)) }

module _ (before s : Snap) (h : AtStatement before s) where
  -- the brace behind the last statement
  pub brace_read : starts the.RightBrace s.ahead ≡ true → BlockWhole before (advanced s)
  brace_read b = record { read = h.read; nest = h.nest; placed = h.placed; pending = h.pending; code = h.code; rest = h.rest ∙ rw (block_rule s.ahead, b) }

  module _ (b : starts the.RightBrace s.ahead ≡ false) where
    pub no_statement : statement∞ s.ahead ≡ None → block∞ before.ahead ≡ None
    no_statement n = h.rest ∙ rw (block_rule s.ahead, b, n)

    pub plain_read : (t : Snap) → Read statement∞ (λ s. code_stmt s []) s t → AtStatement before t
    plain_read t r = record {
      read = h.read ++ r.value ∷ [];
      nest = h.nest;
      placed = h.placed;
      pending = r.pending ∙ h.pending;
      code = r.code ∙ ap (λ k. k ++ code_stmt r.value []) h.code ∙ append_assoc before.code _ _ ∙ ap (λ k. before.code ++ k) (append_assoc (nest_code h.nest) (codes code_stmt h.read) _ ∙ ap (λ k. nest_code h.nest ++ k) (sym (codes_more code_stmt stmt_front h.read r.value)));
      rest = h.rest ∙ rw (block_rule s.ahead, b, r.parsed) (>>=-assoc (block∞ t.ahead) _ _) ∙ >>=-ext (block∞ t.ahead) (λ p. ap (λ c. after_block h.nest c p.1) (sym (listed_more h.read r.value p.0)));
    }

    pub if_read : (t : Snap) → starts the.If s.ahead ≡ true → Headed (λ ts. if_head∞ (onward ts)) then_code kind.Then s t → AtStatement before t
    unfolding after_block
    if_read t f r = record {
      read = [];
      nest = in_then r.value r.at h.read h.nest;
      placed = (r.placed ∙ ap length code' ∙ length-append before.code _, h.placed);
      pending = r.pending ∙ ap (λ os. os ++ Braces kind.Then r.at ∷ []) h.pending ∙ append_assoc before.pending (around h.nest) _;
      code = code' ∙ ap (λ k. before.code ++ k) (sym (append-nil _));
      rest = h.rest ∙ rw (block_rule s.ahead, b, statement_if s.ahead f, r.parsed) (>>=-assoc (block∞ t.ahead >>= ifs) rests afters ∙ >>=-assoc (block∞ t.ahead) ifs (λ y. rests y >>= afters) ∙ >>=-ext (block∞ t.ahead) (λ q. >>=-assoc (else_head q.1) _ _ ∙ >>=-ext (else_head q.1) (λ us. >>=-assoc (block∞ us) _ _ ∙ >>=-ext (block∞ us) (λ d. >>=-assoc (block∞ d.1) _ _))));
    }
      where
        ifs : Block × List Token → Parsed Stmt
        ifs q = else_head q.1 >>= λ us. block∞ us >>= λ d. Some (branch r.value q.0 d.0, d.1)

        rests : Stmt × List Token → Parsed Block
        rests x = block∞ x.1 >>= λ y. Some (seq x.0 y.0, y.1)

        afters : Block × List Token → Parsed Block
        afters x = after_block h.nest (listed h.read x.0) x.1

        code' : t.code ≡ before.code ++ nest_code (in_then r.value r.at h.read h.nest)
        code' = r.code ∙ ap (λ k. k ++ then_code r.value) h.code ∙ append_assoc before.code _ _

    pub while_read : (t : Snap) → starts the.While s.ahead ≡ true → Headed (λ ts. while_head∞ (onward ts)) loop_code kind.Do s t → AtStatement before t
    unfolding after_block
    while_read t f r = record {
      read = [];
      nest = in_loop r.value r.at h.read h.nest;
      placed = (r.placed ∙ ap length code' ∙ length-append before.code _, h.placed);
      pending = r.pending ∙ ap (λ os. os ++ Braces kind.Do r.at ∷ []) h.pending ∙ append_assoc before.pending (around h.nest) _;
      code = code' ∙ ap (λ k. before.code ++ k) (sym (append-nil _));
      rest = h.rest ∙ rw (block_rule s.ahead, b, statement_while s.ahead f, r.parsed) (>>=-assoc (block∞ t.ahead >>= loops) rests afters ∙ >>=-assoc (block∞ t.ahead) loops (λ y. rests y >>= afters) ∙ >>=-ext (block∞ t.ahead) (λ q. >>=-assoc (block∞ q.1) _ _));
    }
      where
        loops : Block × List Token → Parsed Stmt
        loops q = Some (loop r.value.test r.value.invariant r.value.measure q.0, q.1)

        rests : Stmt × List Token → Parsed Block
        rests x = block∞ x.1 >>= λ y. Some (seq x.0 y.0, y.1)

        afters : Block × List Token → Parsed Block
        afters x = after_block h.nest (listed h.read x.0) x.1

        code' : t.code ≡ before.code ++ nest_code (in_loop r.value r.at h.read h.nest)
        code' = r.code ∙ ap (λ k. k ++ loop_code r.value) h.code ∙ append_assoc before.code _ _

-- the outermost block is whole where nothing is open that was not before
pub block_read : (before s : Snap) → BlockWhole before s → length s.pending ≤ length before.pending → Read block∞ (λ c. code_block c []) before s
unfolding after_block
block_read before s h l = go h.nest h.pending h.code h.rest
  where
    grown : {P : Type 0} (os : List Open) (o : Open) → s.pending ≡ before.pending ++ (os ++ o ∷ []) → P
    grown os o e = absurd (omega (arith, ap length e, length-append before.pending (os ++ o ∷ []), length_push os o))

    go : (n : Nest) → s.pending ≡ before.pending ++ around n → s.code ≡ before.code ++ (nest_code n ++ codes code_stmt h.read) → block∞ before.ahead ≡ after_block n (listed h.read end) s.ahead → Read block∞ (λ c. code_block c []) before s
    go outermost q c r = record { value = listed h.read end; parsed = r; code = c ∙ ap (λ k. before.code ++ k) (sym (listed_whole h.read)); pending = q ∙ append-nil before.pending }
    go (in_then b at ss n) q c r = grown (around n) (Braces kind.Then at) q
    go (in_else b d at ss n) q c r = grown (around n) (Braces kind.Else at) q
    go (in_loop k at ss n) q c r = grown (around n) (Braces kind.Do at) q
