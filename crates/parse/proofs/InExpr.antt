-- Each step of reading an expression keeps what the grammar makes of the rest.
use Rattle.std.proofs.Common.{◌≡◌, ℕ, ◌+◌, ◌-◌, ◌<◌, ◌≤◌, Bool, true, false, cond, List, [], ◌∷◌, ◌++◌, length, take, Some, None, Option, sym, refl, ap, ◌∙◌, subst, append_assoc, append-nil, arith, length-append, length-take}
use Rattle.std.proofs.lemmas.List.{take_at, get_or_push, length_push, length-take-le}
use Rattle.std.proofs.lemmas.Option.{slice_get-get_or}
use Rattle.std.proofs.lemmas.Bool.{lt-ltb, le-ltb}
use Rattle.lang.specs.Base.{◌>>=◌, maybe, when}
use Rattle.lang.specs.Code.{code_expr}
use Rattle.lang.specs.Grammar.{Parsed, is, starts, onward, expect, a_name, a_number, additive, multiplicative}
use Rattle.lang.specs.Instr as instr
use Rattle.lang.specs.Instr.{Instr, name_at}
use Rattle.parse.specs.InExpr.{tight, same_tier, of_tier, last_waiting, completed, Waiting, Level, Context, parenthesis, row, old_row, Nest, outermost, inside, context, waits, waiting, around, left_code, level_code, nest_code, leave, after_sum, after_product, after_atom, AtOperand, BehindAtom, BehindSum, InExpr, Used, behind_name, name_step}
use Rattle.parse.specs.Reading.{Snap, Read, Paid, advanced, emitted, opened, closed, last_open}
use Rattle.lang.specs.Syntax.{Expr, num, var, old, binary, index, old_index}
use Rattle.lang.specs.Tokens.{Token, fixed, name, number, stray}
use Rattle.parse.specs.Unbounded.{sum∞, sum_rest∞, product_rest∞, atom∞}
use Rattle.lang.specs.declared.code.Place.{Place}
use Rattle.parse.specs.declared.expression.Step.{Step}
use Rattle.parse.specs.declared.expression.Step.TheVariants.{Operand, Atom}
use Rattle.parse.specs.declared.open.Open.{Open}
use Rattle.parse.specs.declared.open.Open.TheVariants.{Paren, Index, OldIndex, Operator}
use Rattle.lang.specs.declared.syntax.ArithOp.{ArithOp}
use Rattle.lang.specs.declared.syntax.ArithOp.TheVariants.{Add, Sub, Mul, Div, Rem}
use Rattle.lang.specs.declared.token.Fixed.{Fixed}
use Rattle.lang.specs.declared.token.Fixed.TheVariants as the
use Rattle.lang.proofs.Codes.{expr_front}
use Rattle.parse.proofs.Binds.{>>=-assoc, >>=-ext, >>=-some}
use Rattle.parse.proofs.Heads.{fixed_ahead, starts_long}
use Rattle.parse.proofs.Rooms.{paid_then}
use Rattle.parse.proofs.Rules.{sum_rule, sum_rest_rule, product_rule, product_rest_rule, atom_end, atom_fixed, atom_name, atom_number, atom_stray}

-- what stands last in the list of open parts
pub last_is : (os : List Open) (o : Open) → last_open (os ++ o ∷ []) ≡ Some o
last_is os o =
    let long : length (os ++ o ∷ []) - 1 ≡ length os = omega (arith, length_push os o) in
    let end : length os < length (os ++ o ∷ []) = omega (arith, length_push os o) in
    rw long (slice_get-get_or (os ++ o ∷ []) (length os) o end ∙ ap Some (get_or_push os o o (length os) refl))

pub rest_is : (os : List Open) (o : Open) → take (length (os ++ o ∷ []) - 1) (os ++ o ∷ []) ≡ os
rest_is os o =
    let long : length (os ++ o ∷ []) - 1 ≡ length os = omega (arith, length_push os o) in
    rw long (take_at os (o ∷ []) (length os) refl)

pub closed_short : (os : List Open) → length (take (length os - 1) os) ≤ length os
closed_short os = omega (arith, length-take (length os - 1) os)

pub closed_one : (os : List Open) → 0 < length os → length (take (length os - 1) os) + 1 ≡ length os
closed_one os h = let fewer : length os - 1 ≤ length os = omega arith in omega (arith, length-take-le (length os - 1) os fewer)

pub when_some : {A B : Type 0} (b : Bool) (o : Option A) (f : A → Option B) (x : B) → (when b o >>= f) ≡ Some x → b ≡ true
when_some true o f x e = refl
when_some false o f x e = cc

pub completed_ahead : (t : Bool) (base : ℕ) (s : Snap) → (completed t base s).ahead ≡ s.ahead
completed_ahead t base s = go (last_waiting t base s.pending)
  where
    go : (o : Option (ArithOp × Place)) → (maybe o s λ w. emitted (instr.binary w.0) (closed s)).ahead ≡ s.ahead
    go None = refl
    go (Some w) = refl

pub both_ahead : (s t u : Snap) (base : ℕ) → t ≡ completed true base s → u ≡ completed false base t → u.ahead ≡ s.ahead
both_ahead s t u base e f = ap (λ x. x.ahead) f ∙ completed_ahead false base t ∙ ap (λ x. x.ahead) e ∙ completed_ahead true base s

-- after a step from s to t that reads nothing
pub used_after : (s t u : Snap) (next : Option Step) → Paid s t → t.ahead ≡ s.ahead → Used t u next → Used s u next
used_after s t u next p a h = record { paid = paid_then s t u p h.paid; shorter = omega (arith, h.shorter, ap length a) }

pub done_used : (s t : Snap) → Paid s t → t.ahead ≡ s.ahead → Used s t None
done_used s t p a = record { paid = p; shorter = omega (arith, ap length a) }

last_waiting_push : (t : Bool) (base : ℕ) (os : List Open) (o : Open) → base ≤ length os → last_waiting t base (os ++ o ∷ []) ≡ of_tier t o
last_waiting_push t base os o h =
    let inside : base < length (os ++ o ∷ []) = omega (arith, length_push os o) in
    rw (lt-ltb base (length (os ++ o ∷ [])) inside, last_is os o)

last_waiting_none : (t : Bool) (os : List Open) → last_waiting t (length os) os ≡ None
last_waiting_none t os = rw (le-ltb (length os) (length os) (omega arith))

of_tier_context : (t : Bool) (c : Context) → of_tier t (context c) ≡ None
of_tier_context t parenthesis = refl
of_tier_context t (row p) = refl
of_tier_context t (old_row p) = refl

same_tier_is : (t : Bool) → same_tier t t ≡ true
same_tier_is true = refl
same_tier_is false = refl

of_tier_waiting : (t : Bool) (w : Waiting t) → of_tier t (Operator w.op w.place) ≡ Some (w.op, w.place)
of_tier_waiting t w = rw (w.tiered, same_tier_is t)

of_other_tier : (w : Waiting false) → of_tier true (Operator w.op w.place) ≡ None
of_other_tier w = rw w.tiered

-- with other tokens before it
abbrev pub at : List Token → Snap → Snap
at ts s = record s { ahead = ts }

-- An atom by the first token.
pub atom_paren : (text : List ℕ) (ts : List Token) → starts the.LeftParen ts ≡ true → atom∞ ts ≡ (sum∞ (onward ts) >>= λ p. leave text parenthesis p.0 p.1)
atom_paren text ts h =
    let f = fixed_ahead the.LeftParen ts h in
    ap atom∞ f.is ∙ atom_fixed f.token (onward ts) ∙ rw (← f.spells)

pub atom_old : (ts : List Token) → starts the.Old ts ≡ true → atom∞ ts ≡ (a_name (onward ts) >>= λ p. cond (starts the.LeftBracket p.1) (sum∞ (onward p.1) >>= λ q. expect the.RightBracket q.1 >>= λ us. Some (old_index p.0 q.0, us)) (Some (old p.0, p.1)))
atom_old ts h =
    let f = fixed_ahead the.Old ts h in
    ap atom∞ f.is ∙ atom_fixed f.token (onward ts) ∙ rw (← f.spells)

no_atom : (ts : List Token) → starts the.LeftParen ts ≡ false → starts the.Old ts ≡ false → a_name ts ≡ None → a_number ts ≡ None → atom∞ ts ≡ None
no_atom [] p o x n = atom_end
no_atom (fixed f ∷ ts) p o x n = atom_fixed f ts ∙ rw (p, o)
no_atom (name y ∷ ts) p o x n = let z : ◌≡◌ {A = ℕ} 0 1 = cc in absurd (omega arith)
no_atom (number m ∷ ts) p o x n = let z : ◌≡◌ {A = ℕ} 0 1 = cc in absurd (omega arith)
no_atom (stray ∷ ts) p o x n = atom_stray ts

pub paren_used : (s : Snap) → starts the.LeftParen s.ahead ≡ true → Used s (advanced (opened Paren s)) (Some Operand)
paren_used s h = record { paid = record { code = omega (arith, length_push s.pending Paren, starts_long the.LeftParen s.ahead h); pending = omega (arith, length_push s.pending Paren, starts_long the.LeftParen s.ahead h); text = refl; code_room = refl; pending_room = refl }; shorter = omega (arith, starts_long the.LeftParen s.ahead h) }

pub number_used : (s : Snap) (i : Instr) → length (onward s.ahead) < length s.ahead → Used s (advanced (emitted i s)) (Some Atom)
number_used s i l = record { paid = record { code = omega (arith, length_push s.code i); pending = omega arith; text = refl; code_room = refl; pending_room = refl }; shorter = omega arith }

-- behind a name, which has been read
pub named_used : (s : Snap) (us : List Token) (o : Open) (i : Instr) → length us < length s.ahead → Used s (behind_name o i (at us s)) (Some (name_step (at us s)))
named_used s us o i l = go (starts the.LeftBracket us) refl
  where
    go : (b : Bool) → starts the.LeftBracket us ≡ b → Used s (cond b (advanced (opened o (at us s))) (emitted i (at us s))) (Some (cond b Operand Atom))
    go true e = record { paid = record { code = omega (arith, length_push s.pending o, starts_long the.LeftBracket us e); pending = omega (arith, length_push s.pending o, starts_long the.LeftBracket us e); text = refl; code_room = refl; pending_room = refl }; shorter = omega (arith, starts_long the.LeftBracket us e) }
    go false e = record { paid = record { code = omega (arith, length_push s.code i); pending = omega arith; text = refl; code_room = refl; pending_room = refl }; shorter = omega arith }

-- what closes a parenthesis or a row, and what comes of the sum inside
abbrev closer : Context → Fixed
closer parenthesis = the.RightParen
closer (row p) = the.RightBracket
closer (old_row p) = the.RightBracket

abbrev wrapped : List ℕ → Context → Expr → Expr
wrapped text parenthesis e = e
wrapped text (row p) e = index (name_at text p.0) e
wrapped text (old_row p) e = old_index (name_at text p.0) e

abbrev closing : List ℕ → Context → List Instr
closing text parenthesis = []
closing text (row p) = instr.index (name_at text p.0) ∷ []
closing text (old_row p) = instr.old_index (name_at text p.0) ∷ []

leave_is : (text : List ℕ) (c : Context) (e : Expr) (ts : List Token) → leave text c e ts ≡ (expect (closer c) ts >>= λ us. Some (wrapped text c e, us))
leave_is text parenthesis e ts = refl
leave_is text (row p) e ts = refl
leave_is text (old_row p) e ts = refl

wrapped_code : (text : List ℕ) (c : Context) (e : Expr) → code_expr (wrapped text c e) [] ≡ code_expr e [] ++ closing text c
unfolding code_expr
wrapped_code text parenthesis e = sym (append-nil (code_expr e []))
wrapped_code text (row p) e = (expr_front e).splits (instr.index (name_at text p.0) ∷ [])
wrapped_code text (old_row p) e = (expr_front e).splits (instr.old_index (name_at text p.0) ∷ [])

context_injective : (c d : Context) → context c ≡ context d → c ≡ d
context_injective parenthesis parenthesis e = refl
context_injective parenthesis (row q) e = cc
context_injective parenthesis (old_row q) e = cc
context_injective (row p) parenthesis e = cc
context_injective (row p) (row q) e = cc
context_injective (row p) (old_row q) e = cc
context_injective (old_row p) parenthesis e = cc
context_injective (old_row p) (row q) e = cc
context_injective (old_row p) (old_row q) e = cc

pub no_context : (o : Open) → (o ≡ Paren → ⊥) → ((p : Place) → o ≡ Index p → ⊥) → ((p : Place) → o ≡ OldIndex p → ⊥) → (c : Context) → o ≡ context c → ⊥
no_context o f g h parenthesis e = f e
no_context o f g h (row p) e = g p e
no_context o f g h (old_row p) e = h p e

pub left_used : (s : Snap) → length (onward s.ahead) < length s.ahead → Used s (advanced (closed s)) (Some Atom)
left_used s l = record { paid = record { code = omega (arith, closed_short s.pending); pending = omega (arith, closed_short s.pending); text = refl; code_room = refl; pending_room = refl }; shorter = omega arith }

pub left_row_used : (s : Snap) (i : Instr) → length (onward s.ahead) < length s.ahead → Used s (emitted i (advanced (closed s))) (Some Atom)
left_row_used s i l = record { paid = record { code = omega (arith, closed_short s.pending, length_push s.code i); pending = omega (arith, closed_short s.pending); text = refl; code_room = refl; pending_room = refl }; shorter = omega arith }

-- An operator by the first token.
pub multiplicative_tight : (ts : List Token) (o : ArithOp) → multiplicative ts ≡ Some o → (tight o ≡ true) × (length ts ≡ 1 + length (onward ts))
multiplicative_tight ts o h = go (starts the.Times ts) (starts the.Over ts) (starts the.Percent ts) refl refl refl h
  where
    go : (a b c : Bool) → starts the.Times ts ≡ a → starts the.Over ts ≡ b → starts the.Percent ts ≡ c → cond a (Some Mul) (cond b (Some Div) (cond c (Some Rem) None)) ≡ Some o → (tight o ≡ true) × (length ts ≡ 1 + length (onward ts))
    go true b c p q r h = let e : Mul ≡ o = cc in (rw (← e), starts_long the.Times ts p)
    go false true c p q r h = let e : Div ≡ o = cc in (rw (← e), starts_long the.Over ts q)
    go false false true p q r h = let e : Rem ≡ o = cc in (rw (← e), starts_long the.Percent ts r)
    go false false false p q r h = let z : ◌≡◌ {A = ℕ} 0 1 = cc in absurd (omega arith)

pub additive_loose : (ts : List Token) (o : ArithOp) → additive ts ≡ Some o → (tight o ≡ false) × (length ts ≡ 1 + length (onward ts))
additive_loose ts o h = go (starts the.Plus ts) (starts the.Minus ts) refl refl h
  where
    go : (a b : Bool) → starts the.Plus ts ≡ a → starts the.Minus ts ≡ b → cond a (Some Add) (cond b (Some Sub) None) ≡ Some o → (tight o ≡ false) × (length ts ≡ 1 + length (onward ts))
    go true b p q h = let e : Add ≡ o = cc in (rw (← e), starts_long the.Plus ts p)
    go false true p q h = let e : Sub ≡ o = cc in (rw (← e), starts_long the.Minus ts q)
    go false false p q h = let z : ◌≡◌ {A = ℕ} 0 1 = cc in absurd (omega arith)

pub operator_used : (s : Snap) (o : Open) → length s.ahead ≡ 1 + length (onward s.ahead) → Used s (advanced (opened o s)) (Some Operand)
operator_used s o l = record { paid = record { code = omega (arith, length_push s.pending o, l); pending = omega (arith, length_push s.pending o, l); text = refl; code_room = refl; pending_room = refl }; shorter = omega (arith, l) }

-- nothing waits on a level that has just begun
abbrev fresh : Level
fresh = record { sum = None; product = None }

module _ (before : Snap) where
  -- an atom that is one instruction
  pub operand_whole : (s : Snap) (e : Expr) (i : Instr) (ts : List Token) → AtOperand before s → atom∞ s.ahead ≡ Some (e, ts) → code_expr e [] ≡ i ∷ [] → BehindAtom before (record s { code = s.code ++ i ∷ []; ahead = ts })
  operand_whole s e i ts h a is = record {
    level = h.level;
    nest = h.nest;
    value = e;
    pending = h.pending;
    code = rw (h.code, is) (append_assoc before.code (nest_code h.nest ++ level_code h.level) (i ∷ []));
    rest = h.rest ∙ ap (λ m. m >>= λ p. after_atom s.text h.level h.nest p.0 p.1) a;
  }

  pub operand_none : (s : Snap) → AtOperand before s → atom∞ s.ahead ≡ None → sum∞ before.ahead ≡ None
  operand_none s h a = h.rest ∙ ap (λ m. m >>= λ p. after_atom s.text h.level h.nest p.0 p.1) a

  -- a sum inside a parenthesis or a row, and what is done behind it
  into : (text : List ℕ) (c : Context) (v : Level) (n : Nest) (ts : List Token) → ((sum∞ ts >>= λ p. leave text c p.0 p.1) >>= λ p. after_atom text v n p.0 p.1) ≡ (atom∞ ts >>= λ p. after_atom text fresh (inside c v n) p.0 p.1)
  unfolding after_sum
  into text c v n ts =
      let leaving : Expr × List Token → Parsed Expr = λ p. leave text c p.0 p.1 in
      let outside : Expr × List Token → Parsed Expr = λ p. after_atom text v n p.0 p.1 in
      let products : Expr × List Token → Parsed Expr = λ p. product_rest∞ p.0 p.1 in
      let sums : Expr × List Token → Parsed Expr = λ p. sum_rest∞ p.0 p.1 in
      rw (sum_rule, product_rule) (
      >>=-assoc (((atom∞ ts >>= products) >>= sums)) leaving outside
      ∙ >>=-assoc (atom∞ ts >>= products) sums (λ p. leaving p >>= outside)
      ∙ >>=-assoc (atom∞ ts) products (λ p. sums p >>= λ q. leaving q >>= outside))

  pub operand_inside : (s : Snap) (c : Context) (ts : List Token) → AtOperand before s → atom∞ s.ahead ≡ (sum∞ ts >>= λ p. leave s.text c p.0 p.1) → AtOperand before (record s { pending = s.pending ++ context c ∷ []; ahead = ts })
  operand_inside s c ts h a = record {
    level = fresh;
    nest = inside c h.level h.nest;
    pending = rw h.pending (append_assoc before.pending _ (context c ∷ []) ∙ ap (λ os. before.pending ++ os) (sym (append-nil _)));
    code = h.code ∙ ap (λ is. before.code ++ is) (sym (append-nil _));
    rest = h.rest ∙ ap (λ m. m >>= λ p. after_atom s.text h.level h.nest p.0 p.1) a ∙ into s.text c h.level h.nest ts;
  }

  -- what a waiting operator is completed to: its code stands behind that of its two sides
  code_joined : {t : Bool} (w : Waiting t) (e : Expr) (front : List Instr) → (front ++ code_expr w.left []) ++ code_expr e [] ++ instr.binary w.op ∷ [] ≡ front ++ code_expr (binary w.op w.left e) []
  unfolding code_expr
  code_joined w e front =
      let k = instr.binary w.op ∷ [] in
      append_assoc (front ++ code_expr w.left []) (code_expr e []) k
      ∙ append_assoc front (code_expr w.left []) (code_expr e [] ++ k)
      ∙ ap (λ is. front ++ is) (sym ((expr_front w.left).splits (code_expr e k) ∙ ap (λ is. code_expr w.left [] ++ is) ((expr_front e).splits k)))

  -- an atom behind which no product waits any more
  pub record LoneAtom (s : Snap) : Type 0 where
    pub sum : Option (Waiting false)
    pub nest : Nest
    pub value : Expr
    pub pending : s.pending ≡ before.pending ++ (around nest ++ waits sum)
    pub code : s.code ≡ before.code ++ ((nest_code nest ++ left_code sum) ++ code_expr value [])
    pub rest : sum∞ before.ahead ≡ after_atom s.text (record { sum = sum; product = None }) nest value s.ahead

  -- by the part that was begun last
  completed_by : (t : Bool) (s : Snap) (os : List Open) (o : Open) → s.pending ≡ before.pending ++ (os ++ o ∷ []) → completed t (length before.pending) s ≡ maybe (of_tier t o) s λ w. emitted (instr.binary w.0) (record s { pending = before.pending ++ os })
  completed_by t s os o e =
      let is : s.pending ≡ (before.pending ++ os) ++ o ∷ [] = e ∙ sym (append_assoc before.pending os (o ∷ [])) in
      let base : length before.pending ≤ length (before.pending ++ os) = omega (arith, length-append before.pending os) in
      let last : last_waiting t (length before.pending) s.pending ≡ of_tier t o = ap (last_waiting t (length before.pending)) is ∙ last_waiting_push t (length before.pending) (before.pending ++ os) o base in
      let rest : take (length s.pending - 1) s.pending ≡ before.pending ++ os = ap (λ os. take (length os - 1) os) is ∙ rest_is (before.pending ++ os) o in
      rw (last, rest)

  none_waits : (t : Bool) (s : Snap) (n : Nest) → s.pending ≡ before.pending ++ around n → completed t (length before.pending) s ≡ s
  none_waits t s outermost e = rw (e, append-nil before.pending, last_waiting_none t before.pending)
  none_waits t s (inside c v n) e = completed_by t s (around n ++ waiting v) (context c) e ∙ rw (of_tier_context t c)

  product_completed : (s : Snap) (m : Option (Waiting false)) (q : Option (Waiting true)) (n : Nest) (e : Expr) → s.pending ≡ before.pending ++ (around n ++ (waits m ++ waits q)) → s.code ≡ before.code ++ ((nest_code n ++ (left_code m ++ left_code q)) ++ code_expr e []) → sum∞ before.ahead ≡ after_atom s.text (record { sum = m; product = q }) n e s.ahead → LoneAtom (completed true (length before.pending) s)
  product_completed s None None n e p c r =
      let as_is = none_waits true s n (p ∙ ap (λ os. before.pending ++ os) (append-nil (around n))) in
      subst LoneAtom (sym as_is) (record { sum = None; nest = n; value = e; pending = p; code = c; rest = r })
  product_completed s (Some w) None n e p c r =
      let as_is : completed true (length before.pending) s ≡ s = completed_by true s (around n) (Operator w.op w.place) p ∙ rw (of_other_tier w) in
      let code = c ∙ ap (λ is. before.code ++ ((nest_code n ++ is) ++ code_expr e [])) (append-nil (left_code (Some w))) in
      subst LoneAtom (sym as_is) (record { sum = Some w; nest = n; value = e; pending = p; code = code; rest = r })
  product_completed s m (Some w) n e p c r =
      let front = nest_code n ++ left_code m in
      let k = instr.binary w.op ∷ [] in
      let after : Snap = emitted (instr.binary w.op) (record s { pending = before.pending ++ (around n ++ waits m) }) in
      let done : completed true (length before.pending) s ≡ after = completed_by true s (around n ++ waits m) (Operator w.op w.place) (p ∙ ap (λ os. before.pending ++ os) (sym (append_assoc (around n) (waits m) _))) ∙ rw (of_tier_waiting true w) in
      let code : s.code ++ k ≡ before.code ++ (front ++ code_expr (binary w.op w.left e) []) =
      ap (λ is. is ++ k) (c ∙ ap (λ is. before.code ++ (is ++ code_expr e [])) (sym (append_assoc (nest_code n) (left_code m) _)))
      ∙ append_assoc before.code _ k ∙ ap (λ is. before.code ++ is) (code_joined w e front) in
      subst LoneAtom (sym done) (record { sum = m; nest = n; value = binary w.op w.left e; pending = refl; code = code; rest = r })

  pub product_done : (s : Snap) → BehindAtom before s → LoneAtom (completed true (length before.pending) s)
  product_done s h = product_completed s h.level.sum h.level.product h.nest h.value h.pending h.code h.rest

  -- e *
  pub times : (s : Snap) (o : ArithOp) (p : Place) → tight o ≡ true → LoneAtom s → multiplicative s.ahead ≡ Some o → AtOperand before (advanced (opened (Operator o p) s))
  times s o p t h m = record {
    level = record { sum = h.sum; product = Some w };
    nest = h.nest;
    pending = ap (λ os. os ++ Operator o p ∷ []) h.pending ∙ append_assoc before.pending _ _ ∙ ap (λ os. before.pending ++ os) (append_assoc (around h.nest) (waits h.sum) _);
    code = h.code ∙ ap (λ is. before.code ++ is) (append_assoc (nest_code h.nest) (left_code h.sum) _);
    rest = h.rest ∙ rw (product_rest_rule h.value s.ahead, m) (>>=-assoc (atom∞ (onward s.ahead)) _ _);
  }
    where
      w : Waiting true
      w = record { op = o; place = p; left = h.value; tiered = t }

  -- a product, behind which a sum may wait
  pub record AProduct (s : Snap) : Type 0 where
    pub sum : Option (Waiting false)
    pub nest : Nest
    pub value : Expr
    pub pending : s.pending ≡ before.pending ++ (around nest ++ waits sum)
    pub code : s.code ≡ before.code ++ ((nest_code nest ++ left_code sum) ++ code_expr value [])
    pub rest : sum∞ before.ahead ≡ after_product s.text (record { sum = sum; product = None }) nest value s.ahead

  pub product_ends : (s : Snap) → LoneAtom s → multiplicative s.ahead ≡ None → AProduct s
  product_ends s h m = record { sum = h.sum; nest = h.nest; value = h.value; pending = h.pending; code = h.code; rest = h.rest ∙ rw (product_rest_rule h.value s.ahead, m) }

  -- a sum so far, behind which nothing waits
  pub record LoneSum (s : Snap) : Type 0 where
    pub nest : Nest
    pub value : Expr
    pub pending : s.pending ≡ before.pending ++ around nest
    pub code : s.code ≡ before.code ++ (nest_code nest ++ code_expr value [])
    pub rest : sum∞ before.ahead ≡ after_product s.text fresh nest value s.ahead

  sum_completed : (s : Snap) (m : Option (Waiting false)) (n : Nest) (e : Expr) → s.pending ≡ before.pending ++ (around n ++ waits m) → s.code ≡ before.code ++ ((nest_code n ++ left_code m) ++ code_expr e []) → sum∞ before.ahead ≡ after_product s.text (record { sum = m; product = None }) n e s.ahead → LoneSum (completed false (length before.pending) s)
  sum_completed s None n e p c r =
      let as_is = none_waits false s n (p ∙ ap (λ os. before.pending ++ os) (append-nil (around n))) in
      subst LoneSum (sym as_is) (record { nest = n; value = e; pending = p ∙ ap (λ os. before.pending ++ os) (append-nil (around n)); code = c ∙ ap (λ is. before.code ++ (is ++ code_expr e [])) (append-nil (nest_code n)); rest = r })
  sum_completed s (Some w) n e p c r =
      let k = instr.binary w.op ∷ [] in
      let after : Snap = emitted (instr.binary w.op) (record s { pending = before.pending ++ around n }) in
      let done : completed false (length before.pending) s ≡ after = completed_by false s (around n) (Operator w.op w.place) p ∙ rw (of_tier_waiting false w) in
      let code : s.code ++ k ≡ before.code ++ (nest_code n ++ code_expr (binary w.op w.left e) []) =
      ap (λ is. is ++ k) c ∙ append_assoc before.code _ k ∙ ap (λ is. before.code ++ is) (code_joined w e (nest_code n)) in
      subst LoneSum (sym done) (record { nest = n; value = binary w.op w.left e; pending = refl; code = code; rest = r })

  pub sum_done : (s : Snap) → AProduct s → LoneSum (completed false (length before.pending) s)
  sum_done s h = sum_completed s h.sum h.nest h.value h.pending h.code h.rest

  -- e +
  pub plus : (s : Snap) (o : ArithOp) (p : Place) → tight o ≡ false → LoneSum s → additive s.ahead ≡ Some o → AtOperand before (advanced (opened (Operator o p) s))
  plus s o p t h a = record {
    level = record { sum = Some w; product = None };
    nest = h.nest;
    pending = ap (λ os. os ++ Operator o p ∷ []) h.pending ∙ append_assoc before.pending _ _;
    code = h.code ∙ ap (λ is. before.code ++ (nest_code h.nest ++ is)) (sym (append-nil (code_expr h.value [])));
    rest = h.rest ∙ rw (sum_rest_rule h.value s.ahead, a, product_rule (onward s.ahead)) (>>=-assoc (atom∞ (onward s.ahead) >>= λ q. product_rest∞ q.0 q.1) _ _ ∙ >>=-assoc (atom∞ (onward s.ahead)) _ _);
  }
    where
      w : Waiting false
      w = record { op = o; place = p; left = h.value; tiered = t }

  pub sum_ends : (s : Snap) → LoneSum s → additive s.ahead ≡ None → BehindSum before s
  sum_ends s h a = record { nest = h.nest; value = h.value; pending = h.pending; code = h.code; rest = h.rest ∙ rw (sum_rest_rule h.value s.ahead, a) }

  -- the whole expression has been read where nothing is open that was not before
  whole_by : (s : Snap) (n : Nest) (e : Expr) → s.pending ≡ before.pending ++ around n → s.code ≡ before.code ++ (nest_code n ++ code_expr e []) → sum∞ before.ahead ≡ after_sum s.text n e s.ahead → length s.pending ≤ length before.pending → Read sum∞ (λ e. code_expr e []) before s
  unfolding after_sum
  whole_by s outermost e p c r h = record { value = e; parsed = r; code = c; pending = p ∙ append-nil before.pending }
  whole_by s (inside x v n) e p c r h = absurd (omega (arith, ap length p, length-append before.pending (around (inside x v n)), length_push (around n ++ waiting v) (context x)))

  pub whole : (s : Snap) → BehindSum before s → length s.pending ≤ length before.pending → Read sum∞ (λ e. code_expr e []) before s
  whole s h e = whole_by s h.nest h.value h.pending h.code h.rest e

  -- inside a parenthesis or a row, the sum is whole
  record Inside (s : Snap) : Type 0 where
    into : Context
    level : Level
    nest : Nest
    value : Expr
    pending : s.pending ≡ (before.pending ++ (around nest ++ waiting level)) ++ context into ∷ []
    code : s.code ≡ before.code ++ ((nest_code nest ++ level_code level) ++ code_expr value [])
    rest : sum∞ before.ahead ≡ (leave s.text into value s.ahead >>= λ p. after_atom s.text level nest p.0 p.1)

  inside_by : (s : Snap) (n : Nest) (e : Expr) → s.pending ≡ before.pending ++ around n → s.code ≡ before.code ++ (nest_code n ++ code_expr e []) → sum∞ before.ahead ≡ after_sum s.text n e s.ahead → length before.pending < length s.pending → Inside s
  unfolding after_sum
  inside_by s outermost e p c r h = absurd (omega (arith, ap length (p ∙ append-nil before.pending)))
  inside_by s (inside x v n) e p c r h = record { into = x; level = v; nest = n; value = e; pending = p ∙ sym (append_assoc before.pending _ _); code = c; rest = r }

  inside_of : (s : Snap) → BehindSum before s → length before.pending < length s.pending → Inside s
  inside_of s h l = inside_by s h.nest h.value h.pending h.code h.rest l

  left : (s : Snap) (h : Inside s) (a : Expr) (us : List Token) (is : List Instr) → leave s.text h.into h.value s.ahead ≡ Some (a, us) → code_expr a [] ≡ code_expr h.value [] ++ is → BehindAtom before (record s { code = s.code ++ is; pending = (closed s).pending; ahead = us })
  left s h a us is l e = record {
    level = h.level;
    nest = h.nest;
    value = a;
    pending = ap (λ os. take (length os - 1) os) h.pending ∙ rest_is _ (context h.into);
    code = ap (λ k. k ++ is) h.code ∙ append_assoc before.code _ is ∙ ap (λ k. before.code ++ k) (append_assoc (nest_code h.nest ++ level_code h.level) (code_expr h.value []) is ∙ ap (λ k. (nest_code h.nest ++ level_code h.level) ++ k) (sym e));
    rest = h.rest ∙ ap (λ m. m >>= λ p. after_atom s.text h.level h.nest p.0 p.1) l;
  }

  not_left : (s : Snap) (h : Inside s) → leave s.text h.into h.value s.ahead ≡ None → sum∞ before.ahead ≡ None
  not_left s h l = h.rest ∙ ap (λ m. m >>= λ p. after_atom s.text h.level h.nest p.0 p.1) l

  into_is : (s : Snap) (h : Inside s) (o : Open) → Some o ≡ last_open s.pending → context h.into ≡ o
  into_is s h o e = let l = last_is (before.pending ++ (around h.nest ++ waiting h.level)) (context h.into) in let f = ap last_open h.pending in cc

  -- behind a name
  pub named_reads : (s : Snap) (us : List Token) (c : Context) (e : Expr) (i : Instr) → AtOperand before s → atom∞ s.ahead ≡ cond (starts the.LeftBracket us) (sum∞ (onward us) >>= λ p. leave s.text c p.0 p.1) (Some (e, us)) → code_expr e [] ≡ i ∷ [] → InExpr before (behind_name (context c) i (at us s)) (Some (name_step (at us s)))
  named_reads s us c e i h a is = go (starts the.LeftBracket us) a
    where
      go : (b : Bool) → atom∞ s.ahead ≡ cond b (sum∞ (onward us) >>= λ p. leave s.text c p.0 p.1) (Some (e, us)) → InExpr before (cond b (advanced (opened (context c) (at us s))) (emitted i (at us s))) (Some (cond b Operand Atom))
      go true a = operand_inside s c (onward us) h a
      go false a = operand_whole s e i us h a is

  pub old_unnamed : (s : Snap) → AtOperand before s → starts the.Old s.ahead ≡ true → a_name (onward s.ahead) ≡ None → sum∞ before.ahead ≡ None
  old_unnamed s h o n = operand_none s h (atom_old s.ahead o ∙ rw n)

  pub old_named : (s : Snap) (p : Place) → AtOperand before s → starts the.Old s.ahead ≡ true → a_name (onward s.ahead) ≡ Some (name_at s.text p.0, onward (onward s.ahead)) → InExpr before (behind_name (OldIndex p) (instr.old (name_at s.text p.0)) (advanced (advanced s))) (Some (name_step (advanced (advanced s))))
  unfolding code_expr
  old_named s p h o n = named_reads s (onward (onward s.ahead)) (old_row p) (old (name_at s.text p.0)) (instr.old (name_at s.text p.0)) h (atom_old s.ahead o ∙ rw n) refl

  pub paren_reads : (s : Snap) → AtOperand before s → starts the.LeftParen s.ahead ≡ true → AtOperand before (advanced (opened Paren s))
  paren_reads s h p = operand_inside s parenthesis (onward s.ahead) h (atom_paren s.text s.ahead p)

  pub number_reads : (s : Snap) (n : ℕ) (ts : List Token) → AtOperand before s → s.ahead ≡ number n ∷ ts → BehindAtom before (advanced (emitted (instr.num n) s))
  unfolding code_expr
  number_reads s n ts h e =
      let behind : onward s.ahead ≡ ts = ap onward e in
      operand_whole s (num n) (instr.num n) (onward s.ahead) h (ap atom∞ e ∙ atom_number n ts ∙ ap (λ us. Some (num n, us)) (sym behind)) refl

  pub name_reads : (s : Snap) (p : Place) (ts : List Token) → AtOperand before s → s.ahead ≡ name (name_at s.text p.0) ∷ ts → InExpr before (behind_name (Index p) (instr.var (name_at s.text p.0)) (advanced s)) (Some (name_step (advanced s)))
  unfolding code_expr
  name_reads s p ts h e =
      let x = name_at s.text p.0 in
      named_reads s (onward s.ahead) (row p) (var x) (instr.var x) h (rw e (atom_name x ts)) refl

  -- neither a number nor a name, nor what else can begin an atom
  pub no_operand : (s : Snap) → AtOperand before s → starts the.LeftParen s.ahead ≡ false → starts the.Old s.ahead ≡ false → a_name s.ahead ≡ None → a_number s.ahead ≡ None → sum∞ before.ahead ≡ None
  no_operand s h p o x n = operand_none s h (no_atom s.ahead p o x n)

  -- out of a parenthesis or a row
  leaves : (s : Snap) (c : Context) (us : List Token) → BehindSum before s → length before.pending < length s.pending → Some (context c) ≡ last_open s.pending → expect (closer c) s.ahead ≡ Some us → BehindAtom before (record s { code = s.code ++ closing s.text c; pending = (closed s).pending; ahead = us })
  leaves s c us h l o e =
      let i = inside_of s h l in
      let into = context_injective i.into c (into_is s i (context c) o) in
      left s i (wrapped s.text c i.value) us (closing s.text c) (ap (λ x. leave s.text x i.value s.ahead) into ∙ leave_is s.text c i.value s.ahead ∙ rw e) (wrapped_code s.text c i.value)

  pub leaves_not : (s : Snap) (c : Context) → BehindSum before s → length before.pending < length s.pending → Some (context c) ≡ last_open s.pending → expect (closer c) s.ahead ≡ None → sum∞ before.ahead ≡ None
  leaves_not s c h l o e =
      let i = inside_of s h l in
      let into = context_injective i.into c (into_is s i (context c) o) in
      not_left s i (ap (λ x. leave s.text x i.value s.ahead) into ∙ leave_is s.text c i.value s.ahead ∙ rw e)

  pub leaves_paren : (s : Snap) → BehindSum before s → length before.pending < length s.pending → Some Paren ≡ last_open s.pending → expect the.RightParen s.ahead ≡ Some (onward s.ahead) → BehindAtom before (advanced (closed s))
  leaves_paren s h l o e = subst (λ k. BehindAtom before (record s { code = k; pending = (closed s).pending; ahead = onward s.ahead })) (append-nil s.code) (leaves s parenthesis (onward s.ahead) h l o e)

  pub leaves_row : (s : Snap) (p : Place) → BehindSum before s → length before.pending < length s.pending → Some (Index p) ≡ last_open s.pending → expect the.RightBracket s.ahead ≡ Some (onward s.ahead) → BehindAtom before (emitted (instr.index (name_at s.text p.0)) (advanced (closed s)))
  leaves_row s p h l o e = leaves s (row p) (onward s.ahead) h l o e

  pub leaves_old_row : (s : Snap) (p : Place) → BehindSum before s → length before.pending < length s.pending → Some (OldIndex p) ≡ last_open s.pending → expect the.RightBracket s.ahead ≡ Some (onward s.ahead) → BehindAtom before (emitted (instr.old_index (name_at s.text p.0)) (advanced (closed s)))
  leaves_old_row s p h l o e = leaves s (old_row p) (onward s.ahead) h l o e

  -- nothing else has an expression inside
  pub leaves_nothing : (s : Snap) → BehindSum before s → length before.pending < length s.pending → ((c : Context) → Some (context c) ≡ last_open s.pending → ⊥) → sum∞ before.ahead ≡ None
  leaves_nothing s h l no_one =
      let i = inside_of s h l in
      absurd (no_one i.into (sym (ap last_open i.pending ∙ last_is (before.pending ++ (around i.nest ++ waiting i.level)) (context i.into))))

  -- behind an atom, once what it completes is written
  pub lone_atom : (s t : Snap) (base : ℕ) → base ≡ length before.pending → t ≡ completed true base s → BehindAtom before s → LoneAtom t
  lone_atom s t base b e h = subst LoneAtom (ap (λ n. completed true n s) (sym b) ∙ sym e) (product_done s h)

  pub lone_sum : (s t u : Snap) (base : ℕ) → base ≡ length before.pending → t ≡ completed true base s → u ≡ completed false base t → None ≡ multiplicative t.ahead → BehindAtom before s → LoneSum u
  lone_sum s t u base b e f m h = subst LoneSum (ap (λ n. completed false n t) (sym b) ∙ sym f) (sum_done t (product_ends t (lone_atom s t base b e h) (sym m)))

-- an expression begins
pub begun : (s : Snap) → AtOperand s s
unfolding after_sum
begun s = record {
  level = fresh;
  nest = outermost;
  pending = sym (append-nil s.pending);
  code = sym (append-nil s.code);
  rest = rw (sum_rule s.ahead, product_rule s.ahead) (>>=-assoc (atom∞ s.ahead) _ _ ∙ >>=-ext (atom∞ s.ahead) (λ p. >>=-ext (product_rest∞ p.0 p.1) (λ q. sym (>>=-some (sum_rest∞ q.0 q.1)))));
}
