-- Each turn of reading a formula keeps what the grammar makes of the rest.
use Rattle.std.proofs.Common.{◌≡◌, ℕ, ◌+◌, ◌-◌, ◌<◌, ◌≤◌, Bool, true, false, cond, ltb, List, [], ◌∷◌, ◌++◌, length, take, set, is_some, Some, None, Option, sym, refl, ap, ◌∙◌, subst, append_assoc, append-nil, arith, length-append, length-set}
use Rattle.std.proofs.lemmas.List.{length_push, set_at}
use Rattle.std.proofs.lemmas.Bool.{lt-ltb, le-ltb, ltb-true}
use Rattle.lang.specs.Base.{◌>>=◌, maybe, Word}
use Rattle.lang.specs.Code.{code_expr, code_bool}
use Rattle.lang.specs.Grammar.{depth, Parsed, starts, onward, expect, a_name, a_number, comparing}
use Rattle.lang.specs.Instr as instr
use Rattle.lang.specs.Instr.{Instr, instr}
use Rattle.lang.specs.Syntax.{BoolExpr, truth, compare, conj, disj, implies, negate, for_all}
use Rattle.lang.specs.Tokens.{Token, fixed}
use Rattle.lang.specs.declared.code.Node.{Node}
use Rattle.lang.specs.declared.code.Node.TheVariants as node
use Rattle.lang.specs.declared.code.Place.{Place}
use Rattle.lang.specs.declared.syntax.Comparison.{Comparison}
use Rattle.lang.specs.declared.token.Fixed.{Fixed}
use Rattle.lang.specs.declared.token.Fixed.TheVariants as the
use Rattle.lang.proofs.Codes.{expr_front, bool_front}
use Rattle.parse.specs.InBool.{Waiting, Level, Context, brackets, bounded, Nest, outermost, inside, behind, left_code, level_code, head_code, nest_code, context, waits, denials, waiting, around, closer, wrapped, after_formula, after_disjunction, after_conjunction, after_unit, is_and, is_or, of_link, last_link, linked, all_head, all_begun, all_ended, comparison∞, AtUnit, BehindUnit, BehindConjunction, BehindFormula, weight, left, Used}
use Rattle.parse.specs.Reading.{Snap, Read, Paid, advanced, emitted, opened, closed, last_open}
use Rattle.parse.specs.Unbounded.{sum∞, formula∞, disjunction∞, disjunction_rest∞, conjunction∞, conjunction_rest∞, unit∞}
use Rattle.parse.specs.declared.formula.Link.{Link}
use Rattle.parse.specs.declared.formula.Link.TheVariants as link
use Rattle.parse.specs.declared.formula.Turn.{Turn}
use Rattle.parse.specs.declared.formula.Turn.TheVariants as turn
use Rattle.parse.specs.declared.open.Open.{Open}
use Rattle.parse.specs.declared.open.Open.TheVariants.{Bracket, And, Or, Implies, Not, All}
use Rattle.parse.proofs.Heads.{fixed_ahead, starts_long}
use Rattle.parse.proofs.Binds.{>>=-assoc, >>=-ext, >>=-some}
use Rattle.parse.proofs.InExpr.{at, last_is, rest_is, closed_short, closed_one, when_some}
use Rattle.parse.proofs.Rooms.{paid_none, paid_then}
use Rattle.parse.proofs.Rules.{formula_rule, disjunction_rule, disjunction_rest_rule, conjunction_rule, conjunction_rest_rule, unit_rule}
use Rattle.parse.proofs.Snaps.{same_snap}
use Rattle.parse.proofs.Shorter.{Each, none, some, Shorter, each_bind, expect_shorter, a_name_shorter, a_number_shorter, comparing_shorter, sum_shorter}

-- a test, and what comes of either way
>>=-cond : {A B : Type 0} (b : Bool) (x y : Option A) (f : A → Option B) → (cond b x y >>= f) ≡ cond b (x >>= f) (y >>= f)
>>=-cond true x y f = refl
>>=-cond false x y f = refl

-- nothing waits on a level that has just begun
abbrev fresh : Level
fresh = record { disj = None; conj = None; nots = [] }

-- a formula begins with a unit
formula_in : (n : Nest) (ts : List Token) → (formula∞ ts >>= λ p. after_formula n p.0 p.1) ≡ (unit∞ ts >>= λ p. after_unit fresh n p.0 p.1)
formula_in n ts =
    let units : BoolExpr × List Token → Parsed BoolExpr = λ p. conjunction_rest∞ p.0 p.1 in
    let conjunctions : BoolExpr × List Token → Parsed BoolExpr = λ p. disjunction_rest∞ p.0 p.1 in
    let implied : BoolExpr × List Token → Parsed BoolExpr = λ p. cond (starts the.Implies p.1) (formula∞ (onward p.1) >>= λ q. Some (implies p.0 q.0, q.1)) (Some p) in
    let outside : BoolExpr × List Token → Parsed BoolExpr = λ p. after_formula n p.0 p.1 in
    let disjunctions : BoolExpr × List Token → Parsed BoolExpr = λ p. after_disjunction n p.0 p.1 in
    let ways : (p : BoolExpr × List Token) → (implied p >>= outside) ≡ disjunctions p = λ p.
    >>=-cond (starts the.Implies p.1) (formula∞ (onward p.1) >>= λ q. Some (implies p.0 q.0, q.1)) (Some p) outside
    ∙ ap (λ m. cond (starts the.Implies p.1) m (after_formula n p.0 p.1)) (>>=-assoc (formula∞ (onward p.1)) (λ q. Some (implies p.0 q.0, q.1)) outside) in
    ap (λ m. m >>= outside) (formula_rule ts)
    ∙ >>=-assoc (disjunction∞ ts) implied outside
    ∙ >>=-ext (disjunction∞ ts) ways
    ∙ ap (λ m. m >>= disjunctions) (disjunction_rule ts)
    ∙ >>=-assoc (conjunction∞ ts) conjunctions disjunctions
    ∙ ap (λ m. m >>= λ p. conjunctions p >>= disjunctions) (conjunction_rule ts)
    ∙ >>=-assoc (unit∞ ts) units (λ p. conjunctions p >>= disjunctions)

-- The link that waits last.
link_above : (l : Link) (base : ℕ) (s : Snap) (n : Node) → last_link l base s.pending ≡ Some n → 0 < length s.pending
link_above l base s n e = omega (arith, ltb-true base (length s.pending) (when_some (ltb base (length s.pending)) (last_open s.pending) (of_link l) n e))

pub linked_paid : (l : Link) (base : ℕ) (s : Snap) → Paid s (linked l base s)
linked_paid l base s = go (last_link l base s.pending) refl
  where
    go : (o : Option Node) → last_link l base s.pending ≡ o → Paid s (maybe o s λ n. emitted (instr s.text n) (closed s))
    go None e = paid_none s
    go (Some n) e =
        let one = closed_one s.pending (link_above l base s n e) in
        record { code = omega (arith, length_push s.code (instr s.text n), one); pending = omega (arith, one); text = refl; code_room = refl; pending_room = refl }

-- A comparison.
each_value : {A : Type 0} {P : A → Type 0} {o : Option A} (x : A) → Each P o → o ≡ Some x → P x
each_value x none e = let z : ◌≡◌ {A = ℕ} 0 1 = cc in absurd (omega arith)
each_value {P} x (some {x = y} p) e = let same : y ≡ x = cc in subst P same p

comparison_shorter : (ts : List Token) → Shorter (length ts) (comparison∞ ts)
unfolding sum∞
comparison_shorter ts =
    each_bind (sum_shorter (depth (length ts)) ts) λ (e, us) l.
    each_bind (comparing_shorter us) λ o k.
    each_bind (sum_shorter (depth (length (onward us))) (onward us)) λ (f, vs) m.
    some (omega arith)

pub comparison_reads : (a b c : Snap) (o : Comparison) → Read sum∞ (λ e. code_expr e []) a b → comparing b.ahead ≡ Some o → Read sum∞ (λ e. code_expr e []) (advanced b) c → Read comparison∞ (λ d. code_bool d []) a (emitted (instr.compare o) c)
unfolding code_bool
comparison_reads a b c o l e r = record {
  value = compare o l.value r.value;
  parsed = rw (l.parsed, e, r.parsed);
  code = ap (λ is. is ++ k) (r.code ∙ ap (λ is. is ++ code_expr r.value []) l.code) ∙ append_assoc (a.code ++ code_expr l.value []) (code_expr r.value []) k ∙ append_assoc a.code (code_expr l.value []) (code_expr r.value [] ++ k) ∙ ap (λ is. a.code ++ is) (sym ((expr_front l.value).splits (code_expr r.value k) ∙ ap (λ is. code_expr l.value [] ++ is) ((expr_front r.value).splits k)));
  pending = r.pending ∙ l.pending;
}
  where
    k : List Instr
    k = instr.compare o ∷ []

-- A unit by the first token.
unit_not : (ts : List Token) → starts the.Not ts ≡ true → unit∞ ts ≡ (unit∞ (onward ts) >>= λ p. Some (negate p.0, p.1))
unit_not ts h = unit_rule ts ∙ rw h

unit_yes : (ts : List Token) → starts the.Yes ts ≡ true → unit∞ ts ≡ Some (truth, onward ts)
unit_yes ts h =
    let f = fixed_ahead the.Yes ts h in
    ap unit∞ f.is ∙ unit_rule (fixed f.token ∷ onward ts) ∙ rw (← f.spells)

unit_brackets : (ts : List Token) → starts the.LeftBracket ts ≡ true → unit∞ ts ≡ (formula∞ (onward ts) >>= λ p. expect the.RightBracket p.1 >>= λ us. Some (p.0, us))
unit_brackets ts h =
    let f = fixed_ahead the.LeftBracket ts h in
    ap unit∞ f.is ∙ unit_rule (fixed f.token ∷ onward ts) ∙ rw (← f.spells)

unit_all : (ts : List Token) → starts the.All ts ≡ true → unit∞ ts ≡ (a_name (onward ts) >>= λ p. expect the.LessThan p.1 >>= λ vs. a_number vs >>= λ q. expect the.LeftBrace q.1 >>= λ xs. formula∞ xs >>= λ r. expect the.RightBrace r.1 >>= λ zs. Some (for_all p.0 q.0 r.0, zs))
unit_all ts h =
    let f = fixed_ahead the.All ts h in
    ap unit∞ f.is ∙ unit_rule (fixed f.token ∷ onward ts) ∙ rw (← f.spells)

unit_compares : (ts : List Token) → starts the.Not ts ≡ false → starts the.Yes ts ≡ false → starts the.LeftBracket ts ≡ false → starts the.All ts ≡ false → unit∞ ts ≡ comparison∞ ts
unit_compares ts n y b a = unit_rule ts ∙ rw (n, y, b, a)

-- the head of an `all`, and what it says
unit_bounded : (ts : List Token) → starts the.All ts ≡ true → unit∞ ts ≡ (all_head (onward ts) >>= λ p. formula∞ p.1 >>= λ q. expect the.RightBrace q.1 >>= λ us. Some (for_all p.0.0 p.0.1 q.0, us))
unit_bounded ts h =
    unit_all ts h ∙ sym (
    >>=-assoc (a_name (onward ts)) _ ended
    ∙ >>=-ext (a_name (onward ts)) λ p. >>=-assoc (expect the.LessThan p.1) _ ended
    ∙ >>=-ext (expect the.LessThan p.1) λ vs. >>=-assoc (a_number vs) _ ended
    ∙ >>=-ext (a_number vs) λ q. >>=-assoc (expect the.LeftBrace q.1) _ ended)
  where
    ended : (Word × ℕ) × List Token → Parsed BoolExpr
    ended p = formula∞ p.1 >>= λ q. expect the.RightBrace q.1 >>= λ us. Some (for_all p.0.0 p.0.1 q.0, us)

-- the tokens of that head
pub all_head_long : (ts us : List Token) (x : Word) (n : ℕ) → all_head ts ≡ Some ((x, n), us) → 4 + length us ≤ length ts
all_head_long ts us x n h = each_value ((x, n), us) counted h
  where
    counted : Each (λ p. 4 + length p.1 ≤ length ts) (all_head ts)
    counted =
        each_bind (a_name_shorter ts) λ (x, us) l1.
        each_bind (expect_shorter the.LessThan us) λ vs l2.
        each_bind (a_number_shorter vs) λ (n, ws) l3.
        each_bind (expect_shorter the.LeftBrace ws) λ xs l4.
        some (omega arith)

-- What each turn uses.
pub enter_used : (t : Turn) (f : Fixed) (o : Open) (s : Snap) → 2 ≤ weight (Some t) → starts f s.ahead ≡ true → Used t s (advanced (opened o s)) (Some turn.Unit)
enter_used t f o s w h = record {
  paid = record { code = omega (arith, length_push s.pending o, starts_long f s.ahead h); pending = omega (arith, length_push s.pending o, starts_long f s.ahead h); text = refl; code_room = refl; pending_room = refl };
  less = omega (arith, length_push s.pending o, starts_long f s.ahead h);
}

pub yes_used : (s : Snap) → starts the.Yes s.ahead ≡ true → Used turn.Unit s (advanced (emitted instr.truth s)) (Some turn.Behind)
yes_used s h = record {
  paid = record { code = omega (arith, length_push s.code instr.truth, starts_long the.Yes s.ahead h); pending = omega (arith, starts_long the.Yes s.ahead h); text = refl; code_room = refl; pending_room = refl };
  less = omega (arith, starts_long the.Yes s.ahead h);
}

pub comparison_used : (s t : Snap) → Read comparison∞ (λ b. code_bool b []) s t → Paid s t → Used turn.Unit s t (Some turn.Behind)
comparison_used s t r p =
    let fewer : length t.ahead < length s.ahead = each_value _ (comparison_shorter s.ahead) r.parsed in
    record { paid = p; less = omega (arith, fewer, ap length r.pending) }

pub all_used : (x : Word) (n : ℕ) (s : Snap) (us : List Token) → 5 + length us ≤ length s.ahead → Used turn.Unit s (all_begun x n (at us s)) (Some turn.Unit)
all_used x n s us l =
    let code = s.code in
    let o = All (length ((code ++ instr.all x ∷ []) ++ instr.bound n ∷ [])) in
    let written : length (((code ++ instr.all x ∷ []) ++ instr.bound n ∷ []) ++ instr.scope 0 ∷ []) ≡ length code + 3 = omega (arith, length_push code (instr.all x), length_push (code ++ instr.all x ∷ []) (instr.bound n), length_push ((code ++ instr.all x ∷ []) ++ instr.bound n ∷ []) (instr.scope 0)) in
    record {
      paid = record { code = omega (arith, written, length_push s.pending o); pending = omega (arith, length_push s.pending o); text = refl; code_room = refl; pending_room = refl };
      less = omega (arith, length_push s.pending o);
    }

pub linked_ahead : (l : Link) (base : ℕ) (s : Snap) → (linked l base s).ahead ≡ s.ahead
linked_ahead l base s = go (last_link l base s.pending)
  where
    go : (o : Option Node) → (maybe o s λ n. emitted (instr s.text n) (closed s)).ahead ≡ s.ahead
    go None = refl
    go (Some n) = refl

pub links_ahead : (s t u : Snap) (base : ℕ) → t ≡ linked link.Not base s → u ≡ linked link.And base t → u.ahead ≡ s.ahead
links_ahead s t u base e f = ap (λ x. x.ahead) f ∙ linked_ahead link.And base t ∙ ap (λ x. x.ahead) e ∙ linked_ahead link.Not base s

-- after a step from s to t that reads nothing
pub used_after : (turn : Turn) (s t u : Snap) (next : Option Turn) → Paid s t → t.ahead ≡ s.ahead → Used turn t u next → Used turn s u next
used_after turn s t u next p a h = record { paid = paid_then s t u p h.paid; less = omega (arith, h.less, p.pending, ap length a) }

pub whole_used : (s t : Snap) → Paid s t → t.ahead ≡ s.ahead → Used turn.Behind s t (Some turn.Whole)
whole_used s t p a = record { paid = p; less = omega (arith, p.pending, ap length a) }

pub done_used : (s : Snap) → Used turn.Whole s s None
done_used s = record { paid = paid_none s; less = omega arith }

pub not_used : (base : ℕ) (s : Snap) → is_some (last_link link.Not base s.pending) ≡ true → Used turn.Behind s (linked link.Not base s) (Some turn.Behind)
not_used base s h = record { paid = linked_paid link.Not base s; less = go (last_link link.Not base s.pending) refl h }
  where
    go : (o : Option Node) → last_link link.Not base s.pending ≡ o → is_some o ≡ true → left (Some turn.Behind) (maybe o s λ n. emitted (instr s.text n) (closed s)) < left (Some turn.Behind) s
    go None e i = let z : ◌≡◌ {A = ℕ} 0 1 = cc in absurd (omega arith)
    go (Some n) e i = omega (arith, closed_one s.pending (link_above link.Not base s n e))

pub implication_used : (s : Snap) → 0 < length s.pending → Used turn.Whole s (emitted instr.implies (closed s)) (Some turn.Whole)
implication_used s more = record { paid = record { code = omega (arith, length_push s.code instr.implies, closed_one s.pending more); pending = omega (arith, closed_one s.pending more); text = refl; code_room = refl; pending_room = refl }; less = omega (arith, closed_one s.pending more) }

pub brackets_used : (s : Snap) → length (onward s.ahead) < length s.ahead → Used turn.Whole s (advanced (closed s)) (Some turn.Behind)
brackets_used s l = record { paid = record { code = omega (arith, closed_short s.pending); pending = omega (arith, closed_short s.pending); text = refl; code_room = refl; pending_room = refl }; less = omega (arith, closed_short s.pending) }

pub end_used : (at : ℕ) (s : Snap) → length (onward s.ahead) < length s.ahead → Used turn.Whole s (all_ended at (advanced (closed s))) (Some turn.Behind)
end_used at s l =
    let scope = instr.scope (length s.code - (at + 1)) in
    let written : length (set s.code at scope ++ instr.end_all ∷ []) ≡ length s.code + 1 = omega (arith, length_push (set s.code at scope) instr.end_all, length-set s.code at scope) in
    record { paid = record { code = omega (arith, written, closed_short s.pending); pending = omega (arith, closed_short s.pending); text = refl; code_room = refl; pending_room = refl }; less = omega (arith, closed_short s.pending) }

last_link_push : (l : Link) (base : ℕ) (os : List Open) (o : Open) → base ≤ length os → last_link l base (os ++ o ∷ []) ≡ of_link l o
last_link_push l base os o h =
    let inside : base < length (os ++ o ∷ []) = omega (arith, length_push os o) in
    rw (lt-ltb base (length (os ++ o ∷ [])) inside, last_is os o)

last_link_none : (l : Link) (os : List Open) → last_link l (length os) os ≡ None
last_link_none l os = rw (le-ltb (length os) (length os) (omega arith))

-- the head of an `all` as one piece
all_begun_is : (x : Word) (n : ℕ) (s : Snap) → all_begun x n s ≡ record s { code = s.code ++ head_code (bounded x n); pending = s.pending ++ context (length s.code) (bounded x n) ∷ [] }
all_begun_is x n s =
    let code = s.code in
    let two : length ((code ++ instr.all x ∷ []) ++ instr.bound n ∷ []) ≡ length code + 2 = omega (arith, length_push code (instr.all x), length_push (code ++ instr.all x ∷ []) (instr.bound n)) in
    same_snap _ _ refl (append_assoc (code ++ instr.all x ∷ []) _ _ ∙ append_assoc code _ _) (ap (λ k. s.pending ++ All k ∷ []) two) refl refl refl

-- where the last instruction is that of the whole
code_ended : (b c : BoolExpr) (i : Instr) (front : List Instr) → code_bool c [] ≡ code_bool b (i ∷ []) → (front ++ code_bool b []) ++ i ∷ [] ≡ front ++ code_bool c []
code_ended b c i front e = append_assoc front (code_bool b []) (i ∷ []) ∙ ap (λ is. front ++ is) (sym (e ∙ (bool_front b).splits (i ∷ [])))

code_joined : (a b c : BoolExpr) (i : Instr) (front : List Instr) → code_bool c [] ≡ code_bool a (code_bool b (i ∷ [])) → ((front ++ code_bool a []) ++ code_bool b []) ++ i ∷ [] ≡ front ++ code_bool c []
code_joined a b c i front e =
    append_assoc (front ++ code_bool a []) (code_bool b []) (i ∷ [])
    ∙ append_assoc front (code_bool a []) (code_bool b [] ++ i ∷ [])
    ∙ ap (λ is. front ++ is) (sym (e ∙ (bool_front a).splits (code_bool b (i ∷ [])) ∙ ap (λ is. code_bool a [] ++ is) ((bool_front b).splits (i ∷ []))))

linked_none : (l : Link) (base : ℕ) (s : Snap) → last_link l base s.pending ≡ None → linked l base s ≡ s
linked_none l base s e = rw e

-- a formula behind the head of an `all`, with its length put in
all_code : (front code : List Instr) (b : BoolExpr) (x : Word) (n at : ℕ) → at ≡ length front + 2 → code ≡ front ++ (instr.all x ∷ instr.bound n ∷ instr.scope 0 ∷ code_bool b []) → set code at (instr.scope (length code - (at + 1))) ++ instr.end_all ∷ [] ≡ front ++ code_bool (for_all x n b) []
unfolding code_bool
all_code front code b x n at e c =
    let inner = code_bool b [] in
    let head = front ++ (instr.all x ∷ instr.bound n ∷ []) in
    let is : code ≡ head ++ instr.scope 0 ∷ inner = c ∙ sym (append_assoc front _ _) in
    let long : length head ≡ at = omega (arith, length-append front (instr.all x ∷ instr.bound n ∷ []), e) in
    let size : length code - (at + 1) ≡ length inner = omega (arith, ap length is, length-append head (instr.scope 0 ∷ inner), long) in
    ap (λ k. set code at (instr.scope k) ++ instr.end_all ∷ []) size
    ∙ ap (λ is. set is at (instr.scope (length inner)) ++ instr.end_all ∷ []) is
    ∙ ap (λ is. is ++ instr.end_all ∷ []) (set_at head (instr.scope 0) inner (instr.scope (length inner)) at long)
    ∙ append_assoc head _ _
    ∙ append_assoc front _ _
    ∙ ap (λ is. front ++ (instr.all x ∷ instr.bound n ∷ instr.scope (length inner) ∷ is)) (sym ((bool_front b).splits (instr.end_all ∷ [])))

module _ (before : Snap) where
  -- A unit is whole, by its value and what was written of it, or a formula begins.
  unit_whole : (s : Snap) (b : BoolExpr) (is : List Instr) (us : List Token) → AtUnit before s → unit∞ s.ahead ≡ Some (b, us) → code_bool b [] ≡ is → BehindUnit before (record s { code = s.code ++ is; ahead = us })
  unit_whole s b is us h a e = record {
    level = h.level;
    nest = h.nest;
    value = b;
    pending = h.pending;
    code = rw (h.code, e) (append_assoc before.code (nest_code h.nest ++ level_code h.level) is);
    rest = h.rest ∙ ap (λ m. m >>= λ p. after_unit h.level h.nest p.0 p.1) a;
  }

  unit_none : (s : Snap) → AtUnit before s → unit∞ s.ahead ≡ None → formula∞ before.ahead ≡ None
  unit_none s h a = h.rest ∙ ap (λ m. m >>= λ p. after_unit h.level h.nest p.0 p.1) a

  -- brackets or the head of an `all`
  unit_inside : (s : Snap) (c : Context) (us : List Token) → AtUnit before s → unit∞ s.ahead ≡ (formula∞ us >>= λ p. expect (closer c) p.1 >>= λ vs. Some (wrapped c p.0, vs)) → AtUnit before (record s { code = s.code ++ head_code c; pending = s.pending ++ context (length s.code) c ∷ []; ahead = us })
  unfolding after_formula
  unit_inside s c us h a =
      let v = h.level in
      let n = h.nest in
      let outside : BoolExpr × List Token → Parsed BoolExpr = λ p. after_unit v n p.0 p.1 in
      let leave : BoolExpr × List Token → Parsed BoolExpr = λ p. expect (closer c) p.1 >>= λ us. Some (wrapped c p.0, us) in
      let long : length s.code ≡ length before.code + length (nest_code n ++ level_code v) = ap length h.code ∙ length-append before.code _ in
      record {
        level = fresh;
        nest = inside c v n;
        pending = rw (h.pending, long) (append_assoc before.pending (around (length before.code) n ++ waiting v) _ ∙ ap (λ os. before.pending ++ os) (sym (append-nil _)));
        code = rw h.code (append_assoc before.code (nest_code n ++ level_code v) (head_code c) ∙ ap (λ is. before.code ++ is) (sym (append-nil _)));
        rest = h.rest ∙ ap (λ m. m >>= outside) a
            ∙ >>=-assoc (formula∞ us) leave outside
            ∙ >>=-ext (formula∞ us) (λ p. >>=-assoc (expect (closer c) p.1) (λ us. Some (wrapped c p.0, us)) outside)
            ∙ formula_in (inside c v n) us;
      }

  pub no_unit : (s : Snap) → AtUnit before s → starts the.Not s.ahead ≡ false → starts the.Yes s.ahead ≡ false → starts the.LeftBracket s.ahead ≡ false → starts the.All s.ahead ≡ false → comparison∞ s.ahead ≡ None → formula∞ before.ahead ≡ None
  no_unit s h n y b a e = unit_none s h (unit_compares s.ahead n y b a ∙ e)

  pub comparison_unit : (s t : Snap) → AtUnit before s → starts the.Not s.ahead ≡ false → starts the.Yes s.ahead ≡ false → starts the.LeftBracket s.ahead ≡ false → starts the.All s.ahead ≡ false → Read comparison∞ (λ d. code_bool d []) s t → Paid s t → BehindUnit before t
  comparison_unit s t h n y b a r p =
      let whole = unit_whole s r.value (code_bool r.value []) t.ahead h (unit_compares s.ahead n y b a ∙ r.parsed) refl in
      subst (BehindUnit before) (same_snap _ t (sym p.text) (sym r.code) (sym r.pending) refl (sym p.code_room) (sym p.pending_room)) whole

  pub yes_reads : (s : Snap) → AtUnit before s → starts the.Yes s.ahead ≡ true → BehindUnit before (advanced (emitted instr.truth s))
  unfolding code_bool
  yes_reads s h y = unit_whole s truth (instr.truth ∷ []) (onward s.ahead) h (unit_yes s.ahead y) refl

  pub brackets_reads : (s : Snap) → AtUnit before s → starts the.LeftBracket s.ahead ≡ true → AtUnit before (advanced (opened Bracket s))
  brackets_reads s h b = subst (λ is. AtUnit before (record s { code = is; pending = s.pending ++ Bracket ∷ []; ahead = onward s.ahead })) (append-nil s.code) (unit_inside s brackets (onward s.ahead) h (unit_brackets s.ahead b))

  pub all_reads : (s : Snap) (x : Word) (n : ℕ) (us : List Token) → AtUnit before s → starts the.All s.ahead ≡ true → all_head (onward s.ahead) ≡ Some ((x, n), us) → AtUnit before (all_begun x n (at us s))
  all_reads s x n us h a e = subst (AtUnit before) (sym (all_begun_is x n (at us s))) (unit_inside s (bounded x n) us h (unit_bounded s.ahead a ∙ rw e))

  pub all_unread : (s : Snap) → AtUnit before s → starts the.All s.ahead ≡ true → all_head (onward s.ahead) ≡ None → formula∞ before.ahead ≡ None
  all_unread s h a e = unit_none s h (unit_bounded s.ahead a ∙ rw e)

  pub not_reads : (s : Snap) (p : Place) → AtUnit before s → starts the.Not s.ahead ≡ true → AtUnit before (advanced (opened (Not p) s))
  not_reads s p h e =
      let v = h.level in
      let n = h.nest in
      let outer = around (length before.code) n in
      let words = waits Or v.disj ++ waits And v.conj in
      let outside : BoolExpr × List Token → Parsed BoolExpr = λ p. after_unit v n p.0 p.1 in
      record {
        level = record { disj = v.disj; conj = v.conj; nots = p ∷ v.nots };
        nest = n;
        pending = ap (λ os. os ++ Not p ∷ []) h.pending ∙ append_assoc before.pending _ _ ∙ ap (λ os. before.pending ++ os) (append_assoc outer _ _ ∙ ap (λ os. outer ++ os) (append_assoc words (denials v.nots) _));
        code = h.code;
        rest = h.rest ∙ ap (λ m. m >>= outside) (unit_not s.ahead e) ∙ >>=-assoc (unit∞ (onward s.ahead)) (λ q. Some (negate q.0, q.1)) outside;
      }

  -- Behind a unit: the link that waits last.
  link_of : (l : Link) (os : List Open) (o : Open) → last_link l (length before.pending) (before.pending ++ (os ++ o ∷ [])) ≡ of_link l o
  link_of l os o =
      let base : length before.pending ≤ length (before.pending ++ os) = omega (arith, length-append before.pending os) in
      ap (last_link l (length before.pending)) (sym (append_assoc before.pending os (o ∷ []))) ∙ last_link_push l (length before.pending) (before.pending ++ os) o base

  nest_link : (l : Link) (n : Nest) → last_link l (length before.pending) (before.pending ++ around (length before.code) n) ≡ None
  nest_link l outermost = rw (append-nil before.pending) (last_link_none l before.pending)
  nest_link l (inside brackets v n) = link_of l (around (length before.code) n ++ waiting v) Bracket
  nest_link l (inside (bounded x m) v n) = link_of l (around (length before.code) n ++ waiting v) (All (length before.code + length (nest_code n ++ level_code v) + 2))
  nest_link l (behind w n) = link_of l (around (length before.code) n) (Implies w.place)

  disj_link : (l : Link) (m : Option Waiting) (n : Nest) → is_or l ≡ false → last_link l (length before.pending) (before.pending ++ (around (length before.code) n ++ waits Or m)) ≡ None
  disj_link l None n e = rw (append-nil (around (length before.code) n)) (nest_link l n)
  disj_link l (Some w) n e = link_of l (around (length before.code) n) (Or w.place) ∙ rw e

  conj_link : (l : Link) (m q : Option Waiting) (n : Nest) → is_or l ≡ false → is_and l ≡ false → last_link l (length before.pending) (before.pending ++ (around (length before.code) n ++ (waits Or m ++ waits And q))) ≡ None
  conj_link l m None n e f = rw (append-nil (waits Or m)) (disj_link l m n e)
  conj_link l m (Some w) n e f = ap (λ os. last_link l (length before.pending) (before.pending ++ os)) (sym (append_assoc (around (length before.code) n) (waits Or m) _)) ∙ link_of l (around (length before.code) n ++ waits Or m) (And w.place) ∙ rw f

  linked_by : (l : Link) (s : Snap) (os : List Open) (o : Open) (n : Node) → s.pending ≡ before.pending ++ (os ++ o ∷ []) → of_link l o ≡ Some n → linked l (length before.pending) s ≡ emitted (instr s.text n) (record s { pending = before.pending ++ os })
  linked_by l s os o n e is =
      let last : last_link l (length before.pending) s.pending ≡ Some n = ap (last_link l (length before.pending)) e ∙ link_of l os o ∙ is in
      let rest : take (length s.pending - 1) s.pending ≡ before.pending ++ os = ap (λ os. take (length os - 1) os) (e ∙ sym (append_assoc before.pending os (o ∷ []))) ∙ rest_is (before.pending ++ os) o in
      rw (last, rest)

  -- a `not` before it
  denial_written_by : (s : Snap) (m q : Option Waiting) (xs : List Place) (n : Nest) (b : BoolExpr) → s.pending ≡ before.pending ++ (around (length before.code) n ++ ((waits Or m ++ waits And q) ++ denials xs)) → s.code ≡ before.code ++ ((nest_code n ++ (left_code m ++ left_code q)) ++ code_bool b []) → formula∞ before.ahead ≡ after_unit (record { disj = m; conj = q; nots = xs }) n b s.ahead → is_some (last_link link.Not (length before.pending) s.pending) ≡ true → BehindUnit before (linked link.Not (length before.pending) s)
  unfolding code_bool
  denial_written_by s m q [] n b p c r e =
      let none : last_link link.Not (length before.pending) s.pending ≡ None = ap (last_link link.Not (length before.pending)) p ∙ rw (append-nil (waits Or m ++ waits And q)) (conj_link link.Not m q n refl refl) in
      let z : ◌≡◌ {A = ℕ} 0 1 = let f = ap is_some none in cc in
      absurd (omega arith)
  denial_written_by s m q (x ∷ xs) n b p c r e =
      let outer = around (length before.code) n in
      let words = waits Or m ++ waits And q in
      let os = outer ++ (words ++ denials xs) in
      let last : s.pending ≡ before.pending ++ (os ++ Not x ∷ []) = p ∙ ap (λ os. before.pending ++ os) (ap (λ os. outer ++ os) (sym (append_assoc words (denials xs) _)) ∙ sym (append_assoc outer (words ++ denials xs) _)) in
      let done = linked_by link.Not s os (Not x) (node.Not x) last refl in
      subst (BehindUnit before) (sym done) (record {
        level = record { disj = m; conj = q; nots = xs };
        nest = n;
        value = negate b;
        pending = refl;
        code = ap (λ is. is ++ instr.negate ∷ []) c ∙ append_assoc before.code _ _ ∙ ap (λ is. before.code ++ is) (code_ended b (negate b) instr.negate (nest_code n ++ (left_code m ++ left_code q)) refl);
        rest = r;
      })

  pub denial_written : (s t : Snap) (base : ℕ) → base ≡ length before.pending → t ≡ linked link.Not base s → is_some (last_link link.Not base s.pending) ≡ true → BehindUnit before s → BehindUnit before t
  denial_written s t base b e waits h =
      let at_base : is_some (last_link link.Not (length before.pending) s.pending) ≡ true = ap (λ k. is_some (last_link link.Not k s.pending)) (sym b) ∙ waits in
      subst (BehindUnit before) (ap (λ k. linked link.Not k s) (sym b) ∙ sym e) (denial_written_by s h.level.disj h.level.conj h.level.nots h.nest h.value h.pending h.code h.rest at_base)

  -- a unit that no `not` stands before
  pub record LoneUnit (s : Snap) : Type 0 where
    pub disj : Option Waiting
    pub conj : Option Waiting
    pub nest : Nest
    pub value : BoolExpr
    pub pending : s.pending ≡ before.pending ++ (around (length before.code) nest ++ (waits Or disj ++ waits And conj))
    pub code : s.code ≡ before.code ++ ((nest_code nest ++ (left_code disj ++ left_code conj)) ++ code_bool value [])
    pub rest : formula∞ before.ahead ≡ after_unit (record { disj = disj; conj = conj; nots = [] }) nest value s.ahead

  lone_by : (s : Snap) (m q : Option Waiting) (xs : List Place) (n : Nest) (b : BoolExpr) → s.pending ≡ before.pending ++ (around (length before.code) n ++ ((waits Or m ++ waits And q) ++ denials xs)) → s.code ≡ before.code ++ ((nest_code n ++ (left_code m ++ left_code q)) ++ code_bool b []) → formula∞ before.ahead ≡ after_unit (record { disj = m; conj = q; nots = xs }) n b s.ahead → is_some (last_link link.Not (length before.pending) s.pending) ≡ false → LoneUnit (linked link.Not (length before.pending) s)
  lone_by s m q [] n b p c r e =
      let lone : s.pending ≡ before.pending ++ (around (length before.code) n ++ (waits Or m ++ waits And q)) = p ∙ ap (λ os. before.pending ++ (around (length before.code) n ++ os)) (append-nil (waits Or m ++ waits And q)) in
      let as_is = linked_none link.Not (length before.pending) s (ap (last_link link.Not (length before.pending)) lone ∙ conj_link link.Not m q n refl refl) in
      subst LoneUnit (sym as_is) (record { disj = m; conj = q; nest = n; value = b; pending = lone; code = c; rest = r })
  lone_by s m q (x ∷ xs) n b p c r e =
      let outer = around (length before.code) n in
      let words = waits Or m ++ waits And q in
      let last : s.pending ≡ before.pending ++ ((outer ++ (words ++ denials xs)) ++ Not x ∷ []) = p ∙ ap (λ os. before.pending ++ os) (ap (λ os. outer ++ os) (sym (append_assoc words (denials xs) _)) ∙ sym (append_assoc outer (words ++ denials xs) _)) in
      let some = ap (last_link link.Not (length before.pending)) last ∙ link_of link.Not (outer ++ (words ++ denials xs)) (Not x) in
      let z : ◌≡◌ {A = ℕ} 0 1 = let f = ap is_some some in cc in
      absurd (omega arith)

  lone_unit : (s : Snap) → BehindUnit before s → is_some (last_link link.Not (length before.pending) s.pending) ≡ false → LoneUnit (linked link.Not (length before.pending) s)
  lone_unit s h e = lone_by s h.level.disj h.level.conj h.level.nots h.nest h.value h.pending h.code h.rest e

  -- a conjunction so far, behind which none waits
  pub record LoneConjunction (s : Snap) : Type 0 where
    pub disj : Option Waiting
    pub nest : Nest
    pub value : BoolExpr
    pub pending : s.pending ≡ before.pending ++ (around (length before.code) nest ++ waits Or disj)
    pub code : s.code ≡ before.code ++ ((nest_code nest ++ left_code disj) ++ code_bool value [])
    pub rest : formula∞ before.ahead ≡ after_unit (record { disj = disj; conj = None; nots = [] }) nest value s.ahead

  conj_written_by : (s : Snap) (m q : Option Waiting) (n : Nest) (b : BoolExpr) → s.pending ≡ before.pending ++ (around (length before.code) n ++ (waits Or m ++ waits And q)) → s.code ≡ before.code ++ ((nest_code n ++ (left_code m ++ left_code q)) ++ code_bool b []) → formula∞ before.ahead ≡ after_unit (record { disj = m; conj = q; nots = [] }) n b s.ahead → LoneConjunction (linked link.And (length before.pending) s)
  unfolding code_bool
  conj_written_by s m None n b p c r =
      let lone : s.pending ≡ before.pending ++ (around (length before.code) n ++ waits Or m) = p ∙ ap (λ os. before.pending ++ (around (length before.code) n ++ os)) (append-nil (waits Or m)) in
      let as_is = linked_none link.And (length before.pending) s (ap (last_link link.And (length before.pending)) lone ∙ disj_link link.And m n refl) in
      let code = c ∙ ap (λ is. before.code ++ ((nest_code n ++ is) ++ code_bool b [])) (append-nil (left_code m)) in
      subst LoneConjunction (sym as_is) (record { disj = m; nest = n; value = b; pending = lone; code = code; rest = r })
  conj_written_by s m (Some w) n b p c r =
      let outer = around (length before.code) n in
      let last : s.pending ≡ before.pending ++ ((outer ++ waits Or m) ++ And w.place ∷ []) = p ∙ ap (λ os. before.pending ++ os) (sym (append_assoc outer (waits Or m) _)) in
      let done = linked_by link.And s (outer ++ waits Or m) (And w.place) (node.And w.place) last refl in
      let code = ap (λ is. is ++ instr.conj ∷ []) (c ∙ ap (λ is. before.code ++ (is ++ code_bool b [])) (sym (append_assoc (nest_code n) (left_code m) _))) ∙ append_assoc before.code _ _ ∙ ap (λ is. before.code ++ is) (code_joined w.left b (conj w.left b) instr.conj (nest_code n ++ left_code m) refl) in
      subst LoneConjunction (sym done) (record { disj = m; nest = n; value = conj w.left b; pending = refl; code = code; rest = r })

  conj_written : (s : Snap) → LoneUnit s → LoneConjunction (linked link.And (length before.pending) s)
  conj_written s h = conj_written_by s h.disj h.conj h.nest h.value h.pending h.code h.rest

  -- behind a unit, once what it completes is written
  pub lone_conjunction : (s t u : Snap) (base : ℕ) → base ≡ length before.pending → t ≡ linked link.Not base s → u ≡ linked link.And base t → is_some (last_link link.Not base s.pending) ≡ false → BehindUnit before s → LoneConjunction u
  lone_conjunction s t u base b e f lone h =
      let at_base : is_some (last_link link.Not (length before.pending) s.pending) ≡ false = ap (λ k. is_some (last_link link.Not k s.pending)) (sym b) ∙ lone in
      let unit : LoneUnit t = subst LoneUnit (ap (λ k. linked link.Not k s) (sym b) ∙ sym e) (lone_unit s h at_base) in
      subst LoneConjunction (ap (λ k. linked link.And k t) (sym b) ∙ sym f) (conj_written t unit)

  -- b and
  pub and_reads : (s : Snap) (p : Place) → LoneConjunction s → starts the.And s.ahead ≡ true → AtUnit before (advanced (opened (And p) s))
  and_reads s p h a = record {
    level = record { disj = h.disj; conj = Some (record { place = p; left = h.value }); nots = [] };
    nest = h.nest;
    pending = ap (λ os. os ++ And p ∷ []) h.pending ∙ append_assoc before.pending _ _ ∙ ap (λ os. before.pending ++ os) (append_assoc (around (length before.code) h.nest) (waits Or h.disj) _ ∙ ap (λ os. around (length before.code) h.nest ++ os) (sym (append-nil _)));
    code = h.code ∙ ap (λ is. before.code ++ is) (append_assoc (nest_code h.nest) (left_code h.disj) _);
    rest = h.rest ∙ rw (conjunction_rest_rule h.value s.ahead, a) (>>=-assoc (unit∞ (onward s.ahead)) _ _);
  }

  pub conjunction_ends : (s : Snap) → LoneConjunction s → starts the.And s.ahead ≡ false → BehindConjunction before s
  conjunction_ends s h a = record { disj = h.disj; nest = h.nest; value = h.value; pending = h.pending; code = h.code; rest = h.rest ∙ rw (conjunction_rest_rule h.value s.ahead, a) }

  -- a disjunction so far, behind which none waits
  pub record LoneDisjunction (s : Snap) : Type 0 where
    pub nest : Nest
    pub value : BoolExpr
    pub pending : s.pending ≡ before.pending ++ around (length before.code) nest
    pub code : s.code ≡ before.code ++ (nest_code nest ++ code_bool value [])
    pub rest : formula∞ before.ahead ≡ after_conjunction None nest value s.ahead

  disj_written_by : (s : Snap) (m : Option Waiting) (n : Nest) (b : BoolExpr) → s.pending ≡ before.pending ++ (around (length before.code) n ++ waits Or m) → s.code ≡ before.code ++ ((nest_code n ++ left_code m) ++ code_bool b []) → formula∞ before.ahead ≡ after_conjunction m n b s.ahead → LoneDisjunction (linked link.Or (length before.pending) s)
  unfolding code_bool
  disj_written_by s None n b p c r =
      let lone : s.pending ≡ before.pending ++ around (length before.code) n = p ∙ ap (λ os. before.pending ++ os) (append-nil (around (length before.code) n)) in
      let as_is = linked_none link.Or (length before.pending) s (ap (last_link link.Or (length before.pending)) lone ∙ nest_link link.Or n) in
      let code = c ∙ ap (λ is. before.code ++ (is ++ code_bool b [])) (append-nil (nest_code n)) in
      subst LoneDisjunction (sym as_is) (record { nest = n; value = b; pending = lone; code = code; rest = r })
  disj_written_by s (Some w) n b p c r =
      let done = linked_by link.Or s (around (length before.code) n) (Or w.place) (node.Or w.place) p refl in
      let code = ap (λ is. is ++ instr.disj ∷ []) c ∙ append_assoc before.code _ _ ∙ ap (λ is. before.code ++ is) (code_joined w.left b (disj w.left b) instr.disj (nest_code n) refl) in
      subst LoneDisjunction (sym done) (record { nest = n; value = disj w.left b; pending = refl; code = code; rest = r })

  -- behind a conjunction, once what it completes is written
  pub lone_disjunction : (s t : Snap) (base : ℕ) → base ≡ length before.pending → t ≡ linked link.Or base s → BehindConjunction before s → LoneDisjunction t
  lone_disjunction s t base b e h = subst LoneDisjunction (ap (λ k. linked link.Or k s) (sym b) ∙ sym e) (disj_written_by s h.disj h.nest h.value h.pending h.code h.rest)

  -- b or
  pub or_reads : (s : Snap) (p : Place) → LoneDisjunction s → starts the.Or s.ahead ≡ true → AtUnit before (advanced (opened (Or p) s))
  or_reads s p h o = record {
    level = record { disj = Some (record { place = p; left = h.value }); conj = None; nots = [] };
    nest = h.nest;
    pending = ap (λ os. os ++ Or p ∷ []) h.pending ∙ append_assoc before.pending _ _;
    code = h.code ∙ ap (λ is. before.code ++ (nest_code h.nest ++ is)) (sym (append-nil (code_bool h.value [])));
    rest = h.rest ∙ rw (disjunction_rest_rule h.value s.ahead, o, conjunction_rule (onward s.ahead)) (>>=-assoc (unit∞ (onward s.ahead) >>= λ q. conjunction_rest∞ q.0 q.1) _ _ ∙ >>=-assoc (unit∞ (onward s.ahead)) _ _);
  }

  -- b =>
  pub implies_reads : (s : Snap) (p : Place) → LoneDisjunction s → starts the.Or s.ahead ≡ false → starts the.Implies s.ahead ≡ true → AtUnit before (advanced (opened (Implies p) s))
  unfolding after_formula
  implies_reads s p h o i = record {
    level = fresh;
    nest = behind w h.nest;
    pending = ap (λ os. os ++ Implies p ∷ []) h.pending ∙ append_assoc before.pending _ _ ∙ ap (λ os. before.pending ++ os) (sym (append-nil _));
    code = h.code ∙ ap (λ is. before.code ++ is) (sym (append-nil _));
    rest = h.rest ∙ rw (disjunction_rest_rule h.value s.ahead, o, i) (formula_in (behind w h.nest) (onward s.ahead));
  }
    where
      w : Waiting
      w = record { place = p; left = h.value }

  pub formula_ends : (s : Snap) → LoneDisjunction s → starts the.Or s.ahead ≡ false → starts the.Implies s.ahead ≡ false → BehindFormula before s
  formula_ends s h o i = record { nest = h.nest; value = h.value; pending = h.pending; code = h.code; rest = h.rest ∙ rw (disjunction_rest_rule h.value s.ahead, o, i) }

  -- the whole formula has been read where nothing is open that was not before
  whole_by : (s : Snap) (n : Nest) (b : BoolExpr) → s.pending ≡ before.pending ++ around (length before.code) n → s.code ≡ before.code ++ (nest_code n ++ code_bool b []) → formula∞ before.ahead ≡ after_formula n b s.ahead → length s.pending ≤ length before.pending → Read formula∞ (λ b. code_bool b []) before s
  unfolding after_formula
  whole_by s outermost b p c r h = record { value = b; parsed = r; code = c; pending = p ∙ append-nil before.pending }
  whole_by s (inside x v n) b p c r h = absurd (omega (arith, ap length p, length-append before.pending (around (length before.code) (inside x v n)), length_push (around (length before.code) n ++ waiting v) (context (length before.code + length (nest_code n ++ level_code v)) x)))
  whole_by s (behind w n) b p c r h = absurd (omega (arith, ap length p, length-append before.pending (around (length before.code) (behind w n)), length_push (around (length before.code) n) (Implies w.place)))

  pub whole : (s : Snap) → BehindFormula before s → length s.pending ≤ length before.pending → Read formula∞ (λ b. code_bool b []) before s
  whole s h e = whole_by s h.nest h.value h.pending h.code h.rest e

  -- inside brackets or an `all`, the formula is whole
  record Closing (c : Context) (s : Snap) : Type 0 where
    level : Level
    nest : Nest
    value : BoolExpr
    pending : s.pending ≡ (before.pending ++ (around (length before.code) nest ++ waiting level)) ++ context (length before.code + length (nest_code nest ++ level_code level)) c ∷ []
    code : s.code ≡ before.code ++ (((nest_code nest ++ level_code level) ++ head_code c) ++ code_bool value [])
    rest : formula∞ before.ahead ≡ (expect (closer c) s.ahead >>= λ us. after_unit level nest (wrapped c value) us)

  -- behind the left side of an implication, its right side is whole
  record Implied (s : Snap) : Type 0 where
    waiting : Waiting
    nest : Nest
    value : BoolExpr
    pending : s.pending ≡ (before.pending ++ around (length before.code) nest) ++ Implies waiting.place ∷ []
    code : s.code ≡ before.code ++ ((nest_code nest ++ code_bool waiting.left []) ++ code_bool value [])
    rest : formula∞ before.ahead ≡ after_formula nest (implies waiting.left value) s.ahead

  data Closes (s : Snap) : Type 0 where
    closes : (c : Context) → Closing c s → Closes s
    implied : Implied s → Closes s

  closes_by : (s : Snap) (n : Nest) (b : BoolExpr) → s.pending ≡ before.pending ++ around (length before.code) n → s.code ≡ before.code ++ (nest_code n ++ code_bool b []) → formula∞ before.ahead ≡ after_formula n b s.ahead → length before.pending < length s.pending → Closes s
  unfolding after_formula
  closes_by s outermost b p c r h = absurd (omega (arith, ap length (p ∙ append-nil before.pending)))
  closes_by s (inside x v n) b p c r h = closes x (record { level = v; nest = n; value = b; pending = p ∙ sym (append_assoc before.pending _ _); code = c; rest = r })
  closes_by s (behind w n) b p c r h = implied (record { waiting = w; nest = n; value = b; pending = p ∙ sym (append_assoc before.pending _ _); code = c; rest = r })

  closes_of : (s : Snap) → BehindFormula before s → length before.pending < length s.pending → Closes s
  closes_of s h l = closes_by s h.nest h.value h.pending h.code h.rest l

  closing_last : (s : Snap) (c : Context) (h : Closing c s) → last_open s.pending ≡ Some (context (length before.code + length (nest_code h.nest ++ level_code h.level)) c)
  closing_last s c h = ap last_open h.pending ∙ last_is (before.pending ++ (around (length before.code) h.nest ++ waiting h.level)) _

  implied_last : (s : Snap) (h : Implied s) → last_open s.pending ≡ Some (Implies h.waiting.place)
  implied_last s h = ap last_open h.pending ∙ last_is (before.pending ++ around (length before.code) h.nest) _

  -- by the part that was begun last
  in_brackets : (s : Snap) → Closes s → Some Bracket ≡ last_open s.pending → Closing brackets s
  in_brackets s (closes brackets h) e = h
  in_brackets s (closes (bounded x n) h) e = let l = closing_last s (bounded x n) h in let z : ◌≡◌ {A = ℕ} 0 1 = cc in absurd (omega arith)
  in_brackets s (implied h) e = let l = implied_last s h in let z : ◌≡◌ {A = ℕ} 0 1 = cc in absurd (omega arith)

  in_implication : (s : Snap) (p : Place) → Closes s → Some (Implies p) ≡ last_open s.pending → Implied s
  in_implication s p (closes brackets h) e = let l = closing_last s brackets h in let z : ◌≡◌ {A = ℕ} 0 1 = cc in absurd (omega arith)
  in_implication s p (closes (bounded x n) h) e = let l = closing_last s (bounded x n) h in let z : ◌≡◌ {A = ℕ} 0 1 = cc in absurd (omega arith)
  in_implication s p (implied h) e = h

  record Bounded (at : ℕ) (s : Snap) : Type 0 where
    name : Word
    bound : ℕ
    inner : Closing (bounded name bound) s
    place : at ≡ length before.code + length (nest_code inner.nest ++ level_code inner.level) + 2

  in_all : (s : Snap) (at : ℕ) → Closes s → Some (All at) ≡ last_open s.pending → Bounded at s
  in_all s at (closes brackets h) e = let l = closing_last s brackets h in let z : ◌≡◌ {A = ℕ} 0 1 = cc in absurd (omega arith)
  in_all s at (closes (bounded x n) h) e = let l = closing_last s (bounded x n) h in record { name = x; bound = n; inner = h; place = cc }
  in_all s at (implied h) e = let l = implied_last s h in let z : ◌≡◌ {A = ℕ} 0 1 = cc in absurd (omega arith)

  in_nothing : (s : Snap) → Closes s → ((p : Place) → Some (Implies p) ≡ last_open s.pending → ⊥) → (Some Bracket ≡ last_open s.pending → ⊥) → ((at : ℕ) → Some (All at) ≡ last_open s.pending → ⊥) → ⊥
  in_nothing s (closes brackets h) i b a = b (sym (closing_last s brackets h))
  in_nothing s (closes (bounded x n) h) i b a = a _ (sym (closing_last s (bounded x n) h))
  in_nothing s (implied h) i b a = i _ (sym (implied_last s h))

  -- out of brackets or an `all`
  leaves : (s : Snap) (c : Context) (h : Closing c s) (us : List Token) (is : List Instr) → expect (closer c) s.ahead ≡ Some us → is ≡ before.code ++ ((nest_code h.nest ++ level_code h.level) ++ code_bool (wrapped c h.value) []) → BehindUnit before (record s { code = is; pending = (closed s).pending; ahead = us })
  leaves s c h us is e k = record {
    level = h.level;
    nest = h.nest;
    value = wrapped c h.value;
    pending = ap (λ os. take (length os - 1) os) h.pending ∙ rest_is _ _;
    code = k;
    rest = h.rest ∙ ap (λ m. m >>= λ us. after_unit h.level h.nest (wrapped c h.value) us) e;
  }

  leaves_not : (s : Snap) (c : Context) (h : Closing c s) → expect (closer c) s.ahead ≡ None → formula∞ before.ahead ≡ None
  leaves_not s c h e = h.rest ∙ ap (λ m. m >>= λ us. after_unit h.level h.nest (wrapped c h.value) us) e

  pub leaves_brackets : (s : Snap) → BehindFormula before s → length before.pending < length s.pending → Some Bracket ≡ last_open s.pending → expect the.RightBracket s.ahead ≡ Some (onward s.ahead) → BehindUnit before (advanced (closed s))
  leaves_brackets s h l o e =
      let i = in_brackets s (closes_of s h l) o in
      leaves s brackets i (onward s.ahead) s.code e (i.code ∙ ap (λ is. before.code ++ (is ++ code_bool i.value [])) (append-nil _))

  pub leaves_no_brackets : (s : Snap) → BehindFormula before s → length before.pending < length s.pending → Some Bracket ≡ last_open s.pending → expect the.RightBracket s.ahead ≡ None → formula∞ before.ahead ≡ None
  leaves_no_brackets s h l o e = leaves_not s brackets (in_brackets s (closes_of s h l) o) e

  pub leaves_all : (s : Snap) (at : ℕ) → BehindFormula before s → length before.pending < length s.pending → Some (All at) ≡ last_open s.pending → expect the.RightBrace s.ahead ≡ Some (onward s.ahead) → BehindUnit before (all_ended at (advanced (closed s)))
  leaves_all s at h l o e =
      let b = in_all s at (closes_of s h l) o in
      let i = b.inner in
      let front = nest_code i.nest ++ level_code i.level in
      let place : at ≡ length (before.code ++ front) + 2 = omega (arith, b.place, length-append before.code front) in
      let code : s.code ≡ (before.code ++ front) ++ (instr.all b.name ∷ instr.bound b.bound ∷ instr.scope 0 ∷ code_bool i.value []) = i.code ∙ ap (λ is. before.code ++ is) (append_assoc front _ _) ∙ sym (append_assoc before.code front _) in
      leaves s (bounded b.name b.bound) i (onward s.ahead) _ e (all_code (before.code ++ front) s.code i.value b.name b.bound at place code ∙ append_assoc before.code front _)

  pub leaves_no_all : (s : Snap) (at : ℕ) → BehindFormula before s → length before.pending < length s.pending → Some (All at) ≡ last_open s.pending → expect the.RightBrace s.ahead ≡ None → formula∞ before.ahead ≡ None
  leaves_no_all s at h l o e =
      let b = in_all s at (closes_of s h l) o in
      leaves_not s (bounded b.name b.bound) b.inner e

  -- b => c
  pub leaves_implication : (s : Snap) (p : Place) → BehindFormula before s → length before.pending < length s.pending → Some (Implies p) ≡ last_open s.pending → BehindFormula before (emitted instr.implies (closed s))
  unfolding code_bool
  leaves_implication s p h l o =
      let i = in_implication s p (closes_of s h l) o in
      record {
        nest = i.nest;
        value = implies i.waiting.left i.value;
        pending = ap (λ os. take (length os - 1) os) i.pending ∙ rest_is _ _;
        code = ap (λ is. is ++ instr.implies ∷ []) i.code ∙ append_assoc before.code _ _ ∙ ap (λ is. before.code ++ is) (code_joined i.waiting.left i.value (implies i.waiting.left i.value) instr.implies (nest_code i.nest) refl);
        rest = i.rest;
      }

  -- nothing else has a formula inside
  pub leaves_nothing : (s : Snap) → BehindFormula before s → length before.pending < length s.pending → ((p : Place) → Some (Implies p) ≡ last_open s.pending → ⊥) → (Some Bracket ≡ last_open s.pending → ⊥) → ((at : ℕ) → Some (All at) ≡ last_open s.pending → ⊥) → formula∞ before.ahead ≡ None
  leaves_nothing s h l i b a = absurd (in_nothing s (closes_of s h l) i b a)

-- a formula begins
pub begun : (s : Snap) → AtUnit s s
unfolding after_formula
begun s = record {
  level = fresh;
  nest = outermost;
  pending = sym (append-nil s.pending);
  code = sym (append-nil s.code);
  rest = sym (>>=-some (formula∞ s.ahead)) ∙ formula_in outermost s.ahead;
}
