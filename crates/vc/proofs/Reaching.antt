-- Steps of the walk beside a run that stands still, and new unknowns for what a run may have changed.
use Rattle.std.proofs.Common.{◌≡◌, ℕ, suc, ◌+◌, ◌-◌, ◌<◌, ◌≤◌, Bool, true, false, cond, not, ◌&&◌, ltb, List, [], ◌∷◌, ◌++◌, length, get_or, sym, refl, ap, ◌∙◌, inl, inr, mod-eq_of_lt, arith}
use Rattle.std.proofs.lemmas.Bool.{cases_Bool, and_parts, and_from, lt-ltb, le-ltb, both_ways}
use Rattle.lang.specs.Base.{Word, among}
use Rattle.lang.specs.Meaning.{Cell, State}
use Rattle.lang.specs.Syntax.{Decl}
use Rattle.vc.proofs.Agreement.{values}
use Rattle.vc.proofs.States.{state_of, Outside, Agree, agree_same, agree_then, Reaches}
use Rattle.vc.proofs.Static.{Follows, Shaped, shaped_by, renew_later}
use Rattle.vc.specs.Conditions.{Condition, all_true, broken_at, SymState, assume, assert, with_current, resume, unknowns, renew, havoc_names}
use Rattle.vc.specs.Symbolic.{Binding, Store}
use Rattle.vc.specs.Terms.{Formula, value, truth_of}
use Rattle.vc.specs.Theorem.{Valid, AllValid, Small, Fits}

pub all_true_append : (w : ℕ) (g : ℕ → ℕ) (a b : List Formula) → all_true w g a ≡ true → all_true w g b ≡ true → all_true w g (a ++ b) ≡ true
unfolding all_true
all_true_append w g [] b h l = l
all_true_append w g (f ∷ a) b h l =
    let p = and_parts (truth_of w g f) _ h in
    and_from (truth_of w g f) _ p.0 (all_true_append w g a b p.1 l)

-- of a valid condition whose givens are true, the goal is true
follows_goal : (given goal : Bool) → (given && not goal) ≡ false → given ≡ true → goal ≡ true
follows_goal true true h l = refl
follows_goal true false h l = absurd (both_ways true h refl)
follows_goal false goal h l = absurd (both_ways false refl l)

valid_first : {w : ℕ} {k : Condition} {ks : List Condition} → AllValid w (k ∷ ks) → Valid w k
valid_first (AllValid.and_this h r) = h

module _ {w : ℕ} {g : ℕ → ℕ} {st o : State} where
  pub asserted : (v : SymState) (f : Formula) → AllValid w (assert v f).conditions → Reaches w g v st o → (h : ℕ → ℕ) → Agree v.next g h → truth_of w h f ≡ true
  unfolding assert broken_at
  asserted v f valid r h a = follows_goal (all_true w h v.given) (truth_of w h f) (valid_first valid h) (r.granted h a)

  pub reaches_assert : (v : SymState) (f : Formula) → Reaches w g v st o → Reaches w g (assert v f) st o
  unfolding assert
  reaches_assert v f r = record { now_is = r.now_is; began = r.began; granted = r.granted }

  pub reaches_assume : (v : SymState) (f : Formula) → Reaches w g v st o → ((h : ℕ → ℕ) → Agree v.next g h → truth_of w h f ≡ true) → Reaches w g (assume v f) st o
  unfolding assume all_true
  reaches_assume v f r t =
      record { now_is = r.now_is; began = r.began; granted = λ h a. all_true_append w h v.given (f ∷ []) (r.granted h a) (and_from (truth_of w h f) true (t h a) refl) }

  pub reaches_require : (v : SymState) (f : Formula) → AllValid w (assume (assert v f) f).conditions → Reaches w g v st o → Reaches w g (assume (assert v f) f) st o
  unfolding assume
  reaches_require v f valid r = reaches_assume (assert v f) f (reaches_assert v f r) (unfold assert in asserted v f valid r)

  -- what is required is true
  pub required : (v : SymState) (f : Formula) → AllValid w (assume (assert v f) f).conditions → Reaches w g v st o → (h : ℕ → ℕ) → Agree v.next g h → truth_of w h f ≡ true
  unfolding assume
  required v f valid r = asserted v f valid r

  pub reaches_current : (v : SymState) (s : Store) (st' : State) → Reaches w g v st o → ((h : ℕ → ℕ) → Agree v.next g h → state_of w h s ≡ st') → Reaches w g (with_current v s) st' o
  unfolding with_current
  reaches_current v s st' r e = record { now_is = e; began = r.began; granted = r.granted }

  -- v, begun anew behind a
  pub reaches_resume : (v a : SymState) (g' : ℕ → ℕ) → Follows v a → Reaches w g v st o → Agree v.next g g' → Reaches w g' (resume v a) st o
  unfolding resume
  reaches_resume v a g' f r e =
      let l = f.later in
      record { now_is = λ h b. r.now_is h (agree_then a.next l e b); began = λ h b. r.began h (agree_then a.next l e b); granted = λ h b. r.granted h (agree_then a.next l e b) }

-- Numbers for new unknowns: those of the names xs in a state.
abbrev pub fill : (ℕ → ℕ) → ℕ → List ℕ → ℕ → ℕ
fill g n vs i = cond (ltb i n) (g i) (get_or vs (i - n) 0)

choose : List Word → State → ℕ → (ℕ → ℕ) → ℕ → ℕ
choose xs [] n g = g
choose xs (c ∷ cs) n g = cond (among c.name xs) (choose xs cs (n + length c.values) (fill g n c.values)) (choose xs cs n g)

pub fill_agrees : (g : ℕ → ℕ) (n : ℕ) (vs : List ℕ) → Agree n g (fill g n vs)
fill_agrees g n vs = record { at = λ i l. rw (lt-ltb i n l) }

choose_agrees : (xs : List Word) (cs : State) (n : ℕ) (g : ℕ → ℕ) → Agree n g (choose xs cs n g)
unfolding choose
choose_agrees xs [] n g = agree_same n g
choose_agrees xs (c ∷ cs) n g =
    elim (cases_Bool (among c.name xs)) [
      | inl e ↦ rw e (agree_then (n + length c.values) (omega arith) (fill_agrees g n c.values) (choose_agrees xs cs (n + length c.values) (fill g n c.values)))
      | inr e ↦ rw e (choose_agrees xs cs n g)
    ]

pub unknown_values : (w : ℕ) (h : ℕ → ℕ) (vs : List ℕ) (n : ℕ) → Small w vs → ((i : ℕ) → n ≤ i → i < n + length vs → h i ≡ get_or vs (i - n) 0) → values w h (unknowns (length vs) n) ≡ vs
unfolding unknowns value
unknown_values w h [] n s e = refl
unknown_values w h (v ∷ vs) n (Small.and_this l s) e =
    let none : n - n ≡ 0 = omega arith in
    let first : h n ≡ v = rw none at (e n (omega arith) (omega arith)) in
    let rest : (i : ℕ) → suc n ≤ i → i < suc n + length vs → h i ≡ get_or vs (i - suc n) 0 =
    λ i a b.
    let one_less : i - n ≡ suc (i - suc n) = omega arith in
    rw one_less at (e i (omega arith) (omega arith)) in
    rw (first, mod-eq_of_lt l) (ap (λ r. v ∷ r) (unknown_values w h vs (suc n) s rest))

pub cell_is : (c : Cell) (x : Word) (vs : List ℕ) → x ≡ c.name → vs ≡ c.values → record { name = x; values = vs } ≡ c
cell_is c x vs e f = λ i. record { name = e i; values = f i }

tail_same : {x y : Cell} {s t : State} → x ∷ s ≡ y ∷ t → s ≡ t
tail_same e = cc

head_same : {x y : Cell} {s t : State} → x ∷ s ≡ y ∷ t → x ≡ y
head_same e = cc

-- n₀, g₀: how it was before; the terms of s depend on unknowns below n₀ only
module _ (w : ℕ) (xs : List Word) (n₀ : ℕ) (g₀ : ℕ → ℕ) where
  abbrev Stable : Store → Type 0
  Stable s = (h : ℕ → ℕ) → Agree n₀ g₀ h → state_of w h s ≡ state_of w g₀ s

  renewed_state : (b : Binding) (s : Store) (c : Cell) (st : State) (n : ℕ) (g : ℕ → ℕ) → among b.name xs ≡ true → c.name ≡ b.name → length c.values ≡ length b.terms → Small w c.values → (h : ℕ → ℕ) → Agree (renew xs s (n + length b.terms)).next (choose xs st (n + length b.terms) (fill g n c.values)) h → state_of w h (renew xs s (n + length b.terms)).store ≡ st → state_of w h (renew xs (b ∷ s) n).store ≡ c ∷ st
  unfolding renew
  renewed_state b s c st n g e m l small h a rest =
      let late = renew_later xs s (n + length b.terms) in
      let filled = choose_agrees xs st (n + length b.terms) (fill g n c.values) in
      let at : (i : ℕ) → n ≤ i → i < n + length c.values → h i ≡ get_or c.values (i - n) 0 =
      λ i p q.
      let r : fill g n c.values i ≡ get_or c.values (i - n) 0 = rw (le-ltb i n p) in
      sym (a.at i (omega arith)) ∙ sym (filled.at i (omega arith)) ∙ r in
      let vs : values w h (unknowns (length b.terms) n) ≡ c.values = rw (← l) (unknown_values w h c.values n small at) in
      rw (e, rest) (ap (λ z. z ∷ st) (cell_is c b.name _ (sym m) vs))

  renew_state : (ds : List Decl) (s : Store) (st : State) (n : ℕ) (g : ℕ → ℕ) → Fits w ds st → Shaped ds s → Outside xs (state_of w g₀ s) st → Stable s → n₀ ≤ n → Agree n₀ g₀ g → (h : ℕ → ℕ) → Agree (renew xs s n).next (choose xs st n g) h → state_of w h (renew xs s n).store ≡ st
  unfolding renew choose
  renew_state [] [] [] n g f p o t l a h b = refl
  renew_state [] (x ∷ s) st n g f p o t l a h b = elim p [ ]
  renew_state [] [] (c ∷ st) n g f p o t l a h b = elim f [ ]
  renew_state (d ∷ ds) [] st n g f p o t l a h b = elim p [ ]
  renew_state (d ∷ ds) (x ∷ s) [] n g f p o t l a h b = elim f [ ]
  renew_state (d ∷ ds) (x ∷ s) (c ∷ st) n g (Fits.and_this fn fl fs fr) (Shaped.and_this sn sl sr) (Outside.and_this on ov or) t l a h b =
      elim (cases_Bool (among x.name xs)) [
        | inl e ↦
            let many = fl ∙ sym sl in
            let again : Agree (renew xs s (n + length x.terms)).next (choose xs st (n + length x.terms) (fill g n c.values)) h = rw (on, e, many) at b in
            renewed_state x s c st n g e on many fs h again (renew_state ds s st (n + length x.terms) (fill g n c.values) fr sr or (λ j q. tail_same (t j q)) (omega arith) (agree_then n l a (fill_agrees g n c.values)) h again)
        | inr e ↦
            let again : Agree (renew xs s n).next (choose xs st n g) h = rw (on, e) at b in
            let late = renew_later xs s n in
            let since : Agree n₀ g₀ h = agree_then n l a (agree_then (renew xs s n).next late (choose_agrees xs st n g) again) in
            let same : values w h x.terms ≡ c.values = ap (λ (z : Cell). z.values) (head_same (t h since)) ∙ sym (ov e) in
            let rest = renew_state ds s st n g fr sr or (λ j q. tail_same (t j q)) l a h again in
            rw (e, rest) (ap (λ z. z ∷ st) (cell_is c x.name _ (sym on) same))
      ]

-- where a run may have changed the names xs, there are numbers for their new unknowns
pub record Havocked (w : ℕ) (g : ℕ → ℕ) (v : SymState) (xs : List Word) (st o : State) : Type 0 where
  pub numbers : ℕ → ℕ
  pub agrees : Agree v.next g numbers
  pub reaches : Reaches w numbers (havoc_names v xs) st o

pub havocked : (w : ℕ) (g : ℕ → ℕ) (ds : List Decl) (xs : List Word) (v : SymState) (st st' o : State) → Reaches w g v st o → Fits w ds st → Fits w ds st' → Outside xs st st' → Havocked w g v xs st' o
unfolding havoc_names
havocked w g ds xs v st st' o r f f' out =
    let begin = r.now_is g (agree_same v.next g) in
    let shape = shaped_by w g ds v.current (rw begin f) in
    let stable : Stable w xs v.next g v.current = λ h a. r.now_is h a ∙ sym begin in
    let late = renew_later xs v.current v.next in
    let kept = choose_agrees xs st' v.next g in
    record {
      numbers = choose xs st' v.next g;
      agrees = kept;
      reaches = record {
        now_is = λ h a. renew_state w xs v.next g ds v.current st' v.next g f' shape (rw begin out) stable (omega arith) (agree_same v.next g) h a;
        began = λ h a. r.began h (agree_then _ late kept a);
        granted = λ h a. r.granted h (agree_then _ late kept a);
      };
    }
