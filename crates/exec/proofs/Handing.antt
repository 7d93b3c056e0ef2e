-- Arguments: from the caller to the procedure, and back.
use Rattle.std.proofs.Common.{◌≡◌, ℕ, ◌+◌, ◌-◌, true, false, cond, eqb, List, [], ◌∷◌, ◌++◌, length, replicate, Some, None, vec_items, Option, sym, refl, ap, ◌∙◌, subst, inl, inr, append_assoc, append-nil, arith}
use Rattle.std.proofs.lemmas.List.{length-append, length-replicate, replicate-append-replicate, take-replicate, drop-replicate, take_all}
use Rattle.std.proofs.lemmas.Bool.{and_parts, cases_Bool, eqb-true, both_ways}
use Rattle.lang.specs.Base.{◌>>=◌, maybe, Word, same}
use Rattle.lang.specs.Meaning.{State, values_of, count, pass, pass_back, zeros}
use Rattle.lang.specs.Soundness.{find_decl, same_sizes}
use Rattle.lang.specs.Syntax.{Decl}
use Rattle.lang.specs.declared.program.Program.{Program}
use Rattle.walk.specs.Walking.{rest, declared, passed}
use Rattle.eval.proofs.States.{counts_append, values_at, state_append}
use Rattle.eval.specs.States.{counts, state_of, slot_of}
use Rattle.eval.specs.declared.names.Slot.{Slot}
use Rattle.exec.specs.Activating.{names, params, now_state, Stays, Among, one}
use Rattle.exec.specs.Passing.{Begun, Passed, Handed, HandedBack, Unlike}
use Rattle.exec.specs.declared.activation.Activation.{Activation}
use Rattle.exec.proofs.Writing.{row_length}

-- a name that is declared has a slot of its size
pub record SlotOf (ds : List Decl) (n : ℕ) (x : Word) (d : Decl) : Type 0 where
  pub slot : Slot
  pub found : slot_of ds n x ≡ Some slot
  pub size : slot.size ≡ count d

pub slot_found : (ds : List Decl) (n : ℕ) (x : Word) (d : Decl) → find_decl ds x ≡ Some d → SlotOf ds n x d
unfolding find_decl slot_of
slot_found [] n x d e = let z : ◌≡◌ {A = ℕ} 0 1 = cc in absurd (omega arith)
slot_found (c ∷ ds) n x d e =
    elim (cases_Bool (same c.name x)) [
      | inl t ↦
          let here : Some c ≡ Some d = rw t at e in
          let is : c ≡ d = cc in
          record { slot = record { start = n; size = count c }; found = rw t; size = ap count is }
      | inr t ↦
          let more = slot_found ds (n + count c) x d (rw t at e) in
          record { slot = more.slot; found = rw t more.found; size = more.size }
    ]

-- the numbers of a declared name
pub record RowOf (s : State) (x : Word) (d : Decl) : Type 0 where
  pub values : List ℕ
  pub found : values_of s x ≡ Some values
  pub long : length values ≡ count d

pub row_found : (ds : List Decl) (ns : List ℕ) (x : Word) (d : Decl) → length ns ≡ counts ds → find_decl ds x ≡ Some d → RowOf (state_of ds ns) x d
row_found ds ns x d room e =
    let s = slot_found ds 0 x d e in
    record { values = _; found = values_at ds ns x s.slot s.found; long = row_length ds ns x s.slot s.found room ∙ s.size }

-- zeros
pub state_zeros : (ds : List Decl) → state_of ds (replicate (counts ds) 0) ≡ zeros ds
unfolding state_of counts
state_zeros [] = refl
state_zeros (d ∷ ds) =
    let n : ℕ = 0 in
    let left : count d + counts ds - count d ≡ counts ds = omega arith in
    rw (take-replicate (count d) (count d + counts ds) n (omega arith), drop-replicate (count d) (count d + counts ds) n, left) (ap (λ s. record { name = d.name; values = replicate (count d) n } ∷ s) (state_zeros ds))

pub zeros_none : (xs : List ℕ) (ds : List Decl) → ds ≡ [] → xs ++ replicate (counts ds) 0 ≡ xs
unfolding counts
zeros_none xs ds e = rw e (append-nil xs)

pub zeros_more : (xs : List ℕ) {ds es : List Decl} {d : Decl} → ds ≡ d ∷ es → (xs ++ replicate (count d) 0) ++ replicate (counts es) 0 ≡ xs ++ replicate (counts ds) 0
unfolding counts
zeros_more xs {es = es} {d = d} e = let n : ℕ = 0 in rw e (append_assoc xs (replicate (count d) n) (replicate (counts es) n) ∙ ap (λ zs. xs ++ zs) (replicate-append-replicate (count d) (counts es) n))

pub begun_long : (held : Program) (ps ls : ℕ) (ns all : List ℕ) → length ns ≡ counts (declared (rest held ps)) → all ≡ ns ++ replicate (counts (declared (rest held ls))) 0 → length all ≡ counts (declared (rest held ps) ++ declared (rest held ls))
begun_long held ps ls ns all long is =
    let n = counts (declared (rest held ls)) in
    rw is (length-append ns (replicate n 0) ∙ rw (long, length-replicate {A = ℕ} n 0, counts_append (declared (rest held ps)) (declared (rest held ls))))

pub begun : (held : Program) (ps ls : ℕ) (ns : List ℕ) (a : Activation) → length ns ≡ counts (declared (rest held ps)) → a.program.now ≡ held → a.params ≡ ps → a.locals ≡ ls → vec_items a.olds ≡ ns → vec_items a.numbers ≡ ns ++ replicate (counts (declared (rest held ls))) 0 → Begun held ps ls ns a
begun held ps ls ns a long is_program is_ps is_ls is_olds is_now =
    let ds = declared (rest held ps) in
    let es = declared (rest held ls) in
    record {
      program_is = is_program;
      params_at = is_ps;
      locals_at = is_ls;
      old_is = rw (is_ps, is_olds);
      now_is = rw (is_ps, is_ls, is_now) (state_append ds es ns (replicate (counts es) 0) long ∙ ap (λ z. state_of ds ns ++ z) (state_zeros es));
    }

pub begun_as : {held : Program} {ps ls : ℕ} {ns ms : List ℕ} {a : Activation} → ms ≡ ns → Begun held ps ls ms a → Begun held ps ls ns a
begun_as {held} {ps} {ls} {ns} {ms} {a} e begun = let P : List ℕ → Type 0 = λ xs. Begun held ps ls xs a in subst P e begun

-- the first of several arguments
module _ (ds : List Decl) where
  pub no_param : {ps : List Decl} {xs ys : List Word} {x : Word} → ps ≡ [] → xs ≡ x ∷ ys → same_sizes ds ps xs ≡ true → ⊥
  unfolding same_sizes
  no_param e f h = both_ways _ (rw (e, f)) h

  pub no_argument : {ps qs : List Decl} {d : Decl} {xs : List Word} → ps ≡ d ∷ qs → xs ≡ [] → same_sizes ds ps xs ≡ true → ⊥
  unfolding same_sizes
  no_argument e f h = both_ways _ (rw (e, f)) h

  pub record FirstOf (d : Decl) (qs : List Decl) (x : Word) (ys : List Word) : Type 0 where
    pub decl : Decl
    pub found : find_decl ds x ≡ Some decl
    pub alike : count decl ≡ count d
    pub others : same_sizes ds qs ys ≡ true

  first_found : (o : Option Decl) (d : Decl) → maybe o false (λ c. eqb c.size d.size) ≡ true → (c : Decl) × (o ≡ Some c) × (c.size ≡ d.size)
  first_found None d h = let z : ◌≡◌ {A = ℕ} 0 1 = cc in absurd (omega arith)
  first_found (Some c) d h = (c, refl, eqb-true c.size d.size h)

  pub first_of : {ps qs : List Decl} {d : Decl} {xs ys : List Word} {x : Word} → ps ≡ d ∷ qs → xs ≡ x ∷ ys → same_sizes ds ps xs ≡ true → FirstOf d qs x ys
  unfolding same_sizes
  first_of {qs = qs} {d = d} {ys = ys} {x = x} e f h =
      let both = and_parts (maybe (find_decl ds x) false (λ c. eqb c.size d.size)) (same_sizes ds qs ys) (rw (e, f) at h) in
      let c = first_found (find_decl ds x) d both.0 in
      record { decl = c.0; found = c.1; alike = ap (λ n. cond (eqb n 0) 1 n) c.2; others = both.1 }

-- arguments that were passed so far: to the first parameters, with the numbers ns; those that are left, ds and ys
pub record Passing (held : Program) (a : Activation) (xs ps : ℕ) (ds : List Decl) (ys : List Word) (ns : List ℕ) : Type 0 where
  pub front : List Decl
  pub split : declared (rest held ps) ≡ front ++ ds
  pub long : length ns ≡ counts front
  pub state : pass (now_state held a) (declared (rest held ps)) (passed (rest held xs)) ≡ (pass (now_state held a) ds ys >>= λ t. Some (state_of front ns ++ t))
  pub sizes : same_sizes (names held a) (declared (rest held ps)) (passed (rest held xs)) ≡ true → same_sizes (names held a) ds ys ≡ true

same_option : {A : Type 0} (o : Option A) → o ≡ (o >>= λ t. Some t)
same_option None = refl
same_option (Some x) = refl

pub passing_none : (held : Program) (a : Activation) (xs ps : ℕ) (ds : List Decl) (ys : List Word) (ns : List ℕ) → ds ≡ declared (rest held ps) → ys ≡ passed (rest held xs) → ns ≡ [] → Passing held a xs ps ds ys ns
unfolding state_of counts
passing_none held a xs ps ds ys ns is_ds is_ys e = rw (is_ds, is_ys) (record { front = []; split = refl; long = rw e; state = same_option _; sizes = λ h. h })

shifted : (o : Option State) (s t : State) (c : _) → t ≡ s ++ c ∷ [] → ((o >>= λ u. Some (c ∷ u)) >>= λ u. Some (s ++ u)) ≡ (o >>= λ u. Some (t ++ u))
shifted None s t c e = refl
shifted (Some u) s t c e = rw (e, append_assoc s (c ∷ []) u)

module _ (held : Program) (a : Activation) (xs ps : ℕ) (ds : List Decl) (ys : List Word) (ns : List ℕ) (far : Passing held a xs ps ds ys ns) where
  pub passing_more : {d : Decl} {es : List Decl} {x : Word} {zs : List Word} (vs : List ℕ) → ds ≡ d ∷ es → ys ≡ x ∷ zs → values_of (now_state held a) x ≡ Some vs → length vs ≡ count d → Passing held a xs ps es zs (ns ++ vs)
  unfolding pass state_of counts
  passing_more {d} {es} {x} {zs} vs e f found size =
      let front = far.front in
      let one_more : state_of (front ++ d ∷ []) (ns ++ vs) ≡ state_of front ns ++ record { name = d.name; values = vs } ∷ [] = state_append front (d ∷ []) ns vs far.long ∙ rw (take_all (count d) vs (omega arith)) in
      record {
        front = front ++ d ∷ [];
        split = far.split ∙ ap (λ es. front ++ es) e ∙ sym (append_assoc front (d ∷ []) _);
        long = length-append ns vs ∙ rw (far.long, size, counts_append front (d ∷ [])) (omega arith);
        state = far.state ∙ rw (e, f, found) (shifted (pass (now_state held a) es zs) (state_of front ns) _ _ one_more);
        sizes = λ h. (first_of (names held a) e f (far.sizes h)).others;
      }

  pub passing_few : {x : Word} {zs : List Word} → ds ≡ [] → ys ≡ x ∷ zs → same_sizes (names held a) (declared (rest held ps)) (passed (rest held xs)) ≡ true → ⊥
  passing_few e f h = no_param (names held a) e f (far.sizes h)

  pub passing_many : {d : Decl} {es : List Decl} → ds ≡ d ∷ es → ys ≡ [] → same_sizes (names held a) (declared (rest held ps)) (passed (rest held xs)) ≡ true → ⊥
  passing_many e f h = no_argument (names held a) e f (far.sizes h)

  module _ {d : Decl} {es : List Decl} {x : Word} {zs : List Word} (e : ds ≡ d ∷ es) (f : ys ≡ x ∷ zs) (long : length (vec_items a.numbers) ≡ counts (names held a)) where
    pub passing_missing : values_of (now_state held a) x ≡ None → same_sizes (names held a) (declared (rest held ps)) (passed (rest held xs)) ≡ true → ⊥
    passing_missing missing h =
        let q = first_of (names held a) e f (far.sizes h) in
        let r = row_found (names held a) (vec_items a.numbers) x q.decl long q.found in
        let z : ◌≡◌ {A = ℕ} 0 1 = cc r.found in
        omega arith

    pub passing_other : (vs : List ℕ) → values_of (now_state held a) x ≡ Some vs → (length vs ≡ count d → ⊥) → same_sizes (names held a) (declared (rest held ps)) (passed (rest held xs)) ≡ true → ⊥
    passing_other vs found other h =
        let q = first_of (names held a) e f (far.sizes h) in
        let r = row_found (names held a) (vec_items a.numbers) x q.decl long q.found in
        let is : vs ≡ r.values = cc r.found in
        other (ap length is ∙ r.long ∙ q.alike)

  pub passing_done : ds ≡ [] → ys ≡ [] → Passed held a xs ps ns
  unfolding pass
  passing_done e f =
      let all : declared (rest held ps) ≡ far.front = far.split ∙ rw e (append-nil far.front) in
      record {
        long = far.long ∙ ap counts (sym all);
        state = far.state ∙ rw (e, f) (ap Some (append-nil _ ∙ ap (λ ds. state_of ds ns) (sym all)));
      }

-- a parameter and an argument that both are declared have numbers of their own, as many
module _ (ds es : List Decl) (ns ms : List ℕ) (room : length ns ≡ counts ds) (room' : length ms ≡ counts es) (x y : Word) where
  pub unlike_param : values_of (state_of ds ns) x ≡ None → Unlike ds es x y
  unlike_param e = λ d c found _ _. let r = row_found ds ns x d room found in let z : ◌≡◌ {A = ℕ} 0 1 = cc r.found in omega arith

  pub unlike_argument : slot_of es 0 y ≡ None → Unlike ds es x y
  unlike_argument e = λ d c _ found _. let s = slot_found es 0 y c found in let z : ◌≡◌ {A = ℕ} 0 1 = cc s.found in omega arith

  pub unlike_sizes : (vs : List ℕ) (s : Slot) → values_of (state_of ds ns) x ≡ Some vs → slot_of es 0 y ≡ Some s → (length vs ≡ s.size → ⊥) → Unlike ds es x y
  unlike_sizes vs s e f other = λ d c found there same.
      let r = row_found ds ns x d room found in
      let t = slot_found es 0 y c there in
      let is_row : vs ≡ r.values = cc r.found in
      let is_slot : s ≡ t.slot = cc t.found in
      other (ap length is_row ∙ r.long ∙ same ∙ sym t.size ∙ ap (λ (q : Slot). q.size) (sym is_slot))

among_split : {ds fs : List Decl} {d : Decl} → Among ds (d ∷ fs) → (find_decl ds d.name ≡ Some d) × Among ds fs
among_split (one found others) = (found, others)

-- what was handed back so far; other: the program of the procedure that was called; ds, ys: what is left
pub record HandingBack (held other : Program) (start caller callee : Activation) (xs : ℕ) (ds : List Decl) (ys : List Word) : Type 0 where
  pub state : pass_back (now_state held start) (now_state other callee) (params other callee) (passed (rest held xs)) ≡ pass_back (now_state held caller) (now_state other callee) ds ys
  pub sizes : same_sizes (names held start) (params other callee) (passed (rest held xs)) ≡ true → same_sizes (names held start) ds ys ≡ true
  pub apart : Among (names other callee) (params other callee) → Among (names other callee) ds
  pub stays : Stays start caller

stays_then : {a b c : Activation} → Stays a b → Stays b c → Stays a c
stays_then s t = record { program_stays = t.program_stays ∙ s.program_stays; params_stay = t.params_stay ∙ s.params_stay; locals_stay = t.locals_stay ∙ s.locals_stay; olds_stay = t.olds_stay ∙ s.olds_stay }

among_first : {ds es fs : List Decl} {d : Decl} → es ≡ d ∷ fs → Among ds es → (find_decl ds d.name ≡ Some d) × Among ds fs
among_first {ds} {es} {fs} {d} e h = among_split (subst (Among ds) e h)

module _ (held other : Program) (start caller callee : Activation) (xs : ℕ) (ds : List Decl) (ys : List Word) (far : HandingBack held other start caller callee xs ds ys) where
  same_names : names held caller ≡ names held start
  same_names = rw (far.stays.params_stay, far.stays.locals_stay)

  -- own: the program of the caller, as it is now
  module _ {d : Decl} {es : List Decl} {x : Word} {zs : List Word} (e : ds ≡ d ∷ es) (f : ys ≡ x ∷ zs) {own : Program} (same : own ≡ held) where
    pub handing_more : (after : Activation) → Handed own other caller callee after d.name x → HandingBack held other start after callee xs es zs
    unfolding pass_back
    handing_more after handed =
        let P : Program → Type 0 = λ h. Handed h other caller callee after d.name x in
        let h = subst P same handed in
        let w = h.wrote in
        record {
          state = far.state ∙ rw (e, f, h.found, w.state);
          sizes = λ s. (first_of (names held start) e f (far.sizes s)).others;
          apart = λ s. (among_first e (far.apart s)).1;
          stays = stays_then far.stays w.stays;
        }

    pub handing_unlike : Unlike (names other callee) (names own caller) d.name x → Among (names other callee) (params other callee) → same_sizes (names held start) (params other callee) (passed (rest held xs)) ≡ true → ⊥
    handing_unlike h apart sizes =
        let q = first_of (names held start) e f (far.sizes sizes) in
        let P : Program → Type 0 = λ h. Unlike (names other callee) (names h caller) d.name x in
        subst P same h d q.decl (among_first e (far.apart apart)).0 (rw same_names q.found) (sym q.alike)

  pub handing_done : ds ≡ [] → ys ≡ [] → HandedBack held other start callee caller xs
  unfolding pass_back
  handing_done e f = record { state = far.state ∙ rw (e, f); stays = far.stays }

  pub handing_few : {x : Word} {zs : List Word} → ds ≡ [] → ys ≡ x ∷ zs → same_sizes (names held start) (params other callee) (passed (rest held xs)) ≡ true → ⊥
  handing_few e f sizes = no_param (names held start) e f (far.sizes sizes)

  pub handing_many : {d : Decl} {es : List Decl} → ds ≡ d ∷ es → ys ≡ [] → same_sizes (names held start) (params other callee) (passed (rest held xs)) ≡ true → ⊥
  handing_many e f sizes = no_argument (names held start) e f (far.sizes sizes)
