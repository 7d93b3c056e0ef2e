-- States as rows of numbers: reading a name, and writing it.
use borrow.Rule.Slice.PartMut.{put_mid}
use Rattle.std.proofs.Common.{◌≡◌, ℕ, ◌+◌, ◌-◌, ◌<◌, ◌≤◌, List, [], ◌∷◌, ◌++◌, length, take, drop, set, replicate, Some, None, sym, refl, ap, ◌∙◌, inl, inr, append_assoc, add_assoc, zero-add, arith, take-add}
use Rattle.std.proofs.lemmas.List.{length-drop, length-take-le, length-set, set-append_left, set-append_right, take_at, drop_at, take-append-le, drop-append-le, drop-drop, take-append-drop, take-replicate, drop-replicate}
use Rattle.std.proofs.lemmas.Bool.{cases_Bool}
use Rattle.std.specs.List.{fold, sum_by}
use Rattle.std.specs.Option.{option_or}
use Rattle.lang.specs.Base.{◌>>=◌, Word, same}
use Rattle.lang.specs.Meaning.{count, values_of, write, zeros}
use Rattle.lang.specs.Syntax.{Decl}
use Rattle.lang.specs.declared.program.Program.{Program}
use Rattle.walk.specs.Walking.{rest, declared}
use Rattle.eval.specs.States.{counts, state_of, slot_of, both}
use Rattle.eval.specs.declared.names.Slot.{Slot}

-- how many numbers there are
pub counts_none : {ds : List Decl} → ds ≡ [] → counts ds ≡ 0
unfolding counts
counts_none e = rw e

pub counts_more : {ds es : List Decl} {d : Decl} → ds ≡ d ∷ es → counts ds ≡ count d + counts es
unfolding counts
counts_more e = rw e

pub counts_append : (ds es : List Decl) → counts (ds ++ es) ≡ counts ds + counts es
unfolding counts
counts_append [] es = sym (zero-add (counts es))
counts_append (d ∷ ds) es = rw (counts_append ds es) (sym (add_assoc (count d) (counts ds) (counts es)))

counts_fold : (ds : List Decl) (n : ℕ) → fold (λ a d. a + count d) n ds ≡ n + counts ds
unfolding counts
counts_fold [] n = omega arith
counts_fold (d ∷ ds) n = counts_fold ds (n + count d) ∙ omega arith

pub counts_sum : (ds : List Decl) → sum_by count ds ≡ counts ds
counts_sum ds = counts_fold ds 0 ∙ zero-add (counts ds)

-- where a name stands
pub slot_append : (ds es : List Decl) (n : ℕ) (x : Word) → slot_of (ds ++ es) n x ≡ option_or (slot_of ds n x) (slot_of es (n + counts ds) x)
unfolding slot_of counts
slot_append [] es n x = let e : n + 0 ≡ n = omega arith in rw e
slot_append (d ∷ ds) es n x =
    let e : n + (count d + counts ds) ≡ n + count d + counts ds = omega arith in
    elim (cases_Bool (same d.name x)) [
      | inl t ↦ rw t
      | inr t ↦ rw (t, e) (slot_append ds es (n + count d) x)
    ]

-- of what is declared from two indices on
module _ (held : Program) (params locals : ℕ) where
  pub counts_both : counts (both held params locals) ≡ counts (declared (rest held params)) + counts (declared (rest held locals))
  counts_both = counts_append (declared (rest held params)) (declared (rest held locals))

  pub slot_both : (x : Word) → slot_of (both held params locals) 0 x ≡ option_or (slot_of (declared (rest held params)) 0 x) (slot_of (declared (rest held locals)) (counts (declared (rest held params))) x)
  slot_both x =
      let start : 0 + counts (declared (rest held params)) ≡ counts (declared (rest held params)) = omega arith in
      slot_append (declared (rest held params)) (declared (rest held locals)) 0 x ∙ rw start

-- a slot lies within the numbers
pub record Within (n m : ℕ) (s : Slot) : Type 0 where
  pub low : n ≤ s.start
  pub high : s.start + s.size ≤ m

pub slot_within : (ds : List Decl) (n : ℕ) (x : Word) (s : Slot) → slot_of ds n x ≡ Some s → Within n (n + counts ds) s
unfolding slot_of counts
slot_within [] n x s e = let z : ◌≡◌ {A = ℕ} 0 1 = cc in absurd (omega arith)
slot_within (d ∷ ds) n x s e =
    elim (cases_Bool (same d.name x)) [
      | inl t ↦
          let found : Some (record { start = n; size = count d }) ≡ Some s = rw t at e in
          let start : s.start ≡ n = cc in
          let size : s.size ≡ count d = cc in
          record { low = omega arith; high = omega arith }
      | inr t ↦
          let rest = slot_within ds (n + count d) x s (rw t at e) in
          record { low = omega (arith, rest.low); high = omega (arith, rest.high) }
    ]

-- a name's numbers
values_from : (ds : List Decl) (n : ℕ) (ns : List ℕ) (x : Word) → values_of (state_of ds (drop n ns)) x ≡ (slot_of ds n x >>= λ s. Some (take s.size (drop s.start ns)))
unfolding slot_of state_of values_of
values_from [] n ns x = refl
values_from (d ∷ ds) n ns x =
    elim (cases_Bool (same d.name x)) [
      | inl t ↦ rw t
      | inr t ↦ rw (t, drop-drop (count d) n ns) (values_from ds (n + count d) ns x)
    ]

pub values_by_slot : (ds : List Decl) (ns : List ℕ) (x : Word) → values_of (state_of ds ns) x ≡ (slot_of ds 0 x >>= λ s. Some (take s.size (drop s.start ns)))
values_by_slot ds ns x = values_from ds 0 ns x

module _ (ds : List Decl) (ns : List ℕ) (x : Word) where
  pub values_at : (s : Slot) → slot_of ds 0 x ≡ Some s → values_of (state_of ds ns) x ≡ Some (take s.size (drop s.start ns))
  values_at s e = values_by_slot ds ns x ∙ rw e

  pub values_missing : slot_of ds 0 x ≡ None → values_of (state_of ds ns) x ≡ None
  values_missing e = values_by_slot ds ns x ∙ rw e

-- names of two rows
pub state_append : (ds es : List Decl) (ns ms : List ℕ) → length ns ≡ counts ds → state_of (ds ++ es) (ns ++ ms) ≡ state_of ds ns ++ state_of es ms
unfolding counts state_of
state_append [] es [] ms e = refl
state_append [] es (m ∷ ns) ms e = absurd (omega arith)
state_append (d ∷ ds) es ns ms e =
    let front : count d ≤ length ns = omega arith in
    let behind : length (drop (count d) ns) ≡ counts ds = length-drop (count d) ns ∙ omega arith in
    rw (take-append-le (count d) ns ms front, drop-append-le (count d) ns ms front) (ap (λ s. record { name = d.name; values = take (count d) ns } ∷ s) (state_append ds es (drop (count d) ns) ms behind))

-- writing all numbers of a name
put_behind : (c t k : ℕ) (ns vs : List ℕ) → put_mid (c + t) k ns vs ≡ take c ns ++ put_mid t k (drop c ns) vs
put_behind c t k ns vs = rw (take-add c t ns, ← (drop-drop t c ns), append_assoc)

row_from : (ds : List Decl) (n t : ℕ) (ns vs : List ℕ) (x : Word) (s : Slot) → slot_of ds n x ≡ Some s → s.start ≡ n + t → length vs ≡ s.size → counts ds ≤ length ns → write (state_of ds ns) x vs ≡ state_of ds (put_mid t s.size ns vs)
unfolding slot_of state_of counts write
row_from [] n t ns vs x s e at size room = refl
row_from (d ∷ ds) n t ns vs x s e at size room =
    elim (cases_Bool (same d.name x)) [
      | inl b ↦
          let found : Some (record { start = n; size = count d }) ≡ Some s = rw b at e in
          let start : s.start ≡ n = cc in
          let of_size : s.size ≡ count d = cc in
          let none : t ≡ 0 = omega arith in
          let long : length vs ≡ count d = size ∙ of_size in
          rw (b, none, of_size, take_at vs (drop (count d) ns) (count d) long, drop_at vs (drop (count d) ns) (count d) long)
      | inr b ↦
          let f : slot_of ds (n + count d) x ≡ Some s = rw b at e in
          let inside = slot_within ds (n + count d) x s f in
          let u = t - count d in
          let shift : t ≡ count d + u = omega (arith, inside.low) in
          let front : length (take (count d) ns) ≡ count d = length-take-le (count d) ns (omega arith) in
          let left : counts ds ≤ length (drop (count d) ns) = rw (length-drop (count d) ns) (omega arith) in
          let more = row_from ds (n + count d) u (drop (count d) ns) vs x s f (omega arith) size left in
          rw (b, shift, put_behind (count d) u s.size ns vs, take_at (take (count d) ns) _ (count d) front, drop_at (take (count d) ns) _ (count d) front) (ap (λ z. record { name = d.name; values = take (count d) ns } ∷ z) more)
    ]

module _ (ds : List Decl) (ns : List ℕ) (x : Word) (s : Slot) (found : slot_of ds 0 x ≡ Some s) (room : counts ds ≤ length ns) where
  pub write_row : (vs : List ℕ) → length vs ≡ s.size → write (state_of ds ns) x vs ≡ state_of ds (put_mid s.start s.size ns vs)
  write_row vs size = row_from ds 0 s.start ns vs x s found (omega arith) size room

  pub slot_fits : s.start + s.size ≤ length ns
  slot_fits = omega (arith, (slot_within ds 0 x s found).high)

  pub slot_length : length (take s.size (drop s.start ns)) ≡ s.size
  slot_length =
      let fits = slot_fits in
      length-take-le s.size (drop s.start ns) (rw (length-drop s.start ns) (omega arith))

-- names that all begin at 0
pub zeros_are : (ds : List Decl) → state_of ds (replicate (counts ds) 0) ≡ zeros ds
unfolding counts state_of
zeros_are [] = refl
zeros_are (d ∷ ds) =
    let size = count d in
    let rest : size + counts ds - size ≡ counts ds = omega arith in
    rw (take-replicate {X = ℕ} size (size + counts ds) 0 (omega arith), drop-replicate {X = ℕ} size (size + counts ds) 0, rest) (ap (λ z. record { name = d.name; values = replicate size 0 } ∷ z) (zeros_are ds))

-- writing one of them
put_element : (t size k v : ℕ) (ns : List ℕ) → t + size ≤ length ns → k < size → put_mid t size ns (set (take size (drop t ns)) k v) ≡ set ns (t + k) v
put_element t size k v ns room h =
    let split : take t ns ++ (take size (drop t ns) ++ drop size (drop t ns)) ≡ ns = rw (take-append-drop size (drop t ns)) (take-append-drop t ns) in
    let front : length (take t ns) ≡ t = length-take-le t ns (omega arith) in
    let middle : length (take size (drop t ns)) ≡ size = length-take-le size (drop t ns) (rw (length-drop t ns) (omega arith)) in
    let place : t + k - t ≡ k = omega arith in
    let inner : set (take size (drop t ns) ++ drop size (drop t ns)) k v ≡ set (take size (drop t ns)) k v ++ drop size (drop t ns) = set-append_left (take size (drop t ns)) (drop size (drop t ns)) k v (omega arith) in
    let outer : set (take t ns ++ (take size (drop t ns) ++ drop size (drop t ns))) (t + k) v ≡ take t ns ++ set (take size (drop t ns) ++ drop size (drop t ns)) k v = set-append_right (take t ns) _ t (t + k) v front (omega arith) ∙ rw place in
    ap (λ z. take t ns ++ z) (sym inner) ∙ sym outer ∙ ap (λ z. set z (t + k) v) split

module _ (ds : List Decl) (ns : List ℕ) (x : Word) (s : Slot) (found : slot_of ds 0 x ≡ Some s) (room : counts ds ≤ length ns) where
  pub write_element : (k v : ℕ) → k < s.size → write (state_of ds ns) x (set (take s.size (drop s.start ns)) k v) ≡ state_of ds (set ns (s.start + k) v)
  write_element k v h =
      let fits = slot_fits ds ns x s found room in
      let long : length (set (take s.size (drop s.start ns)) k v) ≡ s.size = length-set (take s.size (drop s.start ns)) k v ∙ slot_length ds ns x s found room in
      write_row ds ns x s found room _ long ∙ ap (state_of ds) (put_element s.start s.size k v ns fits h)
