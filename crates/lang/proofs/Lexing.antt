-- How words, runs and tokens are found in a text.
use Rattle.std.proofs.Common.{◌≡◌, ℕ, suc, ◌+◌, ◌-◌, ◌*◌, ◌^◌, ◌<◌, ◌≤◌, Bool, true, false, cond, not, ◌&&◌, ◌||◌, eqb, ltb, List, [], ◌∷◌, ◌++◌, length, get_or, take, drop, Some, None, Option, sym, refl, ap, ◌∙◌, inl, inr, append_assoc, add-zero, arith, lit≤}
use Rattle.std.proofs.lemmas.List.{append-nil, at_drop_more, at_drop_all, drop-drop, drop_more, get_or-drop, get_or-take, length-append, length-drop, length-map, length-take}
use Rattle.std.proofs.lemmas.Bool.{and_parts, cases_Bool, cases_lt, cond_both, le-ltb, ltb-false, not-true, eqb-true, or_parts}
use Rattle.std.specs.List.{prefix_len}
use Rattle.lang.specs.Ahead.{ahead_by}
use Rattle.lang.specs.Base.{◌>>=◌, when, maybe, Word}
use Rattle.lang.specs.Instr.{run}
use Rattle.lang.specs.Kinds.{below_limit, meant}
use Rattle.lang.specs.Places.{begins, in_run, pair, part}
use Rattle.lang.specs.Tokens.{is_blank, is_letter, is_digit, Scan, between, within, after, note, Step, begin, step, last_word, words_from, token, tokens, spelling, every_fixed, decimal, written, first, fixed, name, number, stray}
use Rattle.lang.specs.declared.token.Fixed.{Fixed}
use Rattle.lang.specs.declared.token.Token as declared
use Rattle.lang.specs.declared.token.Token.TheVariants as the

-- Runs of letters and digits.
module _ (text : List ℕ) (i : ℕ) where
  run_at : i < length text → run (drop i text) ≡ cond (in_run (get_or text i 0)) (get_or text i 0 ∷ run (drop (i + 1) text)) []
  unfolding run
  run_at h = at_drop_more run text i 0 h

  pub run_more : i < length text → in_run (get_or text i 0) ≡ true → run (drop i text) ≡ get_or text i 0 ∷ run (drop (i + 1) text)
  run_more h e = rw (run_at h, e)

  pub run_past : length text ≤ i → run (drop i text) ≡ []
  unfolding run
  run_past h = at_drop_all run text i h

pub prefix_run : (bs : List ℕ) → prefix_len in_run bs ≡ length (run bs)
unfolding run
prefix_run [] = refl
prefix_run (b ∷ bs) = elim (cases_Bool (in_run b)) [ inl e ↦ rw e (omega (arith, prefix_run bs)) | inr e ↦ rw e ]

take_run : (bs : List ℕ) → take (length (run bs)) bs ≡ run bs
unfolding run
take_run [] = refl
take_run (b ∷ bs) = elim (cases_Bool (in_run b)) [ inl e ↦ rw e (ap (λ w. b ∷ w) (take_run bs)) | inr e ↦ rw e ]

run_fits : (bs : List ℕ) → length (run bs) ≤ length bs
run_fits bs = omega (arith, ap length (take_run bs), length-take (length (run bs)) bs)

pub run_within : (text : List ℕ) (i : ℕ) → i ≤ length text → i + length (run (drop i text)) ≤ length text
run_within text i h = omega (arith, run_fits (drop i text), length-drop i text)

-- a run that has begun is a word up to its end
words_within : (w : Word) (bs : List ℕ) → words_from (within w) bs ≡ (w ++ run bs) ∷ words_from between (drop (length (run bs)) bs)
unfolding run words_from
words_within w [] = rw append-nil
words_within w (b ∷ bs) =
    elim (cases_Bool (in_run b)) [ inl e ↦ rw e (simp append_assoc at (words_within (w ++ b ∷ []) bs)) | inr e ↦ simp (e, append-nil) ]

abbrev pub in_line : ℕ → Bool
in_line b = not (eqb b 10)

-- a note goes up to the end of its line
pub words_behind_note : (bs : List ℕ) → words_from between (drop (prefix_len in_line bs) bs) ≡ words_from note bs
unfolding words_from
words_behind_note [] = refl
words_behind_note (b ∷ bs) = elim (cases_Bool (eqb b 10)) [ inl e ↦ rw (eqb-true b 10 e) refl | inr e ↦ rw e (ap (words_from between) (sym (drop-drop (prefix_len in_line bs) 1 (b ∷ bs))) ∙ words_behind_note bs) ]

-- Where words begin.
module _ (text : List ℕ) (i : ℕ) where
  words_at : (s : Scan) → i < length text → words_from s (drop i text) ≡ (step s (get_or text i 0)).words ++ words_from (step s (get_or text i 0)).next (drop (i + 1) text)
  unfolding words_from
  words_at s h = at_drop_more (words_from s) text i 0 h

  pub words_past : (s : Scan) → length text ≤ i → words_from s (drop i text) ≡ last_word s
  unfolding words_from
  words_past s h = at_drop_all (words_from s) text i h

  pub words_blank : i < length text → is_blank (get_or text i 0) ≡ true → words_from between (drop i text) ≡ words_from between (drop (i + 1) text)
  words_blank h e = rw (words_at between h, e)

  pub words_noted : i < length text → get_or text i 0 ≡ 35 → words_from between (drop i text) ≡ words_from note (drop (i + 1) text)
  words_noted h e = rw (words_at between h, e)

  -- = or < by itself
  words_after : (a : ℕ) → (i < length text → (eqb (get_or text i 0) 61 || (eqb a 61 && eqb (get_or text i 0) 62)) ≡ false) → words_from (after a) (drop i text) ≡ (a ∷ []) ∷ words_from between (drop i text)
  words_after a single = elim (cases_lt i (length text)) [ inl h ↦ rw (words_at (after a) h, words_at between h, single h) | inr h ↦ rw (words_past (after a) h, words_past between h) ]

-- The word at a place where one begins.
module _ (text : List ℕ) (i : ℕ) (inside : i < length text) (word : begins (get_or text i 0) ≡ true) where
  no_blank : is_blank (get_or text i 0) ≡ false
  no_blank = (or_parts _ _ (not-true _ word)).0

  no_note : eqb (get_or text i 0) 35 ≡ false
  no_note = (or_parts (is_blank (get_or text i 0)) _ (not-true _ word)).1

  pub words_run : in_run (get_or text i 0) ≡ true → words_from between (drop i text) ≡ run (drop i text) ∷ words_from between (drop (i + length (run (drop i text))) text)
  words_run e =
      let rest = words_within (get_or text i 0 ∷ []) (drop (i + 1) text) in
      let to : i + suc (length (run (drop (i + 1) text))) ≡ i + 1 + length (run (drop (i + 1) text)) = omega arith in
      rw (words_at text i between inside, no_blank, no_note, e, run_more text i inside e, to) (rw drop-drop at rest)

  pub words_one : in_run (get_or text i 0) ≡ false → (i + 1 < length text → pair (get_or text i 0) (get_or text (i + 1) 0) ≡ false) → words_from between (drop i text) ≡ (get_or text i 0 ∷ []) ∷ words_from between (drop (i + 1) text)
  words_one e single =
      rw (words_at text i between inside, no_blank, no_note, e) (elim (cases_Bool (eqb (get_or text i 0) 61 || eqb (get_or text i 0) 60)) [ inl f ↦ rw f (words_after text (i + 1) (get_or text i 0) (λ h. rw f at (single h))) | inr f ↦ rw f ])

  pub words_two : in_run (get_or text i 0) ≡ false → i + 1 < length text → pair (get_or text i 0) (get_or text (i + 1) 0) ≡ true → words_from between (drop i text) ≡ (get_or text i 0 ∷ get_or text (i + 1) 0 ∷ []) ∷ words_from between (drop (i + 2) text)
  words_two e more double =
      let both = and_parts (eqb (get_or text i 0) 61 || eqb (get_or text i 0) 60) _ double in
      let to : i + 1 + 1 ≡ i + 2 = omega arith in
      rw (words_at text i between inside, no_blank, no_note, e, both.0, words_at text (i + 1) (after (get_or text i 0)) more, both.1, to)

-- the bytes of the word at a place
pub part_run : (text : List ℕ) (i : ℕ) → part text i (i + length (run (drop i text))) ≡ run (drop i text)
part_run text i =
    let size : i + length (run (drop i text)) - i ≡ length (run (drop i text)) = omega arith in
    rw size (take_run (drop i text))

pub part_one : (text : List ℕ) (i : ℕ) → i < length text → part text i (i + 1) ≡ get_or text i 0 ∷ []
part_one text i h =
    let size : i + 1 - i ≡ 1 = omega arith in
    rw (size, drop_more text i 0 h)

pub part_two : (text : List ℕ) (i : ℕ) → i + 1 < length text → part text i (i + 2) ≡ get_or text i 0 ∷ get_or text (i + 1) 0 ∷ []
part_two text i h =
    let size : i + 2 - i ≡ 2 = omega arith in
    let first : i < length text = omega arith in
    rw (size, drop_more text i 0 first, drop_more text (i + 1) 0 h)

-- Numbers. Once past 2^64, a number with more digits stays past it.
too_large : (n : ℕ) (w : Word) → 2 ^ 64 ≤ n → (decimal n w >>= below_limit) ≡ None
too_large n [] h = rw (le-ltb n (2 ^ 64) h)
too_large n (b ∷ w) h = elim (cases_Bool (is_digit b)) [ inl e ↦ rw e (too_large (n * 10 + (b - 48)) w (omega arith)) | inr e ↦ rw e ]

decimal_cons : (n b : ℕ) (w : Word) → (decimal n (b ∷ w) >>= below_limit) ≡ (when (is_digit b) (below_limit (n * 10 + (b - 48))) >>= λ m. decimal m w >>= below_limit)
decimal_cons n b w =
    elim (cases_Bool (is_digit b)) [ inl e ↦ rw e (elim (cases_Bool (ltb (n * 10 + (b - 48)) (2 ^ 64))) [ inl f ↦ rw f | inr f ↦ rw f (too_large _ w (ltb-false _ _ f)) ]) | inr e ↦ rw e ]

-- one digit of a number, at a place of its word
pub decimal_more : (n : ℕ) (w : Word) (i : ℕ) (o : Option ℕ) → i < length w → o ≡ when (is_digit (get_or w i 0)) (below_limit (n * 10 + (get_or w i 0 - 48))) → (decimal n (drop i w) >>= below_limit) ≡ (o >>= λ m. decimal m (drop (i + 1) w) >>= below_limit)
decimal_more n w i o h e = rw (e, drop_more w i 0 h) (decimal_cons n (get_or w i 0) (drop (i + 1) w))

-- Which token a word is.
first_is : (w : Word) → first w ≡ get_or w 0 0
first_is [] = refl
first_is (b ∷ w) = refl

pub token_digit : (w : Word) (o : Option ℕ) → true ≡ is_digit (get_or w 0 0) → o ≡ written w → maybe o stray number ∷ [] ≡ token w ∷ []
unfolding token
token_digit w o d is = rw (is, first_is w, ← d)

pub token_other : (w : Word) (o : Option Fixed) (l : Bool) → false ≡ is_digit (get_or w 0 0) → o ≡ spelling every_fixed w → l ≡ is_letter (get_or w 0 0) → maybe o (cond l (name w) stray) fixed ∷ [] ≡ token w ∷ []
unfolding token
token_other w o l d is letter = rw (is, letter, first_is w, ← d)

-- the kind of a word that is no run says which token it is, whatever name or number stands there
meant_sign : (v w : Word) (t : declared.Token) (o : Option Fixed) → meant w t ≡ maybe o stray fixed ∷ [] → meant v t ≡ meant w t
meant_sign v w (the.Fixed f) o m = refl
meant_sign v w the.Name None m = cc
meant_sign v w the.Name (Some f) m = cc
meant_sign v w the.Number None m = cc
meant_sign v w the.Number (Some f) m = cc
meant_sign v w the.Stray o m = refl
meant_sign v w the.End o m = refl

meant_at : (v w : Word) (t : declared.Token) → (in_run (get_or w 0 0) ≡ true → w ≡ v) → meant w t ≡ token w ∷ [] → meant v t ≡ meant w t
meant_at v w t whole m =
    elim (cases_Bool (in_run (get_or w 0 0))) [
      | inl e ↦ ap (λ u. meant u t) (sym (whole e))
      | inr e ↦ let no_run = or_parts (is_letter (get_or w 0 0)) _ e in
          meant_sign v w t (spelling every_fixed w) (m ∙ sym (token_other w _ false (sym no_run.1) refl (sym no_run.0)))
    ]

ahead_meant : (text : List ℕ) (start end : ℕ) (t : declared.Token) (w : Word) → meant w t ≡ token w ∷ [] → ahead_by text start end t ≡ meant (run (drop start text)) t ++ tokens (drop end text)
ahead_meant text start end (the.Fixed f) w m = refl
ahead_meant text start end the.Name w m = refl
ahead_meant text start end the.Number w m = refl
ahead_meant text start end the.Stray w m = refl
ahead_meant text start end the.End w m = cc

get_or_part : (text : List ℕ) (start end : ℕ) → start < end → get_or (part text start end) 0 0 ≡ get_or text start 0
get_or_part text start end h =
    let inside : 0 < end - start = omega arith in
    get_or-take (end - start) (drop start text) 0 0 inside ∙ get_or-drop start text 0 0 ∙ ap (λ i. get_or text i 0) (add-zero start)

pub tokens_past : (text : List ℕ) (i : ℕ) → length text ≤ i → tokens (drop i text) ≡ []
unfolding tokens
tokens_past text i h = rw (words_past text i between h)

pub tokens_same : (xs ys : List ℕ) → words_from between xs ≡ words_from between ys → tokens xs ≡ tokens ys
unfolding tokens
tokens_same xs ys e = rw e

tokens_word : (text : List ℕ) (start end : ℕ) → words_from between (drop start text) ≡ part text start end ∷ words_from between (drop end text) → tokens (drop start text) ≡ token (part text start end) ∷ tokens (drop end text)
unfolding tokens
tokens_word text start end e = rw e

-- a cursor at a word, behind which the text goes on
pub ahead_word : (text : List ℕ) (start end : ℕ) (t : declared.Token) →
    start < end →
    words_from between (drop start text) ≡ part text start end ∷ words_from between (drop end text) →
    (in_run (get_or text start 0) ≡ true → part text start end ≡ run (drop start text)) →
    meant (part text start end) t ≡ token (part text start end) ∷ [] →
    ahead_by text start end t ≡ tokens (drop start text)
ahead_word text start end t h e whole m =
    let w = part text start end in
    let rest = tokens (drop end text) in
    let known : in_run (get_or w 0 0) ≡ true → w ≡ run (drop start text) = rw (get_or_part text start end h) whole in
    ahead_meant text start end t w m ∙ ap (λ ts. ts ++ rest) (meant_at (run (drop start text)) w t known m ∙ m) ∙ sym (tokens_word text start end e)

-- How many tokens there are: each byte adds one word at most, the one that is begun counted in.
abbrev open_words : Step → ℕ
open_words s = length s.words + length (last_word s.next)

begin_few : (b : ℕ) → open_words (begin b) ≤ 1
begin_few b =
    let few : Step → Type 0 = λ s. open_words s ≤ 1 in
    cond_both (is_blank b) _ _ few (λ _. lit≤ tt) λ _.
    cond_both (eqb b 35) _ _ few (λ _. lit≤ tt) λ _.
    cond_both (in_run b) _ _ few (λ _. lit≤ tt) λ _.
    cond_both (eqb b 61 || eqb b 60) _ _ few (λ _. lit≤ tt) λ _. lit≤ tt

step_few : (s : Scan) (b : ℕ) → open_words (step s b) ≤ length (last_word s) + 1
step_few between b = begin_few b
step_few (within w) b = let few : Step → Type 0 = λ s. open_words s ≤ 2 in cond_both (in_run b) _ _ few (λ _. lit≤ tt) λ _. omega (arith, begin_few b)
step_few (after a) b = let few : Step → Type 0 = λ s. open_words s ≤ 2 in cond_both (eqb b 61 || (eqb a 61 && eqb b 62)) _ _ few (λ _. lit≤ tt) λ _. omega (arith, begin_few b)
step_few note b = let few : Step → Type 0 = λ s. open_words s ≤ 1 in cond_both (eqb b 10) _ _ few (λ _. lit≤ tt) λ _. lit≤ tt

words_few : (s : Scan) (bs : List ℕ) → length (words_from s bs) ≤ length (last_word s) + length bs
unfolding words_from
words_few s [] = omega arith
words_few s (b ∷ bs) = rw length-append (omega (arith, step_few s b, words_few (step s b).next bs))

pub tokens_few : (bs : List ℕ) → length (tokens bs) ≤ length bs
unfolding tokens
tokens_few bs = rw length-map (omega (arith, words_few between bs))
