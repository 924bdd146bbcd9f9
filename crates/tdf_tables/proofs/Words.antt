-- Words after one space each: they are read back, and one word is cut after the other.
use Rattle.std.proofs.Common.{◌≡◌, ℕ, zero, suc, ◌+◌, ◌-◌, ◌<◌, ◌≤◌, Bool, true, false, List, [], ◌∷◌, ◌++◌, length, take, drop, refl, arith, ◌∙◌, sym, ap, subst, ⊎_elim, length-append}
use Rattle.std.proofs.lemmas.Bool.{eqb-true, cases_Bool}
use Rattle.std.proofs.lemmas.List.{take-append-drop, take_rest}
use Rattle.std.proofs.Math.Seq.{take-append_seam, drop-append_seam}
use Rattle.std.specs.List.{AllByRecursion, list_any, before_first, position_or_len}
use Rattle.tdf_tables.specs.Words.{is_blank, spaced, words_in, words_of}

pub spaced_more : (w : List ℕ) (ws : List (List ℕ)) → spaced (w ∷ ws) ≡ 32 ∷ (w ++ spaced ws)
unfolding spaced
spaced_more w ws = refl

pub spaced_none : spaced [] ≡ []
unfolding spaced
spaced_none = refl

-- ---- what follows a word

pub drop_short : (n : ℕ) (xs : List ℕ) → length (drop n xs) ≤ length xs
drop_short zero xs = omega arith
drop_short (suc n) [] = omega arith
drop_short (suc n) (x ∷ xs) = omega (arith, drop_short n xs)

-- nothing, or a space
abbrev BeginsWell : List ℕ → Type 0
BeginsWell [] = Unit {0}
BeginsWell (c ∷ cs) = c ≡ 32

drop_none : (c : ℕ) (text : List ℕ) → is_blank c ≡ true → drop (position_or_len is_blank (c ∷ text)) (c ∷ text) ≡ c ∷ text
drop_none c text e = rw e refl

drop_more : (c : ℕ) (text : List ℕ) → is_blank c ≡ false
    → drop (position_or_len is_blank (c ∷ text)) (c ∷ text) ≡ drop (position_or_len is_blank text) text
drop_more c text e = rw e (let f : 1 + position_or_len is_blank text ≡ suc (position_or_len is_blank text) = omega arith in rw f refl)

begins_by : (c : ℕ) (text : List ℕ) (b : Bool) → is_blank c ≡ b → BeginsWell (drop (position_or_len is_blank text) text)
    → BeginsWell (drop (position_or_len is_blank (c ∷ text)) (c ∷ text))
begins_by c text true e h = subst BeginsWell (sym (drop_none c text e)) (eqb-true c 32 e)
begins_by c text false e h = subst BeginsWell (sym (drop_more c text e)) h

rest_begins : (text : List ℕ) → BeginsWell (drop (position_or_len is_blank text) text)
rest_begins [] = tt
rest_begins (c ∷ text) = begins_by c text (is_blank c) refl (rest_begins text)

-- ---- the room for words

in_none : (n : ℕ) → words_in n [] ≡ []
unfolding words_in
in_none zero = refl
in_none (suc n) = refl

in_more : (n c : ℕ) (text : List ℕ) → words_in (suc n) (c ∷ text)
    ≡ before_first is_blank text ∷ words_in n (drop (position_or_len is_blank text) text)
unfolding words_in
in_more n c text = refl

-- room for each byte is enough
room_enough : (m n : ℕ) (text : List ℕ) → length text ≤ m → length text ≤ n → words_in m text ≡ words_in n text
room_enough m n [] a b = in_none m ∙ sym (in_none n)
room_enough zero n (c ∷ text) a b = absurd (omega (arith, a))
room_enough (suc m) zero (c ∷ text) a b = absurd (omega (arith, b))
room_enough (suc m) (suc n) (c ∷ text) a b =
    let at = position_or_len is_blank text in
    let short = drop_short at text in
    in_more m c text ∙ ap (λ ws. before_first is_blank text ∷ ws) (room_enough m n (drop at text) (omega (arith, a, short)) (omega (arith, b, short)))
    ∙ sym (in_more n c text)

pub words_none : words_of [] ≡ []
unfolding words_of
words_none = in_none 0

-- one word more
pub words_step : (c : ℕ) (text : List ℕ) → words_of (c ∷ text)
    ≡ before_first is_blank text ∷ words_of (drop (position_or_len is_blank text) text)
unfolding words_of
words_step c text =
    let at = position_or_len is_blank text in
    in_more (length text) c text
    ∙ ap (λ ws. before_first is_blank text ∷ ws) (room_enough (length text) (length (drop at text)) (drop at text) (drop_short at text) (omega arith))

-- a text of no byte has no word, and each other one a first word and the words after it
pub words_short : (text : List ℕ) → length text < 1 → words_of text ≡ []
words_short [] short = words_none
words_short (c ∷ text) short = absurd (omega (arith, short))

pub words_cut : (text word rest : List ℕ) → 1 ≤ length text → word ≡ before_first is_blank (take (length text - 1) (drop 1 text))
    → rest ≡ drop (position_or_len is_blank (take (length text - 1) (drop 1 text))) (take (length text - 1) (drop 1 text)) → words_of text ≡ word ∷ words_of rest
words_cut [] word rest some a b = absurd (omega (arith, some))
words_cut (c ∷ text) word rest some a b =
    let all : take (length (c ∷ text) - 1) (drop 1 (c ∷ text)) ≡ text = take_rest (c ∷ text) 1 in
    let first : word ≡ before_first is_blank text = a ∙ ap (before_first is_blank) all in
    let after : rest ≡ drop (position_or_len is_blank text) text = b ∙ ap (λ t. drop (position_or_len is_blank t) t) all in
    words_step c text ∙ ap (λ w. w ∷ words_of (drop (position_or_len is_blank text) text)) (sym first) ∙ ap (λ t. word ∷ words_of t) (sym after)

pub ruleset step_laws = (drop_short)

-- ---- the text of the words of a text

rest_by : (n : ℕ) → ((c : ℕ) (text : List ℕ) → length (c ∷ text) ≤ n → spaced (words_in n (c ∷ text)) ≡ 32 ∷ text)
    → (rest : List ℕ) → BeginsWell rest → length rest ≤ n → spaced (words_in n rest) ≡ rest
rest_by n before [] begins within = ap spaced (in_none n) ∙ spaced_none
rest_by n before (c ∷ text) begins within = before c text within ∙ ap (λ x. x ∷ text) (sym begins)

spaced_in : (n c : ℕ) (text : List ℕ) → length (c ∷ text) ≤ n → spaced (words_in n (c ∷ text)) ≡ 32 ∷ text
spaced_in zero c text within = absurd (omega (arith, within))
spaced_in (suc n) c text within =
    let at = position_or_len is_blank text in
    let rest = drop at text in
    let short = drop_short at text in
    ap spaced (in_more n c text) ∙ spaced_more (before_first is_blank text) (words_in n rest)
    ∙ ap (λ x. 32 ∷ (before_first is_blank text ++ x)) (rest_by n (spaced_in n) rest (rest_begins text) (omega (arith, within, short)))
    ∙ ap (λ x. 32 ∷ x) (take-append-drop at text)

-- the first byte counts as a space
pub spaced_words : (c : ℕ) (text : List ℕ) → spaced (words_of (c ∷ text)) ≡ 32 ∷ text
unfolding words_of
spaced_words c text = spaced_in (length (c ∷ text)) c text (omega arith)

pub spaced_short : (text : List ℕ) → length text < 1 → spaced (words_of text) ≡ []
spaced_short text short = ap spaced (words_short text short) ∙ spaced_none

pub spaced_some : (text : List ℕ) → 1 ≤ length text → spaced (words_of text) ≡ 32 ∷ take (length text - 1) (drop 1 text)
spaced_some [] some = absurd (omega (arith, some))
spaced_some (c ∷ text) some = spaced_words c text ∙ ap (λ x. 32 ∷ x) (sym (take_rest (c ∷ text) 1))

-- ---- the words of a text of words

pub place_after : (p : ℕ → Bool) (xs ys : List ℕ) → list_any p xs ≡ false → position_or_len p (xs ++ ys) ≡ length xs + position_or_len p ys
place_after p [] ys h = omega arith
place_after p (x ∷ xs) ys h = ⊎_elim
    (λ (yes_it_is : p x ≡ true). absurd (let g : true ≡ false = rw yes_it_is at h in cc))
    (λ (not_it : p x ≡ false).
    let g : list_any p xs ≡ false = rw not_it at h in
    let more = place_after p xs ys g in
    rw not_it (omega (arith, more)))
    (cases_Bool (p x))

spaced_begins : (words : List (List ℕ)) → position_or_len is_blank (spaced words) ≡ 0
unfolding spaced
spaced_begins [] = refl
spaced_begins (w ∷ ws) = refl

pub word_place : (word : List ℕ) (words : List (List ℕ)) → list_any is_blank word ≡ false → position_or_len is_blank (word ++ spaced words) ≡ length word
word_place word words h = omega (arith, place_after is_blank word (spaced words) h, spaced_begins words)

pub word_first : (word : List ℕ) (words : List (List ℕ)) → list_any is_blank word ≡ false → before_first is_blank (word ++ spaced words) ≡ word
word_first word words h = rw (word_place word words h) (take-append_seam word (spaced words))

pub word_rest : (word : List ℕ) (words : List (List ℕ)) → list_any is_blank word ≡ false
    → drop (position_or_len is_blank (word ++ spaced words)) (word ++ spaced words) ≡ spaced words
word_rest word words h = rw (word_place word words h) (drop-append_seam word (spaced words))

abbrev pub HasNoSpace : List ℕ → Type 0
HasNoSpace word = list_any is_blank word ≡ false

one_in : (n : ℕ) (word : List ℕ) (words : List (List ℕ)) → HasNoSpace word → words_in (suc n) (spaced (word ∷ words)) ≡ word ∷ words_in n (spaced words)
one_in n word words h =
    ap (words_in (suc n)) (spaced_more word words) ∙ in_more n 32 (word ++ spaced words)
    ∙ ap (λ w. w ∷ words_in n (drop (position_or_len is_blank (word ++ spaced words)) (word ++ spaced words))) (word_first word words h)
    ∙ ap (λ t. word ∷ words_in n t) (word_rest word words h)

all_in : (n : ℕ) (words : List (List ℕ)) → length words ≤ n → AllByRecursion HasNoSpace words → words_in n (spaced words) ≡ words
all_in n [] within none = ap (words_in n) spaced_none ∙ in_none n
all_in zero (w ∷ ws) within none = absurd (omega (arith, within))
all_in (suc n) (w ∷ ws) within none = one_in n w ws none.0 ∙ ap (λ x. w ∷ x) (all_in n ws (omega (arith, within)) none.1)

spaced_long : (words : List (List ℕ)) → length words ≤ length (spaced words)
spaced_long [] = omega arith
spaced_long (w ∷ ws) = omega (arith, spaced_long ws, ap length (spaced_more w ws), length-append w (spaced ws))

pub words_spaced : (words : List (List ℕ)) → AllByRecursion HasNoSpace words → words_of (spaced words) ≡ words
unfolding words_of
words_spaced words none = all_in (length (spaced words)) words (spaced_long words) none
