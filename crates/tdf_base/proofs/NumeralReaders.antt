-- A numeral is read exactly where it is spelled so; first places in a text.
use Rattle.std.proofs.Common.{◌≡◌, ℕ, ◌+◌, ◌<◌, Bool, true, false, not, ◌&&◌, nat_lt, ◌==◌, Option, Some, None, List, [], ◌∷◌, ◌++◌, length, get_or, take, drop, ⊎_elim, refl, sym, ap, ◌∙◌, subst, arith, append-nil, length-append, add-one}
use Rattle.std.proofs.Math.Seq.{split_at, take-append_seam, drop-append-add}
use Rattle.std.proofs.lemmas.Bool.{and_parts, and_from, cases_Bool, eqb-true, lt-ltb, le-ltb}
use Rattle.std.proofs.lemmas.Bool.Decides.{nat_tests}
use Rattle.std.proofs.lemmas.List.Quantifiers.{position-Some}
use Rattle.std.specs.List.{list_all, position_or_len, position}
use Rattle.tdf_base.specs.Digits.{is_digit, are_digits}
use Rattle.tdf_base.specs.Number.{Numeral, numeral_of, numeral_at, numeral_alone, numeral_both}
use Rattle.tdf_base.specs.Spelling.{after_point, SpellsNumeral, ReadsNumerals}

-- ---- first places

first_at : (p : ℕ → Bool) (xs : List ℕ) (c : ℕ) (ys : List ℕ) → list_all (λ x. not (p x)) xs ≡ true → p c ≡ true → position_or_len p (xs ++ (c ∷ ys)) ≡ length xs
first_at p [] c ys none here = rw here refl
first_at p (x ∷ xs) c ys none here =
    let both = and_parts (not (p x)) (list_all (λ y. not (p y)) xs) none in
    let rest = first_at p xs c ys both.1 here in
    rw both.0 (omega (arith, rest))

no_first : (p : ℕ → Bool) (xs : List ℕ) → list_all (λ x. not (p x)) xs ≡ true → position_or_len p xs ≡ length xs
no_first p [] none = refl
no_first p (x ∷ xs) none =
    let both = and_parts (not (p x)) (list_all (λ y. not (p y)) xs) none in
    let rest = no_first p xs both.1 in
    rw both.0 (omega (arith, rest))

pub place_at : (p : ℕ → Bool) (xs : List ℕ) (c : ℕ) (ys : List ℕ) → list_all (λ x. not (p x)) xs ≡ true → p c ≡ true → position p (xs ++ (c ∷ ys)) ≡ Some (length xs)
place_at p xs c ys none here =
    let at : position_or_len p (xs ++ (c ∷ ys)) ≡ length xs = first_at p xs c ys none here in
    let within : nat_lt (length xs) (length (xs ++ (c ∷ ys))) ≡ true = lt-ltb (length xs) (length (xs ++ (c ∷ ys))) (omega (arith, length-append xs (c ∷ ys))) in
    rw at (rw within refl)

pub no_place : (p : ℕ → Bool) (xs : List ℕ) → list_all (λ x. not (p x)) xs ≡ true → position p xs ≡ None
no_place p xs none =
    let at : position_or_len p xs ≡ length xs = no_first p xs none in
    let past : nat_lt (length xs) (length xs) ≡ false = le-ltb (length xs) (length xs) (omega arith) in
    rw at (rw past refl)

-- the text around a place that was found
pub around : (p : ℕ → Bool) (xs : List ℕ) (at : ℕ) → position p xs ≡ Some at
    → (at < length xs) × (p (get_or xs at 0) ≡ true) × (xs ≡ take at xs ++ (get_or xs at 0 ∷ drop (at + 1) xs))
around p xs at e =
    let found = position-Some p xs at 0 e in
    (found.0, found.1, split_at xs at 0 found.0 ∙ ap (λ k. take at xs ++ (get_or xs at 0 ∷ drop k xs)) (sym (add-one at)))

-- ---- numerals

no_point : (xs : List ℕ) → list_all is_digit xs ≡ true → list_all (λ c. not (c == 46)) xs ≡ true
no_point [] all = refl
no_point (c ∷ cs) all =
    let both = and_parts (is_digit c) (list_all is_digit cs) all in
    and_from (not (c == 46)) (list_all (λ y. not (y == 46)) cs) (grind (arith, nat_tests)) (no_point cs both.1)

abbrev numeral : List ℕ → List ℕ → Numeral
numeral whole fraction = record { whole = whole; fraction = fraction }

pub some_same : {A : Type 0} (x y : A) → Some x ≡ Some y → x ≡ y
some_same x y e = cc

alone_spells : (text : List ℕ) (n : Numeral) → numeral_alone text ≡ Some n → SpellsNumeral text n
alone_spells text n e = ⊎_elim
    (λ (yes_it_is : are_digits text ≡ true).
    let same : numeral text [] ≡ n = some_same (numeral text []) n (rw yes_it_is at e) in
    subst (λ m. SpellsNumeral text m) same (record { whole = yes_it_is; fraction = refl; is = sym (append-nil text) }))
    (λ (not_it : are_digits text ≡ false). let gone : None ≡ Some n = rw not_it at e in absurd (cc))
    (cases_Bool (are_digits text))

pub after_some : (digits : List ℕ) → are_digits digits ≡ true → after_point digits ≡ 46 ∷ digits
after_some [] all = absurd (cc)
after_some (c ∷ cs) all = refl

pub all_of : (digits : List ℕ) → are_digits digits ≡ true → list_all is_digit digits ≡ true
all_of digits all = (and_parts (nat_lt 0 (length digits)) (list_all is_digit digits) all).1

both_spells : (text whole fraction : List ℕ) (n : Numeral) → text ≡ whole ++ (46 ∷ fraction) → numeral_both whole fraction ≡ Some n → SpellsNumeral text n
both_spells text whole fraction n is e = ⊎_elim
    (λ (yes_it_is : (are_digits whole && are_digits fraction) ≡ true).
    let same : numeral whole fraction ≡ n = some_same (numeral whole fraction) n (rw yes_it_is at e) in
    let sides = and_parts (are_digits whole) (are_digits fraction) yes_it_is in
    subst (λ m. SpellsNumeral text m) same
    (record { whole = sides.0; fraction = all_of fraction sides.1; is = is ∙ ap (λ t. whole ++ t) (sym (after_some fraction sides.1)) }))
    (λ (not_it : (are_digits whole && are_digits fraction) ≡ false). let gone : None ≡ Some n = rw not_it at e in absurd (cc))
    (cases_Bool (are_digits whole && are_digits fraction))

spells_at : (text : List ℕ) (n : Numeral) (at : Option ℕ) → position (λ c. c == 46) text ≡ at → numeral_at text at ≡ Some n → SpellsNumeral text n
spells_at text n None place e = alone_spells text n e
spells_at text n (Some at) place e =
    let found = around (λ c. c == 46) text at place in
    let point : get_or text at 0 ≡ 46 = eqb-true (get_or text at 0) 46 found.1 in
    both_spells text (take at text) (drop (at + 1) text) n (found.2 ∙ ap (λ c. take at text ++ (c ∷ drop (at + 1) text)) point) e

pub numeral_spells : (text : List ℕ) (n : Numeral) → numeral_of text ≡ Some n → SpellsNumeral text n
unfolding numeral_of
numeral_spells text n e = spells_at text n (position (λ c. c == 46) text) refl e

pub digits_from : (digits : List ℕ) → 0 < length digits → list_all is_digit digits ≡ true → are_digits digits ≡ true
digits_from digits some all = and_from (nat_lt 0 (length digits)) (list_all is_digit digits) (lt-ltb 0 (length digits) some) all

spelled_of : (whole fraction : List ℕ) → are_digits whole ≡ true → list_all is_digit fraction ≡ true → numeral_of (whole ++ after_point fraction) ≡ Some (numeral whole fraction)
unfolding numeral_of
spelled_of whole [] digits all =
    rw (append-nil whole, no_place (λ c. c == 46) whole (no_point whole (all_of whole digits)), digits) refl
spelled_of whole (c ∷ cs) digits all =
    let after = digits_from (c ∷ cs) (omega arith) all in
    rw (
      place_at (λ x. x == 46) whole 46 (c ∷ cs) (no_point whole (all_of whole digits)) refl,
      take-append_seam whole (46 ∷ (c ∷ cs)),
      drop-append-add whole (46 ∷ (c ∷ cs)) 1,
      digits,
      after,
    ) refl

pub numeral_spelled : (text : List ℕ) (n : Numeral) → SpellsNumeral text n → numeral_of text ≡ Some n
numeral_spelled text n h = ap numeral_of h.is ∙ spelled_of n.whole n.fraction h.whole h.fraction

pub reads_numerals : ReadsNumerals
reads_numerals text n = (numeral_spells text n, numeral_spelled text n)
