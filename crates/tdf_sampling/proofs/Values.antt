-- The order of numbers is that of their values.
use Rattle.std.proofs.Common.{◌≡◌, ◌≢◌, ℕ, zero, suc, ◌-◌, ◌*◌, ◌^◌, ◌<◌, ◌≤◌, ◌⊎◌, inl, inr, true, false, nat_le, List, [], ◌∷◌, ◌++◌, length, get_or, refl, arith, ◌∙◌, sym, ap, subst, codes, append-nil}
use Rattle.std.proofs.Math.Nat.{mul-lt-mul_of_pos_right}
use Rattle.std.proofs.lemmas.Bool.{cases_eq, le-leb, lt-leb, cases_lt}
use Rattle.std.specs.Prelude.{pos, neg_ℤ, ◌*ℤ◌, int_le}
use Rattle.tdf_base.proofs.Api.{power_some}
use Rattle.tdf_base.specs.Digits.{number}
use Rattle.tdf_base.specs.Number.{scaled_count}
use Rattle.tdf_base.specs.Spelling.{after_point}
use Rattle.tdf_fixed.proofs.Api.{number_above}
use Rattle.tdf_sampling.proofs.ByteOrder.{some_number}
use Rattle.tdf_sampling.proofs.CellOrder.{Minus, Plus, Signed, digits_are, signed}
use Rattle.tdf_sampling.specs.Laws.{OrdersByValue, signed_count, places_in}
use Rattle.tdf_sampling.specs.Order.{digits_of, is_at_most}
use Rattle.tdf_tables.specs.Cells.{SpellsPlain}

neg_times : (n d : ℕ) → neg_ℤ (pos n) *ℤ pos d ≡ neg_ℤ (pos (n * d))
neg_times zero d = let f : 0 * d ≡ 0 = grind arith in rw f refl
neg_times (suc n) d = refl

le_suc : (m n : ℕ) → nat_le n m ≡ nat_le (suc n) (suc m)
le_suc m n = ⊎_by (cases_lt m n)
  where
    ⊎_by : (m < n) ⊎ (n ≤ m) → nat_le n m ≡ nat_le (suc n) (suc m)
    ⊎_by (inl less) = lt-leb n m less ∙ sym (lt-leb (suc n) (suc m) (omega arith))
    ⊎_by (inr fine) = le-leb n m fine ∙ sym (le-leb (suc n) (suc m) (omega arith))

both_below : (m n : ℕ) → nat_le n m ≡ int_le (neg_ℤ (pos m)) (neg_ℤ (pos n))
both_below zero zero = refl
both_below zero (suc n) = lt-leb (suc n) 0 (omega arith)
both_below (suc m) zero = le-leb 0 (suc m) (omega arith)
both_below (suc m) (suc n) = sym (le_suc m n)

one_below : (m n : ℕ) → true ≡ int_le (neg_ℤ (pos m)) (pos n)
one_below zero n = sym (le-leb 0 n (omega arith))
one_below (suc m) n = refl

other_below : (m n : ℕ) → 0 < n → false ≡ int_le (pos m) (neg_ℤ (pos n))
other_below m zero some = absurd (omega arith)
other_below m (suc n) some = refl

product_some : (n d : ℕ) → 0 < n → 0 < d → 0 < n * d
product_some n d some more = let f : 0 * d < n * d = mul-lt-mul_of_pos_right some more in let g : 0 * d ≡ 0 = grind arith in omega arith

zero_whole : (ds : List ℕ) → get_or ds 0 0 ≡ 48 → length ds ≡ 1 → ds ≡ codes "0"
zero_whole [] first one = absurd (omega (arith, one))
zero_whole (d ∷ []) first one = ap (λ x. x ∷ []) first
zero_whole (d ∷ (e ∷ ds)) first one = absurd (omega (arith, one))

count_some : (text : List ℕ) (h : SpellsPlain text) → text ≢ codes "0" → 0 < scaled_count h.numeral
count_some text h other = by (cases_eq (get_or h.numeral.whole 0 0) 48) (cases_eq (length h.numeral.fraction) 0)
  where
    power : 0 < 10 ^ length h.numeral.fraction
    power = power_some (length h.numeral.fraction)

    by : (get_or h.numeral.whole 0 0 ≡ 48) ⊎ (get_or h.numeral.whole 0 0 ≡ 48 → ⊥) → (length h.numeral.fraction ≡ 0) ⊎ (length h.numeral.fraction ≡ 0 → ⊥) → 0 < scaled_count h.numeral
    by (inl first) (inl none) =
        let whole = zero_whole h.numeral.whole first (h.plain.whole.plain first) in
        absurd (other (h.spells.is ∙ ap (λ f. h.numeral.whole ++ after_point f) (no_digits h.numeral.fraction none) ∙ append-nil h.numeral.whole ∙ whole))
      where
        no_digits : (ds : List ℕ) → length ds ≡ 0 → ds ≡ []
        no_digits [] e = refl
        no_digits (d ∷ ds) e = absurd (omega (arith, e))
    by (inl first) (inr some) = let f = some_number h.numeral.fraction h.spells.fraction h.plain.ends (omega arith) in omega arith
    by (inr apart) fraction =
        let low = number_above h.numeral.whole h.plain.whole.some h.plain.whole.all apart in
        let many : 0 < 10 ^ (length h.numeral.whole - 1) = power_some (length h.numeral.whole - 1) in
        let f = product_some (number h.numeral.whole) (10 ^ length h.numeral.fraction) (omega arith) power in
        omega arith

count_more : (text : List ℕ) → SpellsPlain text → text ≢ codes "0" → 0 < scaled_count (digits_of text)
count_more text h other = subst (λ n. 0 < scaled_count n) (sym (digits_are text h)) (count_some text h other)

abbrev count : List ℕ → ℕ
count text = scaled_count (digits_of text)

abbrev power : List ℕ → ℕ
power text = 10 ^ length (digits_of text).fraction

value_by : (a b : List ℕ) → Signed a → Signed b → is_at_most a b ≡ int_le (signed_count a *ℤ pos (10 ^ places_in b)) (signed_count b *ℤ pos (10 ^ places_in a))
unfolding is_at_most
value_by a b (Plus g m) (Plus h n) = rw (m, n) refl
value_by a b (Plus g m) (Minus {text = y} h other) = rw m
    (other_below (count a * power y) (count y * power a) (product_some (count y) (power a) (count_more y h other) (power_some (length (digits_of a).fraction)))
    ∙ ap (λ z. int_le (pos (count a * power y)) z) (sym (neg_times (count y) (power a))))
value_by a b (Minus {text = x} g other) (Plus h n) = rw n
    (one_below (count x * power b) (count b * power x) ∙ ap (λ z. int_le z (pos (count b * power x))) (sym (neg_times (count x) (power b))))
value_by a b (Minus {text = x} g some) (Minus {text = y} h other) =
    both_below (count x * power y) (count y * power x)
    ∙ ap (λ z. int_le z (neg_ℤ (pos (count y * power x)))) (sym (neg_times (count x) (power y)))
    ∙ ap (λ z. int_le (neg_ℤ (pos (count x)) *ℤ pos (power y)) z) (sym (neg_times (count y) (power x)))

pub by_value : OrdersByValue
by_value a b g h = value_by a b (signed a g) (signed b h)
