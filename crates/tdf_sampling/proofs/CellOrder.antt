-- Cells are compared by value, and texts of one value are one text.
use Rattle.std.proofs.Common.{◌≡◌, ◌≢◌, ℕ, ◌*◌, ◌^◌, ◌<◌, ◌≤◌, Bool, true, false, nat_eq, nat_lt, List, [], ◌∷◌, ◌++◌, length, refl, arith, ◌∙◌, sym, ap, None, codes}
use Rattle.std.proofs.Math.Nat.{mul-le-mul_right, le_of_mul-le-mul_right}
use Rattle.std.proofs.lemmas.Bool.{and_parts, leb-true, leb-false, le-leb}
use Rattle.std.proofs.lemmas.Bool.Decides.{nat_tests}
use Rattle.std.specs.Cmp.Lexicographic.{slice_cmp}
use Rattle.std.specs.List.{list_all}
use Rattle.std.specs.Ordering.{is_le, nat_cmp}
use Rattle.std.specs.Prelude.{unwrap_or}
use Rattle.tdf_base.proofs.Api.{digit_small, numeral_spelled, power_some}
use Rattle.tdf_base.specs.Digits.{is_digit}
use Rattle.tdf_base.specs.Number.{Numeral, scaled_count}
use Rattle.tdf_base.specs.Spelling.{after_point}
use Rattle.tdf_fixed.specs.DecimalLaws.{IsWholePart}
use Rattle.tdf_sampling.proofs.ByteOrder.{both_orders, by_cmp, decimal_of, text_within, within_is}
use Rattle.tdf_sampling.specs.Laws.{IsKnownCell}
use Rattle.tdf_sampling.specs.Order.{digits_of, is_at_most, is_magnitude_within, without_sign}
use Rattle.tdf_sampling.specs.machine.Bytes.{comes_first, comes_within, whole_len}
use Rattle.tdf_tables.specs.Cells.{IsCell, SpellsPlain, Unknown, Number, Negative}

-- a number has a sign or none
pub data Signed : List ℕ → Type 0 where
  Plus : {text : List ℕ} → SpellsPlain text → without_sign text ≡ None → Signed text
  Minus : {text : List ℕ} → SpellsPlain text → text ≢ codes "0" → Signed (45 ∷ text)

no_sign : (whole rest : List ℕ) → IsWholePart whole → without_sign (whole ++ rest) ≡ None
no_sign [] rest h = absurd (let some : 0 < 0 = h.some in omega arith)
no_sign (d ∷ ds) rest h =
    let both = and_parts (is_digit d) (list_all is_digit ds) h.all in
    let low = digit_small d both.0 in
    let apart : nat_eq d 45 ≡ false = grind (arith, nat_tests) in
    rw apart refl

signed_by : (cell : List ℕ) → IsCell cell → cell ≢ codes "*" → Signed cell
signed_by cell Unknown known = absurd (known refl)
signed_by cell (Number h) known = Plus h (ap without_sign h.spells.is ∙ no_sign h.numeral.whole (after_point h.numeral.fraction) h.plain.whole)
signed_by cell (Negative h other) known = Minus h other

pub signed : (cell : List ℕ) → IsKnownCell cell → Signed cell
signed cell h = signed_by cell h.is h.known

-- ---- numbers without a sign

pub digits_are : (text : List ℕ) (h : SpellsPlain text) → digits_of text ≡ h.numeral
digits_are text h = ap (λ o. unwrap_or o (record { whole = []; fraction = [] })) (numeral_spelled text h.numeral h.spells)

text_order : (a b : List ℕ) → SpellsPlain a → SpellsPlain b → comes_within a b ≡ is_magnitude_within (digits_of a) (digits_of b)
text_order a b g h =
    text_within a b g h ∙ within_is g.numeral h.numeral (decimal_of a g) (decimal_of b h)
    ∙ ap (λ n. is_magnitude_within n h.numeral) (sym (digits_are a g)) ∙ ap (λ n. is_magnitude_within (digits_of a) n) (sym (digits_are b h))

within_total : (a b : Numeral) → is_magnitude_within a b ≡ false → is_magnitude_within b a ≡ true
within_total a b h = le-leb _ _ (let less = leb-false _ _ h in omega arith)

within_trans : (a b c : Numeral) → is_magnitude_within a b ≡ true → is_magnitude_within b c ≡ true → is_magnitude_within a c ≡ true
within_trans a b c g h =
    let p = 10 ^ length a.fraction in
    let q = 10 ^ length b.fraction in
    let r = 10 ^ length c.fraction in
    let one : scaled_count a * q ≤ scaled_count b * p = leb-true _ _ g in
    let two : scaled_count b * r ≤ scaled_count c * q = leb-true _ _ h in
    let three : scaled_count a * q * r ≤ scaled_count b * p * r = mul-le-mul_right r one in
    let four : scaled_count b * r * p ≤ scaled_count c * q * p = mul-le-mul_right p two in
    let left : scaled_count a * q * r ≡ scaled_count a * r * q = grind arith in
    let middle : scaled_count b * p * r ≡ scaled_count b * r * p = grind arith in
    let right : scaled_count c * q * p ≡ scaled_count c * p * q = grind arith in
    let all : scaled_count a * r * q ≤ scaled_count c * p * q = omega arith in
    le-leb _ _ (le_of_mul-le-mul_right all (power_some (length b.fraction)))

text_by : (a b : List ℕ) (long : Bool) → nat_eq (whole_len a) (whole_len b) ≡ long → comes_within a b ≡ true → comes_within b a ≡ true → a ≡ b
text_by a b true e g h =
    let turned : nat_eq (whole_len b) (whole_len a) ≡ true = grind (arith, nat_tests) in
    let one : is_le (slice_cmp nat_cmp a b) ≡ true = rw e at g in
    let two : is_le (slice_cmp nat_cmp b a) ≡ true = rw turned at h in
    both_orders a b (sym (by_cmp a b) ∙ one) (sym (by_cmp b a) ∙ two)
text_by a b false e g h =
    let turned : nat_eq (whole_len b) (whole_len a) ≡ false = grind (arith, nat_tests) in
    let one : nat_lt (whole_len a) (whole_len b) ≡ true = rw e at g in
    let two : nat_lt (whole_len b) (whole_len a) ≡ true = rw turned at h in
    absurd (grind (arith, nat_tests))

text_one : (a b : List ℕ) → SpellsPlain a → SpellsPlain b → is_magnitude_within (digits_of a) (digits_of b) ≡ true → is_magnitude_within (digits_of b) (digits_of a) ≡ true → a ≡ b
text_one a b p q g h = text_by a b (nat_eq (whole_len a) (whole_len b)) refl (text_order a b p q ∙ g) (text_order b a q p ∙ h)

-- ---- numbers

order_by : (a b : List ℕ) → Signed a → Signed b → comes_first a b ≡ is_at_most a b
unfolding comes_first is_at_most
order_by a b (Plus g none) (Plus h other) = rw (none, other) (text_order a b g h)
order_by a b (Plus g none) (Minus h q) = rw none refl
order_by a b (Minus g p) (Plus h other) = rw other refl
order_by a b (Minus {text = x} g p) (Minus {text = y} h q) = text_order y x h g

-- bytes say the order of values
pub first_is : (a b : List ℕ) → IsKnownCell a → IsKnownCell b → comes_first a b ≡ is_at_most a b
first_is a b g h = order_by a b (signed a g) (signed b h)

total_by : (a b : List ℕ) → Signed a → Signed b → is_at_most a b ≡ false → is_at_most b a ≡ true
unfolding is_at_most
total_by a b (Plus g none) (Plus h other) e = rw (other, none) (within_total (digits_of a) (digits_of b) (rw (none, other) at e))
total_by a b (Plus g none) (Minus h q) e = rw none refl
total_by a b (Minus g p) (Plus h other) e = absurd (let f : true ≡ false = rw other at e in cc)
total_by a b (Minus {text = x} g p) (Minus {text = y} h q) e = within_total (digits_of y) (digits_of x) e

pub total : (a b : List ℕ) → IsKnownCell a → IsKnownCell b → is_at_most a b ≡ false → is_at_most b a ≡ true
total a b g h = total_by a b (signed a g) (signed b h)

trans_by : (a b c : List ℕ) → Signed a → Signed b → Signed c → is_at_most a b ≡ true → is_at_most b c ≡ true → is_at_most a c ≡ true
unfolding is_at_most
trans_by a b c (Plus g m) (Plus h n) (Plus i o) e f = rw (m, o) (within_trans (digits_of a) (digits_of b) (digits_of c) (rw (m, n) at e) (rw (n, o) at f))
trans_by a b c (Plus g m) (Plus h n) (Minus i r) e f = absurd (let x : false ≡ true = rw n at f in cc)
trans_by a b c (Plus g m) (Minus h q) z e f = absurd (let x : false ≡ true = rw m at e in cc)
trans_by a b c (Minus g p) y (Plus i o) e f = rw o refl
trans_by a b c (Minus g p) (Plus h n) (Minus i r) e f = absurd (let x : false ≡ true = rw n at f in cc)
trans_by a b c (Minus {text = x} g p) (Minus {text = y} h q) (Minus {text = z} i r) e f = within_trans (digits_of z) (digits_of y) (digits_of x) f e

pub trans : (a b c : List ℕ) → IsKnownCell a → IsKnownCell b → IsKnownCell c → is_at_most a b ≡ true → is_at_most b c ≡ true → is_at_most a c ≡ true
trans a b c g h i = trans_by a b c (signed a g) (signed b h) (signed c i)

one_by : (a b : List ℕ) → Signed a → Signed b → is_at_most a b ≡ true → is_at_most b a ≡ true → a ≡ b
unfolding is_at_most
one_by a b (Plus g m) (Plus h n) e f = text_one a b g h (rw (m, n) at e) (rw (n, m) at f)
one_by a b (Plus g m) (Minus h q) e f = absurd (let x : false ≡ true = rw m at e in cc)
one_by a b (Minus g p) (Plus h n) e f = absurd (let x : false ≡ true = rw n at f in cc)
one_by a b (Minus {text = x} g p) (Minus {text = y} h q) e f = ap (λ t. 45 ∷ t) (text_one x y g h f e)

-- two numbers of one value are one text
pub one_text : (a b : List ℕ) → IsKnownCell a → IsKnownCell b → is_at_most a b ≡ true → is_at_most b a ≡ true → a ≡ b
one_text a b g h = one_by a b (signed a g) (signed b h)
