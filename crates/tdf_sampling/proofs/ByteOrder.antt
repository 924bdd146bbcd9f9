-- Bytes say the order of numbers without a sign.
use Rattle.std.proofs.Common.{◌≡◌, ◌≢◌, ℕ, ◌+◌, ◌-◌, ◌*◌, ◌^◌, ◌<◌, ◌≤◌, Bool, true, false, ◌&&◌, ◌||◌, nat_eq, nat_lt, List, [], ◌∷◌, ◌++◌, length, get_or, refl, arith, ◌∙◌, sym, ap, subst, ⊎_elim, if◌then◌else◌}
use Rattle.std.proofs.Math.Nat.{mul-le-mul_right, mul-lt-mul_of_pos_right, pow-suc, pow-le-pow_right, le_of_mul-le-mul_right}
use Rattle.std.proofs.lemmas.Bool.{and_parts, cases_Bool, cases_lt, eqb-true, ltb-true, ltb-false, le-leb, lt-leb}
use Rattle.std.proofs.lemmas.Bool.Decides.{nat_tests}
use Rattle.std.specs.Cmp.Lexicographic.{slice_cmp}
use Rattle.std.specs.List.{list_all}
use Rattle.std.specs.Ordering.{is_le, nat_cmp}
use Rattle.tdf_base.proofs.Api.{digit_small, number_below, power_some, same_digits}
use Rattle.tdf_base.specs.Digits.{is_digit, number}
use Rattle.tdf_base.specs.Number.{Numeral, scaled_count}
use Rattle.tdf_base.specs.Spelling.{after_point}
use Rattle.tdf_fixed.proofs.Api.{number_above}
use Rattle.tdf_fixed.specs.DecimalLaws.{IsWholePart, EndsWell}
use Rattle.tdf_sampling.specs.Order.{is_magnitude_within}
use Rattle.tdf_sampling.specs.machine.Bytes.{comes_within, is_point, whole_len}
use Rattle.tdf_tables.specs.Cells.{SpellsPlain}

-- ---- digit by digit

-- the first digit that differs decides, and of two of which one begins the other the shorter comes first
abbrev pub in_order : List ℕ → List ℕ → Bool
in_order [] es = true
in_order (d ∷ ds) [] = false
in_order (d ∷ ds) (e ∷ es) = nat_lt d e || (nat_eq d e && in_order ds es)

abbrev pub same_digits_as : List ℕ → List ℕ → Bool
same_digits_as [] [] = true
same_digits_as [] (e ∷ es) = false
same_digits_as (d ∷ ds) [] = false
same_digits_as (d ∷ ds) (e ∷ es) = nat_eq d e && same_digits_as ds es

cmp_by : (d e : ℕ) (ds es : List ℕ) (less same : Bool) → nat_lt d e ≡ less → nat_eq d e ≡ same → is_le (slice_cmp nat_cmp ds es) ≡ in_order ds es
    → is_le (slice_cmp nat_cmp (d ∷ ds) (e ∷ es)) ≡ in_order (d ∷ ds) (e ∷ es)
cmp_by d e ds es true same a b more = rw a refl
cmp_by d e ds es false true a b more = rw (a, b) more
cmp_by d e ds es false false a b more = rw (a, b) refl

-- std's comparison of lists
pub by_cmp : (ds es : List ℕ) → is_le (slice_cmp nat_cmp ds es) ≡ in_order ds es
by_cmp [] [] = refl
by_cmp [] (e ∷ es) = refl
by_cmp (d ∷ ds) [] = refl
by_cmp (d ∷ ds) (e ∷ es) = cmp_by d e ds es (nat_lt d e) (nat_eq d e) refl refl (by_cmp ds es)

-- a lesser first digit decides, whatever follows
first_less : (a b n m p q : ℕ) → a < b → n < p → 0 < q → (a * p + n) * q ≤ (b * q + m) * p
first_less a b n m p q less small some =
    let one : a * p + n ≤ (a + 1) * p = let f : (a + 1) * p ≡ a * p + p = grind arith in omega arith in
    let two : (a + 1) * p ≤ b * p = mul-le-mul_right p (omega arith) in
    let three : (a * p + n) * q ≤ b * p * q = mul-le-mul_right q (omega arith) in
    let four : b * p * q ≡ (b * q) * p = grind arith in
    let five : (b * q) * p ≤ (b * q + m) * p = mul-le-mul_right p (omega arith) in
    omega arith

strictly_less : (a b n m p q : ℕ) → a < b → n < p → 0 < q → (a * p + n) * q < (b * q + m) * p
strictly_less a b n m p q less small some =
    let one : a * p + n < (a + 1) * p = let f : (a + 1) * p ≡ a * p + p = grind arith in omega arith in
    let two : (a + 1) * p ≤ b * p = mul-le-mul_right p (omega arith) in
    let three : (a * p + n) * q < b * p * q = mul-lt-mul_of_pos_right (omega arith) some in
    let four : b * p * q ≡ (b * q) * p = grind arith in
    let five : (b * q) * p ≤ (b * q + m) * p = mul-le-mul_right p (omega arith) in
    omega arith

first_same : (a n m p q : ℕ) → n * q ≤ m * p → (a * p + n) * q ≤ (a * q + m) * p
first_same a n m p q h =
    let one : (a * p + n) * q ≡ a * p * q + n * q = grind arith in
    let two : (a * q + m) * p ≡ a * p * q + m * p = grind arith in
    omega arith

strictly_same : (a n m p q : ℕ) → n * q < m * p → (a * p + n) * q < (a * q + m) * p
strictly_same a n m p q h =
    let one : (a * p + n) * q ≡ a * p * q + n * q = grind arith in
    let two : (a * q + m) * p ≡ a * p * q + m * p = grind arith in
    omega arith

pub by_digits : (ds es : List ℕ) → list_all is_digit ds ≡ true → list_all is_digit es ≡ true → in_order ds es ≡ true
    → number ds * 10 ^ length es ≤ number es * 10 ^ length ds
by_digits [] es a b h = omega arith
by_digits (d ∷ ds) [] a b h = absurd (let f : false ≡ true = h in cc)
by_digits (d ∷ ds) (e ∷ es) a b h =
    let g = and_parts (is_digit d) (list_all is_digit ds) a in
    let k = and_parts (is_digit e) (list_all is_digit es) b in
    let p = 10 ^ length ds in
    let q = 10 ^ length es in
    let P : 10 ^ length (d ∷ ds) ≡ p * 10 = pow-suc 10 (length ds) in
    let Q : 10 ^ length (e ∷ es) ≡ q * 10 = pow-suc 10 (length es) in
    let low = digit_small d g.0 in
    let other = digit_small e k.0 in
    let step : ((d - 48) * p + number ds) * q ≤ ((e - 48) * q + number es) * p = ⊎_elim
    (λ (less : nat_lt d e ≡ true).
    let f : d < e = grind (arith, nat_tests) in
    first_less (d - 48) (e - 48) (number ds) (number es) p q (omega arith) (number_below ds g.1) (power_some (length es)))
    (λ (no_less : nat_lt d e ≡ false).
    let f : (nat_eq d e && in_order ds es) ≡ true = rw no_less at h in
    let both = and_parts (nat_eq d e) (in_order ds es) f in
    let same : d ≡ e = eqb-true d e both.0 in
    let more = by_digits ds es g.1 k.1 both.1 in
    subst (λ x. ((d - 48) * p + number ds) * q ≤ ((x - 48) * q + number es) * p) same (first_same (d - 48) (number ds) (number es) p q more))
    (cases_Bool (nat_lt d e)) in
    let left : ((d - 48) * p + number ds) * (q * 10) ≡ ((d - 48) * p + number ds) * q * 10 = grind arith in
    let right : ((e - 48) * q + number es) * (p * 10) ≡ ((e - 48) * q + number es) * p * 10 = grind arith in
    rw (P, Q) (omega arith)

or_true : (b : Bool) → (b || true) ≡ true
or_true true = refl
or_true false = refl

pub some_number : (ds : List ℕ) → list_all is_digit ds ≡ true → EndsWell ds → 0 < length ds → 0 < number ds
some_number [] all ends some = absurd (omega arith)
some_number (c ∷ []) all ends some = let more : 48 < c = ends in let one : (c - 48) * 10 ^ 0 ≡ c - 48 = grind arith in omega arith
some_number (c ∷ (e ∷ cs)) all ends some =
    let both = and_parts (is_digit c) (list_all is_digit (e ∷ cs)) all in
    let more : 0 < number (e ∷ cs) = some_number (e ∷ cs) both.1 ends (omega arith) in
    omega arith

later_by : (d e : ℕ) (ds es : List ℕ) → list_all is_digit (d ∷ ds) ≡ true → list_all is_digit (e ∷ es) ≡ true
    → (in_order ds es ≡ false → number es * 10 ^ length ds < number ds * 10 ^ length es) → in_order (d ∷ ds) (e ∷ es) ≡ false
    → number (e ∷ es) * 10 ^ length (d ∷ ds) < number (d ∷ ds) * 10 ^ length (e ∷ es)
later_by d e ds es a b more h =
    let g = and_parts (is_digit d) (list_all is_digit ds) a in
    let k = and_parts (is_digit e) (list_all is_digit es) b in
    let p = 10 ^ length ds in
    let q = 10 ^ length es in
    let P : 10 ^ length (d ∷ ds) ≡ p * 10 = pow-suc 10 (length ds) in
    let Q : 10 ^ length (e ∷ es) ≡ q * 10 = pow-suc 10 (length es) in
    let low = digit_small d g.0 in
    let other = digit_small e k.0 in
    let step : ((e - 48) * q + number es) * p < ((d - 48) * p + number ds) * q = ⊎_elim
    (λ (less : nat_lt d e ≡ true). absurd (let f : true ≡ false = rw less at h in cc))
    (λ (no_less : nat_lt d e ≡ false). ⊎_elim
    (λ (same_one : nat_eq d e ≡ true).
    let f : in_order ds es ≡ false = rw (no_less, same_one) at h in
    let same : d ≡ e = eqb-true d e same_one in
    subst (λ x. ((x - 48) * q + number es) * p < ((d - 48) * p + number ds) * q) same (strictly_same (d - 48) (number es) (number ds) q p (more f)))
    (λ (apart : nat_eq d e ≡ false).
    let f : e < d = grind (arith, nat_tests) in
    strictly_less (e - 48) (d - 48) (number es) (number ds) q p (omega arith) (number_below es k.1) (power_some (length ds)))
    (cases_Bool (nat_eq d e)))
    (cases_Bool (nat_lt d e)) in
    let left : ((e - 48) * q + number es) * (p * 10) ≡ ((e - 48) * q + number es) * p * 10 = grind arith in
    let right : ((d - 48) * p + number ds) * (q * 10) ≡ ((d - 48) * p + number ds) * q * 10 = grind arith in
    rw (P, Q) (omega arith)

-- digits that don't come first, and end with none that is needless, are more
pub out_of_order : (ds es : List ℕ) → list_all is_digit ds ≡ true → list_all is_digit es ≡ true → EndsWell ds → in_order ds es ≡ false
    → number es * 10 ^ length ds < number ds * 10 ^ length es
out_of_order [] es a b ends h = absurd (let f : true ≡ false = h in cc)
out_of_order (d ∷ ds) [] a b ends h =
    let some : 0 < number (d ∷ ds) = some_number (d ∷ ds) a ends (omega arith) in
    let one : number (d ∷ ds) * 10 ^ 0 ≡ number (d ∷ ds) = grind arith in
    omega arith
out_of_order (d ∷ []) (e ∷ es) a b ends h = later_by d e [] es a b (λ f. absurd (let g : true ≡ false = f in cc)) h
out_of_order (d ∷ (c ∷ ds)) (e ∷ es) a b ends h =
    later_by d e (c ∷ ds) es a b (out_of_order (c ∷ ds) es (and_parts (is_digit d) (list_all is_digit (c ∷ ds)) a).1 (and_parts (is_digit e) (list_all is_digit es) b).1 ends) h

pub same_is : (ds es : List ℕ) → same_digits_as ds es ≡ true → ds ≡ es
same_is [] [] h = refl
same_is [] (e ∷ es) h = absurd (let f : false ≡ true = h in cc)
same_is (d ∷ ds) [] h = absurd (let f : false ≡ true = h in cc)
same_is (d ∷ ds) (e ∷ es) h =
    let both = and_parts (nat_eq d e) (same_digits_as ds es) h in
    let first : d ≡ e = eqb-true d e both.0 in
    let rest : ds ≡ es = same_is ds es both.1 in
    cc

is_same : (ds : List ℕ) → same_digits_as ds ds ≡ true
is_same [] = refl
is_same (d ∷ ds) = let f : nat_eq d d ≡ true = grind (arith, nat_tests) in rw (f, is_same ds) refl

-- two that come before each other are the same
pub both_orders : (ds es : List ℕ) → in_order ds es ≡ true → in_order es ds ≡ true → ds ≡ es
both_orders [] [] g h = refl
both_orders [] (e ∷ es) g h = absurd (let f : false ≡ true = h in cc)
both_orders (d ∷ ds) [] g h = absurd (let f : false ≡ true = g in cc)
both_orders (d ∷ ds) (e ∷ es) g h = ⊎_elim
    (λ (less : nat_lt d e ≡ true).
    let a : nat_lt e d ≡ false = grind (arith, nat_tests) in
    let b : nat_eq e d ≡ false = grind (arith, nat_tests) in
    absurd (let f : false ≡ true = rw (a, b) at h in cc))
    (λ (no_less : nat_lt d e ≡ false).
    let f : (nat_eq d e && in_order ds es) ≡ true = rw no_less at g in
    let both = and_parts (nat_eq d e) (in_order ds es) f in
    let same : d ≡ e = eqb-true d e both.0 in
    let a : nat_lt e d ≡ false = grind (arith, nat_tests) in
    let b : nat_eq e d ≡ true = grind (arith, nat_tests) in
    let back : in_order es ds ≡ true = rw (a, b) at h in
    let rest : ds ≡ es = both_orders ds es both.1 back in
    cc)
    (cases_Bool (nat_lt d e))

-- ---- whole parts

-- a longer whole part is a greater number
longer_more : (ds es : List ℕ) → IsWholePart ds → IsWholePart es → length ds < length es → number ds < number es
longer_more ds es d e less =
    let some : 1 ≤ length ds = d.some in
    let first : get_or es 0 0 ≢ 48 = λ h. (let one = e.plain h in absurd (omega arith)) in
    let low = number_above es e.some e.all first in
    let high = number_below ds d.all in
    let within : length ds ≤ length es - 1 = omega arith in
    let power : 10 ^ length ds ≤ 10 ^ (length es - 1) = pow-le-pow_right (omega arith) within in
    omega arith

whole_less : (ds es : List ℕ) → IsWholePart ds → IsWholePart es → length ds ≡ length es → in_order ds es ≡ true → same_digits_as ds es ≡ false → number ds < number es
whole_less ds es d e long first other =
    let power : 0 < 10 ^ length es = power_some (length es) in
    let most : number ds * 10 ^ length es ≤ number es * 10 ^ length es = subst (λ k. number ds * 10 ^ length es ≤ number es * 10 ^ k) long (by_digits ds es d.all e.all first) in
    let low : number ds ≤ number es = le_of_mul-le-mul_right most power in
    ⊎_elim (λ (less : number ds < number es). less)
    (λ (more : number es ≤ number ds).
    let same : ds ≡ es = same_digits ds es long d.all e.all (omega arith) in
    let f : same_digits_as ds es ≡ true = subst (λ x. same_digits_as ds x ≡ true) same (is_same ds) in
    let apart : true ≡ false = sym f ∙ other in
    absurd (cc))
    (cases_lt (number ds) (number es))

-- one of two comes first
pub one_first : (ds es : List ℕ) → in_order ds es ≡ false → in_order es ds ≡ true
one_first [] es h = absurd (let f : true ≡ false = h in cc)
one_first (d ∷ ds) [] h = refl
one_first (d ∷ ds) (e ∷ es) h = ⊎_elim
    (λ (less : nat_lt d e ≡ true). absurd (let f : true ≡ false = rw less at h in cc))
    (λ (no_less : nat_lt d e ≡ false). ⊎_elim
    (λ (same : nat_eq d e ≡ true).
    let f : in_order ds es ≡ false = rw (no_less, same) at h in
    let turned : nat_eq e d ≡ true = grind (arith, nat_tests) in
    rw (turned, one_first ds es f) (or_true (nat_lt e d)))
    (λ (other : nat_eq d e ≡ false).
    let more : nat_lt e d ≡ true = grind (arith, nat_tests) in
    rw more refl)
    (cases_Bool (nat_eq d e)))
    (cases_Bool (nat_lt d e))

same_turned : (ds es : List ℕ) → same_digits_as ds es ≡ false → same_digits_as es ds ≡ false
same_turned ds es h = ⊎_elim
    (λ (same : same_digits_as es ds ≡ true).
    let e : es ≡ ds = same_is es ds same in
    let f : same_digits_as ds es ≡ true = subst (λ x. same_digits_as x es ≡ true) e (is_same es) in
    absurd (let apart : true ≡ false = sym f ∙ h in cc))
    (λ (other : same_digits_as es ds ≡ false). other)
    (cases_Bool (same_digits_as es ds))

-- ---- numerals

-- by the lengths of the whole parts, then by these, then by the fractions
abbrev pub digits_within : Numeral → Numeral → Bool
digits_within a b = if nat_eq (length a.whole) (length b.whole)
    then (if same_digits_as a.whole b.whole then in_order a.fraction b.fraction else in_order a.whole b.whole)
    else nat_lt (length a.whole) (length b.whole)

pub record IsDecimalOf (n : Numeral) : Type 0 where
  pub whole : IsWholePart n.whole
  pub digits : list_all is_digit n.fraction ≡ true
  pub ends : EndsWell n.fraction

abbrev least_count : Numeral → Numeral → ℕ
least_count a b = scaled_count a * 10 ^ length b.fraction

lesser_whole : (a b : Numeral) → IsDecimalOf a → IsDecimalOf b → number a.whole < number b.whole → least_count a b < least_count b a
lesser_whole a b p q less = strictly_less (number a.whole) (number b.whole) (number a.fraction) (number b.fraction) (10 ^ length a.fraction) (10 ^ length b.fraction)
    less (number_below a.fraction p.digits) (power_some (length b.fraction))

at_most_by : (a b : Numeral) → IsDecimalOf a → IsDecimalOf b → (long same order : Bool) → nat_eq (length a.whole) (length b.whole) ≡ long → same_digits_as a.whole b.whole ≡ same
    → in_order a.whole b.whole ≡ order → digits_within a b ≡ is_magnitude_within a b
at_most_by a b p q false same order e f g = ⊎_elim
    (λ (less : nat_lt (length a.whole) (length b.whole) ≡ true).
    let more : number a.whole < number b.whole = longer_more a.whole b.whole p.whole q.whole (ltb-true (length a.whole) (length b.whole) less) in
    let all = lesser_whole a b p q more in
    rw (e, less) (sym (le-leb (least_count a b) (least_count b a) (omega arith))))
    (λ (no_less : nat_lt (length a.whole) (length b.whole) ≡ false).
    let apart : length a.whole ≢ length b.whole = grind (arith, nat_tests) in
    let low = ltb-false (length a.whole) (length b.whole) no_less in
    let more : number b.whole < number a.whole = longer_more b.whole a.whole q.whole p.whole (omega arith) in
    let all = lesser_whole b a q p more in
    rw (e, no_less) (sym (lt-leb (least_count a b) (least_count b a) all)))
    (cases_Bool (nat_lt (length a.whole) (length b.whole)))
at_most_by a b p q true true order e f g =
    let whole : a.whole ≡ b.whole = same_is a.whole b.whole f in ⊎_elim
    (λ (first : in_order a.fraction b.fraction ≡ true).
    let most = by_digits a.fraction b.fraction p.digits q.digits first in
    let all : least_count a b ≤ least_count b a =
    subst (λ w. (number a.whole * 10 ^ length a.fraction + number a.fraction) * 10 ^ length b.fraction ≤ (number w * 10 ^ length b.fraction + number b.fraction) * 10 ^ length a.fraction) whole
    (first_same (number a.whole) (number a.fraction) (number b.fraction) (10 ^ length a.fraction) (10 ^ length b.fraction) most) in
    rw (e, f, first) (sym (le-leb (least_count a b) (least_count b a) all)))
    (λ (later : in_order a.fraction b.fraction ≡ false).
    let more = out_of_order a.fraction b.fraction p.digits q.digits p.ends later in
    let all : least_count b a < least_count a b =
    subst (λ w. (number w * 10 ^ length b.fraction + number b.fraction) * 10 ^ length a.fraction < (number a.whole * 10 ^ length a.fraction + number a.fraction) * 10 ^ length b.fraction) whole
    (strictly_same (number a.whole) (number b.fraction) (number a.fraction) (10 ^ length b.fraction) (10 ^ length a.fraction) more) in
    rw (e, f, later) (sym (lt-leb (least_count a b) (least_count b a) all)))
    (cases_Bool (in_order a.fraction b.fraction))
at_most_by a b p q true false true e f g =
    let long : length a.whole ≡ length b.whole = eqb-true (length a.whole) (length b.whole) e in
    let all = lesser_whole a b p q (whole_less a.whole b.whole p.whole q.whole long g f) in
    rw (e, f, g) (sym (le-leb (least_count a b) (least_count b a) (omega arith)))
at_most_by a b p q true false false e f g =
    let long : length a.whole ≡ length b.whole = eqb-true (length a.whole) (length b.whole) e in
    let all = lesser_whole b a q p (whole_less b.whole a.whole q.whole p.whole (sym long) (one_first a.whole b.whole g) (same_turned a.whole b.whole f)) in
    rw (e, f, g) (sym (lt-leb (least_count a b) (least_count b a) all))

-- the digits say the order of values
pub within_is : (a b : Numeral) → IsDecimalOf a → IsDecimalOf b → digits_within a b ≡ is_magnitude_within a b
within_is a b p q = at_most_by a b p q (nat_eq (length a.whole) (length b.whole)) (same_digits_as a.whole b.whole) (in_order a.whole b.whole) refl refl refl

-- ---- texts

-- the whole part ends at the point
point_at : (ds fraction : List ℕ) → list_all is_digit ds ≡ true → whole_len (ds ++ after_point fraction) ≡ length ds
point_at [] [] h = refl
point_at [] (c ∷ cs) h = refl
point_at (d ∷ ds) fraction h =
    let both = and_parts (is_digit d) (list_all is_digit ds) h in
    let low = digit_small d both.0 in
    let apart : is_point d ≡ false = grind (arith, nat_tests) in
    let more = point_at ds fraction both.1 in
    rw apart (omega (arith, more))

points_alike : (f g : List ℕ) → in_order (after_point f) (after_point g) ≡ in_order f g
points_alike [] [] = refl
points_alike [] (e ∷ es) = refl
points_alike (d ∷ ds) [] = refl
points_alike (d ∷ ds) (e ∷ es) = refl

append_by : (d e : ℕ) (ds es f g : List ℕ) (less same : Bool) → nat_lt d e ≡ less → nat_eq d e ≡ same
    → in_order (ds ++ f) (es ++ g) ≡ (if same_digits_as ds es then in_order f g else in_order ds es)
    → in_order ((d ∷ ds) ++ f) ((e ∷ es) ++ g) ≡ (if same_digits_as (d ∷ ds) (e ∷ es) then in_order f g else in_order (d ∷ ds) (e ∷ es))
append_by d e ds es f g true true a b more = absurd (let x : d < e = ltb-true d e a in let y : d ≡ e = eqb-true d e b in omega arith)
append_by d e ds es f g true false a b more = rw (a, b) refl
append_by d e ds es f g false true a b more = rw (a, b) more
append_by d e ds es f g false false a b more = rw (a, b) refl

-- texts with whole parts of one length
append_order : (ds es f g : List ℕ) → length ds ≡ length es → in_order (ds ++ f) (es ++ g) ≡ (if same_digits_as ds es then in_order f g else in_order ds es)
append_order [] [] f g long = refl
append_order [] (e ∷ es) f g long = absurd (omega (arith, long))
append_order (d ∷ ds) [] f g long = absurd (omega (arith, long))
append_order (d ∷ ds) (e ∷ es) f g long = append_by d e ds es f g (nat_lt d e) (nat_eq d e) refl refl (append_order ds es f g (omega (arith, long)))

text_by : (v w f g : List ℕ) (long : Bool) → nat_eq (length v) (length w) ≡ long
    → (if nat_eq (length v) (length w) then is_le (slice_cmp nat_cmp (v ++ after_point f) (w ++ after_point g)) else nat_lt (length v) (length w))
    ≡ (if nat_eq (length v) (length w) then (if same_digits_as v w then in_order f g else in_order v w) else nat_lt (length v) (length w))
text_by v w f g false e = rw e refl
text_by v w f g true e = rw e (by_cmp (v ++ after_point f) (w ++ after_point g) ∙ append_order v w (after_point f) (after_point g) (eqb-true (length v) (length w) e)
    ∙ ap (λ b. if same_digits_as v w then b else in_order v w) (points_alike f g))

pub decimal_of : (text : List ℕ) (h : SpellsPlain text) → IsDecimalOf h.numeral
decimal_of text h = record { whole = h.plain.whole; digits = h.spells.fraction; ends = h.plain.ends }

pub text_within : (a b : List ℕ) (g : SpellsPlain a) (h : SpellsPlain b) → comes_within a b ≡ digits_within g.numeral h.numeral
text_within a b g h =
    let left : whole_len a ≡ length g.numeral.whole = ap whole_len g.spells.is ∙ point_at g.numeral.whole g.numeral.fraction g.plain.whole.all in
    let right : whole_len b ≡ length h.numeral.whole = ap whole_len h.spells.is ∙ point_at h.numeral.whole h.numeral.fraction h.plain.whole.all in
    let order : is_le (slice_cmp nat_cmp a b) ≡ is_le (slice_cmp nat_cmp (g.numeral.whole ++ after_point g.numeral.fraction) (h.numeral.whole ++ after_point h.numeral.fraction)) =
    ap (λ x. is_le (slice_cmp nat_cmp x b)) g.spells.is ∙ ap (λ x. is_le (slice_cmp nat_cmp (g.numeral.whole ++ after_point g.numeral.fraction) x)) h.spells.is in
    rw (left, right, order) (text_by g.numeral.whole h.numeral.whole g.numeral.fraction h.numeral.fraction (nat_eq (length g.numeral.whole) (length h.numeral.whole)) refl)
