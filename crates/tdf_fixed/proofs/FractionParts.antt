-- The digits after a point are right, and no others are.
use Rattle.std.proofs.Common.{◌≡◌, ℕ, zero, suc, ◌+◌, ◌-◌, ◌*◌, ◌/◌, ◌%◌, ◌^◌, ◌<◌, ◌≤◌, true, false, nat_eq, List, [], ◌∷◌, length, ⊎_elim, refl, sym, ap, ◌∙◌, arith}
use Rattle.std.proofs.Math.Nat.{pow-suc, zero-mul, suc-mul, eq-zero-or-pos, le_of_mul-le-mul_right, mul-le-mul_right, mul-lt-mul_of_pos_right}
use Rattle.std.proofs.lemmas.Bool.{and_parts, and_from}
use Rattle.std.proofs.lemmas.Bool.Decides.{nat_tests}
use Rattle.std.proofs.lemmas.Nat.{same_from_place, div-add-mod', mod_below, div_below}
use Rattle.std.specs.List.{list_all}
use Rattle.tdf_fixed.specs.Decimal.{fraction_digits}
use Rattle.tdf_fixed.specs.DecimalLaws.{EndsWell}
use Rattle.tdf_base.specs.Digits.{is_digit, number}
use Rattle.tdf_base.proofs.Api.{digit_small, number_below, same_digit}

-- digits of the number rest/d, below 1
pub record IsFraction (digits : List ℕ) (rest d : ℕ) : Type 0 where
  pub all : list_all is_digit digits ≡ true
  pub ends : EndsWell digits
  pub value : number digits * d ≡ rest * 10 ^ length digits

-- ---- they are right

fraction_zero : (rest d : ℕ) → rest ≡ 0 → IsFraction [] rest d
fraction_zero rest d none = record { all = refl; ends = tt; value = rw none (omega (arith, zero-mul d)) }

next_small : (rest d : ℕ) → rest < d → 10 * rest / d < 10
next_small rest d less = div_below (10 * rest) d 10 (omega arith) (omega arith)

is_digit_48 : (a : ℕ) → a < 10 → is_digit (48 + a) ≡ true
is_digit_48 a small = grind (arith, nat_tests)

ends_more : (a : ℕ) (ds : List ℕ) (rest left d : ℕ) → 0 < rest → 10 * rest ≡ a * d + left → IsFraction ds left d → EndsWell ((48 + a) ∷ ds)
ends_more zero [] rest left d some is h = absurd (omega (arith, h.value, zero-mul d))
ends_more (suc a) [] rest left d some is h = omega arith
ends_more a (c ∷ cs) rest left d some is h = h.ends

value_sum : (a n d rest left p : ℕ) → 10 * rest ≡ a * d + left → n * d ≡ left * p → (a * p + n) * d ≡ rest * (p * 10)
value_sum a n d rest left p is rest_is =
    let wide : (a * p + n) * d ≡ (a * d) * p + n * d = grind arith in
    let all : (10 * rest) * p ≡ (a * d + left) * p = ap (λ x. x * p) is in
    let spread : (a * d + left) * p ≡ (a * d) * p + left * p = grind arith in
    let turned : rest * (p * 10) ≡ (10 * rest) * p = grind arith in
    omega arith

fraction_more : (a : ℕ) (ds : List ℕ) (rest left d : ℕ) → 0 < rest → a < 10 → 10 * rest ≡ a * d + left → IsFraction ds left d → IsFraction ((48 + a) ∷ ds) rest d
fraction_more a ds rest left d some small is h =
    let back : 48 + a - 48 ≡ a = omega arith in
    record {
      all = and_from (is_digit (48 + a)) (list_all is_digit ds) (is_digit_48 a small) h.all;
      ends = ends_more a ds rest left d some is h;
      value = rw (pow-suc 10 (length ds), back) (value_sum a (number ds) d rest left (10 ^ length ds) is h.value);
    }

room_left : (q u d left : ℕ) → u ≤ q → q * d ≡ u * d + left → (q - u) * d ≡ left
room_left q u d left within sum =
    let t = q - u in
    let is : q ≡ t + u = omega arith in
    let product : q * d ≡ (t + u) * d = ap (λ x. x * d) is in
    let spread : (t + u) * d ≡ t * d + u * d = grind arith in
    omega arith

room_none : (q rest d : ℕ) → rest < d → q * d ≡ rest * 1 → rest ≡ 0
room_none zero rest d less enough = omega (arith, zero-mul d)
room_none (suc q) rest d less enough = absurd (omega (arith, suc-mul q d))

room_less : (q a d rest left p : ℕ) → 0 < d → 10 * rest ≡ a * d + left → q * d ≡ rest * (p * 10) → (q - a * p) * d ≡ left * p
room_less q a d rest left p some is enough =
    let all : (10 * rest) * p ≡ (a * d + left) * p = ap (λ x. x * p) is in
    let spread : (a * d + left) * p ≡ (a * p) * d + left * p = grind arith in
    let turned : rest * (p * 10) ≡ (10 * rest) * p = grind arith in
    let sum : q * d ≡ (a * p) * d + left * p = enough ∙ turned ∙ all ∙ spread in
    let less : (a * p) * d ≤ q * d = omega arith in
    let within : a * p ≤ q = le_of_mul-le-mul_right less some in
    room_left q (a * p) d (left * p) within sum

pub fraction_right : (room rest d : ℕ) → 0 < d → rest < d → (q : ℕ) → q * d ≡ rest * 10 ^ room → IsFraction (fraction_digits room rest d) rest d
unfolding fraction_digits
fraction_right zero rest d some less q enough =
    fraction_zero rest d (room_none q rest d less enough)
fraction_right (suc room) rest d some less q enough = ⊎_elim
    (λ (none : rest ≡ 0). rw none (fraction_zero 0 d refl))
    (λ (more : 0 < rest).
    let is_more : nat_eq rest 0 ≡ false = grind (arith, nat_tests) in
    let parts : 10 * rest ≡ (10 * rest / d) * d + 10 * rest % d = sym (div-add-mod' (10 * rest) d) in
    rw is_more (fraction_more (10 * rest / d) (fraction_digits room (10 * rest % d) d) rest (10 * rest % d) d more (next_small rest d less) parts
    (fraction_right room (10 * rest % d) d some (mod_below (10 * rest) d some) (q - (10 * rest / d) * 10 ^ room)
    (room_less q (10 * rest / d) d rest (10 * rest % d) (10 ^ room) some parts (enough ∙ ap (λ p. rest * p) (pow-suc 10 room))))))
    (eq-zero-or-pos rest)

-- ---- no others are

left_below : (left d p : ℕ) → left < d → 0 < p → left * p < p * d
left_below left d p less wide =
    let both : left * p < d * p = mul-lt-mul_of_pos_right less wide in
    let turned : d * p ≡ p * d = grind arith in omega arith

forced : (a n p rest d : ℕ) → 0 < d → 0 < p → n < p → (a * p + n) * d ≡ rest * (p * 10) → (a ≡ 10 * rest / d) × (n * d ≡ (10 * rest % d) * p)
forced a n p rest d some wide less is =
    same_from_place a (n * d) (10 * rest / d) ((10 * rest % d) * p) (p * d)
    (mul-lt-mul_of_pos_right less some)
    (left_below (10 * rest % d) d p (mod_below (10 * rest) d some) wide)
    (let left : a * (p * d) + n * d ≡ (a * p + n) * d = grind arith in
    let turned : rest * (p * 10) ≡ (10 * rest) * p = grind arith in
    let parts : (10 * rest) * p ≡ ((10 * rest / d) * d + 10 * rest % d) * p = ap (λ x. x * p) (sym (div-add-mod' (10 * rest) d)) in
    let spread : ((10 * rest / d) * d + 10 * rest % d) * p ≡ (10 * rest / d) * (p * d) + (10 * rest % d) * p = grind arith in
    left ∙ is ∙ turned ∙ parts ∙ spread)

number_some : (ds : List ℕ) → 0 < length ds → EndsWell ds → 0 < number ds
number_some [] some ends = absurd (omega arith)
number_some (c ∷ []) some ends = omega arith
number_some (c ∷ (x ∷ xs)) some ends = let more = number_some (x ∷ xs) (omega arith) ends in omega arith

ends_tail : (c : ℕ) (cs : List ℕ) → EndsWell (c ∷ cs) → EndsWell cs
ends_tail c [] ends = tt
ends_tail c (x ∷ xs) ends = ends

no_digits : (c : ℕ) (cs : List ℕ) (rest d : ℕ) → 0 < d → IsFraction [] rest d → IsFraction (c ∷ cs) rest d → ⊥
no_digits c cs rest d some h k =
    let none : rest ≡ 0 = omega (arith, h.value, zero-mul d) in
    let more : 1 ≤ number (c ∷ cs) = number_some (c ∷ cs) (omega arith) k.ends in
    let times : 1 * d ≤ number (c ∷ cs) * d = mul-le-mul_right d more in
    let nothing : rest * 10 ^ suc (length cs) ≡ 0 = ap (λ r. r * 10 ^ suc (length cs)) none ∙ zero-mul (10 ^ suc (length cs)) in
    let value : number (c ∷ cs) * d ≡ rest * 10 ^ suc (length cs) = k.value in
    omega arith

first_forced : (c : ℕ) (cs : List ℕ) (rest d : ℕ) → 0 < d → IsFraction (c ∷ cs) rest d
    → (is_digit c ≡ true) × (c - 48 ≡ 10 * rest / d) × IsFraction cs (10 * rest % d) d
first_forced c cs rest d some h =
    let both = and_parts (is_digit c) (list_all is_digit cs) h.all in
    let power : 10 ^ suc (length cs) ≡ 10 ^ length cs * 10 = pow-suc 10 (length cs) in
    let wide : 0 < 10 ^ length cs = omega (arith, number_below cs both.1) in
    let value = forced (c - 48) (number cs) (10 ^ length cs) rest d some wide (number_below cs both.1) (h.value ∙ ap (λ p. rest * p) power) in
    (both.0, value.0, record { all = both.1; ends = ends_tail c cs h.ends; value = value.1 })

pub only_fraction : (xs ys : List ℕ) (rest d : ℕ) → 0 < d → IsFraction xs rest d → IsFraction ys rest d → xs ≡ ys
only_fraction [] [] rest d some h k = refl
only_fraction [] (c ∷ cs) rest d some h k = absurd (no_digits c cs rest d some h k)
only_fraction (c ∷ cs) [] rest d some h k = absurd (no_digits c cs rest d some k h)
only_fraction (c ∷ cs) (x ∷ xs) rest d some h k =
    let first = first_forced c cs rest d some h in
    let other = first_forced x xs rest d some k in
    let head = same_digit c x (digit_small c first.0).0 (digit_small x other.0).0 (first.1 ∙ sym other.1) in
    let tail = only_fraction cs xs (10 * rest % d) d some first.2 other.2 in
    (cc)
