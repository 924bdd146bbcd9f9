-- Quotients of sums and of products.
use Rattle.std.proofs.Common.{◌≡◌, ℕ, ◌+◌, ◌*◌, ◌/◌, ◌%◌, ◌^◌, ◌<◌, ◌≤◌, false, nat_eq, Ok, Err, ap, sym, ◌∙◌, refl, arith}
use Rattle.std.proofs.Math.Arith.{mod-mul}
use Rattle.std.proofs.Math.Nat.{div-div-eq-div-mul, div-le_self, mul-le-mul}
use Rattle.tdf_base.specs.Time.{whole_time}
use Rattle.tdf_base.specs.declared.times.TimeErr.TheVariants.{NotTime, TimeTooLarge}
use Rattle.std.proofs.lemmas.Bool.{lt-ltb, le-ltb}
use Rattle.std.proofs.lemmas.Bool.Decides.{nat_tests}
use Rattle.std.proofs.lemmas.Nat.{div-add-mod', div-mul-add, mod-mul-add, mod_below}

-- the one quotient and rest
pub of_parts : (n d q r : ℕ) → n ≡ q * d + r → r < d → (n / d ≡ q) × (n % d ≡ r)
of_parts n d q r is below = (ap (λ m. m / d) is ∙ div-mul-add q d r below, ap (λ m. m % d) is ∙ mod-mul-add q d r below)

spread : (w d s q r : ℕ) (p : ℕ) → q * d + r ≡ p → (w * d) * s + p ≡ (w * s + q) * d + r
spread w d s q r p is = grind arith

-- a whole number and a part, multiplied
sum_parts : (whole part d scale : ℕ) → 0 < d →
    ((whole * d + part) * scale / d ≡ whole * scale + part * scale / d) × ((whole * d + part) * scale % d ≡ part * scale % d)
sum_parts whole part d scale some =
    of_parts ((whole * d + part) * scale) d (whole * scale + part * scale / d) (part * scale % d)
    (let all : (part * scale / d) * d + part * scale % d ≡ part * scale = div-add-mod' (part * scale) d in
    let wide : (whole * d + part) * scale ≡ (whole * d) * scale + part * scale = grind arith in
    wide ∙ spread whole d scale (part * scale / d) (part * scale % d) (part * scale) all)
    (mod_below (part * scale) d some)

pub times_div : (whole part d scale : ℕ) → 0 < d → (whole * d + part) * scale / d ≡ whole * scale + part * scale / d
times_div whole part d scale some = (sum_parts whole part d scale some).0

pub times_mod : (whole part d scale : ℕ) → 0 < d → (whole * d + part) * scale % d ≡ part * scale % d
times_mod whole part d scale some = (sum_parts whole part d scale some).1

pub ruleset times_lemmas = (times_div, times_mod)

-- ---- a quotient by a product

-- a rest by a product is 0 exactly where both rests are
rest_none : (n d per : ℕ) → 0 < d → 0 < per → n % d ≡ 0 → n / d % per ≡ 0 → n % (d * per) ≡ 0
rest_none n d per some more first second =
    let turned : d * per ≡ per * d = grind arith in
    let all : n % (d * per) ≡ n / d % per * d + n % d = ap (λ m. n % m) turned ∙ mod-mul n more some in
    let none : n / d % per * d ≡ 0 * d = ap (λ x. x * d) second in
    omega (arith, all, none, first)

rest_first : (n d per : ℕ) → 0 < d → 0 < per → 0 < n % d → 0 < n % (d * per)
rest_first n d per some more first =
    let turned : d * per ≡ per * d = grind arith in
    let all : n % (d * per) ≡ n / d % per * d + n % d = ap (λ m. n % m) turned ∙ mod-mul n more some in
    omega arith

rest_second : (n d per : ℕ) → 0 < d → 0 < per → 0 < n / d % per → 0 < n % (d * per)
rest_second n d per some more second =
    let turned : d * per ≡ per * d = grind arith in
    let all : n % (d * per) ≡ n / d % per * d + n % d = ap (λ m. n % m) turned ∙ mod-mul n more some in
    let wide : d ≤ n / d % per * d = grind arith in
    omega arith

-- the parts of a count, over plain numbers
pub count_div : (whole part d scale per : ℕ) → 0 < d
    → (whole * d + part) * scale / (d * per) ≡ (whole * scale + part * scale / d) / per
count_div whole part d scale per some =
    sym (div-div-eq-div-mul ((whole * d + part) * scale) d per) ∙ ap (λ m. m / per) (times_div whole part d scale some)

pub count_none : (whole part d scale per : ℕ) → 0 < d → 0 < per → part * scale % d ≡ 0
    → (whole * scale + part * scale / d) % per ≡ 0 → (whole * d + part) * scale % (d * per) ≡ 0
count_none whole part d scale per some more first second =
    rest_none ((whole * d + part) * scale) d per some more (times_mod whole part d scale some ∙ first)
    (ap (λ m. m % per) (times_div whole part d scale some) ∙ second)

pub count_first : (whole part d scale per : ℕ) → 0 < d → 0 < per → 0 < part * scale % d
    → 0 < (whole * d + part) * scale % (d * per)
count_first whole part d scale per some more first =
    rest_first ((whole * d + part) * scale) d per some more (omega (arith, first, times_mod whole part d scale some))

pub count_second : (whole part d scale per : ℕ) → 0 < d → 0 < per
    → 0 < (whole * scale + part * scale / d) % per → 0 < (whole * d + part) * scale % (d * per)
count_second whole part d scale per some more second =
    rest_second ((whole * d + part) * scale) d per some more
    (let same = ap (λ m. m % per) (times_div whole part d scale some) in omega (arith, second, same))

pub count_fits : (whole part d scale : ℕ) → whole < 10 ^ 18 → part < 10 ^ 18 → scale ≤ 10 ^ 15
    → whole * scale + part * scale / d < 2 ^ 128
count_fits whole part d scale first second small =
    let one : whole ≤ 10 ^ 18 = omega arith in
    let two : part ≤ 10 ^ 18 = omega arith in
    let front : whole * scale ≤ 10 ^ 18 * 10 ^ 15 = mul-le-mul one small in
    let back : part * scale ≤ 10 ^ 18 * 10 ^ 15 = mul-le-mul two small in
    omega (arith, front, back, div-le_self (part * scale) d)

-- the three results
not_eq_some : (n : ℕ) → 0 < n → nat_eq n 0 ≡ false
not_eq_some n some = grind (arith, nat_tests)

pub count_broken : (whole part d scale per : ℕ) → 0 < (whole * d + part) * scale % (d * per)
    → whole_time ((whole * d + part) * scale) (d * per) ≡ Err NotTime
count_broken whole part d scale per broken = rw (not_eq_some ((whole * d + part) * scale % (d * per)) broken) refl

pub count_whole : (whole part d scale per : ℕ) → 0 < d → 0 < per → part * scale % d ≡ 0
    → (whole * scale + part * scale / d) % per ≡ 0 → (whole * scale + part * scale / d) / per < 10 ^ 18
    → whole_time ((whole * d + part) * scale) (d * per) ≡ Ok ((whole * scale + part * scale / d) / per)
count_whole whole part d scale per some more first second small =
    rw (
      count_none whole part d scale per some more first second,
      count_div whole part d scale per some,
      lt-ltb ((whole * scale + part * scale / d) / per) (10 ^ 18) small,
    ) refl

pub count_large : (whole part d scale per : ℕ) → 0 < d → 0 < per → part * scale % d ≡ 0
    → (whole * scale + part * scale / d) % per ≡ 0 → 10 ^ 18 ≤ (whole * scale + part * scale / d) / per
    → whole_time ((whole * d + part) * scale) (d * per) ≡ Err TimeTooLarge
count_large whole part d scale per some more first second large =
    rw (
      count_none whole part d scale per some more first second,
      count_div whole part d scale per some,
      le-ltb ((whole * scale + part * scale / d) / per) (10 ^ 18) large,
    ) refl
