-- A time is read exactly where it is spelled so, whatever the table of units.
use Rattle.std.proofs.Common.{◌≡◌, ℕ, ◌+◌, ◌*◌, ◌/◌, ◌%◌, ◌^◌, ◌<◌, true, false, not, nat_eq, nat_lt, if◌then◌else◌, Option, Some, None, Result, Ok, Err, List, [], ◌∷◌, ◌++◌, length, take, drop, codes, ⊎_elim, refl, sym, ap, ◌∙◌, subst, arith}
use Rattle.std.proofs.Math.Nat.{mul-pos}
use Rattle.std.proofs.Math.Seq.{take-append_seam, drop-append_seam}
use Rattle.std.proofs.lemmas.Bool.{and_parts, and_from, cases_Bool, eqb-true, lt-ltb, ltb-true}
use Rattle.std.proofs.lemmas.Bool.Decides.{nat_tests}
use Rattle.std.proofs.lemmas.List.{take-append-drop}
use Rattle.std.proofs.lemmas.Nat.{div-add-mod'}
use Rattle.std.specs.Cmp.Lexicographic.{pointwise, bytes_decides}
use Rattle.std.specs.List.{list_all, position}
use Rattle.tdf_base.specs.Digits.{is_digit}
use Rattle.tdf_base.specs.Number.{Numeral, numeral_of, is_short, scaled_count}
use Rattle.tdf_base.specs.Spelling.{after_point, SpellsNumeral, SpellsTimeBy, SpellsTime, SpellsTimeAt, ReadsTimes, ReadsTimesAt, ReadsBoth, IsPicoseconds, IsFemtoseconds}
use Rattle.tdf_base.specs.Spelling.IsPicoseconds.{Second, Millisecond, Microsecond, Nanosecond, Picosecond}
use Rattle.tdf_base.specs.Spelling.IsFemtoseconds.{Longer, Femtosecond}
use Rattle.tdf_base.specs.Time.{time_of, time_at, time_by, time_split, time_with, count_of, whole_time, starts_unit, picoseconds_of, femtoseconds_of, femtoseconds_in}
use Rattle.tdf_base.specs.declared.resolution.Resolution.{Resolution}
use Rattle.tdf_base.specs.declared.resolution.Resolution.TheVariants.{Ps, Fs}
use Rattle.tdf_base.specs.declared.times.TimeErr.{TimeErr}
use Rattle.tdf_base.specs.declared.times.TimeErr.TheVariants.{NotTime, TimeTooLarge}
use Rattle.tdf_base.proofs.NumeralReaders.{place_at, reads_numerals, all_of, some_same}
use Rattle.tdf_base.proofs.Powers.{power_some}
use Rattle.tdf_base.proofs.Quotients.{of_parts}

-- ---- units

same_text : (xs ys : List ℕ) → pointwise nat_eq xs ys ≡ true → xs ≡ ys
same_text xs ys e = (bytes_decides xs ys).0 e

unit_case : (IsUnit : List ℕ → ℕ → Type 0) (text name : List ℕ) (value : ℕ) (rest : Option ℕ) (scale : ℕ)
    → IsUnit name value → (rest ≡ Some scale → IsUnit text scale)
    → (if pointwise nat_eq text name then Some value else rest) ≡ Some scale → IsUnit text scale
unit_case IsUnit text name value rest scale known next e = ⊎_elim
    (λ (here : pointwise nat_eq text name ≡ true).
    let same : value ≡ scale = some_same value scale (rw here at e) in
    subst (λ s. IsUnit text s) same (subst (λ t. IsUnit t value) (sym (same_text text name here)) known))
    (λ (not_here : pointwise nat_eq text name ≡ false). next (rw not_here at e))
    (cases_Bool (pointwise nat_eq text name))

picoseconds_is : (text : List ℕ) (scale : ℕ) → picoseconds_of text ≡ Some scale → IsPicoseconds text scale
picoseconds_is text scale e =
    unit_case IsPicoseconds text (codes "s") (10 ^ 12) _ scale Second
    (unit_case IsPicoseconds text (codes "ms") (10 ^ 9) _ scale Millisecond
    (unit_case IsPicoseconds text (codes "us") (10 ^ 6) _ scale Microsecond
    (unit_case IsPicoseconds text (codes "ns") (10 ^ 3) _ scale Nanosecond
    (unit_case IsPicoseconds text (codes "ps") 1 None scale Picosecond (λ none. absurd (cc)))))) e

picoseconds_found : (text : List ℕ) (scale : ℕ) → IsPicoseconds text scale → picoseconds_of text ≡ Some scale
picoseconds_found _ _ Second = refl
picoseconds_found _ _ Millisecond = refl
picoseconds_found _ _ Microsecond = refl
picoseconds_found _ _ Nanosecond = refl
picoseconds_found _ _ Picosecond = refl

femtoseconds_is : (text : List ℕ) (scale : ℕ) → femtoseconds_of text ≡ Some scale → IsFemtoseconds text scale
femtoseconds_is text scale e =
    unit_case IsFemtoseconds text (codes "s") (10 ^ 15) _ scale (Longer Second)
    (unit_case IsFemtoseconds text (codes "ms") (10 ^ 12) _ scale (Longer Millisecond)
    (unit_case IsFemtoseconds text (codes "us") (10 ^ 9) _ scale (Longer Microsecond)
    (unit_case IsFemtoseconds text (codes "ns") (10 ^ 6) _ scale (Longer Nanosecond)
    (unit_case IsFemtoseconds text (codes "ps") (10 ^ 3) _ scale (Longer Picosecond)
    (unit_case IsFemtoseconds text (codes "fs") 1 None scale Femtosecond (λ none. absurd (cc))))))) e

femtoseconds_found : (text : List ℕ) (scale : ℕ) → IsFemtoseconds text scale → femtoseconds_of text ≡ Some scale
femtoseconds_found _ _ (Longer Second) = refl
femtoseconds_found _ _ (Longer Millisecond) = refl
femtoseconds_found _ _ (Longer Microsecond) = refl
femtoseconds_found _ _ (Longer Nanosecond) = refl
femtoseconds_found _ _ (Longer Picosecond) = refl
femtoseconds_found _ _ Femtosecond = refl

-- ---- counts

ok_same : (r : Result ℕ TimeErr) (x y : ℕ) → r ≡ Ok x → r ≡ Ok y → x ≡ y
ok_same r x y e f = cc

whole_is : (n d t : ℕ) → 0 < d → whole_time n d ≡ Ok t → (n ≡ t * d) × (t < 10 ^ 18)
whole_is n d t some e = ⊎_elim
    (λ (whole : nat_eq (n % d) 0 ≡ true). ⊎_elim
    (λ (small : nat_lt (n / d) (10 ^ 18) ≡ true).
    let same : n / d ≡ t = ok_same (Ok (n / d)) (n / d) t refl (rw (whole, small) at e) in
    let none : n % d ≡ 0 = eqb-true (n % d) 0 whole in
    let less : n / d < 10 ^ 18 = ltb-true (n / d) (10 ^ 18) small in
    let parts : n / d * d + n % d ≡ n = div-add-mod' n d in
    (omega arith ∙ ap (λ q. q * d) same, rw (← same) less))
    (λ (large : nat_lt (n / d) (10 ^ 18) ≡ false). let gone : Err TimeTooLarge ≡ Ok t = rw (whole, large) at e in absurd (cc))
    (cases_Bool (nat_lt (n / d) (10 ^ 18))))
    (λ (broken : nat_eq (n % d) 0 ≡ false). let gone : Err NotTime ≡ Ok t = rw broken at e in absurd (cc))
    (cases_Bool (nat_eq (n % d) 0))

whole_found : (n d t : ℕ) → 0 < d → n ≡ t * d → t < 10 ^ 18 → whole_time n d ≡ Ok t
whole_found n d t some is small =
    let sum : n ≡ t * d + 0 = omega arith in
    let parts = of_parts n d t 0 sum some in
    rw (parts.0, parts.1, lt-ltb t (10 ^ 18) small) refl

-- ---- where the unit begins

digit_inside : (c : ℕ) → is_digit c ≡ true → not (starts_unit c) ≡ true
digit_inside c digit = grind (arith, nat_tests)

digits_inside : (digits : List ℕ) → list_all is_digit digits ≡ true → list_all (λ c. not (starts_unit c)) digits ≡ true
digits_inside [] all = refl
digits_inside (c ∷ cs) all =
    let both = and_parts (is_digit c) (list_all is_digit cs) all in
    and_from (not (starts_unit c)) (list_all (λ x. not (starts_unit x)) cs) (digit_inside c both.0) (digits_inside cs both.1)

after_inside : (digits : List ℕ) → list_all is_digit digits ≡ true → list_all (λ c. not (starts_unit c)) (after_point digits) ≡ true
after_inside [] all = refl
after_inside (c ∷ cs) all = digits_inside (c ∷ cs) all

joined_inside : (whole rest : List ℕ) → list_all is_digit whole ≡ true → list_all (λ c. not (starts_unit c)) rest ≡ true
    → list_all (λ c. not (starts_unit c)) (whole ++ rest) ≡ true
joined_inside [] rest all inside = inside
joined_inside (c ∷ cs) rest all inside =
    let both = and_parts (is_digit c) (list_all is_digit cs) all in
    and_from (not (starts_unit c)) (list_all (λ x. not (starts_unit x)) (cs ++ rest)) (digit_inside c both.0) (joined_inside cs rest both.1 inside)

number_inside : (text : List ℕ) (n : Numeral) → SpellsNumeral text n → list_all (λ c. not (starts_unit c)) text ≡ true
number_inside text n h =
    ap (list_all (λ c. not (starts_unit c))) h.is ∙ joined_inside n.whole (after_point n.fraction) (all_of n.whole h.whole) (after_inside n.fraction h.fraction)

begins_picoseconds : (front unit : List ℕ) (scale : ℕ) → list_all (λ c. not (starts_unit c)) front ≡ true
    → IsPicoseconds unit scale → position starts_unit (front ++ unit) ≡ Some (length front)
begins_picoseconds front _ _ inside Second = place_at starts_unit front 115 [] inside refl
begins_picoseconds front _ _ inside Millisecond = place_at starts_unit front 109 (115 ∷ []) inside refl
begins_picoseconds front _ _ inside Microsecond = place_at starts_unit front 117 (115 ∷ []) inside refl
begins_picoseconds front _ _ inside Nanosecond = place_at starts_unit front 110 (115 ∷ []) inside refl
begins_picoseconds front _ _ inside Picosecond = place_at starts_unit front 112 (115 ∷ []) inside refl

begins_femtoseconds : (front unit : List ℕ) (scale : ℕ) → list_all (λ c. not (starts_unit c)) front ≡ true
    → IsFemtoseconds unit scale → position starts_unit (front ++ unit) ≡ Some (length front)
begins_femtoseconds front _ _ inside (Longer unit) = begins_picoseconds front _ _ inside unit
begins_femtoseconds front _ _ inside Femtosecond = place_at starts_unit front 102 (115 ∷ []) inside refl

-- ---- times

-- a table of units, read exactly where it has them, each of which begins as a unit does
record Table (IsUnit : List ℕ → ℕ → Type 0) (unit_of : List ℕ → Option ℕ) (per : ℕ) : Type 0 where
  is : (text : List ℕ) (scale : ℕ) → unit_of text ≡ Some scale → IsUnit text scale
  found : (text : List ℕ) (scale : ℕ) → IsUnit text scale → unit_of text ≡ Some scale
  begins : (front unit : List ℕ) (scale : ℕ) → list_all (λ c. not (starts_unit c)) front ≡ true → IsUnit unit scale
      → position starts_unit (front ++ unit) ≡ Some (length front)
  some : 0 < per

some_parts : (k per : ℕ) → 0 < per → 0 < 10 ^ k * per
some_parts k per some = mul-pos (power_some k) some

count_is : (n : Numeral) (scale per t : ℕ) → 0 < per → count_of n scale per ≡ Ok t
    → (is_short n ≡ true) × (scaled_count n * scale ≡ t * (10 ^ length n.fraction * per)) × (t < 10 ^ 18)
unfolding count_of
count_is n scale per t some e = ⊎_elim
    (λ (short : is_short n ≡ true).
    let whole = whole_is (scaled_count n * scale) (10 ^ length n.fraction * per) t (some_parts (length n.fraction) per some) (rw short at e) in
    (short, whole.0, whole.1))
    (λ (long : is_short n ≡ false). let gone : Err NotTime ≡ Ok t = rw long at e in absurd (cc))
    (cases_Bool (is_short n))

time_parts : (IsUnit : List ℕ → ℕ → Type 0) (unit_of : List ℕ → Option ℕ) (per : ℕ) → Table IsUnit unit_of per
    → (text : List ℕ) (at t : ℕ) (n : Option Numeral) (unit : Option ℕ) → numeral_of (take at text) ≡ n
    → unit_of (drop at text) ≡ unit → time_with n unit per ≡ Ok t → SpellsTimeBy IsUnit per text t
time_parts IsUnit unit_of per table text at t None unit number is e = absurd (cc)
time_parts IsUnit unit_of per table text at t (Some n) None number is e = absurd (cc)
time_parts IsUnit unit_of per table text at t (Some n) (Some scale) number is e =
    let count = count_is n scale per t table.some e in
    record {
      front = take at text;
      unit = drop at text;
      numeral = n;
      scale = scale;
      is = sym (take-append-drop at text);
      number = (reads_numerals (take at text) n).0 number;
      short = count.0;
      «of» = table.is (drop at text) scale is;
      count = count.1;
      below = count.2;
    }

time_place : (IsUnit : List ℕ → ℕ → Type 0) (unit_of : List ℕ → Option ℕ) (per : ℕ) → Table IsUnit unit_of per
    → (text : List ℕ) (at : Option ℕ) (t : ℕ) → time_split unit_of per text at ≡ Ok t → SpellsTimeBy IsUnit per text t
time_place IsUnit unit_of per table text None t e = absurd (cc)
time_place IsUnit unit_of per table text (Some at) t e =
    time_parts IsUnit unit_of per table text at t (numeral_of (take at text)) (unit_of (drop at text)) refl refl e

count_found : (n : Numeral) (scale per t : ℕ) → 0 < per → is_short n ≡ true
    → scaled_count n * scale ≡ t * (10 ^ length n.fraction * per) → t < 10 ^ 18 → count_of n scale per ≡ Ok t
unfolding count_of
count_found n scale per t some short count small =
    rw short (whole_found (scaled_count n * scale) (10 ^ length n.fraction * per) t (some_parts (length n.fraction) per some) count small)

time_joined : (IsUnit : List ℕ → ℕ → Type 0) (unit_of : List ℕ → Option ℕ) (per : ℕ) → Table IsUnit unit_of per
    → (front unit : List ℕ) (n : Numeral) (scale t : ℕ) → SpellsNumeral front n → IsUnit unit scale → is_short n ≡ true
    → scaled_count n * scale ≡ t * (10 ^ length n.fraction * per) → t < 10 ^ 18 → time_by unit_of per (front ++ unit) ≡ Ok t
time_joined IsUnit unit_of per table front unit n scale t number is short count small =
    rw (
      table.begins front unit scale (number_inside front n number) is,
      take-append_seam front unit,
      drop-append_seam front unit,
      (reads_numerals front n).1 number,
      table.found unit scale is,
    )
    (count_found n scale per t table.some short count small)

time_spelled : (IsUnit : List ℕ → ℕ → Type 0) (unit_of : List ℕ → Option ℕ) (per : ℕ) → Table IsUnit unit_of per
    → (text : List ℕ) (t : ℕ) → SpellsTimeBy IsUnit per text t → time_by unit_of per text ≡ Ok t
time_spelled IsUnit unit_of per table text t h = ap (time_by unit_of per) h.is
    ∙ time_joined IsUnit unit_of per table h.front h.unit h.numeral h.scale t h.number h.«of» h.short h.count h.below

picosecond_table : Table IsPicoseconds picoseconds_of 1
picosecond_table = record { is = picoseconds_is; found = picoseconds_found; begins = begins_picoseconds; some = omega arith }

per_some : (resolution : Resolution) → 0 < femtoseconds_in resolution
per_some Ps = omega arith
per_some Fs = omega arith

femtosecond_table : (resolution : Resolution) → Table IsFemtoseconds femtoseconds_of (femtoseconds_in resolution)
femtosecond_table resolution =
    record { is = femtoseconds_is; found = femtoseconds_found; begins = begins_femtoseconds; some = per_some resolution }

pub reads_times : ReadsTimes
unfolding time_of
reads_times text t = (
  (λ e. time_place IsPicoseconds picoseconds_of 1 picosecond_table text (position starts_unit text) t e),
  (λ h. time_spelled IsPicoseconds picoseconds_of 1 picosecond_table text t h),
)

pub reads_times_at : ReadsTimesAt
unfolding time_at
reads_times_at resolution text t = (
  (λ e. time_place IsFemtoseconds femtoseconds_of (femtoseconds_in resolution) (femtosecond_table resolution) text (position starts_unit text) t e),
  (λ h. time_spelled IsFemtoseconds femtoseconds_of (femtoseconds_in resolution) (femtosecond_table resolution) text t h),
)

-- a time of the five units, by the table of six
times_thousand : (n scale t p : ℕ) → n * scale ≡ t * (p * 1) → n * (scale * 1000) ≡ t * (p * 1000)
times_thousand n scale t p e =
    let left : n * (scale * 1000) ≡ (n * scale) * 1000 = grind arith in
    let right : (t * (p * 1)) * 1000 ≡ t * (p * 1000) = grind arith in
    left ∙ ap (λ x. x * 1000) e ∙ right

longer : (text : List ℕ) (t : ℕ) → SpellsTime text t → SpellsTimeAt Ps text t
longer text t h = record {
  front = h.front;
  unit = h.unit;
  numeral = h.numeral;
  scale = h.scale * 1000;
  is = h.is;
  number = h.number;
  short = h.short;
  «of» = Longer h.«of»;
  count = times_thousand (scaled_count h.numeral) h.scale t (10 ^ length h.numeral.fraction) h.count;
  below = h.below;
}

pub reads_both : ReadsBoth
reads_both text t e = (reads_times_at Ps text t).1 (longer text t ((reads_times text t).0 e))
