-- The text of a value reads back as that value.
use Rattle.std.proofs.Common.{◌≡◌, ℕ, zero, suc, ◌+◌, ◌*◌, ◌/◌, ◌%◌, ◌^◌, ◌<◌, ◌≤◌, true, false, nat_eq, nat_le, Result, Ok, Err, List, [], ◌∷◌, ◌++◌, length, ℤ, pos, negsuc, neg_ℤ, ◌*ℤ◌, if◌then◌else◌, refl, sym, ap, ◌∙◌, arith}
use Rattle.std.proofs.lemmas.Bool.{and_from, le-leb}
use Rattle.std.proofs.lemmas.Nat.{div_below, mod_below, pow_pos}
use Rattle.std.specs.Fmt.{decimal}
use Rattle.tdf_base.specs.Number.{Numeral, is_short, scaled_count}
use Rattle.tdf_base.specs.Digits.{number}
use Rattle.tdf_base.specs.Spelling.{SpellsNumeral}
use Rattle.tdf_base.proofs.Api.{digits_decimal, few_decimal, number_decimal, power_some}
use Rattle.tdf_fixed.specs.Decimal.{fraction_digits, magnitude_text, value_text}
use Rattle.tdf_fixed.specs.Literal.{Literal, exact_of, literal_exact, literal_parts, literal_count}
use Rattle.tdf_fixed.specs.Spelling.{IsExact, IsWholeAt, IsSameValue, SpellsLiteral, ReadsBack}
use Rattle.tdf_fixed.specs.declared.literals.NumErr.{NumErr}
use Rattle.tdf_fixed.specs.declared.quant.Quant.TheVariants.{Trn}
use Rattle.tdf_fixed.specs.declared.raw.Raw.{Raw}
use Rattle.tdf_fixed.specs.Quantise.{quantised}
use Rattle.tdf_fixed.proofs.DecimalTexts.{fraction_is_behind, join_value, room_of}
use Rattle.tdf_fixed.proofs.ExactReaders.{reads_exactly}
use Rattle.tdf_fixed.proofs.FractionParts.{IsFraction, fraction_right}
use Rattle.tdf_fixed.proofs.Readers.{reads_literals}
use Rattle.tdf_fixed.proofs.Scaling.{negative_times, quantised_scaled, quantised_whole}
use Rattle.tdf_fixed.proofs.ValueLaws.{turned}

-- ---- the numeral of a magnitude

abbrev sides : ℕ → ℕ → Numeral
sides n frac = record { whole = decimal (n / 2 ^ frac); fraction = fraction_digits frac (n % 2 ^ frac) (2 ^ frac) }

fraction_long : (room rest d : ℕ) → length (fraction_digits room rest d) ≤ room
unfolding fraction_digits
fraction_long zero rest d = omega arith
fraction_long (suc room) rest d =
    elim (nat_eq rest 0) as (λ b. length (if b then [] else (48 + 10 * rest / d) ∷ fraction_digits room (10 * rest % d) d) ≤ suc room) [
      | true ↦ omega arith
      | false ↦ let more = fraction_long room (10 * rest % d) d in omega (arith, more)
    ]

right : (n frac : ℕ) → IsFraction (fraction_digits frac (n % 2 ^ frac) (2 ^ frac)) (n % 2 ^ frac) (2 ^ frac)
right n frac =
    fraction_right frac (n % 2 ^ frac) (2 ^ frac) (pow_pos frac) (mod_below n (2 ^ frac) (pow_pos frac))
    ((n % 2 ^ frac) * 5 ^ frac) (room_of (n % 2 ^ frac) frac)

wide : (n frac : ℕ) → n < 10 ^ 18 * 2 ^ frac → n / 2 ^ frac < 10 ^ 18
wide n frac small = div_below n (2 ^ frac) (10 ^ 18) (pow_pos frac) small

wider : (q : ℕ) → q < 10 ^ 18 → q < 10 ^ 64
wider q small = omega arith

spells : (n frac : ℕ) → n < 10 ^ 18 * 2 ^ frac → SpellsNumeral (magnitude_text frac n (2 ^ frac)) (sides n frac)
unfolding magnitude_text
spells n frac small =
    record {
      whole = digits_decimal (n / 2 ^ frac) (wider (n / 2 ^ frac) (wide n frac small));
      fraction = (right n frac).all;
      is = ap (λ t. decimal (n / 2 ^ frac) ++ t) (fraction_is_behind frac (n % 2 ^ frac) (2 ^ frac) (pow_pos frac) (right n frac));
    }

short : (n frac : ℕ) → frac ≤ 18 → n < 10 ^ 18 * 2 ^ frac → is_short (sides n frac) ≡ true
short n frac few small =
    let first = few_decimal (n / 2 ^ frac) (wide n frac small) in
    let second : length (fraction_digits frac (n % 2 ^ frac) (2 ^ frac)) ≤ 18 = omega (arith, few, fraction_long frac (n % 2 ^ frac) (2 ^ frac)) in
    and_from (nat_le (length (decimal (n / 2 ^ frac))) 18) (nat_le (length (fraction_digits frac (n % 2 ^ frac) (2 ^ frac))) 18)
    (le-leb (length (decimal (n / 2 ^ frac))) 18 first) (le-leb (length (fraction_digits frac (n % 2 ^ frac) (2 ^ frac))) 18 second)

value_is : (n frac : ℕ) → n < 10 ^ 18 * 2 ^ frac
    → scaled_count (sides n frac) * 2 ^ frac ≡ n * 10 ^ length (fraction_digits frac (n % 2 ^ frac) (2 ^ frac))
value_is n frac small =
    join_value (number (decimal (n / 2 ^ frac))) (number (fraction_digits frac (n % 2 ^ frac) (2 ^ frac))) n (2 ^ frac)
    (10 ^ length (fraction_digits frac (n % 2 ^ frac) (2 ^ frac)))
    (number_decimal (n / 2 ^ frac) (wider (n / 2 ^ frac) (wide n frac small))) (right n frac).value

-- ---- its exact value

cancel : (z w : ℤ) (p : ℕ) → 0 < p → z *ℤ pos p ≡ w *ℤ pos p → z ≡ w
cancel z w p some same =
    let back : (x : ℤ) → quantised Trn (x *ℤ pos p) (1 * p) ≡ x = λ x. quantised_scaled Trn x 1 p (omega arith) some ∙ quantised_whole Trn x in
    sym (back z) ∙ ap (λ x. quantised Trn x (1 * p)) same ∙ back w

same_value : (l : Literal) (num : ℤ) (frac : ℕ) (r : Raw) → IsWholeAt l num frac → IsWholeAt l r.num r.frac → IsSameValue num frac r
same_value l num frac r one other =
    cancel (r.num *ℤ pos (2 ^ frac)) (num *ℤ pos (2 ^ r.frac)) (literal_parts l) (power_some (length l.numeral.fraction))
    (turned r.num (2 ^ frac) (literal_parts l) ∙ ap (λ x. x *ℤ pos (2 ^ frac)) other
    ∙ turned (literal_count l) (2 ^ r.frac) (2 ^ frac) ∙ ap (λ x. x *ℤ pos (2 ^ r.frac)) (sym one)
    ∙ turned num (literal_parts l) (2 ^ r.frac))

found : (l : Literal) (num : ℤ) (frac : ℕ) → IsWholeAt l num frac → (x : Result Raw NumErr) → IsExact l x
    → (r : Raw) × (x ≡ Ok r) × IsSameValue num frac r
found l num frac whole (Ok r) h = (r, refl, same_value l num frac r whole h.0)
found l num frac whole (Err e) h = absurd (h.1 num frac whole)

-- ---- the text

read_as : (text : List ℕ) (l : Literal) (num : ℤ) (frac : ℕ) → SpellsLiteral text l → is_short l.numeral ≡ true → IsWholeAt l num frac
    → (r : Raw) × (exact_of text ≡ Ok r) × IsSameValue num frac r
unfolding exact_of
read_as text l num frac spelled few whole =
    let r = found l num frac whole (literal_exact l) (reads_exactly l) in
    (r.0, rw ((reads_literals text l).1 spelled, few) r.1, r.2)

pub reads_back : ReadsBack
unfolding value_text
reads_back (pos n) frac few small =
    let l : Literal = record { minus = false; numeral = sides n frac } in
    read_as (magnitude_text frac n (2 ^ frac)) l (pos n) frac (magnitude_text frac n (2 ^ frac), refl, spells n frac small)
    (short n frac few small) (ap pos (sym (value_is n frac small)))
reads_back (negsuc n) frac few small =
    let l : Literal = record { minus = true; numeral = sides (suc n) frac } in
    read_as (45 ∷ magnitude_text frac (suc n) (2 ^ frac)) l (negsuc n) frac (magnitude_text frac (suc n) (2 ^ frac), refl, spells (suc n) frac small)
    (short (suc n) frac few small)
    (ap (λ x. neg_ℤ (pos x)) (sym (value_is (suc n) frac small)) ∙ sym (negative_times (scaled_count (sides (suc n) frac)) (2 ^ frac)))
