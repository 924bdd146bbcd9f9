-- Literals are read exactly where they are spelled so.
use Rattle.std.proofs.Common.{◌≡◌, ℕ, Bool, true, false, nat_eq, if◌then◌else◌, Option, Some, None, List, [], ◌∷◌, ◌++◌, get_or, drop, ⊎_elim, refl, ap, ◌∙◌, subst, arith}
use Rattle.std.proofs.lemmas.Bool.{and_parts, cases_Bool, eqb-true}
use Rattle.std.proofs.lemmas.Bool.Decides.{nat_tests}
use Rattle.std.specs.List.{list_all}
use Rattle.std.specs.Option.{option_map}
use Rattle.tdf_base.specs.Digits.{is_digit, are_digits}
use Rattle.tdf_base.specs.Number.{Numeral, numeral_of}
use Rattle.tdf_base.specs.Spelling.{after_point, SpellsNumeral}
use Rattle.tdf_base.proofs.Api.{some_same, all_of, numeral_spells, numeral_spelled}
use Rattle.tdf_fixed.specs.Literal.{Literal, literal_of, positive, negative}
use Rattle.tdf_fixed.specs.Spelling.{SpellsLiteral, ReadsLiterals}

first_of : (whole rest : List ℕ) → are_digits whole ≡ true → is_digit (get_or (whole ++ rest) 0 0) ≡ true
first_of [] rest all = absurd (cc)
first_of (c ∷ cs) rest all = (and_parts (is_digit c) (list_all is_digit cs) (all_of (c ∷ cs) all)).0

digit_no_minus : (c : ℕ) → is_digit c ≡ true → nat_eq c 45 ≡ false
digit_no_minus c digit = grind (arith, nat_tests)

signed_minus : (text : List ℕ) (l : Literal) (o : Option Numeral) → nat_eq (get_or text 0 0) 45 ≡ true → numeral_of (drop 1 text) ≡ o
    → option_map negative o ≡ Some l → SpellsLiteral text l
signed_minus text l None minus read e = absurd (cc)
signed_minus [] l (Some n) minus read e = absurd (cc)
signed_minus (c ∷ cs) l (Some n) minus read e =
    let first : c ≡ 45 = eqb-true c 45 minus in
    subst (λ m. SpellsLiteral (c ∷ cs) m) (some_same (negative n) l e) (cs, ap (λ x. x ∷ cs) first, numeral_spells cs n read)

signed_plain : (text : List ℕ) (l : Literal) (o : Option Numeral) → numeral_of text ≡ o → option_map positive o ≡ Some l → SpellsLiteral text l
signed_plain text l None read e = absurd (cc)
signed_plain text l (Some n) read e = subst (λ m. SpellsLiteral text m) (some_same (positive n) l e) (text, refl, numeral_spells text n read)

first_digit : (text : List ℕ) (n : Numeral) → SpellsNumeral text n → is_digit (get_or text 0 0) ≡ true
first_digit text n h = ap (λ t. is_digit (get_or t 0 0)) h.is ∙ first_of n.whole (after_point n.fraction) h.whole

literal_minus : (text : List ℕ) (l : Literal) → nat_eq (get_or text 0 0) 45 ≡ true → option_map negative (numeral_of (drop 1 text)) ≡ Some l → SpellsLiteral text l
literal_minus text l minus e = signed_minus text l (numeral_of (drop 1 text)) minus refl e

literal_plain : (text : List ℕ) (l : Literal) → option_map positive (numeral_of text) ≡ Some l → SpellsLiteral text l
literal_plain text l e = signed_plain text l (numeral_of text) refl e

literal_spells : (text : List ℕ) (l : Literal) → literal_of text ≡ Some l → SpellsLiteral text l
unfolding literal_of
literal_spells text l e = ⊎_elim
    (λ (minus : nat_eq (get_or text 0 0) 45 ≡ true). literal_minus text l minus (rw minus at e))
    (λ (plain : nat_eq (get_or text 0 0) 45 ≡ false). literal_plain text l (rw plain at e))
    (cases_Bool (nat_eq (get_or text 0 0) 45))

literal_spelled : (minus : Bool) (text rest : List ℕ) (n : Numeral) → text ≡ (if minus then 45 ∷ rest else rest) → SpellsNumeral rest n
    → literal_of text ≡ Some (record { minus = minus; numeral = n })
unfolding literal_of
literal_spelled true text rest n is h = rw (is, numeral_spelled rest n h) refl
literal_spelled false text rest n is h =
    let digit = first_digit rest n h in
    let no_minus : nat_eq (get_or rest 0 0) 45 ≡ false = digit_no_minus (get_or rest 0 0) digit in
    rw (is, no_minus, numeral_spelled rest n h) refl

pub reads_literals : ReadsLiterals
reads_literals text l = (literal_spells text l, (λ h. literal_spelled l.minus text h.0 l.numeral h.1 h.2))
