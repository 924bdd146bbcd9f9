-- What a column shows is a cell, where its value has at most 64 bits.
use Rattle.std.proofs.Common.{◌≡◌, ◌≢◌, ◌∙◌, ℕ, suc, ◌+◌, ◌*◌, ◌^◌, List, [], ◌∷◌, length, map, codes, ℤ, pos, negsuc, Option, Some, None, sym, ap, subst, refl, arith}
use Rattle.std.proofs.Math.Nat.{zero-mul}
use Rattle.std.specs.List.{AllByRecursion}
use Rattle.tdf_base.proofs.Api.{digits_from, numeral_spelled, some_same}
use Rattle.tdf_base.specs.Digits.{number}
use Rattle.tdf_base.specs.Number.{Numeral, numeral_of}
use Rattle.tdf_base.specs.Spelling.{SpellsNumeral}
use Rattle.tdf_fixed.specs.Decimal.{value_text}
use Rattle.tdf_fixed.specs.DecimalLaws.{IsMagnitude, IsValueText}
use Rattle.tdf_fixed.specs.declared.raw.Raw.{Raw}
use Rattle.tdf_tables.specs.Cells.{IsCell, Negative, Number, SpellsPlain, Unknown}
use Rattle.tdf_tables_of_runs.proofs.Sides.{IsSmallOption}
use Rattle.tdf_tables_of_runs.proofs.Small.{IsSmall}
use Rattle.tdf_trace.specs.Tables.{cell_text}

spells_in : (text : List ℕ) (n d : ℕ) → (h : IsMagnitude text n d) → SpellsNumeral text (record { whole = h.whole; fraction = h.fraction })
spells_in text n d h = record { whole = digits_from h.whole h.plain.some h.plain.all; fraction = h.all; is = h.spells }

plain_in : (text : List ℕ) (n d : ℕ) → IsMagnitude text n d → SpellsPlain text
plain_in text n d h = record {
  numeral = record { whole = h.whole; fraction = h.fraction };
  spells = spells_in text n d h;
  plain = record { whole = h.plain; ends = h.ends };
}

abbrev no_number : Numeral
no_number = record { whole = codes "0"; fraction = [] }

-- the text `0` is that of 0 alone
not_zero : (text : List ℕ) (n d : ℕ) → IsMagnitude text (suc n) d → text ≢ codes "0"
not_zero text n d h e =
    let found : Numeral = record { whole = h.whole; fraction = h.fraction } in
    let there : numeral_of text ≡ Some found = numeral_spelled text found (spells_in text (suc n) d h) in
    let none : numeral_of (codes "0") ≡ Some no_number = numeral_spelled (codes "0") no_number (record { whole = refl; fraction = refl; is = refl }) in
    let same : found ≡ no_number = some_same found no_number (sym there ∙ ap numeral_of e ∙ none) in
    let whole : h.whole ≡ codes "0" = ap (λ (k : Numeral). k.whole) same in
    let fraction : h.fraction ≡ [] = ap (λ (k : Numeral). k.fraction) same in
    let left : (number h.whole * 10 ^ length h.fraction + number h.fraction) * d ≡ 0 =
    ap (λ w. (number w * 10 ^ length h.fraction + number h.fraction) * d) whole ∙ ap (λ f. (0 * 10 ^ length f + number f) * d) fraction ∙ zero-mul d in
    let right : suc n * 10 ^ length h.fraction ≡ suc n = ap (λ f. suc n * 10 ^ length f) fraction ∙ (let one : suc n * 1 ≡ suc n = omega arith in one) in
    let value = h.value in
    omega (arith, left, right, value)

value_cell : IsValueText → (num : ℤ) (frac : ℕ) → IsSmall num → IsCell (value_text num frac)
value_cell texts (pos n) frac small = Number (plain_in (value_text (pos n) frac) n (2 ^ frac) ((texts (value_text (pos n) frac) (pos n) frac (omega (arith, small))).1 refl))
value_cell texts (negsuc n) frac small =
    let h = (texts (value_text (negsuc n) frac) (negsuc n) frac (omega (arith, small))).1 refl in
    subst IsCell (sym h.1) (Negative (plain_in h.0 (suc n) (2 ^ frac) h.2) (not_zero h.0 n (2 ^ frac) h.2))

cell_form : IsValueText → (cell : Option Raw) → IsSmallOption cell → IsCell (cell_text cell)
cell_form texts None small = Unknown
cell_form texts (Some value) small = value_cell texts value.num value.frac small

pub cell_forms : IsValueText → (row : List (Option Raw)) → AllByRecursion IsSmallOption row → AllByRecursion IsCell (map cell_text row)
cell_forms texts [] h = tt
cell_forms texts (cell ∷ row) h = (cell_form texts cell h.0, cell_forms texts row h.1)
