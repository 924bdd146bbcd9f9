-- The bytes of times, cells and names: none is a space or a control.
use Rattle.std.proofs.Common.{◌≡◌, ◌∙◌, ℕ, zero, suc, ◌+◌, ◌*◌, ◌/◌, ◌%◌, ◌^◌, Bool, true, false, ◌&&◌, if◌then◌else◌, nat_eq, nat_le, nat_lt, List, [], ◌∷◌, ◌++◌, length, map, pos, negsuc, ℤ, refl, arith}
use Rattle.std.proofs.lemmas.Bool.{and_from, and_parts}
use Rattle.std.proofs.lemmas.Bool.Decides.{nat_tests}
use Rattle.std.proofs.lemmas.List.Folds.{list_all-append}
use Rattle.std.specs.Fmt.{decimal, digit_glyph, digits, digits_onto}
use Rattle.std.specs.List.{AllByRecursion, list_all}
use Rattle.std.specs.Prelude.{None, Option, Some, ◌==◌}
use Rattle.tdf_base.specs.Names.{is_letter, is_name, is_part}
use Rattle.tdf_base.specs.declared.resolution.Resolution.{Resolution}
use Rattle.tdf_fixed.specs.Decimal.{fraction_digits, fraction_text, magnitude_text, places_of, seconds_text_at, signed_text, value_text}
use Rattle.tdf_fixed.specs.declared.raw.Raw.{Raw}
use Rattle.tdf_tables.proofs.Api.{IsMarked, is_mark}
use Rattle.tdf_tables_of_runs.proofs.Small.{either}
use Rattle.tdf_trace.specs.Tables.{cell_text}

both_marked : (xs ys : List ℕ) → IsMarked xs → IsMarked ys → IsMarked (xs ++ ys)
both_marked xs ys a b = list_all-append is_mark xs ys ∙ rw (a, b) refl

-- ---- numbers

glyph_marked : (d : ℕ) → is_mark (digit_glyph false d) ≡ true
glyph_marked d = go (nat_lt d 10)
  where
    go : (b : Bool) → is_mark (if b then 48 + d else 87 + d) ≡ true
    go true = grind (arith, nat_tests)
    go false = grind (arith, nat_tests)

onto_marked : (k n : ℕ) (text : List ℕ) → IsMarked text → IsMarked (digits_onto k 10 false n text)
onto_marked zero n text h = h
onto_marked (suc k) n text h =
    let front = digit_glyph false (n % 10) ∷ text in
    let more : IsMarked front = and_from (is_mark (digit_glyph false (n % 10))) (list_all is_mark text) (glyph_marked (n % 10)) h in
    either IsMarked (n / 10 == 0) front (digits_onto k 10 false (n / 10) front) more (onto_marked k (n / 10) front more)

decimal_marked : (n : ℕ) → IsMarked (decimal n)
unfolding digits
decimal_marked n = onto_marked 64 n [] refl

digit_marked : (x : ℕ) → is_mark (48 + x) ≡ true
digit_marked x = grind (arith, nat_tests)

digits_marked : (room rest d : ℕ) → IsMarked (fraction_digits room rest d)
unfolding fraction_digits
digits_marked zero rest d = refl
digits_marked (suc room) rest d =
    let more = fraction_digits room (10 * rest % d) d in
    either IsMarked (nat_eq rest 0) [] ((48 + 10 * rest / d) ∷ more) refl
    (and_from (is_mark (48 + 10 * rest / d)) (list_all is_mark more) (digit_marked (10 * rest / d)) (digits_marked room (10 * rest % d) d))

fraction_marked : (room rest d : ℕ) → IsMarked (fraction_text room rest d)
unfolding fraction_text
fraction_marked room rest d = either IsMarked (nat_eq rest 0) [] (46 ∷ fraction_digits room rest d) refl (digits_marked room rest d)

magnitude_marked : (room n d : ℕ) → IsMarked (magnitude_text room n d)
unfolding magnitude_text
magnitude_marked room n d = both_marked (decimal (n / d)) (fraction_text room (n % d) d) (decimal_marked (n / d)) (fraction_marked room (n % d) d)

pub seconds_marked : (resolution : Resolution) (time : ℕ) → IsMarked (seconds_text_at resolution time)
unfolding seconds_text_at
seconds_marked resolution time = magnitude_marked (places_of resolution) time (10 ^ places_of resolution)

signed_marked : (room : ℕ) (num : ℤ) (d : ℕ) → IsMarked (signed_text room num d)
signed_marked room (pos n) d = magnitude_marked room n d
signed_marked room (negsuc n) d = magnitude_marked room (suc n) d

value_marked : (num : ℤ) (frac : ℕ) → IsMarked (value_text num frac)
unfolding value_text
value_marked num frac = signed_marked frac num (2 ^ frac)

cell_marked : (cell : Option Raw) → IsMarked (cell_text cell)
cell_marked None = refl
cell_marked (Some value) = value_marked value.num value.frac

pub cells_marked : (row : List (Option Raw)) → AllByRecursion IsMarked (map cell_text row)
cells_marked [] = tt
cells_marked (cell ∷ row) = (cell_marked cell, cells_marked row)

-- ---- names

part_marked : (c : ℕ) → is_part c ≡ true → is_mark c ≡ true
part_marked c h = grind (arith, nat_tests)

letter_marked : (c : ℕ) → is_letter c ≡ true → is_mark c ≡ true
letter_marked c h = grind (arith, nat_tests)

parts_marked : (cs : List ℕ) → list_all is_part cs ≡ true → IsMarked cs
parts_marked [] h = refl
parts_marked (c ∷ cs) h =
    let both = and_parts (is_part c) (list_all is_part cs) h in
    and_from (is_mark c) (list_all is_mark cs) (part_marked c both.0) (parts_marked cs both.1)

pub name_marked : (name : List ℕ) → is_name name ≡ true → IsMarked name
name_marked [] h = let g : false ≡ true = h in absurd (cc)
name_marked (c ∷ cs) h =
    let both = and_parts (is_letter c && list_all is_part cs) (nat_le (length (c ∷ cs)) 64) h in
    let parts = and_parts (is_letter c) (list_all is_part cs) both.0 in
    and_from (is_mark c) (list_all is_mark cs) (letter_marked c parts.0) (parts_marked cs parts.1)
