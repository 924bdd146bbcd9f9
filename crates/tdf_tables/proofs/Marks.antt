-- The bytes of cells, times and labels: none is a space or an LF.
use Rattle.std.proofs.Common.{◌≡◌, ℕ, ◌≤◌, Bool, true, false, nat_lt, List, [], ◌∷◌, refl, arith, ◌∙◌, ap}
use Rattle.std.proofs.lemmas.Bool.{and_parts, and_from}
use Rattle.std.proofs.lemmas.Bool.Decides.{nat_tests}
use Rattle.std.proofs.lemmas.List.Folds.{list_any-append, list_all-append}
use Rattle.std.specs.List.{AllByRecursion, list_any, list_all}
use Rattle.tdf_base.proofs.Api.{all_of}
use Rattle.tdf_base.specs.Digits.{is_digit}
use Rattle.tdf_base.specs.Spelling.{after_point}
use Rattle.tdf_tables.proofs.CellLaws.{digit_from}
use Rattle.tdf_tables.proofs.Words.{HasNoSpace}
use Rattle.tdf_tables.specs.Cells.{IsCell, SpellsPlain, Unknown, Number, Negative}
use Rattle.tdf_tables.specs.Words.{is_blank, spaced}
use Rattle.tdf_tables.specs.machine.Scan.{is_line_end}

abbrev pub is_mark : ℕ → Bool
is_mark c = nat_lt 32 c

pub all_digits : (ds : List ℕ) → list_all is_digit ds ≡ true → list_all is_mark ds ≡ true
all_digits [] h = refl
all_digits (d ∷ ds) h =
    let both = and_parts (is_digit d) (list_all is_digit ds) h in
    let low : 48 ≤ d = digit_from d both.0 in
    and_from (is_mark d) (list_all is_mark ds) (grind (arith, nat_tests)) (all_digits ds both.1)

all_after : (ds : List ℕ) → list_all is_digit ds ≡ true → list_all is_mark (after_point ds) ≡ true
all_after [] h = refl
all_after (d ∷ ds) h = all_digits (d ∷ ds) h

pub plain_marks : (text : List ℕ) → SpellsPlain text → list_all is_mark text ≡ true
plain_marks text h =
    let whole : list_all is_mark h.numeral.whole ≡ true = all_digits h.numeral.whole (all_of h.numeral.whole h.spells.whole) in
    let rest : list_all is_mark (after_point h.numeral.fraction) ≡ true = all_after h.numeral.fraction h.spells.fraction in
    ap (list_all is_mark) h.spells.is ∙ list_all-append is_mark h.numeral.whole (after_point h.numeral.fraction) ∙ rw (whole, rest) refl

pub cell_marks : (text : List ℕ) → IsCell text → list_all is_mark text ≡ true
cell_marks text Unknown = refl
cell_marks text (Number h) = plain_marks text h
cell_marks text (Negative {text = rest} h other) = plain_marks rest h

pub none_of_marks : (p : ℕ → Bool) (text : List ℕ) → ((c : ℕ) → is_mark c ≡ true → p c ≡ false) → list_all is_mark text ≡ true → list_any p text ≡ false
none_of_marks p [] never h = refl
none_of_marks p (c ∷ cs) never h =
    let both = and_parts (is_mark c) (list_all is_mark cs) h in
    rw (never c both.0) (none_of_marks p cs never both.1)

pub mark_no_space : (c : ℕ) → is_mark c ≡ true → is_blank c ≡ false
mark_no_space c h = grind (arith, nat_tests)

pub mark_no_end : (c : ℕ) → is_mark c ≡ true → is_line_end c ≡ false
mark_no_end c h = grind (arith, nat_tests)

-- ---- words of marks

abbrev pub IsMarked : List ℕ → Type 0
IsMarked word = list_all is_mark word ≡ true

pub cells_marked : (cells : List (List ℕ)) → AllByRecursion IsCell cells → AllByRecursion IsMarked cells
cells_marked [] h = tt
cells_marked (c ∷ cs) h = (cell_marks c h.0, cells_marked cs h.1)

pub without_spaces : (words : List (List ℕ)) → AllByRecursion IsMarked words → AllByRecursion HasNoSpace words
without_spaces [] h = tt
without_spaces (w ∷ ws) h = (none_of_marks is_blank w mark_no_space h.0, without_spaces ws h.1)

pub spaced_no_end : (words : List (List ℕ)) → AllByRecursion IsMarked words → list_any is_line_end (spaced words) ≡ false
unfolding spaced
spaced_no_end [] h = refl
spaced_no_end (c ∷ cs) h =
    let here : list_any is_line_end c ≡ false = none_of_marks is_line_end c mark_no_end h.0 in
    let more : list_any is_line_end (spaced cs) ≡ false = spaced_no_end cs h.1 in
    list_any-append is_line_end c (spaced cs) ∙ rw (here, more) refl
