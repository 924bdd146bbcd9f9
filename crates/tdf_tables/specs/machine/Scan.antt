-- How labels, cells, times and their order are told.
-- Source: own.
use Rattle.std.specs.Prelude.{ℕ, zero, suc, Bool, true, false, not, ◌&&◌, nat_eq, nat_le, nat_lt}
use Rattle.std.specs.Prelude.{List, [], ◌∷◌, length, codes, drop, slice_index, take, if◌then◌else◌}
use Rattle.std.specs.Prelude.{Option, Some, None, is_none}
use Rattle.std.specs.Cmp.Lexicographic.{pointwise}
use Rattle.std.specs.List.{before_first, position_or_len}
use Rattle.tdf_base.specs.Names.{is_name}
use Rattle.tdf_base.specs.Number.{Numeral, numeral_of}
use Rattle.tdf_lang_lexer.specs.Token.{Tok, TName}
use Rattle.tdf_lang_lexer.specs.Words.{key_of}
use Rattle.tdf_tables.specs.Words.{is_blank}

abbrev pub is_line_end : ℕ → Bool
is_line_end byte = nat_eq byte 10

-- ---- the head

-- what comes after `%time`, where that begins with a space
abbrev pub label_part : List ℕ → Option (List ℕ)
label_part line =
    if pointwise nat_eq (codes "%time ") (take 6 line) then Some (drop 5 line) else None

abbrev pub is_label : List ℕ → Bool
is_label text = is_name text && is_none (key_of text)

-- one token, which is a name
abbrev pub are_one_name : List Tok → Bool
are_one_name (TName text ∷ []) = true
are_one_name _ = false

-- ---- cells

-- a first 0 that isn't alone, and a last 0 after the point
abbrev pub has_leading_zero : List ℕ → Bool
has_leading_zero digits = nat_lt 1 (length digits) && nat_eq (slice_index digits 0) 48

unfoldable pub ends_in_zero : List ℕ → Bool
ends_in_zero [] = false
ends_in_zero (c ∷ []) = nat_eq c 48
ends_in_zero (c ∷ (e ∷ cs)) = ends_in_zero (e ∷ cs)

abbrev pub is_plain : Numeral → Bool
is_plain n = not (has_leading_zero n.whole) && not (ends_in_zero n.fraction)

abbrev pub is_plain_one : Option Numeral → Bool
is_plain_one None = false
is_plain_one (Some n) = is_plain n

unfoldable pub is_decimal : List ℕ → Bool
is_decimal text = is_plain_one (numeral_of text)

abbrev pub is_negative : List ℕ → Bool
is_negative text = not (pointwise nat_eq text (codes "0")) && is_decimal text

unfoldable pub is_cell : List ℕ → Bool
is_cell [] = false
is_cell (c ∷ cs) = if nat_eq c 42 then nat_eq (length cs) 0
    else if nat_eq c 45 then is_negative cs
    else is_decimal (c ∷ cs)

-- what comes after a space and a cell up to the next space; none where the text begins otherwise
abbrev pub after_cell : List ℕ → Option (List ℕ)
after_cell [] = None
after_cell (c ∷ text) =
    if nat_eq c 32 && is_cell (before_first is_blank text)
    then Some (drop (position_or_len is_blank text) text) else None

abbrev pub passes : (List ℕ → Bool) → Option (List ℕ) → Bool
passes test None = false
passes test (Some rest) = test rest

-- a text is so many cells, each after one space
unfoldable pub are_cells : (count : ℕ) → List ℕ → Bool
are_cells zero text = nat_eq (length text) 0
are_cells (suc count) text = passes (λ rest. are_cells count rest) (after_cell text)

-- ---- times

-- no needless zero, at most 6 digits before the point, and 15 after it
abbrev pub may_be_time : Numeral → Bool
may_be_time n = is_plain n && nat_le (length n.whole) 6 && nat_le (length n.fraction) 15

-- a time that may come after another
abbrev pub is_next : Option ℕ → (time : ℕ) → Bool
is_next None time = nat_eq time 0
is_next (Some before) time = nat_lt before time
