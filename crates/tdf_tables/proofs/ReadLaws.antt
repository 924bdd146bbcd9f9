-- Rows read one after the other.
use Rattle.std.proofs.Common.{◌≡◌, ℕ, ◌+◌, ◌<◌, ◌≤◌, ◌⊎◌, List, [], ◌∷◌, ◌++◌, length, refl, arith, ◌∙◌, sym, ap, subst, Some, None, Option, append-nil, append_assoc, length-append}
use Rattle.std.proofs.Common.{inl, inr}
use Rattle.tdf_tables.proofs.RowLaws.{last_more, line_text, none_yet, row_line, rows_more}
use Rattle.tdf_tables.specs.Tables.{TableRow, AreRows, NoRows, MoreRows, FollowsTime, IsRow, last_time, table_row_text, table_rows_text}
use Rattle.tdf_tables.specs.machine.Body.{HasFault, IsRowsText}

pub record HasRead (columns : ℕ) (text rest : List ℕ) (rows : List TableRow) (before : Option ℕ) (line : ℕ) : Type 0 where
  pub is : text ≡ table_rows_text rows ++ rest
  pub rows_are : AreRows columns rows
  pub last : last_time rows ≡ before
  pub line_is : line ≡ length rows + 2
  pub within : length rows + length rest ≤ length text

pub no_text : table_rows_text [] ≡ []
unfolding table_rows_text
no_text = refl

pub no_last : last_time [] ≡ None
unfolding last_time
no_last = refl

pub read_none : (columns : ℕ) (text : List ℕ) → HasRead columns text text [] None 2
read_none columns text = record {
  is = ap (λ x. x ++ text) (sym no_text);
  rows_are = NoRows;
  last = no_last;
  line_is = refl;
  within = omega arith;
}

pub row_some : (row : TableRow) → 0 < length (table_row_text row)
row_some row = omega (arith, ap length (row_line row), length-append (line_text row) (10 ∷ []))

pub shorter : (row : TableRow) (rest after : List ℕ) → rest ≡ table_row_text row ++ after → length after < length rest
shorter row rest after e = omega (arith, ap length e, length-append (table_row_text row) after, row_some row)

pub read_more : (columns : ℕ) (text rest after : List ℕ) (rows : List TableRow) (row : TableRow) (before : Option ℕ) (line : ℕ)
    → HasRead columns text rest rows before line → IsRow columns row → FollowsTime before row.time → rest ≡ table_row_text row ++ after
    → HasRead columns text after (rows ++ row ∷ []) (Some row.time) (line + 1)
read_more columns text rest after rows row before line h is next e =
    let many : length (rows ++ row ∷ []) ≡ length rows + 1 = length-append rows (row ∷ []) in
    record {
      is = h.is ∙ ap (λ x. table_rows_text rows ++ x) e ∙ sym (append_assoc (table_rows_text rows) (table_row_text row) after) ∙ ap (λ x. x ++ after) (sym (rows_more rows row));
      rows_are = MoreRows h.rows_are row is (subst (λ b. FollowsTime b row.time) (sym h.last) next);
      last = last_more rows row;
      line_is = omega (arith, many, h.line_is);
      within = omega (arith, many, h.within, shorter row rest after e);
    }

goes_by : (rows : List TableRow) (rest : List ℕ) (before : Option ℕ) → last_time rows ≡ before → (before ≡ None) ⊎ (0 < length rest) → (rows ≡ []) ⊎ (0 < length rest)
goes_by rows rest before last (inl none) = inl (none_yet rows (last ∙ none))
goes_by rows rest before last (inr more) = inr more

pub fault_is : (columns : ℕ) (text rest : List ℕ) (rows : List TableRow) (before : Option ℕ) (line : ℕ)
    → HasRead columns text rest rows before line → (before ≡ None) ⊎ (0 < length rest)
    → ((row : TableRow) (more : List ℕ) → IsRow columns row → FollowsTime before row.time → rest ≡ table_row_text row ++ more → ⊥)
    → HasFault columns text line
fault_is columns text rest rows before line h goes never = record {
  rows = rows;
  rest = rest;
  is = h.is;
  before = h.rows_are;
  goes_on = goes_by rows rest before h.last goes;
  none = λ row more is next e. never row more is (subst (λ b. FollowsTime b row.time) h.last next) e;
  line_is = h.line_is;
}

some_rows : (rows : List TableRow) → (last_time rows ≡ None → ⊥) → 0 < length rows
some_rows [] h = absurd (h no_last)
some_rows (r ∷ rs) h = omega arith

pub all_read : (columns : ℕ) (text rest : List ℕ) (rows : List TableRow) (before : Option ℕ) (line : ℕ)
    → HasRead columns text rest rows before line → rest ≡ [] → (before ≡ None → ⊥) → IsRowsText columns text rows
all_read columns text rest rows before line h none some = record {
  is = h.is ∙ ap (λ x. table_rows_text rows ++ x) none ∙ append-nil (table_rows_text rows);
  some = some_rows rows (λ e. some (sym h.last ∙ e));
  rows_are = h.rows_are;
}
