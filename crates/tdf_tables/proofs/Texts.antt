-- Tables as text: words of a line, and row after row.
use Rattle.std.proofs.Common.{◌≡◌, ℕ, ◌+◌, ◌<◌, ◌≤◌, List, [], ◌∷◌, ◌++◌, length, map, take, drop, get_or, refl, arith, ◌∙◌, sym, ap, subst, append_assoc, append-nil, Option, Result, Ok, Err}
use Rattle.std.specs.Prelude.{OnErr, OnOk, slice_index_or}
use Rattle.tdf_io.proofs.Api.{writes_less, writes_then}
use Rattle.tdf_io.specs.Bytes.{HasWritten, WritesText}
use Rattle.tdf_io.specs.declared.writing.SinkErr.{SinkErr}
use Rattle.std.proofs.lemmas.Grind.{flat_map-append}
use Rattle.std.proofs.lemmas.List.{map-append, map_more, take-append-drop, take-append-le, take_all}
use Rattle.tdf_tables.proofs.RowLaws.{rows_more}
use Rattle.tdf_tables.proofs.ReadLaws.{no_text}
use Rattle.tdf_tables.proofs.Words.{spaced_short, spaced_some}
use Rattle.tdf_tables.specs.Rows.{AppendsPart, row_of}
use Rattle.tdf_tables.specs.Tables.{TableRow, TableOf, table_head_text, table_row_text, table_rows_text, table_text}
use Rattle.tdf_tables.specs.declared.table.Row.{Row}

-- ---- words

pub ruleset spaced_laws = (spaced_short, spaced_some, take-append-le, append_assoc, append-nil)

pub ruleset word_laws = (take-append-le, append_assoc, append-nil)

-- ---- rows

-- the text of the first rows
abbrev pub text_before : List Row → ℕ → List ℕ
text_before rows k = table_rows_text (map row_of (take k rows))

pub before_none : (rows : List Row) → text_before rows 0 ≡ []
before_none rows = no_text

pub before_more : (rows : List Row) (k : ℕ) (row : Row) → k < length rows
    → text_before rows (k + 1) ≡ text_before rows k ++ table_row_text (row_of (get_or rows k row))
before_more rows k row less = ap table_rows_text (map_more row_of rows k row less) ∙ rows_more (map row_of (take k rows)) (row_of (get_or rows k row))

pub before_all : (rows : List Row) (k : ℕ) → length rows ≤ k → text_before rows k ≡ table_rows_text (map row_of rows)
before_all rows k all = ap (λ (rs : List Row). table_rows_text (map row_of rs)) (take_all k rows all)

rows_both : (xs ys : List TableRow) → table_rows_text (xs ++ ys) ≡ table_rows_text xs ++ table_rows_text ys
unfolding table_rows_text
rows_both xs ys = flat_map-append table_row_text xs ys

-- the text of all rows is that of the first ones and that of the others
pub before_rest : (rows : List Row) (k : ℕ) → table_rows_text (map row_of rows) ≡ text_before rows k ++ table_rows_text (map row_of (drop k rows))
before_rest rows k =
    ap (λ (rs : List Row). table_rows_text (map row_of rs)) (sym (take-append-drop k rows))
    ∙ ap table_rows_text (map-append row_of (take k rows) (drop k rows))
    ∙ rows_both (map row_of (take k rows)) (map row_of (drop k rows))

pub rows_part : (old new : List ℕ) (rows : List Row) (k : ℕ) → new ≡ old ++ text_before rows k → AppendsPart old new (table_rows_text (map row_of rows))
rows_part old new rows k is = record {
  front = text_before rows k;
  rest = table_rows_text (map row_of (drop k rows));
  whole = before_rest rows k;
  is = is;
}

pub ruleset row_laws = (before_none, before_more, before_all, rows_part, append_assoc, append-nil)

-- the first rows are written, and one more, or a part of it
pub write_more : {S : Type 0} (taken : S → Option (List ℕ)) (faults : S → ℕ) (a b c : S) (rows : List Row) (k : ℕ) (d : Row) → k < length rows
    → HasWritten taken faults a b (text_before rows k) → WritesText {T = Unit {0}} taken faults b c (table_row_text (row_of (slice_index_or rows k d))) (Ok tt)
    → HasWritten taken faults a c (text_before rows (k + 1))
write_more taken faults a b c rows k d less done row =
    subst (λ (t : List ℕ). HasWritten taken faults a c t) (sym (before_more rows k d less))
    (writes_then taken faults a b c (text_before rows k) (table_row_text (row_of (slice_index_or rows k d))) tt (Ok tt) done row)

pub write_stop : {S : Type 0} (taken : S → Option (List ℕ)) (faults : S → ℕ) (a b c : S) (rows : List Row) (k : ℕ) (d : Row) (error : SinkErr) → k < length rows
    → HasWritten taken faults a b (text_before rows k) → WritesText {T = Unit {0}} taken faults b c (table_row_text (row_of (slice_index_or rows k d))) (Err error)
    → WritesText {T = Unit {0}} taken faults a c (table_rows_text (map row_of rows)) (Err error)
write_stop taken faults a b c rows k d error less done row =
    let upto = subst (λ (t : List ℕ). WritesText {T = Unit {0}} taken faults a c t (Err error)) (sym (before_more rows k d less))
    (writes_then taken faults a b c (text_before rows k) (table_row_text (row_of (slice_index_or rows k d))) tt (Err error) done row) in
    subst (λ (t : List ℕ). WritesText {T = Unit {0}} taken faults a c t (Err error)) (sym (before_rest rows (k + 1)))
    (writes_less taken faults a c (text_before rows (k + 1)) (table_rows_text (map row_of (drop (k + 1) rows))) error upto)

-- ---- the head, and the rows after it

pub table_parts : (t : TableOf) → table_text t ≡ table_head_text t.labels ++ table_rows_text t.rows
unfolding table_text
table_parts t = refl

pub part_none : (old text : List ℕ) → AppendsPart old old text
part_none old text = record { front = []; rest = text; whole = refl; is = sym (append-nil old) }

pub part_after : (old new head more text : List ℕ) → text ≡ head ++ more → AppendsPart (old ++ head) new more → AppendsPart old new text
part_after old new head more text is h = record {
  front = head ++ h.front;
  rest = h.rest;
  whole = is ∙ ap (λ x. head ++ x) h.whole ∙ sym (append_assoc head h.front h.rest);
  is = h.is ∙ append_assoc old head h.front;
}

pub whole_joined : (out mid new : List ℕ) (t : TableOf) (rows : List TableRow) → mid ≡ out ++ table_head_text t.labels → rows ≡ t.rows
    → new ≡ mid ++ table_rows_text rows → new ≡ out ++ table_text t
whole_joined out mid new t rows head is h =
    h ∙ ap (λ x. x ++ table_rows_text rows) head ∙ append_assoc out (table_head_text t.labels) (table_rows_text rows)
    ∙ ap (λ rs. out ++ (table_head_text t.labels ++ table_rows_text rs)) is ∙ ap (λ x. out ++ x) (sym (table_parts t))

pub part_joined : (out mid new : List ℕ) (t : TableOf) (rows : List TableRow) → mid ≡ out ++ table_head_text t.labels → rows ≡ t.rows
    → AppendsPart mid new (table_rows_text rows) → AppendsPart out new (table_text t)
part_joined out mid new t rows head is h =
    part_after out new (table_head_text t.labels) (table_rows_text t.rows) (table_text t) (table_parts t)
    (subst (λ m. AppendsPart m new (table_rows_text t.rows)) head (subst (λ rs. AppendsPart mid new (table_rows_text rs)) is h))

pub write_joined : {S : Type 0} (taken : S → Option (List ℕ)) (faults : S → ℕ) (a b c : S) (t : TableOf) (rows : List TableRow) (result : Result (Unit {0}) SinkErr) → rows ≡ t.rows
    → WritesText {T = Unit {0}} taken faults a b (table_head_text t.labels) (Ok tt) → WritesText taken faults b c (table_rows_text rows) result → WritesText taken faults a c (table_text t) result
write_joined taken faults a b c t rows result is head h =
    subst (λ (x : List ℕ). WritesText taken faults a c x result) (ap (λ rs. table_head_text t.labels ++ table_rows_text rs) is ∙ sym (table_parts t))
    (writes_then taken faults a b c (table_head_text t.labels) (table_rows_text rows) tt result head h)

pub write_none : {S : Type 0} (taken : S → Option (List ℕ)) (faults : S → ℕ) (a b : S) (t : TableOf) (error : SinkErr)
    → WritesText {T = Unit {0}} taken faults a b (table_head_text t.labels) (Err error) → WritesText {T = Unit {0}} taken faults a b (table_text t) (Err error)
write_none taken faults a b t error h =
    subst (λ (x : List ℕ). WritesText {T = Unit {0}} taken faults a b x (Err error)) (sym (table_parts t))
    (writes_less taken faults a b (table_head_text t.labels) (table_rows_text t.rows) error h)

-- ---- an answer that is no refusal, or one

pub ok_then : {T E A B : Type 0} (r : Result T E) → (A → B) → OnOk r A → OnOk r B
ok_then (Ok v) f h = f h
ok_then (Err e) f h = h

pub err_then : {T E A B : Type 0} (r : Result T E) → (A → B) → OnErr r A → OnErr r B
err_then (Ok v) f h = h
err_then (Err e) f h = f h
