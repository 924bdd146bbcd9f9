-- The text of a trace as a table is that of its table.
use Rattle.std.proofs.Common.{◌≡◌, ◌∙◌, ℕ, zero, suc, ◌+◌, List, [], ◌∷◌, ◌++◌, length, map, codes, sym, ap, refl, append-nil, append_assoc}
use Rattle.std.proofs.lemmas.List.{map-id}
use Rattle.std.proofs.lemmas.List.Folds.{flat_map-map}
use Rattle.std.specs.List.{flat_map}
use Rattle.std.specs.Prelude.{None, Option, slice_index_or}
use Rattle.tdf_base.specs.declared.resolution.Resolution.{Resolution}
use Rattle.tdf_base.specs.declared.resolution.Resolution.TheVariants.{Fs}
use Rattle.tdf_fixed.specs.Decimal.{seconds_text_at}
use Rattle.tdf_fixed.specs.declared.raw.Raw.{Raw}
use Rattle.tdf_io.specs.Bytes.{pieces_text}
use Rattle.tdf_sim_history.specs.Cells.{run_cells}
use Rattle.tdf_sim_history.specs.Rules.{rules_of, start_world}
use Rattle.tdf_sim_history.specs.Texts.{end_of}
use Rattle.tdf_sim_traces.specs.Variables.{variables_of}
use Rattle.tdf_tables.proofs.Api.{spaced_more, spaced_none}
use Rattle.tdf_tables.specs.Tables.{table_head_text, table_row_text, table_rows_text, table_text}
use Rattle.tdf_tables.specs.Words.{spaced}
use Rattle.tdf_tables_of_runs.proofs.Scale.{femtoseconds_at, time_same}
use Rattle.tdf_tables_of_runs.specs.Laws.{WritesItsTable}
use Rattle.tdf_tables_of_runs.specs.RunTables.{row_shown, trace_table}
use Rattle.tdf_trace.specs.Tables.{cell_piece, cell_text, label_piece, table_head, table_line, table_writing}
use Rattle.tdf_trace.specs.Writings.{labels_of}
use Rattle.tdf_trace_rows.specs.Laws.{AreRowTimes, row_times}
use Rattle.tdf_trace_rows.specs.Rows.{Cells, shown, text_from, trace_text}

-- ---- pieces are words

-- the pieces from the front
pieces_front : (piece : ℕ → List ℕ) (n : ℕ) → pieces_text piece (suc n) ≡ piece 0 ++ pieces_text (λ k. piece (suc k)) n
unfolding pieces_text
pieces_front piece zero = sym (append-nil (piece 0))
pieces_front piece (suc n) =
    ap (λ t. t ++ piece (suc n)) (pieces_front piece n)
    ∙ append_assoc (piece 0) (pieces_text (λ k. piece (suc k)) n) (piece (suc n))

no_pieces : (piece : ℕ → List ℕ) → pieces_text piece 0 ≡ []
unfolding pieces_text
no_pieces piece = refl

-- pieces of one space and a word are the words, each after one space
spaced_pieces : {A : Type 0} (word : A → List ℕ) (d : A) (xs : List A)
    → pieces_text (λ k. codes " " ++ word (slice_index_or xs k d)) (length xs) ≡ spaced (map word xs)
spaced_pieces word d [] = no_pieces (λ k. codes " " ++ word (slice_index_or [] k d)) ∙ sym spaced_none
spaced_pieces word d (x ∷ xs) =
    pieces_front (λ k. codes " " ++ word (slice_index_or (x ∷ xs) k d)) (length xs)
    ∙ ap (λ t. 32 ∷ (word x ++ t)) (spaced_pieces word d xs) ∙ sym (spaced_more (word x) (map word xs))

-- ---- head and rows

head_same : (labels : List (List ℕ)) → table_head labels ≡ table_head_text labels
unfolding table_head
head_same labels =
    let words : pieces_text (label_piece labels) (length labels) ≡ spaced labels =
    spaced_pieces (λ (label : List ℕ). label) [] labels ∙ ap spaced (map-id labels) in
    ap (λ t. codes "%time" ++ (t ++ codes "\n")) words

row_same : (resolution : Resolution) (time : ℕ) (before now : List (Option Raw))
    → table_line resolution time before now ≡ table_row_text (record { time = femtoseconds_at resolution time; cells = map cell_text now })
unfolding table_line
row_same resolution time before now =
    let words : pieces_text (cell_piece now) (length now) ≡ spaced (map cell_text now) = spaced_pieces cell_text None now in
    append_assoc (seconds_text_at resolution time) (pieces_text (cell_piece now) (length now)) (codes "\n")
    ∙ ap (λ t. t ++ (pieces_text (cell_piece now) (length now) ++ codes "\n")) (sym (time_same resolution time))
    ∙ ap (λ t. seconds_text_at Fs (femtoseconds_at resolution time) ++ (t ++ codes "\n")) words

each_same : {A B : Type 0} (f g : A → List B) → ((x : A) → f x ≡ g x) → (xs : List A) → flat_map f xs ≡ flat_map g xs
each_same f g same [] = refl
each_same f g same (x ∷ xs) = ap (λ t. t ++ flat_map f xs) (same x) ∙ ap (λ t. g x ++ t) (each_same f g same xs)

rows_same : AreRowTimes → (resolution : Resolution) (cells : Cells) (end : ℕ)
    → text_from (table_line resolution) cells 0 end ≡ table_rows_text (map (row_shown resolution cells) (row_times cells end))
unfolding table_rows_text
rows_same times resolution cells end =
    times (table_line resolution) cells end
    ∙ each_same (λ time. table_line resolution time (shown cells time) (shown cells (time + 1))) (λ time. table_row_text (row_shown resolution cells time))
    (λ time. row_same resolution time (shown cells time) (shown cells (time + 1))) (row_times cells end)
    ∙ sym (flat_map-map table_row_text (row_shown resolution cells) (row_times cells end))

-- ---- the trace

pub trace_is_table : AreRowTimes → (resolution : Resolution) (labels : List (List ℕ)) (cells : Cells) (end : ℕ)
    → trace_text (table_writing resolution labels) cells end ≡ table_text (trace_table resolution labels cells end)
unfolding table_text
trace_is_table times resolution labels cells end =
    append-nil (table_head labels ++ text_from (table_line resolution) cells 0 end)
    ∙ ap (λ t. table_head labels ++ t) (rows_same times resolution cells end)
    ∙ ap (λ t. t ++ table_rows_text (map (row_shown resolution cells) (row_times cells end))) (head_same labels)

pub run_writes_table : AreRowTimes → WritesItsTable
run_writes_table times model flat firsts ahead stop turns = trace_is_table times flat.resolution (labels_of (variables_of flat.tables))
    (run_cells model flat (rules_of model flat) (start_world model flat firsts ahead turns) (end_of model flat (rules_of model flat) (start_world model flat firsts ahead turns) stop))
    (end_of model flat (rules_of model flat) (start_world model flat firsts ahead turns) stop)
