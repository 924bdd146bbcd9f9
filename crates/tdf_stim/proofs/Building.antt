-- The lines of the driver, made one after the other.
use Rattle.std.proofs.Common.{◌≡◌, ◌∙◌, ℕ, ◌+◌, ◌<◌, ◌≤◌, List, [], ◌∷◌, ◌++◌, Option, Some, None, map, length, take, drop, get_or, append_assoc, append-nil, refl, sym, ap, subst, arith}
use Rattle.std.proofs.lemmas.List.{length-take-le, take_all, take_more}
use Rattle.tdf_lang_tree.specs.Pure.{PureDe, PureDeLine, PureProcess}
use Rattle.tdf_lang_tree.specs.declared.blocks.Member.{Member}
use Rattle.tdf_stim.proofs.ColumnLists.{binds_push, cells_after, cells_all, cells_here, count_is, count_push_none, count_push_some, labels_count, labels_push_none, labels_push_some, lines_more, lines_skip, number_more}
use Rattle.tdf_stim.specs.Driver.{bind_line, bind_lines, column_lines, columns_lines, count_line, driver_block, driver_process, event_line, event_numbers}
use Rattle.tdf_stim.specs.Signals.{Column, SourceOf, columns_from}
use Rattle.tdf_stim.specs.machine.Cells.{ColumnsUpTo, added_lines, first_words, number_after}
use Rattle.tdf_stim.specs.machine.Counted.{added_binds, count_driving, labels_in}
use Rattle.tdf_tables.specs.Tables.{TableRow}

pub columns_none : (rows : List TableRow) (sources : List (Option SourceOf)) (cells : List (List (List ℕ))) (old : List PureDeLine) → cells ≡ map (λ row. row.cells) rows
    → ColumnsUpTo rows sources 0 0 cells old old
unfolding columns_lines columns_from
columns_none rows sources cells old is = record {
  cells_are = is ∙ cells_all rows;
  number_is = refl;
  few = omega arith;
  lines_are = sym (append-nil old);
}

front_more : (sources : List (Option SourceOf)) (i : ℕ) (s : Option SourceOf) → i < length sources → s ≡ get_or sources i s → take (i + 1) sources ≡ take i sources ++ s ∷ []
front_more sources i s within here = take_more sources i s within ∙ ap (λ x. take i sources ++ x ∷ []) (sym here)

-- a column that drives
pub columns_more : (rows : List TableRow) (sources : List (Option SourceOf)) (i number : ℕ) (s : SourceOf) (cells after : List (List (List ℕ))) (old lines new : List PureDeLine)
    → i < length sources → Some s ≡ get_or sources i (Some s) → ColumnsUpTo rows sources i number cells old lines
    → new ≡ lines ++ column_lines number (record { label = s.label; shape = s.shape; start = s.start; cells = first_words cells })
    → after ≡ map (drop 1) cells → ColumnsUpTo rows sources (i + 1) (number + 1) after old new
columns_more rows sources i number s cells after old lines new within here h new_is after_is =
    let front = front_more sources i (Some s) within here in
    let long : i ≡ length (take i sources) = sym (length-take-le i sources (omega arith)) in
    let column : List (List ℕ) → Column = λ cs. record { label = s.label; shape = s.shape; start = s.start; cells = cs } in
    record {
      cells_are = after_is ∙ ap (map (drop 1)) h.cells_are ∙ cells_after i rows;
      number_is = ap (λ n. n + 1) h.number_is ∙ sym (number_more rows (take i sources) s) ∙ ap (λ ss. length (columns_from rows 0 ss)) (sym front);
      few = omega (arith, h.few);
      lines_are = new_is ∙ ap (λ l. l ++ column_lines number (column (first_words cells))) h.lines_are
          ∙ append_assoc old (columns_lines 0 (columns_from rows 0 (take i sources))) (column_lines number (column (first_words cells)))
          ∙ ap (λ cs. old ++ (columns_lines 0 (columns_from rows 0 (take i sources)) ++ column_lines number (column cs))) (ap first_words h.cells_are ∙ cells_here i rows)
          ∙ ap (λ l. old ++ l) (sym (lines_more rows i (take i sources) s number long h.number_is)
          ∙ ap (λ ss. columns_lines 0 (columns_from rows 0 ss)) (sym front));
    }

-- one that is ignored
pub columns_skip : (rows : List TableRow) (sources : List (Option SourceOf)) (i number : ℕ) (cells after : List (List (List ℕ))) (old lines : List PureDeLine)
    → i < length sources → None ≡ get_or sources i None → ColumnsUpTo rows sources i number cells old lines
    → after ≡ map (drop 1) cells → ColumnsUpTo rows sources (i + 1) number after old lines
columns_skip rows sources i number cells after old lines within here h after_is =
    let front = front_more sources i None within here in
    let same : columns_from rows 0 (take (i + 1) sources) ≡ columns_from rows 0 (take i sources) = ap (columns_from rows 0) front ∙ lines_skip rows (take i sources) in
    record {
      cells_are = after_is ∙ ap (map (drop 1)) h.cells_are ∙ cells_after i rows;
      number_is = h.number_is ∙ ap length (sym same);
      few = omega (arith, h.few);
      lines_are = h.lines_are ∙ ap (λ cs. old ++ columns_lines 0 cs) (sym same);
    }

-- a column, whether it drives or not
pub columns_step : (rows : List TableRow) (sources : List (Option SourceOf)) (i number next : ℕ) (s : Option SourceOf) (cells after : List (List (List ℕ))) (old lines new : List PureDeLine)
    → i < length sources → s ≡ get_or sources i s → ColumnsUpTo rows sources i number cells old lines
    → new ≡ lines ++ added_lines number s cells → next ≡ number_after number s → after ≡ map (drop 1) cells → ColumnsUpTo rows sources (i + 1) next after old new
columns_step rows sources i number next None cells after old lines new within here h new_is next_is after_is =
    subst (λ n. ColumnsUpTo rows sources (i + 1) n after old new) (sym next_is)
    (subst (λ l. ColumnsUpTo rows sources (i + 1) number after old l) (sym (new_is ∙ append-nil lines))
    (columns_skip rows sources i number cells after old lines within here h after_is))
columns_step rows sources i number next (Some s) cells after old lines new within here h new_is next_is after_is =
    subst (λ n. ColumnsUpTo rows sources (i + 1) n after old new) (sym next_is)
    (columns_more rows sources i number s cells after old lines new within here h new_is after_is)

pub columns_all : (rows : List TableRow) (sources : List (Option SourceOf)) (i number : ℕ) (cells : List (List (List ℕ))) (old lines : List PureDeLine) → length sources ≤ i
    → ColumnsUpTo rows sources i number cells old lines → lines ≡ old ++ columns_lines 0 (columns_from rows 0 sources)
columns_all rows sources i number cells old lines past h = h.lines_are ∙ ap (λ ss. old ++ columns_lines 0 (columns_from rows 0 ss)) (take_all i sources past)

-- a `bind` line, where a column drives
pub binds_step : (name : List ℕ) (sources : List (Option SourceOf)) (i number next : ℕ) (s : Option SourceOf) (old lines new : List Member) → i < length sources → s ≡ get_or sources i s
    → number ≡ count_driving (take i sources) → number ≤ i → lines ≡ old ++ bind_lines name 0 (labels_in (take i sources))
    → new ≡ lines ++ added_binds name number s → next ≡ number_after number s
    → (next ≡ count_driving (take (i + 1) sources)) × (next ≤ i + 1) × (new ≡ old ++ bind_lines name 0 (labels_in (take (i + 1) sources)))
binds_step name sources i number next None old lines new within here number_is few lines_are new_is next_is =
    let front = front_more sources i None within here in (
      next_is ∙ number_is ∙ sym (ap count_driving front ∙ count_push_none (take i sources)),
      omega (arith, next_is, few),
      new_is ∙ append-nil lines ∙ lines_are ∙ ap (λ ls. old ++ bind_lines name 0 ls) (sym (ap labels_in front ∙ labels_push_none (take i sources))),
    )
binds_step name sources i number next (Some s) old lines new within here number_is few lines_are new_is next_is =
    let front = front_more sources i (Some s) within here in
    let long : 0 + length (labels_in (take i sources)) ≡ number = omega (arith, number_is, labels_count (take i sources)) in (
      next_is ∙ ap (λ n. n + 1) number_is ∙ sym (ap count_driving front ∙ count_push_some (take i sources) s),
      omega (arith, next_is, few),
      new_is ∙ ap (λ l. l ++ bind_line name number s.label ∷ []) lines_are
          ∙ append_assoc old (bind_lines name 0 (labels_in (take i sources))) (bind_line name number s.label ∷ [])
          ∙ ap (λ l. old ++ l) (ap (λ k. bind_lines name 0 (labels_in (take i sources)) ++ bind_line name k s.label ∷ []) (sym long)
          ∙ sym (binds_push name 0 (labels_in (take i sources)) s.label)
          ∙ ap (bind_lines name 0) (sym (ap labels_in front ∙ labels_push_some (take i sources) s))),
    )

-- ---- the block

pub block_is : (name : List ℕ) (rows : List TableRow) (sources : List (Option SourceOf)) (times : List ℕ) (n m : ℕ) (b : PureDe) (decls : List PureDeLine) (process : PureProcess)
    → n ≡ count_driving sources → m ≡ length times → decls ≡ columns_lines 0 (columns_from rows 0 sources) ++ (count_line ∷ map event_line (event_numbers m))
    → process ≡ driver_process n times → b ≡ record { line = 0; name = name; decls = decls; processes = process ∷ [] } → b ≡ driver_block name (columns_from rows 0 sources) times
block_is name rows sources times n m b decls process n_is m_is decls_are process_is is =
    let columns = columns_from rows 0 sources in
    let block : List PureDeLine → PureProcess → PureDe = λ ds p. record { line = 0; name = name; decls = ds; processes = p ∷ [] } in
    is ∙ ap (λ ds. block ds process) (decls_are ∙ ap (λ k. columns_lines 0 columns ++ (count_line ∷ map event_line (event_numbers k))) m_is)
    ∙ ap (block (columns_lines 0 columns ++ (count_line ∷ map event_line (event_numbers (length times)))))
    (process_is ∙ ap (λ k. driver_process k times) (n_is ∙ sym (count_is rows 0 sources)))
