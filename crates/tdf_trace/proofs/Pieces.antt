-- Texts that are put together piece by piece.
use Rattle.std.proofs.Common.{◌≡◌, ℕ, suc, ◌+◌, ◌<◌, List, [], ◌∷◌, ◌++◌, length, map, slice_index, slice_index_or, Option, None, refl, ap, sym, ◌∙◌, append_assoc, append-nil}
use Rattle.std.proofs.lemmas.List.{get_or-map, length-map}
use Rattle.tdf_io.proofs.Api.{pieces_more, pieces_none}
use Rattle.tdf_trace.specs.Columns.{ColumnSeen, before_row, shown_row}
use Rattle.tdf_trace.specs.Tables.{cell_in_row}
use Rattle.tdf_trace.specs.Writings.{labels_of, sizes_of}
use Rattle.tdf_trace.specs.declared.about.Variable.{Variable}

pub shown_at : (columns : List ColumnSeen) (i : ℕ) (d : ColumnSeen) → i < length columns → cell_in_row (shown_row columns) i ≡ (slice_index_or columns i d).shown
shown_at columns i d less = get_or-map (λ (c : ColumnSeen). c.shown) columns i d None less

pub before_at : (columns : List ColumnSeen) (i : ℕ) (d : ColumnSeen) → i < length columns → cell_in_row (before_row columns) i ≡ (slice_index_or columns i d).before
before_at columns i d less = get_or-map (λ (c : ColumnSeen). c.before) columns i d None less

pub label_at : (variables : List Variable) (i : ℕ) (d : Variable) → i < length variables → slice_index_or (labels_of variables) i [] ≡ (slice_index_or variables i d).label
label_at variables i d less = get_or-map (λ (v : Variable). v.label) variables i d [] less

pub size_at : (variables : List Variable) (i : ℕ) (d : Variable) → i < length variables → slice_index (sizes_of variables) i ≡ (slice_index_or variables i d).format.wl
size_at variables i d less = get_or-map (λ (v : Variable). v.format.wl) variables i d 0 less

pub ruleset variable_laws = (label_at, size_at, append_assoc)

pub ruleset cell_laws = (shown_at, before_at)

pub ruleset piece_laws = (pieces_none, pieces_more, append_assoc, append-nil)

pub ruleset text_laws = (append_assoc, append-nil, length-map)
