-- Cells that are alike, one by one.
use Rattle.std.proofs.Common.{◌≡◌, ℕ, suc, ◌<◌, length, slice_get, Some, ◌∙◌, arith}
use Rattle.tdf_trace_rows.specs.Laws.{Agree}
use Rattle.tdf_trace_rows.proofs.Api.{last_same}
use Rattle.tdf_trace_rows.specs.Rows.{Cells}
use Rattle.tdf_trace.proofs.Places.{get_less}
use Rattle.tdf_trace.specs.Columns.{ColumnSeen}
use Rattle.tdf_trace.specs.Stands.{RowsSeen, Stands}

-- what stands for some cells stands for all that agree with them
pub stands_alike : (g h : Cells) (rows : RowsSeen) → ((below : ℕ) → Agree g h below) → Stands g rows → Stands h rows
stands_alike g h rows alike stands = record {
  count = stands.count ∙ (alike 0).columns;
  held = λ c t column here low. stands.held c t column here low ∙ (alike (suc t)).cells c t (inside c column here) (omega arith);
  shown = λ c column here. stands.shown c column here ∙ last_same g h rows.upto c rows.upto (alike rows.upto) (inside c column here) (omega arith);
}
  where
    inside : (c : ℕ) (column : ColumnSeen) → slice_get rows.columns c ≡ Some column → c < g.columns
    inside c column here = let l : c < length rows.columns = get_less rows.columns c column here in let n : length rows.columns ≡ g.columns = stands.count in omega (arith, l, n)
