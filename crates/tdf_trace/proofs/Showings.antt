-- The cells of one signal, as they are noted.
use Rattle.std.proofs.Common.{◌≡◌, ℕ, Bool, true, false, nat_eq, ◌&&◌, ◌||◌, if◌then◌else◌, Option, Some, List, [], ◌∷◌, ◌++◌, refl, ap, sym, ◌∙◌}
use Rattle.std.proofs.lemmas.List.Folds.{list_any-append}
use Rattle.tdf_trace.specs.Traces.{is_among}
use Rattle.tdf_trace.specs.machine.Showing.{TakesCells, with_cells, with_signal}
use Rattle.tdf_fixed.specs.declared.raw.Raw.{Raw}
use Rattle.tdf_trace_rows.specs.Noted.{with_noted_cell}
use Rattle.tdf_trace_rows.specs.Rows.{Cells}
use Rattle.tdf_trace_rows.specs.declared.cell.Cell.{Cell}
use Rattle.tdf_trace.proofs.Alike.{stands_alike}
use Rattle.tdf_trace.specs.Stands.{RowsSeen, Stands, TakesCell}

abbrev pub cell_in : (column time : ℕ) → Option Raw → Cell
cell_in column time value = record { column = column; time = time; value = value }

pub none_taken : (time : ℕ) (value : Option Raw) (rows : RowsSeen) → TakesCells [] time value rows rows
none_taken time value rows cells h = h

-- one column more
one_more : (p q r : Bool) (v a : Option (Option Raw)) → (if q && r then v else (if p && r then v else a)) ≡ (if (p || (q || false)) && r then v else a)
one_more true true true v a = refl
one_more true true false v a = refl
one_more true false true v a = refl
one_more true false false v a = refl
one_more false true true v a = refl
one_more false true false v a = refl
one_more false false r v a = refl

pub more_taken : (columns : List ℕ) (c time : ℕ) (value : Option Raw) (first before after : RowsSeen) → TakesCells columns time value first before → TakesCell (cell_in c time value) before after
    → TakesCells (columns ++ c ∷ []) time value first after
more_taken columns c time value first before after took one cells h =
    stands_alike (with_noted_cell (with_cells columns time value cells) (cell_in c time value)) (with_cells (columns ++ c ∷ []) time value cells) after
    (λ below. record { columns = refl; first = λ d less. refl; cells = λ d s inside low. same d s }) (one (with_cells columns time value cells) (took cells h))
  where
    same : (d s : ℕ) → (with_noted_cell (with_cells columns time value cells) (cell_in c time value)).at d s ≡ (with_cells (columns ++ c ∷ []) time value cells).at d s
    same d s = one_more (is_among columns d) (nat_eq c d) (nat_eq time s) (Some value) (cells.at d s)
        ∙ ap (λ (p : Bool). if p && nat_eq time s then Some value else cells.at d s) (sym (list_any-append (λ k. nat_eq k d) columns (c ∷ [])))

-- cells of a signal that are the same at each time
pub same_signal : (columns : List ℕ) (cells : Cells) (f h : ℕ → Option (Option Raw)) (rows : RowsSeen) → ((time : ℕ) → f time ≡ h time)
    → Stands (with_signal columns cells f) rows → Stands (with_signal columns cells h) rows
same_signal columns cells f h rows same =
    stands_alike (with_signal columns cells f) (with_signal columns cells h) rows
    (λ below. record { columns = refl; first = λ c less. refl; cells = λ c s inside low. ap (λ o. if is_among columns c then o else cells.at c s) (same s) })

-- one cell more of a signal
both : (p q : Bool) (v a b o : Option (Option Raw)) → b ≡ (if q then v else a) → (if p && q then v else (if p then a else o)) ≡ (if p then b else o)
both true true v a b o e = sym e
both true false v a b o e = sym e
both false q v a b o e = refl

pub signal_taken : (columns : List ℕ) (cells : Cells) (f h : ℕ → Option (Option Raw)) (time : ℕ) (value : Option Raw) (before after : RowsSeen)
    → ((s : ℕ) → h s ≡ (if nat_eq time s then Some value else f s)) → TakesCells columns time value before after
    → Stands (with_signal columns cells f) before → Stands (with_signal columns cells h) after
signal_taken columns cells f h time value before after step took stands =
    stands_alike (with_cells columns time value (with_signal columns cells f)) (with_signal columns cells h) after
    (λ below. record { columns = refl; first = λ c less. refl; cells = λ c s inside low. both (is_among columns c) (nat_eq time s) (Some value) (f s) (h s) (cells.at c s) (step s) })
    (took (with_signal columns cells f) stands)
