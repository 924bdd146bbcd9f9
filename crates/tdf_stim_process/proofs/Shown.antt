-- In a run the signal of each port has the value of its column's literal at a time.
use Rattle.std.proofs.Common.{◌≡◌, ◌<◌, ◌∙◌, ℕ, zero, suc, arith, List, [], ◌∷◌, length, Some, slice_get, refl, ap}
use Rattle.std.proofs.lemmas.Option.{get_or_from_slice_get}
use Rattle.tdf_expr_semantics.specs.Value.{literal_in}
use Rattle.tdf_lang_tree.specs.declared.names.Lit.{Lit}
use Rattle.tdf_stim.specs.Driver.{cell_literal, literals}
use Rattle.tdf_stim_history.proofs.Api.{history_drives, last_row_gives}
use Rattle.tdf_stim_history.specs.Literals.{literal_at}
use Rattle.tdf_stim_history.specs.Rows.{ShowsRow}
use Rattle.tdf_stim_process.proofs.Owned.{is_among_of}
use Rattle.tdf_stim_process.proofs.Running.{signal_value_is}
use Rattle.tdf_stim_process.proofs.Starting.{placed_has_times, placed_is_driver}
use Rattle.tdf_stim_process.specs.Laws.{PortsShowColumns}
use Rattle.tdf_stim_process.specs.Placed.{placed_driver, row_literal}

literals_long : (above : Lit) (cells : List (List ℕ)) → length (literals above cells) ≡ length cells
unfolding literals
literals_long above [] = refl
literals_long above (cell ∷ cells) = ap suc (literals_long (cell_literal above cell) cells)

has_item : (xs : List Lit) (n : ℕ) → n < length xs → (x : Lit) × (slice_get xs n ≡ Some x)
has_item [] n inside = absurd (omega (arith, inside))
has_item (x ∷ xs) zero inside = (x, refl)
has_item (x ∷ xs) (suc n) inside = has_item xs n (omega (arith, inside))

pub ports_show_columns : PortsShowColumns
ports_show_columns model flat columns times d firsts ahead turns time w on j signal c column at =
    let shows : ShowsRow (placed_driver model flat columns times d.placed) w.events.values time =
    history_drives (placed_driver model flat columns times d.placed) model flat firsts ahead turns time w (placed_is_driver model flat columns times d) (placed_has_times model flat columns times d.placed) on in
    let long : length (literals c.start c.cells) ≡ length times = literals_long c.start c.cells ∙ d.placed.instance.names.cells j c column in
    let within : shows.row < length times = shows.last.within in
    let same : literal_at times (literals c.start c.cells) time ≡ slice_get (literals c.start c.cells) shows.row =
    last_row_gives times (literals c.start c.cells) time shows.row long within shows.last.at shows.last.last in
    let item = has_item (literals c.start c.cells) shows.row (omega (arith, within, long)) in
    let is : row_literal c shows.row ≡ item.0 = get_or_from_slice_get (literals c.start c.cells) shows.row item.0 c.start item.1 in
    record {
      lit = item.0;
      literal = same ∙ item.1;
      value = shows.cells signal (is_among_of d.placed.block.signals signal j at)
          ∙ ap Some (signal_value_is d.placed.block.signals columns shows.row j signal c at column d.placed.instance.apart ∙ ap (literal_in (Some c.shape)) is);
    }
