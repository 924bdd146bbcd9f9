-- A placed driver is a driver: how it stands at the start, and its times.
use Rattle.std.proofs.Common.{◌≡◌, ◌∙◌, ℕ, ◌+◌, ◌-◌, ◌<◌, true, false, List, map, length, Some, slice_index, refl, sym, ap, subst, arith, ℤ, pos}
use Rattle.std.proofs.lemmas.Option.{get_or_from_slice_get, slice_get-map, slice_get_within}
use Rattle.std.specs.Prelude.{option_map}
use Rattle.tdf_bind.specs.declared.model.Flat.{Flat}
use Rattle.tdf_bind_connections.specs.ProcessBlocks.{BlockRowOf, ProcessRowOf}
use Rattle.tdf_expr.specs.Made.{start_cells, start_rates}
use Rattle.tdf_expr_state.specs.State.{FrameState}
use Rattle.tdf_lang_tree.specs.Pure.{PureTree}
use Rattle.tdf_stim.specs.Signals.{Column}
use Rattle.tdf_stim_body.specs.Runs.{count_cell}
use Rattle.tdf_stim_history.specs.Driver.{DriverOf, IsDriverProcess, StartsDriver}
use Rattle.tdf_stim_history.specs.Rows.{HasOwnRow, HasRowTimes, IsEventOf}
use Rattle.tdf_stim_process.proofs.Others.{others_keep}
use Rattle.tdf_stim_process.proofs.Owned.{among_at, in_range_among, range_among}
use Rattle.tdf_stim_process.proofs.Running.{no_frame, own_drives, set_itself, with_rates}
use Rattle.tdf_stim_process.specs.Laws.{PlacedHasTimes, PlacedIsDriver}
use Rattle.tdf_stim_process.specs.Placed.{IsDriverIn, placed_driver, is_one_of}

module _ (model : PureTree) (flat : Flat) (columns : List Column) (times : List ℕ) (d : IsDriverIn model flat columns times) where
  abbrev the_driver : DriverOf
  the_driver = placed_driver model flat columns times d

  abbrev frame_of : BlockRowOf → FrameState
  frame_of row = record { cells = start_cells flat.checked row.block; rates = start_rates flat.checked row.block }

  process_is : IsDriverProcess the_driver flat.tables.processes
  process_is = record { row = d.row; at = d.run.at; signals = d.run.signals; events = λ e. refl }

  starts_is : StartsDriver the_driver flat
  starts_is =
      let inside : count_cell columns (length times) < length (start_cells flat.checked d.block.block) = (let e = d.instance.cells in omega (arith, e)) in
      record {
        starts = get_or_from_slice_get (map (λ (row : ProcessRowOf). row.starts) flat.tables.processes) d.process true false
            (slice_get-map (λ (row : ProcessRowOf). row.starts) flat.tables.processes d.process ∙ ap (option_map (λ (row : ProcessRowOf). row.starts)) d.run.at ∙ ap Some d.run.starts);
        held = get_or_from_slice_get (map frame_of flat.tables.blocks) d.owner (frame_of d.block) no_frame
            (slice_get-map frame_of flat.tables.blocks d.owner ∙ ap (option_map frame_of) d.instance.at)
            ∙ ap (λ (cells : List ℤ). with_rates cells (start_rates flat.checked d.block.block))
            (sym (set_itself (start_cells flat.checked d.block.block) (count_cell columns (length times)) (pos 0) (pos 0) d.instance.count inside));
        owner = slice_get_within flat.tables.blocks d.owner d.block d.instance.at;
        signals = λ x mine. (let found = among_at d.block.signals x mine in d.instance.signals found.0 x found.3);
        events = λ e mine. (let within = range_among d.first (length times - 1) e (subst (λ (es : List ℕ). is_one_of es e ≡ true) d.run.events mine) in
            let high = within.1 in let all = d.run.inside in omega (arith, high, all));
      }

  event_of : (row : ℕ) → 0 < row → row < length times → IsEventOf the_driver row (d.first + (row - 1))
  event_of row later less =
      let place : d.first + (row - 1) - d.first + 1 ≡ row = omega (arith, later) in
      record {
        own = ap (λ (es : List ℕ). is_one_of es (d.first + (row - 1))) d.run.events ∙ in_range_among d.first (length times - 1) (row - 1) (omega (arith, later, less));
        due = ap (slice_index times) place;
      }

  row_of : (e : ℕ) → is_one_of d.row.events e ≡ true → HasOwnRow the_driver e
  row_of e mine =
      let within = range_among d.first (length times - 1) e (subst (λ (es : List ℕ). is_one_of es e ≡ true) d.run.events mine) in
      let low = within.0 in
      let high = within.1 in
      record { row = e - d.first + 1; later = omega arith; within = omega (arith, low, high); due = refl }

  times_are : HasRowTimes the_driver
  times_are = record {
    some = d.rising.some;
    first = d.rising.start;
    rising = d.rising.rising;
    event = λ row later less. (d.first + (row - 1), event_of row later less);
    row = row_of;
  }

pub placed_has_times : PlacedHasTimes
placed_has_times = times_are

pub placed_is_driver : PlacedIsDriver
placed_is_driver model flat columns times d = record {
  runs = record {
    others = others_keep model flat columns times d.placed d.alone;
    own = own_drives model flat columns times d.placed;
  };
  process = process_is model flat columns times d.placed;
  sinks = d.sinks;
  starts = starts_is model flat columns times d.placed;
}
