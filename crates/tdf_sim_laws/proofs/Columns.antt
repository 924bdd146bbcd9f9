-- A column from the text's start on.
use Rattle.std.proofs.Common.{◌≡◌, ◌∙◌, ℕ, zero, suc, ◌+◌, ◌-◌, ◌*◌, if◌then◌else◌, List, [], ◌∷◌, Some, None, option_map, length, map, nat_lt, slice_get, refl, ap, sym, inl, inr, arith}
use Rattle.std.proofs.lemmas.Bool.{cases_lt, le-ltb, lt-ltb}
use Rattle.std.proofs.lemmas.List.FromFn.{length-map-range_with_len}
use Rattle.std.proofs.lemmas.Option.{get_or_from_slice_get, slice_get-map}
use Rattle.std.specs.List.{range_with_len}
use Rattle.std.specs.Prelude.{slice_index, slice_index_or}
use Rattle.tdf_bind_connections.specs.declared.drivers.SignalRow.{SignalRow}
use Rattle.tdf_fixed.specs.declared.raw.Raw.{Raw}
use Rattle.tdf_sim_history.specs.Cells.{driver_of_row, outputs_done, spans_from}
use Rattle.tdf_sim_history.specs.Columns.{ColumnStart, held_by, no_start, spans_to}
use Rattle.tdf_sim_history.specs.History.{history}
use Rattle.tdf_sim_history.specs.Start.{starting_value, text_column}
use Rattle.tdf_sim_laws.specs.Columns.{TextColumns}
use Rattle.tdf_streams.proofs.Api.{get_made_at}
use Rattle.tdf_streams.specs.Cluster.{driver_samples, initial_sample, initial_samples, zero_sample}
use Rattle.tdf_streams.specs.Signals.{outputs_in, port_output, positions, rate_in, step_in}
use Rattle.tdf_trace_rows.specs.Positions.{span_of}

starts_at : (rows : List SignalRow) (k : ℕ) → starting_value (slice_get rows k) ≡ slice_index_or (map (λ (r : SignalRow). r.start) rows) k zero_sample
starts_at [] k = refl
starts_at (r ∷ rows) zero = refl
starts_at (r ∷ rows) (suc k) = starts_at rows k

pub text_columns_are : TextColumns
unfolding spans_to held_by history
text_columns_are = record {
  spans = λ tables row port p ps. (
      let z : 0 + 0 * step_in port p ≡ 0 = omega arith in
      let c : positions port p - 0 ≡ positions port p = omega arith in
      ap (λ t. span_of t (step_in port p) (positions port p - 0) ∷ spans_from port (0 + p.info.period) ps) z
      ∙ ap (λ n. span_of 0 (step_in port p) n ∷ spans_from port (0 + p.info.period) ps) c);
  holds = λ tables row port p ps same. (
      let e : outputs_in port p ≡ positions port p = ap (λ c. slice_index c port.«module» * rate_in port p) same in
      (omega arith, omega (arith, e)));
  samples = λ tables row port periods number j past driver at. (
      let e : driver_samples tables (driver_of_row (slice_get tables.signals row.signal)) ≡ map (initial_sample tables port) (range_with_len 0 port.delay)
      = ap (driver_samples tables) driver ∙ ap (initial_samples tables) at in
      let l : length (map (initial_sample tables port) (range_with_len 0 port.delay)) ≡ port.delay = length-map-range_with_len (initial_sample tables port) 0 port.delay in
      ap (λ (xs : List Raw). if nat_lt j (length xs) then slice_get xs j else port_output periods port number past (j - length xs)) e
      ∙ ap (λ n. if nat_lt j n then slice_get (map (initial_sample tables port) (range_with_len 0 port.delay)) j else port_output periods port number past (j - n)) l
      ∙ elim (cases_lt j port.delay) [
        | inl low ↦ (
            let z : 0 + j ≡ j = omega arith in
            let m = get_made_at (initial_sample tables port) 0 port.delay j low ∙ ap (λ k. Some (initial_sample tables port k)) z in
            ap (λ (b : _). if b then slice_get (map (initial_sample tables port) (range_with_len 0 port.delay)) j else port_output periods port number past (j - port.delay)) (lt-ltb j port.delay low)
            ∙ m ∙ sym (ap (λ (b : _). if b then Some (initial_sample tables port j) else port_output periods port number past (j - port.delay)) (lt-ltb j port.delay low)))
        | inr past_it ↦
            (ap (λ (b : _). if b then slice_get (map (initial_sample tables port) (range_with_len 0 port.delay)) j else port_output periods port number past (j - port.delay)) (le-ltb j port.delay past_it)
            ∙ sym (ap (λ (b : _). if b then Some (initial_sample tables port j) else port_output periods port number past (j - port.delay)) (le-ltb j port.delay past_it)))
      ]);
  many = λ tables row port number c driver at. (
      let e : driver_samples tables (driver_of_row (slice_get tables.signals row.signal)) ≡ map (initial_sample tables port) (range_with_len 0 port.delay)
      = ap (driver_samples tables) driver ∙ ap (initial_samples tables) at in
      ap (λ n. n + outputs_done port c) (ap length e ∙ length-map-range_with_len (initial_sample tables port) 0 port.delay));
  carry = λ model flat firsts ahead turns column row at.
      ap (λ (s : ColumnStart). s.carry) (get_or_from_slice_get (map (text_column flat.tables) flat.tables.traces) column (text_column flat.tables row) no_start
      (slice_get-map (text_column flat.tables) flat.tables.traces column ∙ ap (option_map (text_column flat.tables)) at))
      ∙ ap (λ v. if row.event then Some v else None) (starts_at flat.tables.de_signals row.signal);
}
