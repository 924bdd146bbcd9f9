-- A run from its text begins with sound columns.
use Rattle.std.proofs.Common.{◌≡◌, ◌∙◌, ◌<◌, ◌+◌, ◌*◌, ℕ, Bool, true, false, if◌then◌else◌, Some, None, option_map, [], length, map, slice_get, slice_index, refl, ap, sym, subst, arith}
use Rattle.std.proofs.lemmas.List.Elements.{All-nil}
use Rattle.std.proofs.lemmas.List.FromFn.{length-map-range_with_len}
use Rattle.std.proofs.lemmas.Option.{get_or_from_slice_get, slice_get-map}
use Rattle.std.specs.List.{range_with_len}
use Rattle.std.specs.Prelude.{slice_index_or}
use Rattle.tdf_bind.specs.declared.model.Flat.{Flat}
use Rattle.tdf_bind_connections.specs.declared.drivers.SignalRow.{SignalRow}
use Rattle.tdf_bind_connections.specs.declared.modules.PortRow.{PortRow}
use Rattle.tdf_bind_connections.specs.declared.traces.TraceRow.{TraceRow}
use Rattle.tdf_dynamic_first.specs.declared.first.First.{First}
use Rattle.tdf_fixed.specs.declared.raw.Raw.{Raw}
use Rattle.tdf_sim_history.specs.Cells.{driver_of_row}
use Rattle.tdf_sim_history.specs.Columns.{ColumnStart, Stamp, no_start, start_of}
use Rattle.tdf_sim_history.specs.Instant.{periods_of}
use Rattle.tdf_sim_history.specs.Rules.{start_world}
use Rattle.tdf_sim_history.specs.Start.{first_cluster, starting_value, text_column, text_columns}
use Rattle.tdf_sim_history.specs.World.{ClusterAt}
use Rattle.tdf_sim_resumed.specs.Valid.{StartsWith}
use Rattle.tdf_sim_split.proofs.Starts.{first_at}
use Rattle.tdf_sim_split.specs.Columns.{BeginsIn, IsEventStart, IsSampleStart, TextsBeginWithColumns}
use Rattle.tdf_streams.proofs.Api.{get_inside}
use Rattle.tdf_streams.specs.Cluster.{driver_samples, initial_sample, initial_samples, zero_sample}
use Rattle.tdf_streams.specs.Periods.{PeriodRecord, done_before}
use Rattle.tdf_streams.specs.Signals.{rate_in, time_of_periods}
use Rattle.tdf_trace_states.specs.Windows.{AreChangesTo}

-- the start of a column is that of its row
start_is : (flat : Flat) (column : ℕ) (row : TraceRow) → slice_get flat.tables.traces column ≡ Some row → start_of (text_columns flat.tables) column ≡ text_column flat.tables row
start_is flat column row at = get_or_from_slice_get (text_columns flat.tables) column (text_column flat.tables row) no_start
    (slice_get-map (text_column flat.tables) flat.tables.traces column ∙ ap (option_map (text_column flat.tables)) at)

carry_is : (flat : Flat) (row : TraceRow) → row.event ≡ false → (text_column flat.tables row).carry ≡ None
carry_is flat row plain = ap (λ (b : Bool). if b then Some (starting_value (slice_get flat.tables.de_signals row.signal)) else None) plain

-- a signal of samples has its initial samples
sample_start : (flat : Flat) (number : ℕ) (port : PortRow) (row : TraceRow) (p : PeriodRecord) → row.event ≡ false → driver_of_row (slice_get flat.tables.signals row.signal) ≡ Some number → slice_get flat.tables.ports number ≡ Some port → p.counts ≡ p.info.counts
    → IsSampleStart 0 (text_column flat.tables row) port 0 p
sample_start flat number port row p plain driver port_is whole = record {
  rising = omega arith;
  early = All-nil (λ (x : Stamp). x.time < 0);
  within = omega arith;
  skips = λ i low. absurd (omega (arith, low));
  held = long ∙ none;
  none = λ z. carry_is flat row plain;
  some = λ some. absurd (omega (arith, some));
  first = λ z. refl;
}
  where
    long : 0 + length (text_column flat.tables row).ahead ≡ port.delay
    long =
        let a : length (text_column flat.tables row).ahead ≡ length (map (initial_sample flat.tables port) (range_with_len 0 port.delay)) = ap (λ o. length (driver_samples flat.tables o)) driver ∙ ap (λ o. length (initial_samples flat.tables o)) port_is in
        let b = length-map-range_with_len (initial_sample flat.tables port) 0 port.delay in omega (arith, a, b)

    none : port.delay ≡ port.delay + done_before p port.«module» * rate_in port p
    none =
        let e = ap (λ l. slice_index l port.«module») whole in
        let z : done_before p port.«module» ≡ 0 = omega (arith, e) in
        let m = ap (λ k. k * rate_in port p) z in
        let n : 0 * rate_in port p ≡ 0 = omega arith in omega (arith, m, n)

-- an event signal its starting value
event_start : (flat : Flat) (row : TraceRow) → row.event ≡ true → row.signal < length flat.tables.de_signals
    → IsEventStart 0 0 (text_column flat.tables row) (slice_get flat.tables.de_signals row.signal) (slice_index_or (map (λ (r : SignalRow). r.start) flat.tables.de_signals) row.signal zero_sample)
unfolding AreChangesTo
event_start flat row event inside =
    let r = get_inside flat.tables.de_signals row.signal inside in
    record {
      carry = r.0.start;
      carried = ap (λ (b : Bool). if b then Some (starting_value (slice_get flat.tables.de_signals row.signal)) else None) event ∙ ap (λ o. Some (starting_value o)) r.1;
      starts = λ z. subst (λ o. StartsWith o r.0.start.num) (sym r.1) refl;
      rising = omega arith;
      changes = ap (λ (v : Raw). v.num) (sym (get_or_from_slice_get (map (λ (s : SignalRow). s.start) flat.tables.de_signals) row.signal r.0.start zero_sample
          (slice_get-map (λ (s : SignalRow). s.start) flat.tables.de_signals row.signal ∙ ap (option_map (λ (s : SignalRow). s.start)) r.1)));
    }

column_same : (flat : Flat) (one other : TraceRow) → one.event ≡ other.event → one.signal ≡ other.signal → text_column flat.tables one ≡ text_column flat.tables other
column_same flat one other events signals = λ i. record {
  carry = if events i then Some (starting_value (slice_get flat.tables.de_signals (signals i))) else None;
  stamps = [];
  skipped = 0;
  ahead = driver_samples flat.tables (driver_of_row (slice_get flat.tables.signals (signals i)));
}

pub texts_begin : TextsBeginWithColumns
texts_begin model flat firsts ahead turns tells = record {
  within = omega arith;
  quiet = λ t low. absurd (omega (arith, low));
  timed = λ n c at. (let x = cluster_at n c at in subst (λ (d : ClusterAt). d.since ≡ d.origin + time_of_periods d.old) (sym x.1) refl);
  samples = λ s number port c shows at. (
      let x = cluster_at _ c at in
      subst (λ z. BeginsIn 0 z port c.origin (periods_of c)) (sym (start_is flat shows.column shows.row shows.there) ∙ shows.start_is)
      (subst (λ (d : ClusterAt). BeginsIn 0 (text_column flat.tables shows.row) port d.origin (periods_of d)) (sym x.1)
      (sample_start flat number port shows.row _ shows.plain shows.driver shows.port_is refl)));
  nothing = λ column row at plain none. ap (λ (s : ColumnStart). s.carry) (start_is flat column row at) ∙ carry_is flat row plain;
  events = λ column row at event. subst (λ s. IsEventStart 0 0 s (slice_get flat.tables.de_signals row.signal) (slice_index_or (map (λ (r : SignalRow). r.start) flat.tables.de_signals) row.signal zero_sample)) (sym (start_is flat column row at))
      (event_start flat row event (tells column row at event));
  alike = λ m n one other one_at other_at events signals. start_is flat m one one_at ∙ column_same flat one other events signals ∙ sym (start_is flat n other other_at);
}
  where
    cluster_at : (n : ℕ) (c : ClusterAt) → slice_get (start_world model flat firsts ahead turns).clusters n ≡ Some c → (first : First) × (c ≡ first_cluster model flat (n + 1) first (slice_index_or ahead n []))
    cluster_at n c at =
        let x = first_at (λ f. first_cluster model flat (f.0 + 1) f.1 (slice_index_or ahead f.0 [])) 0 firsts n c at in
        let z : 0 + n ≡ n = omega arith in
        (x.0, x.2 ∙ ap (λ k. first_cluster model flat (k + 1) x.0 (slice_index_or ahead k [])) z)
