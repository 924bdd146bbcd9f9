-- How many samples of a traced signal are known, as the code counts them.
use Rattle.std.proofs.Common.{◌≡◌, ◌∙◌, ◌<◌, ◌≤◌, ◌+◌, ◌-◌, ◌*◌, ◌/◌, ◌^◌, ◌&&◌, ℕ, nat_eq, nat_lt, Some, length, slice_get, sym, ap, arith}
use Rattle.std.proofs.Math.Nat.{div-mul-le_self, mul-le-mul_right, mul_comm}
use Rattle.std.specs.List.{count_by}
use Rattle.tdf_bind.specs.declared.model.Flat.{Flat}
use Rattle.tdf_bind_connections.specs.declared.modules.PortRow.{PortRow}
use Rattle.tdf_dynamic_plans.specs.Rates.{port_rate}
use Rattle.tdf_sim_resumed.specs.Below.{ClusterOf, IsClusterOf, due_before, turns_from}
use Rattle.tdf_schedule.specs.Plan.{done}
use Rattle.tdf_schedule.specs.declared.entry.Entry.{Entry}
use Rattle.tdf_sim_resumed.proofs.Api.{done_none}
use Rattle.tdf_sim_traces.specs.Periods.{positions_in, row_rate}
use Rattle.tdf_sim_traces.specs.declared.signals.TracedSignal.{TracedSignal}
use Rattle.tdf_sim_shown.proofs.Front.{few_fired, fired_before}
use Rattle.tdf_sim_shown.specs.machine.Windows.{row_delay, window_in}
use Rattle.tdf_trace_states.specs.declared.windows.Window.{Window}

module _ (flat : Flat) (c : ClusterOf) (t : TracedSignal) (since time fired rate : ℕ) (row : PortRow) (of : IsClusterOf flat c) (place : c.place ≡ due_before since time c.entries) (there : slice_get flat.tables.ports t.port ≡ Some row)
    (counted : fired ≡ count_by (λ (x : Entry). nat_eq x.actor t.«module» && nat_lt x.offset (time - since)) c.entries) (rated : rate ≡ port_rate c.table row) where
  fired_is : fired ≡ done c.entries c.place t.«module»
  fired_is = counted ∙ fired_before flat c of since time t.«module» place

  rate_is : rate ≡ row_rate c.table (slice_get flat.tables.ports t.port)
  rate_is = rated ∙ sym (ap (row_rate c.table) there)

  pub few_known : fired * rate ≤ positions_in flat.tables c t
  few_known =
      let f = fired_is in let w = few_fired flat c of c.place t.«module» in let z = done_none c.entries t.«module» in
      let m : fired * rate ≤ turns_from c.entries 0 (length c.entries) t.«module» * rate = mul-le-mul_right rate (omega (arith, f, w, z)) in
      let e = ap (λ k. turns_from c.entries 0 (length c.entries) t.«module» * k) rate_is in omega (arith, m, e)

  pub known_is : row.delay + fired * rate ≡ row_delay (slice_get flat.tables.ports t.port) + done c.entries c.place t.«module» * row_rate c.table (slice_get flat.tables.ports t.port)
  known_is =
      ap (λ k. row.delay + k * rate) fired_is
      ∙ ap (λ k. row.delay + done c.entries c.place t.«module» * k) rate_is
      ∙ sym (ap (λ o. row_delay o + done c.entries c.place t.«module» * row_rate c.table (slice_get flat.tables.ports t.port)) there)

  pub window_is : (period count known : ℕ) → period ≡ c.period → count ≡ positions_in flat.tables c t → known ≡ row.delay + fired * rate
      → ◌≡◌ {A = Window} (record { since = since; step = period / count; count = count; first = 0; known = known }) (window_in flat.tables since c t)
  window_is period count known p q k = λ i. record {
    since = since;
    step = (ap (λ n. n / count) p ∙ ap (λ n. c.period / n) q) i;
    count = q i;
    first = 0;
    known = (k ∙ known_is) i;
  }

pub room_is : (since period count : ℕ) → since + period < 2 ^ 64 → since + count * (period / count) < 2 ^ 64
room_is since period count short =
    let d : period / count * count ≤ period = div-mul-le_self period count in
    let m : period / count * count ≡ count * (period / count) = mul_comm (period / count) count in omega (arith, d, m, short)
