-- How many samples go through an edge in one firing.
use Rattle.std.proofs.Common.{◌≡◌, ◌∙◌, ◌≢◌, ℕ, suc, ◌<◌, ◌≤◌, Bool, true, false, Option, Some, None, option_map, refl, if◌then◌else◌, List, [], ◌∷◌, length, ap, sym, subst, inl, inr, ◌⊎◌, arith, slice_get, slice_index}
use Rattle.std.proofs.lemmas.Bool.{cases_eq, eq-eqb, ne_eqb}
use Rattle.std.proofs.lemmas.Option.{slice_get-map}
use Rattle.std.specs.Prelude.{All}
use Rattle.tdf_bind_tables.specs.FlatTables.{FlatTablesOf}
use Rattle.tdf_dynamic_plans.specs.Attributes.{AttrsOf, attrs_at}
use Rattle.tdf_dynamic_plans.specs.Rates.{edge_kind, kind_of_port, net_of, net_ports, port_rate, rate_by, rated_edge, rated_port, read_rate_by, write_rate_by}
use Rattle.tdf_expr.specs.Frames.{is_written}
use Rattle.tdf_expr.specs.Made.{start_rates}
use Rattle.tdf_expr.specs.declared.spans.PortSpan.{PortSpan}
use Rattle.tdf_exec_firing.specs.Wires.{WiresOf}
use Rattle.tdf_exec_firing.specs.declared.wires.InWire.{InWire}
use Rattle.tdf_exec_firing.specs.declared.wires.OutWire.{OutWire}
use Rattle.tdf_bind_invariants.specs.Below.{Flat, IsFlatOf}
use Rattle.tdf_streams.proofs.Api.{none_some, some_same}
use Rattle.tdf_bind_invariants.specs.Formats.{IsSoundModel, PortsHaveFormats}
use Rattle.tdf_graph.specs.declared.actors.Edge.{Edge}
use Rattle.tdf_exec_layout.proofs.Edges.{edge_row}
use Rattle.tdf_exec_layout.proofs.Rows.{all_at, index_map}
use Rattle.tdf_exec_layout.proofs.Wired.{InSpan, IsAtPlace, OutSpan, at_place, in_span, out_span, spans_at}
use Rattle.tdf_exec_layout.specs.Edges.{IsBetween, IsEdgeRow, IsFromSampler, IsToSink}
use Rattle.tdf_exec_layout.specs.Rates.{AreRatesOf, PortsSetRates, RatesAreWithin, SamplersPutOne, SinksTakeOne}
use Rattle.tdf_exec_layout.specs.Wiring.{AreWiresOf}
use Rattle.tdf_bind_invariants.proofs.Api.{starts_are_allowed}
use Rattle.tdf_bind_invariants.specs.Limits.{AreWithinLimits, FlatIsWithinLimits, IsAlwaysRate, limits_in}
use Rattle.tdf_expr_semantics.specs.Fits.{RatesFit}
use Rattle.tdf_streams.specs.Periods.{HasAllowedRates, read_rates, write_rates}
use Rattle.tdf_streams.specs.Places.{driver_or, place_of_port}
use Rattle.tdf_timestep.specs.Period.{port_rate_or_one, rate_at_port}
use Rattle.tdf_lang_tree.specs.Pure.{PureTree}
use Rattle.tdf_lang_tree.specs.declared.blocks.PortKind.{PortKind}
use Rattle.tdf_lang_tree.specs.declared.blocks.PortKind.TheVariants.{In, DeIn, DeOut}
use Rattle.tdf_bind_connections.specs.declared.edges.EdgeRow.{EdgeRow}
use Rattle.tdf_bind_connections.specs.declared.modules.ModuleRow.{ModuleRow}
use Rattle.tdf_bind_connections.specs.declared.modules.PortRow.{PortRow}

abbrev IsOn : Bool → Type 0
IsOn true = Unit {0}
IsOn false = ⊥

module _ (tables : FlatTablesOf) (table : List AttrsOf) where
  edge_there : (e : ℕ) (edge : EdgeRow) → slice_get tables.edges e ≡ Some edge → slice_get (net_of tables table).edges e ≡ Some (rated_edge tables.ports (net_ports tables table) edge)
  unfolding net_of
  edge_there e edge at = slice_get-map (rated_edge tables.ports (net_ports tables table)) tables.edges e ∙ ap (option_map (rated_edge tables.ports (net_ports tables table))) at

  rate_is : (number : ℕ) (port : PortRow) → slice_get tables.ports number ≡ Some port → rate_at_port (net_ports tables table) (Some number) ≡ port_rate table port
  unfolding net_ports
  rate_is number port at = ap port_rate_or_one (slice_get-map (rated_port table) tables.ports number ∙ ap (option_map (rated_port table)) at)

  rates : (e : ℕ) (edge : EdgeRow) (port : PortRow) (kind : PortKind) → slice_get tables.edges e ≡ Some edge → slice_get tables.ports edge.port ≡ Some port → port.kind ≡ kind
      → AreRatesOf tables table e (read_rate_by (net_ports tables table) edge (Some kind)) (write_rate_by (net_ports tables table) edge (Some kind))
  rates e edge port kind at port_at kind_is =
      let word : edge_kind tables.ports edge ≡ Some kind = ap kind_of_port port_at ∙ ap Some kind_is in
      record {
        read = index_map (λ (x : Edge). x.read_rate) (net_of tables table).edges e (rated_edge tables.ports (net_ports tables table) edge) (edge_there e edge at)
            ∙ ap (read_rate_by (net_ports tables table) edge) word;
        written = index_map (λ (x : Edge). x.write_rate) (net_of tables table).edges e (rated_edge tables.ports (net_ports tables table) edge) (edge_there e edge at)
            ∙ ap (write_rate_by (net_ports tables table) edge) word;
      }

  pub between_rates : (e : ℕ) (edge : EdgeRow) (port : PortRow) (out : ℕ) (driver : PortRow) → slice_get tables.edges e ≡ Some edge → IsBetween tables edge port out driver
      → AreRatesOf tables table e (port_rate table port) (port_rate table driver)
  between_rates e edge port out driver at h = let r = rates e edge port In at h.port_at h.port_kind in record {
    read = r.read ∙ rate_is edge.port port h.port_at;
    written = r.written ∙ ap (rate_at_port (net_ports tables table)) h.driven ∙ rate_is out driver h.driver_at;
  }

  pub sampler_rates : (e : ℕ) (edge : EdgeRow) (port : PortRow) → slice_get tables.edges e ≡ Some edge → IsFromSampler tables edge port → AreRatesOf tables table e (port_rate table port) 1
  sampler_rates e edge port at h = let r = rates e edge port DeIn at h.port_at h.port_kind in record { read = r.read ∙ rate_is edge.port port h.port_at; written = r.written }

  pub sink_rates : (e : ℕ) (edge : EdgeRow) (port : PortRow) → slice_get tables.edges e ≡ Some edge → IsToSink tables edge port → AreRatesOf tables table e 1 (port_rate table port)
  sink_rates e edge port at h = let r = rates e edge port DeOut at h.port_at h.port_kind in record { read = r.read; written = r.written ∙ rate_is edge.port port h.port_at }

-- the attributes of a module that a table has
found : (P : AttrsOf → Type 0) (table : List AttrsOf) (m : ℕ) (attrs : AttrsOf) → All P table → attrs_at table m ≡ Some attrs → (attrs.number ≡ m) × P attrs
found P [] m attrs all is = none_some attrs is
found P (x ∷ table) m attrs all is = by_number (cases_eq x.number m) (λ h. found P table m attrs (λ k d inside. all (suc k) d (omega (arith, inside))) h)
  where
    by_number : (x.number ≡ m) ⊎ (x.number ≢ m) → (attrs_at table m ≡ Some attrs → (attrs.number ≡ m) × P attrs) → (attrs.number ≡ m) × P attrs
    by_number (inl same) rest =
        let one : x ≡ attrs = some_same x attrs (ap (λ b. if b then Some x else attrs_at table m) (sym (eq-eqb x.number m same)) ∙ is) in
        (ap (λ (a : AttrsOf). a.number) (sym one) ∙ same, subst P one (all 0 x (omega arith)))
    by_number (inr other) rest = rest (ap (λ b. if b then Some x else attrs_at table m) (sym (ne_eqb x.number m other)) ∙ is)

module _ (formats : PortsHaveFormats) (limited : FlatIsWithinLimits) (model : PureTree) (flat : Flat) (sound : IsSoundModel model) (is : IsFlatOf model flat)
    (table : List AttrsOf) (m : ℕ) (allowed : All (HasAllowedRates flat) table) where
  limits : AreWithinLimits flat
  limits = limited model flat sound.kept sound.types is

  -- a port has a place for one sample at least
  some_place : (number : ℕ) (port : PortRow) → slice_get flat.tables.ports number ≡ Some port → (h : IsAtPlace formats model flat sound is number port) → 1 ≤ h.span.count
  some_place number port at h = by_row (slice_get flat.tables.modules port.«module») refl
    where
      by_row : (o : Option ModuleRow) → slice_get flat.tables.modules port.«module» ≡ o → 1 ≤ h.span.count
      by_row None none = none_some _ (sym none ∙ (formats model flat sound is number port at).module_is)
      by_row (Some row) there =
          let fit : RatesFit (limits_in flat.checked (slice_get flat.tables.modules port.«module»)) (start_rates flat.checked row.block) =
          subst (λ o. RatesFit (limits_in flat.checked o) (start_rates flat.checked row.block)) (sym there) (starts_are_allowed flat.checked (limits.checked_is) row.block) in
          let rate = all_at (λ (p : PortRow). IsAlwaysRate (limits_in flat.checked (slice_get flat.tables.modules p.«module»)) p.rate) flat.tables.ports number port limits.always at (start_rates flat.checked row.block) fit in
          let low = rate.some in
          let high = h.wide (start_rates flat.checked row.block) fit in
          omega (arith, low, high)

  -- the rate of a port of the module
  port_within : (number : ℕ) (port : PortRow) (p : PortSpan) → slice_get flat.tables.ports number ≡ Some port → port.«module» ≡ m
      → slice_get (spans_at formats model flat sound is m) (place_of_port flat.tables.ports number) ≡ Some p → port_rate table port ≤ p.count
  port_within number port p at own pat = subst (λ (s : PortSpan). port_rate table port ≤ s.count) same (by_attrs (attrs_at table port.«module») refl)
    where
      h : IsAtPlace formats model flat sound is number port
      h = at_place formats model flat sound is number port at

      same : h.span ≡ p
      same = some_same h.span p (sym h.at ∙ ap (λ n. slice_get (spans_at formats model flat sound is n) (place_of_port flat.tables.ports number)) own ∙ pat)

      by_attrs : (o : Option AttrsOf) → attrs_at table port.«module» ≡ o → port_rate table port ≤ h.span.count
      by_attrs None none = subst (λ n. n ≤ h.span.count) (sym (ap (rate_by port) none)) (some_place number port at h)
      by_attrs (Some attrs) there =
          let a = found (HasAllowedRates flat) table port.«module» attrs allowed there in
          subst (λ n. n ≤ h.span.count) (sym (ap (rate_by port) there))
          (h.wide attrs.rates (subst (λ n. RatesFit (limits_in flat.checked (slice_get flat.tables.modules n)) attrs.rates) a.0 a.1))

  module _ (wires : WiresOf) (below : m < length flat.tables.modules) (are : AreWiresOf flat.tables m wires) where
    pub in_within : (j : ℕ) (w : InWire) (p : PortSpan) → slice_get wires.ins j ≡ Some w → slice_get (spans_at formats model flat sound is m) w.port ≡ Some p
        → slice_index (read_rates (net_of flat.tables table)) w.edge ≤ p.count
    in_within j w p at pat = by_row (in_span formats model flat sound is m below wires are j w at)
      where
        by_port : (h : InSpan formats model flat sound is m below wires are w) (port : PortRow) → slice_get flat.tables.ports h.edge.port ≡ Some port → port_rate table port ≤ p.count
        by_port h port there = subst (λ (x : PortRow). port_rate table x ≤ p.count) (some_same h.read.port port (sym h.read.at ∙ there))
            (port_within h.edge.port h.read.port p h.read.at h.read.own (ap (slice_get (spans_at formats model flat sound is m)) (sym h.place) ∙ pat))

        by_edge : (h : InSpan formats model flat sound is m below wires are w) → IsEdgeRow flat.tables h.edge → slice_index (read_rates (net_of flat.tables table)) w.edge ≤ p.count
        by_edge h (IsEdgeRow.Between port out driver k) =
            subst (λ n. n ≤ p.count) (sym (between_rates flat.tables table w.edge h.edge port out driver h.at k).read) (by_port h port k.port_at)
        by_edge h (IsEdgeRow.FromSampler port k) = subst (λ n. n ≤ p.count) (sym (sampler_rates flat.tables table w.edge h.edge port h.at k).read) (by_port h port k.port_at)
        by_edge h (IsEdgeRow.ToSink port k) =
            absurd (subst IsOn (sym (ap is_written k.port_kind) ∙ ap (λ (x : PortRow). is_written x.kind) (some_same port h.read.port (sym k.port_at ∙ h.read.at)) ∙ h.read.word) tt)

        by_row : InSpan formats model flat sound is m below wires are w → slice_index (read_rates (net_of flat.tables table)) w.edge ≤ p.count
        by_row h = by_edge h (edge_row model flat is w.edge h.edge h.at)

    pub out_within : (j : ℕ) (w : OutWire) (p : PortSpan) → slice_get wires.outs j ≡ Some w → slice_get (spans_at formats model flat sound is m) w.port ≡ Some p
        → slice_index (write_rates (net_of flat.tables table)) w.edge ≤ p.count
    out_within j w p at pat = by_row (out_span formats model flat sound is m below wires are j w at)
      where
        by_port : (h : OutSpan formats model flat sound is m below wires are w) (port : PortRow) → slice_get flat.tables.ports (driver_or h.edge.port h.edge.driver) ≡ Some port → port_rate table port ≤ p.count
        by_port h port there = subst (λ (x : PortRow). port_rate table x ≤ p.count) (some_same h.written.port port (sym h.written.at ∙ there))
            (port_within (driver_or h.edge.port h.edge.driver) h.written.port p h.written.at h.written.own (ap (slice_get (spans_at formats model flat sound is m)) (sym h.place) ∙ pat))

        by_edge : (h : OutSpan formats model flat sound is m below wires are w) → IsEdgeRow flat.tables h.edge → slice_index (write_rates (net_of flat.tables table)) w.edge ≤ p.count
        by_edge h (IsEdgeRow.Between port out driver k) =
            subst (λ n. n ≤ p.count) (sym (between_rates flat.tables table w.edge h.edge port out driver h.at k).written)
            (by_port h driver (ap (λ o. slice_get flat.tables.ports (driver_or h.edge.port o)) k.driven ∙ k.driver_at))
        by_edge h (IsEdgeRow.FromSampler port k) =
            let there : slice_get flat.tables.ports (driver_or h.edge.port h.edge.driver) ≡ Some port = ap (λ o. slice_get flat.tables.ports (driver_or h.edge.port o)) k.not_driven ∙ k.port_at in
            absurd (subst IsOn (sym h.written.word ∙ ap (λ (x : PortRow). is_written x.kind) (some_same h.written.port port (sym h.written.at ∙ there)) ∙ ap is_written k.port_kind) tt)
        by_edge h (IsEdgeRow.ToSink port k) =
            subst (λ n. n ≤ p.count) (sym (sink_rates flat.tables table w.edge h.edge port h.at k).written)
            (by_port h port (ap (λ o. slice_get flat.tables.ports (driver_or h.edge.port o)) k.not_driven ∙ k.port_at))

        by_row : OutSpan formats model flat sound is m below wires are w → slice_index (write_rates (net_of flat.tables table)) w.edge ≤ p.count
        by_row h = by_edge h (edge_row model flat is w.edge h.edge h.at)

pub ports_set_rates : PortsSetRates
ports_set_rates tables table e edge port out driver at h = between_rates tables table e edge port out driver at h

pub samplers_put_one : SamplersPutOne
samplers_put_one tables table e edge port at h = sampler_rates tables table e edge port at h

pub sinks_take_one : SinksTakeOne
sinks_take_one tables table e edge port at h = sink_rates tables table e edge port at h

pub rates_are_within : PortsHaveFormats → FlatIsWithinLimits → RatesAreWithin
rates_are_within formats limited model flat table m wires sound is allowed below are = record {
  read = in_within formats limited model flat sound is table m allowed wires below are;
  written = out_within formats limited model flat sound is table m allowed wires below are;
}
