-- A new plan of a cluster leaves the edges and actors of other clusters as they are.
use Rattle.std.proofs.Common.{◌≡◌, ◌≢◌, ◌∙◌, ◌⊎◌, inl, inr, ℕ, ◌<◌, List, [], Option, Some, true, length, map, refl, sym, ap, subst, arith}
use Rattle.std.proofs.lemmas.List.{get_or_default, length-map}
use Rattle.std.proofs.lemmas.Option.{get_or_from_slice_get, slice_get-get_or, slice_get-map, slice_get_within}
use Rattle.std.specs.Option.{option_map}
use Rattle.std.specs.Prelude.{slice_get, slice_index}
use Rattle.tdf_bind.specs.declared.model.Flat.{Flat}
use Rattle.tdf_bind_connections.specs.declared.edges.EdgeRow.{EdgeRow}
use Rattle.tdf_bind_invariants.specs.Limits.{AreWithinLimits}
use Rattle.tdf_bind_tables.specs.FlatTables.{FlatTablesOf}
use Rattle.tdf_cluster_net.specs.Numbers.{AllBelow}
use Rattle.tdf_cluster_plans.proofs.Api.{reads_elsewhere, writes_elsewhere}
use Rattle.tdf_dynamic_plans.specs.Attributes.{AttrsOf, clusters_of}
use Rattle.tdf_dynamic_plans.specs.Faults.{IsTablePlan}
use Rattle.tdf_dynamic_plans.specs.Known.{AttrsTable}
use Rattle.tdf_dynamic_plans.specs.Rates.{net_of, net_ports, rated_edge}
use Rattle.tdf_exec.proofs.EndPorts.{ports_inside}
use Rattle.tdf_exec.proofs.Own.{own_has_room}
use Rattle.tdf_exec.specs.Cluster.{ClusterOf}
use Rattle.tdf_exec.specs.Crossing.{IsReadyFor}
use Rattle.tdf_exec.specs.declared.runners.Runner.{Runner}
use Rattle.tdf_exec.specs.declared.runners.Runner.TheVariants as runner
use Rattle.tdf_exec.specs.machine.Laid.{IsLaid}
use Rattle.tdf_exec.specs.machine.Restarting.{AreRestarted, IsRestarted}
use Rattle.tdf_graph.specs.declared.actors.Edge.{Edge}
use Rattle.tdf_places.proofs.Api.{gathered, spread_elsewhere, spread_long, spread_nowhere, spread_there, stands}
use Rattle.tdf_places.specs.Places.{IsNowhere, PlacesOf, StandApart}
use Rattle.tdf_places.specs.Spread.{spread}
use Rattle.tdf_rings.specs.Carried.{AreCarried, ring_at}
use Rattle.tdf_rings.specs.Rings.{RingOf, ring_of}
use Rattle.tdf_schedule.specs.Laws.{PlansArePresent}
use Rattle.tdf_schedule.specs.declared.entry.Plan.{Plan}
use Rattle.tdf_streams.proofs.Api.{get_inside, table_record}
use Rattle.tdf_streams.specs.Laws.{HasRecord}
use Rattle.tdf_streams.specs.Periods.{read_rates, write_rates}
use Rattle.tdf_streams.specs.Places.{writer_of_row}

-- an edge of another cluster has no room
module _ (tables : FlatTablesOf) (cluster : ℕ) (rows : List AttrsOf) (plan : Plan) (is : IsTablePlan tables cluster rows plan) (e : ℕ) (edge : EdgeRow) (at : slice_get tables.edges e ≡ Some edge) where
  net_edge_at : slice_get (net_of tables rows).edges e ≡ Some (rated_edge tables.ports (net_ports tables rows) edge)
  unfolding net_of
  net_edge_at = slice_get-map (rated_edge tables.ports (net_ports tables rows)) tables.edges e ∙ ap (option_map (rated_edge tables.ports (net_ports tables rows))) at

  pub no_room : slice_index (clusters_of tables) edge.writer ≢ cluster → slice_index plan.bounds.items e ≡ 0
  no_room other = is.plan_is.planned.outside e (rated_edge tables.ports (net_ports tables rows) edge) net_edge_at (is.timing.counts_are.counts_are.outside edge.writer other)

-- an edge to which the plan gives no room is one
other_edge : (law : PlansArePresent) (flat : Flat) (limits : AreWithinLimits flat) (number : ℕ) (table : List AttrsOf) (plan : Plan) → HasRecord flat number table plan true
    → (e : ℕ) (edge : EdgeRow) → slice_get flat.tables.edges e ≡ Some edge → slice_index plan.bounds.items e ≡ 0 → slice_index (clusters_of flat.tables) edge.writer ≢ number
other_edge law flat limits number table plan has e edge at none own =
    let within = slice_get_within flat.tables.edges e edge at in
    let some = own_has_room law flat limits number table plan has e within (ap (λ (o : Option EdgeRow). slice_index (clusters_of flat.tables) (writer_of_row o)) at ∙ own) in
    absurd (omega (arith, some, none))

module _ (flat : Flat) (c : ClusterOf) (attrs : AttrsTable) (plan : Plan) (ready : IsReadyFor flat c attrs plan) (laid : IsLaid flat) (law : PlansArePresent) where
  -- what has no room has none in the new plan
  pub no_bound : (e : ℕ) → e < length c.rings → (ring_at c.rings e).capacity ≡ 0 → slice_index plan.bounds.items e ≡ 0
  no_bound e less none =
      let within : e < length flat.tables.edges = subst (λ n. e < n) ready.of.held.same less in
      let row = get_inside flat.tables.edges e within in
      let has = table_record flat c.number c.table ready.of.planned.plan true ready.of.attributes ready.of.planned.plan_is in
      let bound : slice_index ready.of.planned.plan.bounds.items e ≡ 0 = ap (λ (l : List ℕ). slice_index l e) ready.of.planned.bounds_are ∙ sym (ready.of.held.room e within) ∙ none in
      no_room flat.tables c.number attrs.rows plan ready.plan_is e row.0 row.1 (other_edge law flat laid.limits c.number c.table ready.of.planned.plan has e row.0 row.1 bound)

  module _ (rings : List RingOf) (carried : AreCarried plan.bounds.items c.rings rings) where
    pub all_edges : length rings ≡ length flat.tables.edges
    all_edges = carried.same ∙ ready.of.held.same

    -- what then has no room has the rates 1
    pub rates_one : (e : ℕ) → e < length rings → (ring_at rings e).capacity ≡ 0
        → (slice_index (read_rates (net_of flat.tables attrs.rows)) e ≡ 1) × (slice_index (write_rates (net_of flat.tables attrs.rows)) e ≡ 1)
    rates_one e less none =
        let row = get_inside flat.tables.edges e (subst (λ n. e < n) all_edges less) in
        let has = table_record flat c.number attrs.rows plan true ready.attributes ready.plan_is in
        let bound : slice_index plan.bounds.items e ≡ 0 = sym (ap (λ (r : RingOf). r.capacity) (carried.moved e (subst (λ n. e < n) carried.same less))) ∙ none in
        let other = other_edge law flat laid.limits c.number attrs.rows plan has e row.0 row.1 bound in (
          (reads_elsewhere flat.tables c.number attrs.rows ready.attributes.own (ports_inside flat laid)).ones e row.0 row.1 other,
          (writes_elsewhere flat.tables c.number attrs.rows ready.attributes.own (ports_inside flat laid)).ones e row.0 row.1 other,
        )

-- the rates of all edges under a table
rates_long : (tables : FlatTablesOf) (table : List AttrsOf) (f : Edge → ℕ) → length (map f (net_of tables table).edges) ≡ length tables.edges
unfolding net_of
rates_long tables table f =
    length-map (map (rated_edge tables.ports (net_ports tables table)) tables.edges) f ∙ length-map tables.edges (rated_edge tables.ports (net_ports tables table))

-- those of the own edges, by place
module _ (tables : FlatTablesOf) (table : List AttrsOf) (places : PlacesOf) (apart : StandApart places) (own_rings rings : List RingOf) (view : spread (ring_of [] 0) places own_rings ≡ rings)
    (all : length rings ≡ length tables.edges) where
  whole : places.count ≡ length tables.edges
  whole = sym (spread_long (ring_of [] 0) places own_rings) ∙ ap (λ (l : List RingOf). length l) view ∙ all

  pub edges_below : AllBelow (length tables.edges) places.numbers
  edges_below i less = subst (λ n. slice_index places.numbers i < n) whole (apart.within i less)

  -- an edge at no place has no room
  bare : (e : ℕ) → e < places.count → IsNowhere places e → (ring_at rings e).capacity ≡ 0
  bare e inside none = ap (λ (l : List RingOf). (ring_at l e).capacity) (sym view) ∙ ap (λ (r : RingOf). r.capacity) (spread_elsewhere (ring_of [] 0) places own_rings e inside none)

  pub rates_back : (f : Edge → ℕ) → ((e : ℕ) → e < length rings → (ring_at rings e).capacity ≡ 0 → slice_index (map f (net_of tables table).edges) e ≡ 1)
      → (own : List ℕ) → own ≡ map (slice_index (map f (net_of tables table).edges)) places.numbers → spread 1 places own ≡ map f (net_of tables table).edges
  rates_back f ones own is =
      let rates = map f (net_of tables table).edges in
      let long = rates_long tables table f in
      let count = whole in
      ap (λ (l : List ℕ). spread 1 places l) is
      ∙ gathered 1 0 places apart rates (long ∙ sym count) (λ e inside none.
      get_or_default rates e 1 0 (omega (arith, inside, long, count)) ∙ ones e (omega (arith, inside, count, all)) (bare e inside none))

module _ (places : PlacesOf) (apart : StandApart places) (old : List Runner) (long : length old ≡ length places.numbers) where
  -- what is kept at a place is kept for its number
  at_number : (i m : ℕ) → i < length places.numbers → slice_index places.numbers i ≡ m → slice_get (spread runner.Outside places old) m ≡ slice_get old i
  at_number i m less is =
      spread_there runner.Outside places apart old long i m (slice_get-get_or places.numbers i 0 less ∙ ap Some is)
      ∙ sym (slice_get-get_or old i runner.Outside (omega (arith, less, long)))

  -- what holds of all that is kept holds of what is kept at places
  pub at_places : {P : Runner → Type 0} (all : List Runner) → spread runner.Outside places old ≡ all → ((m : ℕ) (r : Runner) → slice_get all m ≡ Some r → P r)
      → (i : ℕ) (r : Runner) → slice_get old i ≡ Some r → P r
  at_places all view each i r at =
      let less = slice_get_within old i r at in
      each (slice_index places.numbers i) r
      (ap (λ (l : List Runner). slice_get l (slice_index places.numbers i)) (sym view) ∙ at_number i (slice_index places.numbers i) (omega (arith, less, long)) refl ∙ at)

-- what is kept for an actor at no place
kept_nowhere : (places : PlacesOf) (runners : List Runner) (m : ℕ) (r : Runner) → IsNowhere places m → slice_get (spread runner.Outside places runners) m ≡ Some r → r ≡ runner.Outside
kept_nowhere places runners m r none at =
    sym (get_or_from_slice_get (spread runner.Outside places runners) m r runner.Outside at) ∙ spread_nowhere runner.Outside places runners m none

-- where all own actors have begun again, all actors have
pub all_restarted : (flat : Flat) (table : List AttrsOf) (places : PlacesOf) → StandApart places → (old new : List Runner) → length old ≡ length places.numbers → AreRestarted flat table old new
    → AreRestarted flat table (spread runner.Outside places old) (spread runner.Outside places new)
all_restarted flat table places apart old new long are = record {
  same = spread_long runner.Outside places new ∙ sym (spread_long runner.Outside places old);
  done = λ m r s at now. go m r s at now (stands places.numbers m);
}
  where
    go : (m : ℕ) (r s : Runner) → slice_get (spread runner.Outside places old) m ≡ Some r → slice_get (spread runner.Outside places new) m ≡ Some s
        → ((i : ℕ) × (i < length places.numbers) × (slice_index places.numbers i ≡ m)) ⊎ IsNowhere places m → IsRestarted flat table r s
    go m r s at now (inl found) =
        are.done found.0 r s (sym (at_number places apart old long found.0 m found.1 found.2) ∙ at)
        (sym (at_number places apart new (are.same ∙ long) found.0 m found.1 found.2) ∙ now)
    go m r s at now (inr none) =
        subst (λ (x : Runner). IsRestarted flat table x s) (sym (kept_nowhere places old m r none at)) (kept_nowhere places new m s none now)
