-- All edges of a cluster together hold few samples: no more than are there at first, and than its ports move in a period.
use Rattle.std.proofs.Common.{◌≡◌, ◌∙◌, ℕ, ◌+◌, ◌*◌, ◌<◌, ◌≤◌, Bool, List, [], Some, option_map, length, map, nat_eq, if◌then◌else◌, sym, ap, subst, inl, inr, arith, mul-le-mul_right}
use Rattle.std.proofs.lemmas.Bool.{cases_eq, eq-eqb, ne_eqb}
use Rattle.std.proofs.lemmas.List.{length-map}
use Rattle.std.proofs.lemmas.List.Sums.{sum-map, sum_by-take-le}
use Rattle.std.proofs.lemmas.Option.{get_or_from_slice_get, slice_get-map, slice_get_within}
use Rattle.std.specs.Prelude.{cond, slice_get, slice_index, sum_by}
use Rattle.tdf_bind_tables.specs.Actors.{cluster_of}
use Rattle.tdf_dynamic_plans.specs.Attributes.{clusters_of}
use Rattle.tdf_dynamic_plans.specs.Rates.{NetOf, net_of, net_ports, port_rate, rated_edge}
use Rattle.tdf_exec.specs.Cluster.{ClusterOf}
use Rattle.tdf_exec.specs.Laws.{ClustersHoldFew, samples_held}
use Rattle.tdf_exec.specs.Made.{IsClusterOf}
use Rattle.tdf_bind.specs.Flat.{IsFlatOf}
use Rattle.tdf_bind.specs.declared.model.Flat.{Flat}
use Rattle.tdf_graph.specs.Counts.{AreCounts}
use Rattle.tdf_graph.specs.declared.actors.Edge.{Edge}
use Rattle.tdf_exec.proofs.Sums.{all_keys, by_key, once, over_map, pair_sums}
use Rattle.tdf_exec.proofs.Traffic.{counts_in, entries_of, moved_in, within}
use Rattle.tdf_exec_parts.proofs.Api.{edge_reads, edge_writes, reads_at, writes_at}
use Rattle.tdf_exec.proofs.Rows.{all_at, index_at}
use Rattle.tdf_exec_layout.specs.Edges.{EdgesAreRows, IsEdgeRow, PortsGiveOnce}
use Rattle.tdf_exec_layout.specs.Rates.{PortsSetRates, SamplersPutOne, SinksTakeOne}
use Rattle.tdf_bind_invariants.specs.Limits.{AreWithinLimits}
use Rattle.tdf_rings.specs.Rings.{RingOf, ring_of}
use Rattle.tdf_schedule.specs.Plan.{done}
use Rattle.tdf_schedule.specs.declared.entry.Entry.{Entry}
use Rattle.tdf_streams.specs.Places.{writer_at, writer_of_row}
use Rattle.tdf_streams.specs.Starts.{held_at_head, initial_of_row}
use Rattle.tdf_lang_tree.specs.Pure.{PureTree}
use Rattle.tdf_bind_connections.specs.declared.edges.EdgeRow.{EdgeRow}
use Rattle.tdf_bind_connections.specs.declared.modules.PortRow.{PortRow}

module _ (rows : EdgesAreRows) (given_once : PortsGiveOnce) (between : PortsSetRates) (from : SamplersPutOne) (to : SinksTakeOne)
    (model : PureTree) (flat : Flat) (c : ClusterOf) (is : IsFlatOf model flat) (limits : AreWithinLimits flat) (of : IsClusterOf flat c) where
  abbrev net : NetOf
  net = net_of flat.tables c.table

  abbrev counts : List ℕ
  counts = counts_in flat c of

  counts_are : AreCounts net.edges (clusters_of flat.tables) c.number counts
  counts_are = of.planned.plan_is.timing.counts_are.counts_are

  abbrev rated : EdgeRow → Edge
  rated edge = rated_edge flat.tables.ports (net_ports flat.tables c.table) edge

  abbrev writes : EdgeRow → ℕ
  writes edge = edge_writes flat.tables c.table edge

  abbrev reads : EdgeRow → ℕ
  reads edge = edge_reads flat.tables c.table edge

  -- what an edge may hold at first, what goes through it in a period, and what goes through a port
  abbrev first : EdgeRow → ℕ
  first edge = if nat_eq (slice_index counts edge.writer) 0 then 0 else edge.initial

  abbrev traffic : EdgeRow → ℕ
  traffic edge = slice_index counts edge.writer * writes edge

  abbrev moved : PortRow → ℕ
  moved = moved_in flat c of

  net_edge : (e : ℕ) (edge : EdgeRow) → slice_get flat.tables.edges e ≡ Some edge → slice_get net.edges e ≡ Some (rated edge)
  unfolding net_of
  net_edge e edge at = slice_get-map rated flat.tables.edges e ∙ ap (option_map rated) at

  -- what is written in a period is read in it
  balanced : (e : ℕ) (edge : EdgeRow) → slice_get flat.tables.edges e ≡ Some edge → traffic edge ≡ slice_index counts edge.reader * reads edge
  balanced e edge at = let there = net_edge e edge at in
      counts_are.balanced (rated edge) (e, slice_get_within net.edges e (rated edge) there, get_or_from_slice_get net.edges e (rated edge) (rated edge) there)

  rate_is : (port : PortRow) (n : ℕ) → n ≡ port_rate c.table port → slice_index counts port.«module» * n ≡ moved port
  rate_is port n same = ap (λ k. slice_index counts port.«module» * k) same

  -- as much as the port that gives the edge moves
  at_port : (e : ℕ) (edge : EdgeRow) → slice_get flat.tables.edges e ≡ Some edge → IsEdgeRow flat.tables edge
      → (port : PortRow) × (slice_get flat.tables.ports edge.port ≡ Some port) × (traffic edge ≡ moved port)
  at_port e edge at (IsEdgeRow.Between port out driver h) = (
    port,
    h.port_at,
    balanced e edge at ∙ ap (λ m. slice_index counts m * reads edge) h.reader
        ∙ rate_is port (reads edge) (sym (reads_at flat.tables c.table e edge at) ∙ (between flat.tables c.table e edge port out driver at h).read),
  )
  at_port e edge at (IsEdgeRow.FromSampler port h) = (
    port,
    h.port_at,
    balanced e edge at ∙ ap (λ m. slice_index counts m * reads edge) h.reader
        ∙ rate_is port (reads edge) (sym (reads_at flat.tables c.table e edge at) ∙ (from flat.tables c.table e edge port at h).read),
  )
  at_port e edge at (IsEdgeRow.ToSink port h) = (
    port,
    h.port_at,
    ap (λ m. slice_index counts m * writes edge) h.writer
        ∙ rate_is port (writes edge) (sym (writes_at flat.tables c.table e edge at) ∙ (to flat.tables c.table e edge port at h).written),
  )

  -- each port moves what its edge takes, and no port gives two edges
  through_port : (k : ℕ) → by_key (λ (x : EdgeRow). x.port) traffic k flat.tables.edges ≤ slice_index (map moved flat.tables.ports) k
  through_port k = once (λ (x : EdgeRow). x.port) traffic k (slice_index (map moved flat.tables.ports) k) flat.tables.edges
      (λ i j x y xat yat same. given_once model flat i j x y is xat yat same)
      (λ j x at same. let p = at_port j x at (rows model flat j x is at) in
      let m : slice_index (map moved flat.tables.ports) x.port ≡ moved p.0 = index_at moved flat.tables.ports x.port p.0 p.1 in
      let t : traffic x ≡ moved p.0 = p.2 in
      subst (λ n. traffic x ≤ slice_index (map moved flat.tables.ports) n) same (omega (arith, m, t)))

  writer_inside : (e : ℕ) (edge : EdgeRow) → slice_get flat.tables.edges e ≡ Some edge → edge.writer < length (clusters_of flat.tables)
  writer_inside e edge at =
      let i = all_at (λ (x : EdgeRow). x.writer < length flat.tables.actors) flat.tables.edges e edge limits.in_range.edge_writers at in
      let l = length-map flat.tables.actors cluster_of in
      omega (arith, i, l)

  held_first : (e : ℕ) (edge : EdgeRow) → slice_get flat.tables.edges e ≡ Some edge → held_at_head flat.tables c.number e ≤ first edge
  held_first e edge at = elim (cases_eq (slice_index (clusters_of flat.tables) (writer_at flat.tables.edges e)) c.number) [
    | inl mine ↦ (
        let a : held_at_head flat.tables c.number e ≡ edge.initial =
        ap (λ (b : Bool). if b then initial_of_row (slice_get flat.tables.edges e) else 0) (eq-eqb _ _ mine) ∙ ap initial_of_row at in
        let p = counts_are.positive edge.writer (writer_inside e edge at) (ap (λ o. slice_index (clusters_of flat.tables) (writer_of_row o)) (sym at) ∙ mine) in
        let f : first edge ≡ edge.initial =
        ap (λ (b : Bool). if b then 0 else edge.initial) (ne_eqb (slice_index counts edge.writer) 0 (λ z. omega (arith, p, z))) in
        omega (arith, a, f))
    | inr away ↦ (
        let a : held_at_head flat.tables c.number e ≡ 0 =
        ap (λ (b : Bool). if b then initial_of_row (slice_get flat.tables.edges e) else 0) (ne_eqb _ _ away) in
        omega (arith, a))
  ]

  -- no actor fires more often than its count says
  fired : (m : ℕ) → done c.entries c.place m ≤ slice_index counts m
  unfolding done
  fired m =
      let t = sum_by-take-le (λ (x : Entry). cond {A = ℕ} (nat_eq x.actor m) 1 0) c.entries c.place in
      let n = entries_of flat c of m in
      omega (arith, t, n)

  -- what an edge holds is there at first, or was written in this period
  ring_few : (e : ℕ) (ring : RingOf) (edge : EdgeRow) → slice_get c.rings e ≡ Some ring → slice_get flat.tables.edges e ≡ Some edge
      → length ring.samples ≤ first edge + traffic edge
  ring_few e ring edge rat at =
      let h = of.held.held e (slice_get_within flat.tables.edges e edge at) in
      let r = ap (λ (x : RingOf). length x.samples) (get_or_from_slice_get c.rings e ring (ring_of [] 0) rat) in
      let w : slice_index c.writes e ≡ writes edge = ap (λ l. slice_index l e) of.writes_are ∙ writes_at flat.tables c.table e edge at in
      let n : done c.entries c.place (writer_at flat.tables.edges e) * slice_index c.writes e ≡ done c.entries c.place edge.writer * writes edge =
      ap (λ o. done c.entries c.place (writer_of_row o) * slice_index c.writes e) at ∙ ap (λ k. done c.entries c.place edge.writer * k) w in
      let t : done c.entries c.place edge.writer * writes edge ≤ traffic edge = mul-le-mul_right (writes edge) (fired edge.writer) in
      let f = held_first e edge at in
      omega (arith, h, r, n, t, f)

  edges_sum : sum_by (λ (x : Edge). if nat_eq (slice_index counts x.writer) 0 then 0 else x.initial) net.edges ≡ sum_by first flat.tables.edges
  unfolding net_of
  edges_sum = over_map rated (λ (x : Edge). if nat_eq (slice_index counts x.writer) 0 then 0 else x.initial) flat.tables.edges

  few_held : samples_held c ≤ 1048576
  few_held =
      let p = pair_sums (λ (r : RingOf). length r.samples) first traffic c.rings flat.tables.edges of.held.same ring_few in
      let k = all_keys (λ (x : EdgeRow). x.port) traffic flat.tables.edges (map moved flat.tables.ports) through_port in
      let m = sum-map moved flat.tables.ports in
      omega (arith, p, k, m, edges_sum, within flat c of)

pub clusters_hold_few : EdgesAreRows → PortsGiveOnce → PortsSetRates → SamplersPutOne → SinksTakeOne → ClustersHoldFew
clusters_hold_few rows given_once between from to model flat c is limits of = few_held rows given_once between from to model flat c is limits of
