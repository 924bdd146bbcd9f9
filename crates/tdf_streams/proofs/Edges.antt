-- The edges of a flat model in a period: their ends, their rates, and their clusters.
use Rattle.std.proofs.Common.{◌≡◌, ◌∙◌, ℕ, suc, ◌<◌, Option, Some, None, option_map, List, [], ◌∷◌, length, map, slice_get, slice_index, slice_index_or, refl, ap, subst, inl, inr, ◌⊎◌, arith}
use Rattle.std.proofs.lemmas.Bool.{cases_eq, eq-eqb, ne_eqb}
use Rattle.std.proofs.lemmas.List.{length-map}
use Rattle.std.proofs.lemmas.Option.{slice_get-map, slice_get_within}
use Rattle.std.specs.Prelude.{All, Contains, IfSome}
use Rattle.tdf_bind_tables.specs.Actors.{net_edge}
use Rattle.tdf_dynamic_first.proofs.Api.{net_fit}
use Rattle.tdf_dynamic_plans.specs.Attributes.{AttrsOf, attrs_at, clusters_of}
use Rattle.tdf_dynamic_first.specs.First.{IsPlannable}
use Rattle.tdf_dynamic_plans.specs.Rates.{AreRates, IsWired, net_of, net_ports, rate_by, rated_edge}
use Rattle.tdf_bind_invariants.specs.Below.{Flat}
use Rattle.tdf_streams.proofs.Lists.{get_inside}
use Rattle.tdf_graph.specs.Clusters.{goes, stays}
use Rattle.tdf_graph.specs.Ranges.{IsEdge, IsRate}
use Rattle.tdf_graph.specs.declared.actors.Edge.{Edge}
use Rattle.tdf_bind_invariants.specs.Limits.{AreWithinLimits, IsAlwaysRate, limits_in}
use Rattle.tdf_expr_semantics.specs.Fits.{RatesFit}
use Rattle.tdf_streams.proofs.Rows.{all_at, at_contains, contains_at, index_map}
use Rattle.tdf_streams.specs.Periods.{HasAllowedRates, IsTimedRecord, PeriodRecord, net_in}
use Rattle.tdf_streams.specs.Places.{writer_at, writer_of_row}
use Rattle.tdf_streams.specs.Starts.{held_at_head, initial_of_row}
use Rattle.tdf_bind_connections.specs.declared.edges.EdgeRow.{EdgeRow}
use Rattle.tdf_bind_connections.specs.declared.modules.PortRow.{PortRow}

module _ (flat : Flat) (limits : AreWithinLimits flat) where
  pub is_wired : IsWired flat.tables
  is_wired = record { in_range = limits.in_range; actors = limits.actors; delays = limits.delays }

  pub is_plannable : IsPlannable flat
  is_plannable = record {
    wired = is_wired;
    module_steps = limits.module_steps;
    port_steps = limits.port_steps;
    checked_is = limits.checked_is;
    blocks = limits.blocks;
    rates = limits.rates;
  }

-- the rates of all ports are in range

found_in : (table : List AttrsOf) (P : AttrsOf → Type 0) → All P table → (number : ℕ) → IfSome (attrs_at table number) (λ attrs. (attrs.number ≡ number) × P attrs)
found_in [] P all number = tt
found_in (attrs ∷ table) P all number = go (cases_eq attrs.number number) (found_in table P (λ k d inside. all (suc k) d (omega (arith, inside))) number)
  where
    go : (attrs.number ≡ number) ⊎ (attrs.number ≡ number → ⊥) → IfSome (attrs_at table number) (λ a. (a.number ≡ number) × P a) → IfSome (attrs_at (attrs ∷ table) number) (λ a. (a.number ≡ number) × P a)
    go (inl same) rest = rw (eq-eqb attrs.number number same) (same, all 0 attrs (omega arith))
    go (inr apart) rest = rw (ne_eqb attrs.number number apart) rest

module _ (flat : Flat) (limits : AreWithinLimits flat) (table : List AttrsOf) (allowed : All (HasAllowedRates flat) table) where
  port_fits : (port : PortRow) (o : Option AttrsOf) → IfSome o (λ attrs. (attrs.number ≡ port.«module») × HasAllowedRates flat attrs)
      → IsAlwaysRate (limits_in flat.checked (slice_get flat.tables.modules port.«module»)) port.rate → IsRate (rate_by port o)
  port_fits port None found always = record { some = omega arith; few = omega arith }
  port_fits port (Some attrs) found always = always attrs.rates (subst (λ n. RatesFit (limits_in flat.checked (slice_get flat.tables.modules n)) attrs.rates) found.0 found.1)

  pub are_rates : AreRates flat.tables table
  are_rates j d inside = port_fits (slice_index_or flat.tables.ports j d) (attrs_at table (slice_index_or flat.tables.ports j d).«module»)
      (found_in table (HasAllowedRates flat) allowed (slice_index_or flat.tables.ports j d).«module») (limits.always j d inside)

-- an edge and what it is in a period
module _ (flat : Flat) (limits : AreWithinLimits flat) (cluster : ℕ) (p : PeriodRecord) (timed : IsTimedRecord flat cluster p) where
  abbrev pub rated : EdgeRow → Edge
  rated edge = rated_edge flat.tables.ports (net_ports flat.tables p.info.table) edge

  pub record EdgeIn (e : ℕ) : Type 0 where
    pub edge : EdgeRow
    pub at : slice_get flat.tables.edges e ≡ Some edge
    pub net_edge_at : slice_get (net_in flat.tables p).edges e ≡ Some (rated edge)
    pub writes : slice_index p.writes e ≡ (rated edge).write_rate
    pub reads : slice_index p.reads e ≡ (rated edge).read_rate
    pub fits : IsEdge (length (clusters_of flat.tables)) (rated edge)

  edges_are : (net_in flat.tables p).edges ≡ map rated flat.tables.edges
  unfolding net_of
  edges_are = refl

  pub edge_in : (e : ℕ) → e < length flat.tables.edges → EdgeIn e
  edge_in e inside = record {
    edge = row.0;
    at = row.1;
    net_edge_at = there;
    writes = ap (λ l. slice_index l e) timed.writes_are ∙ index_map (λ (x : Edge). x.write_rate) (net_in flat.tables p).edges e (rated row.0) there;
    reads = ap (λ l. slice_index l e) timed.reads_are ∙ index_map (λ (x : Edge). x.read_rate) (net_in flat.tables p).edges e (rated row.0) there;
    fits = all_at (IsEdge (length (clusters_of flat.tables))) (net_in flat.tables p).edges e (rated row.0)
        (net_fit flat.tables p.info.table (is_wired flat limits) (are_rates flat limits p.info.table timed.attributes.allowed)) there;
  }
    where
      row : (edge : EdgeRow) × (slice_get flat.tables.edges e ≡ Some edge)
      row = get_inside flat.tables.edges e inside

      there : slice_get (net_in flat.tables p).edges e ≡ Some (rated row.0)
      there = ap (λ l. slice_get l e) edges_are ∙ slice_get-map rated flat.tables.edges e ∙ ap (option_map rated) row.1

  pub edge_number : (x : Edge) → Contains (net_in flat.tables p).edges x → (e : ℕ) × (e < length flat.tables.edges) × (slice_get (net_in flat.tables p).edges e ≡ Some x)
  edge_number x found = (let at = contains_at (net_in flat.tables p).edges x found in
      (at.0, subst (λ n. at.0 < n) (ap length edges_are ∙ length-map flat.tables.edges rated) (slice_get_within (net_in flat.tables p).edges at.0 x at.1), at.1))

-- the ends of an edge are in one cluster
module _ (flat : Flat) (limits : AreWithinLimits flat) where
  pub one_cluster : (e : ℕ) (edge : EdgeRow) → slice_get flat.tables.edges e ≡ Some edge → slice_index (clusters_of flat.tables) edge.writer ≡ slice_index (clusters_of flat.tables) edge.reader
  one_cluster e edge at = limits.actors.clusters.joined edge.writer edge.reader
      (all_at (λ (x : EdgeRow). x.writer < length flat.tables.actors) flat.tables.edges e edge limits.in_range.edge_writers at)
      (all_at (λ (x : EdgeRow). x.reader < length flat.tables.actors) flat.tables.edges e edge limits.in_range.edge_readers at)
      (goes (net_edge edge) (at_contains (map net_edge flat.tables.edges) e (net_edge edge) (slice_get-map net_edge flat.tables.edges e ∙ ap (option_map net_edge) at)) (stays edge.reader))

  -- what an edge of the cluster holds at the head of a period
  pub held_own : (cluster e : ℕ) (edge : EdgeRow) → slice_get flat.tables.edges e ≡ Some edge → slice_index (clusters_of flat.tables) edge.writer ≡ cluster → held_at_head flat.tables cluster e ≡ edge.initial
  held_own cluster e edge at own =
      let is : slice_index (clusters_of flat.tables) (writer_at flat.tables.edges e) ≡ cluster = ap (λ o. slice_index (clusters_of flat.tables) (writer_of_row o)) at ∙ own in
      rw (eq-eqb (slice_index (clusters_of flat.tables) (writer_at flat.tables.edges e)) cluster is) (ap initial_of_row at)
