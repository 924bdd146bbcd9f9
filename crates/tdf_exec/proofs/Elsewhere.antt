-- The edges and actors of other clusters stand at no place of a cluster's own, and nothing is kept for them.
use Rattle.std.proofs.Common.{◌≡◌, ◌≢◌, ◌∙◌, ◌⊎◌, inl, inr, ℕ, ◌<◌, ◌≤◌, ℤ, Bool, true, if◌then◌else◌, List, [], Some, length, map, refl, sym, ap, subst, arith}
use Rattle.std.proofs.Math.ListN.{get_or}
use Rattle.std.proofs.lemmas.Bool.{eq-eqb, ne_eqb}
use Rattle.std.proofs.lemmas.List.{get_or_default, length-map}
use Rattle.std.proofs.lemmas.Option.{slice_get_within}
use Rattle.std.specs.Prelude.{Contains, slice_get, slice_index, slice_index_or}
use Rattle.tdf_bind.specs.declared.model.Flat.{Flat}
use Rattle.tdf_bind_connections.specs.declared.edges.EdgeRow.{EdgeRow}
use Rattle.tdf_bind_tables.specs.Actors.{cluster_of}
use Rattle.tdf_bind_tables.specs.FlatTables.{FlatTablesOf}
use Rattle.tdf_cluster_net.specs.Numbers.{AllBelow, AreNumbers}
use Rattle.tdf_cluster_plans.proofs.Api.{reads_elsewhere, writes_elsewhere}
use Rattle.tdf_cluster_plans.specs.Groups.{AreOnesElsewhere, AreTableGroups, TableGroupsOf, edge_cluster}
use Rattle.tdf_dynamic_first.specs.declared.first.First.{First}
use Rattle.tdf_dynamic_plans.specs.Attributes.{AttrsOf, clusters_of}
use Rattle.tdf_dynamic_plans.specs.Rates.{net_of}
use Rattle.tdf_exec.proofs.EndPorts.{ports_inside}
use Rattle.tdf_exec.proofs.Numbered.{actors_here}
use Rattle.tdf_exec.proofs.Others.{no_room}
use Rattle.tdf_exec.proofs.Rows.{index_at}
use Rattle.tdf_exec.specs.declared.runners.Runner.{Runner}
use Rattle.tdf_exec.specs.machine.Laid.{AreOutOf, AreParts, AreRunnersOf, IsLaid}
use Rattle.tdf_exec.specs.views.Actors.{ActorsOf, spread_runners}
use Rattle.tdf_exec_firing.specs.Edges.{EdgesOf}
use Rattle.tdf_exec_layout.specs.Samples.{edge_format}
use Rattle.tdf_exec_parts.proofs.Api.{in_groups, own_at, own_many, own_numbers}
use Rattle.tdf_exec_parts.specs.Below.{IsTableFirst}
use Rattle.tdf_exec_parts.specs.Restored.{AreOwnStateRings, AreStateRings, held_by_state, samples_by}
use Rattle.tdf_exec_parts.specs.Rings.{AreFirstRings, AreOwnFirstRings, FitAtFirst, list_of}
use Rattle.tdf_exec_parts.specs.States.{place_of_edge}
use Rattle.tdf_expr_state.specs.State.{FrameState}
use Rattle.tdf_places.proofs.Api.{gathered, rising_apart, spread_at, spread_elsewhere, spread_long, stands}
use Rattle.tdf_places.specs.Places.{AreDistinct, PlacesOf, StandApart}
use Rattle.tdf_places.specs.Spread.{spread}
use Rattle.tdf_rings.specs.Carried.{ring_at}
use Rattle.tdf_rings.specs.Rings.{RingOf, ring_of}
use Rattle.tdf_streams.proofs.Api.{get_inside}
use Rattle.tdf_streams.specs.Cluster.{initial_list}
use Rattle.tdf_streams.specs.Periods.{read_rates, write_rates}
use Rattle.tdf_streams.specs.Places.{is_own, writer_of_row}

abbrev pub edges_by : List ℕ → List ℕ → List RingOf → EdgesOf
edges_by reads writes rings = record { reads = reads; writes = writes; rings = rings }

abbrev pub places_by : List ℕ → ℕ → PlacesOf
places_by numbers count = record { numbers = numbers; count = count }

-- an edge of the cluster that stands at a place
abbrev pub IsPlaced : FlatTablesOf → (cluster e place : ℕ) → Type 0
IsPlaced tables cluster e place = (e < length tables.edges) × (is_own tables cluster e ≡ true) × (place_of_edge tables cluster e ≡ place)

-- ---- the numbers of a cluster's own things

-- rising numbers are different
distinct : (count : ℕ) (IsMeant : ℕ → Type 0) (numbers : List ℕ) → AreNumbers count IsMeant numbers → AreDistinct count numbers
distinct count IsMeant numbers are = rising_apart count numbers are.within are.rising

pub in_edges : (tables : FlatTablesOf) (cluster : ℕ) (groups : TableGroupsOf) → Contains (clusters_of tables) cluster → AreTableGroups tables groups → cluster < length groups.edges
in_edges tables cluster groups has given = subst (λ n. cluster < n) (sym given.edges.long) (in_groups tables groups cluster has given)

module _ (tables : FlatTablesOf) (cluster : ℕ) (groups : TableGroupsOf) (has : Contains (clusters_of tables) cluster) (given : AreTableGroups tables groups) (numbers : List ℕ) where
  abbrev edge_clusters : List ℕ
  edge_clusters = map (edge_cluster (clusters_of tables)) tables.edges

  module _ (are : numbers ≡ slice_index_or groups.edges cluster []) where
    own_edges : AreNumbers (length edge_clusters) (λ e. slice_index edge_clusters e ≡ cluster) numbers
    own_edges = subst (AreNumbers (length edge_clusters) (λ e. slice_index edge_clusters e ≡ cluster)) (sym are) (given.edges.each cluster (in_groups tables groups cluster has given))

    many_edges : length edge_clusters ≡ length tables.edges
    many_edges = length-map tables.edges (edge_cluster (clusters_of tables))

    pub edges_distinct : (count : ℕ) → count ≡ length tables.edges → AreDistinct count numbers
    edges_distinct count is =
        subst (λ n. AreDistinct n numbers) (many_edges ∙ sym is) (distinct (length edge_clusters) (λ e. slice_index edge_clusters e ≡ cluster) numbers own_edges)

    -- an edge that stands at no place is of another cluster
    other_edge : (e : ℕ) (edge : EdgeRow) → slice_get tables.edges e ≡ Some edge → ((i : ℕ) → i < length numbers → slice_index numbers i ≢ e) → edge_cluster (clusters_of tables) edge ≢ cluster
    other_edge e edge at none own =
        let among = own_edges.all e (let w = slice_get_within tables.edges e edge at in let l = many_edges in omega (arith, w, l)) (index_at (edge_cluster (clusters_of tables)) tables.edges e edge at ∙ own) in
        none among.0 among.1 among.2

    -- an edge of the model that stands at no place
    other_at : (m : ℕ) → m < length tables.edges → ((i : ℕ) → i < length numbers → slice_index numbers i ≢ m)
        → (row : EdgeRow) × (slice_get tables.edges m ≡ Some row) × (edge_cluster (clusters_of tables) row ≢ cluster)
    other_at m below none = let row = get_inside tables.edges m below in (row.0, row.1, other_edge m row.0 row.1 none)

    abbrev own_places : PlacesOf
    own_places = places_by numbers (length tables.edges)

    apart : StandApart own_places
    apart = edges_distinct (length tables.edges) refl

    pub own_below : AllBelow (length tables.edges) numbers
    own_below i less = apart.within i less

    -- an edge that stands at a place is one of the cluster
    own_writer : (i : ℕ) → i < length numbers → (edge : EdgeRow) → slice_get tables.edges (slice_index numbers i) ≡ Some edge → edge_cluster (clusters_of tables) edge ≡ cluster
    own_writer i less edge at = sym (index_at (edge_cluster (clusters_of tables)) tables.edges (slice_index numbers i) edge at) ∙ own_edges.meant i less

    -- the rates of the own edges are those of all
    rates_back : (rates own : List ℕ) → AreOnesElsewhere tables cluster rates → own ≡ map (slice_index rates) numbers → spread 1 own_places own ≡ rates
    rates_back rates own r is =
        ap (λ (l : List ℕ). spread 1 own_places l) is
        ∙ gathered 1 0 own_places apart rates r.long (λ m inside none. one m inside (other_at m inside none))
      where
        one : (m : ℕ) → m < length tables.edges → (row : EdgeRow) × (slice_get tables.edges m ≡ Some row) × (edge_cluster (clusters_of tables) row ≢ cluster) → get_or rates m 1 ≡ 1
        one m inside row = get_or_default rates m 1 0 (let l = r.long in omega (arith, inside, l)) ∙ r.ones m row.0 row.1 row.2

    pub edges_back : (places : PlacesOf) (count : ℕ) → count ≡ length tables.edges → places ≡ record { numbers = numbers; count = count } → (reads writes own_reads own_writes : List ℕ) (rings : List RingOf)
        → AreOnesElsewhere tables cluster reads → AreOnesElsewhere tables cluster writes → own_reads ≡ map (slice_index reads) numbers → own_writes ≡ map (slice_index writes) numbers
        → edges_by (spread 1 places own_reads) (spread 1 places own_writes) (spread (ring_of [] 0) places rings)
        ≡ edges_by reads writes (spread (ring_of [] 0) (places_by (slice_index_or groups.edges cluster []) (length tables.edges)) rings)
    edges_back places count whole is reads writes own_reads own_writes rings r w reads_are writes_are =
        let here : places ≡ own_places = is ∙ ap (λ (n : ℕ). places_by numbers n) whole in
        ap (λ (p : PlacesOf). edges_by (spread 1 p own_reads) (spread 1 p own_writes) (spread (ring_of [] 0) p rings)) here
        ∙ ap (λ (l : List ℕ). edges_by l (spread 1 own_places own_writes) (spread (ring_of [] 0) own_places rings)) (rates_back reads own_reads r reads_are)
        ∙ ap (λ (l : List ℕ). edges_by reads l (spread (ring_of [] 0) own_places rings)) (rates_back writes own_writes w writes_are)
        ∙ ap (λ (l : List ℕ). edges_by reads writes (spread (ring_of [] 0) (places_by l (length tables.edges)) rings)) are

    -- an own edge stands at its place
    pub placed : (i : ℕ) → i < length numbers → IsPlaced tables cluster (slice_index numbers i) i
    placed i less = own_at tables cluster numbers (are ∙ own_numbers tables groups cluster has given) i less

    pub many_placed : length numbers ≡ place_of_edge tables cluster (length tables.edges)
    many_placed = own_many tables cluster numbers (are ∙ own_numbers tables groups cluster has given)

    module _ (bounds : List ℕ) where
      -- the samples of an own edge have room
      pub own_fits : FitAtFirst tables cluster bounds → (i : ℕ) (edge : EdgeRow) → i < length numbers → slice_get tables.edges (slice_index numbers i) ≡ Some edge
          → length (initial_list tables edge) ≤ slice_index bounds (slice_index numbers i)
      own_fits fits i edge less at =
          subst (λ (b : Bool). length (if b then initial_list tables edge else []) ≤ slice_index bounds (slice_index numbers i))
          (eq-eqb (edge_cluster (clusters_of tables) edge) cluster (own_writer i less edge at)) (fits.fits (slice_index numbers i) edge at)

      -- the rings of the own edges at the start are those of all, where there is no room elsewhere
      pub all_first : ((e : ℕ) (edge : EdgeRow) → slice_get tables.edges e ≡ Some edge → edge_cluster (clusters_of tables) edge ≢ cluster → slice_index bounds e ≡ 0) → (rings : List RingOf)
          → AreOwnFirstRings tables bounds numbers (length numbers) rings
          → AreFirstRings tables cluster bounds (length tables.edges) (spread (ring_of [] 0) (places_by (slice_index_or groups.edges cluster []) (length tables.edges)) rings)
      all_first none rings own =
          subst (λ (l : List ℕ). AreFirstRings tables cluster bounds (length tables.edges) (spread (ring_of [] 0) (places_by l (length tables.edges)) rings)) are (record {
            long = spread_long (ring_of [] 0) own_places rings;
            each = λ e edge less at. go e edge less at (stands numbers e);
          })
        where
          go : (e : ℕ) (edge : EdgeRow) → e < length tables.edges → slice_get tables.edges e ≡ Some edge
              → ((i : ℕ) × (i < length numbers) × (slice_index numbers i ≡ e)) ⊎ ((i : ℕ) → i < length numbers → slice_index numbers i ≢ e)
              → ring_at (spread (ring_of [] 0) own_places rings) e ≡ ring_of (list_of tables cluster edge) (slice_index bounds e)
          go e edge less at (inl found) =
              let there : slice_get tables.edges (slice_index numbers found.0) ≡ Some edge = ap (slice_get tables.edges) found.2 ∙ at in
              ap (ring_at (spread (ring_of [] 0) own_places rings)) (sym found.2)
              ∙ spread_at (ring_of [] 0) own_places apart rings found.0 own.long found.1
              ∙ own.each found.0 edge found.1 there
              ∙ ap (λ (k : ℕ). ring_of (initial_list tables edge) (slice_index bounds k)) found.2
              ∙ ap (λ (b : Bool). ring_of (if b then initial_list tables edge else []) (slice_index bounds e))
              (sym (eq-eqb (edge_cluster (clusters_of tables) edge) cluster (own_writer found.0 found.1 edge there)))
          go e edge less at (inr away) =
              let other = other_edge e edge at away in
              spread_elsewhere (ring_of [] 0) own_places rings e less away
              ∙ ap (λ (b : ℕ). ring_of [] b) (sym (none e edge at other))
              ∙ ap (λ (b : Bool). ring_of (if b then initial_list tables edge else []) (slice_index bounds e)) (sym (ne_eqb (edge_cluster (clusters_of tables) edge) cluster other))

      -- so are the rings by a state
      pub all_state : ((e : ℕ) (edge : EdgeRow) → slice_get tables.edges e ≡ Some edge → edge_cluster (clusters_of tables) edge ≢ cluster → slice_index bounds e ≡ 0) → (edges : List (List ℤ)) → (rings : List RingOf)
          → AreOwnStateRings tables bounds numbers edges (length numbers) rings
          → AreStateRings tables cluster bounds edges (length tables.edges) (spread (ring_of [] 0) (places_by (slice_index_or groups.edges cluster []) (length tables.edges)) rings)
      all_state none edges rings own =
          subst (λ (l : List ℕ). AreStateRings tables cluster bounds edges (length tables.edges) (spread (ring_of [] 0) (places_by l (length tables.edges)) rings)) are (record {
            long = spread_long (ring_of [] 0) own_places rings;
            each = λ e less. go e less (get_inside tables.edges e less) (stands numbers e);
          })
        where
          go : (e : ℕ) → e < length tables.edges → (edge : EdgeRow) × (slice_get tables.edges e ≡ Some edge)
              → ((i : ℕ) × (i < length numbers) × (slice_index numbers i ≡ e)) ⊎ ((i : ℕ) → i < length numbers → slice_index numbers i ≢ e)
              → ring_at (spread (ring_of [] 0) own_places rings) e ≡ ring_of (held_by_state tables cluster edges e) (slice_index bounds e)
          go e less row (inl found) =
              let i = found.0 in let k = slice_index numbers found.0 in
              let place = placed i found.1 in
              ap (ring_at (spread (ring_of [] 0) own_places rings)) (sym found.2)
              ∙ spread_at (ring_of [] 0) own_places apart rings i own.long found.1
              ∙ own.each i found.1
              ∙ ap (λ (n : ℕ). ring_of (samples_by (edge_format tables k) (slice_index_or edges n [])) (slice_index bounds k)) (sym place.2)
              ∙ ap (λ (b : Bool). ring_of (if b then samples_by (edge_format tables k) (slice_index_or edges (place_of_edge tables cluster k) []) else []) (slice_index bounds k)) (sym place.1)
              ∙ ap (λ (n : ℕ). ring_of (held_by_state tables cluster edges n) (slice_index bounds n)) found.2
          go e less row (inr away) =
              let other = other_edge e row.0 row.1 away in
              spread_elsewhere (ring_of [] 0) own_places rings e less away
              ∙ ap (λ (b : ℕ). ring_of [] b) (sym (none e row.0 row.1 other))
              ∙ ap (λ (b : Bool). ring_of (if b then samples_by (edge_format tables e) (slice_index_or edges (place_of_edge tables cluster e) []) else []) (slice_index bounds e))
              (sym (ne_eqb _ cluster (λ mine. other (sym (ap (λ o. slice_index (clusters_of tables) (writer_of_row o)) row.1) ∙ mine))))

  module _ (are : numbers ≡ slice_index_or groups.actors cluster []) where
    own_actors : AreNumbers (length (clusters_of tables)) (λ m. slice_index (clusters_of tables) m ≡ cluster) numbers
    own_actors = actors_here tables groups cluster has given numbers are

    many_actors : length (clusters_of tables) ≡ length tables.actors
    many_actors = length-map tables.actors cluster_of

    pub actors_distinct : (count : ℕ) → count ≡ length tables.actors → AreDistinct count numbers
    actors_distinct count is =
        subst (λ n. AreDistinct n numbers) (many_actors ∙ sym is) (distinct (length (clusters_of tables)) (λ m. slice_index (clusters_of tables) m ≡ cluster) numbers own_actors)

-- ---- under a table and its plan

module _ (flat : Flat) (cluster : ℕ) (first : First) (laid : IsLaid flat) (is : IsTableFirst flat cluster first.attrs.rows first) where
  pub no_bound : (e : ℕ) (edge : EdgeRow) → slice_get flat.tables.edges e ≡ Some edge → edge_cluster (clusters_of flat.tables) edge ≢ cluster → slice_index first.plan.bounds.items e ≡ 0
  no_bound e edge at other = no_room flat.tables cluster first.attrs.rows first.plan is.plan_is e edge at other

  module _ (table : List AttrsOf) (same : table ≡ first.attrs.rows) where
    pub ones_read : AreOnesElsewhere flat.tables cluster (read_rates (net_of flat.tables table))
    ones_read =
        subst (λ (t : List AttrsOf). AreOnesElsewhere flat.tables cluster (read_rates (net_of flat.tables t))) (sym same)
        (reads_elsewhere flat.tables cluster first.attrs.rows is.attributes.own (ports_inside flat laid))

    pub ones_written : AreOnesElsewhere flat.tables cluster (write_rates (net_of flat.tables table))
    ones_written =
        subst (λ (t : List AttrsOf). AreOnesElsewhere flat.tables cluster (write_rates (net_of flat.tables t))) (sym same)
        (writes_elsewhere flat.tables cluster first.attrs.rows is.attributes.own (ports_inside flat laid))

-- the parts of a cluster, out of those of its own things
pub are_parts : (flat : Flat) (cluster : ℕ) (first : First) (Holds : ℕ → FrameState → Type 0) (AreFilled : List RingOf → Type 0) (groups after : TableGroupsOf) → after ≡ groups
    → (rings : List RingOf) (runners : List Runner)
    → AreFilled (spread (ring_of [] 0) (places_by (slice_index_or groups.edges cluster []) (length flat.tables.edges)) rings)
    → AreRunnersOf flat Holds cluster first.attrs.rows (spread_runners flat.tables (slice_index_or groups.actors cluster []) runners)
    → (edges : EdgesOf) (actors : ActorsOf) → AreOutOf flat.tables cluster first.attrs.rows after rings runners edges actors
    → AreParts flat cluster first Holds AreFilled edges.reads edges.writes edges.rings actors.runners actors.positions
are_parts flat cluster first Holds AreFilled groups after same rings runners filled held edges actors out = record {
  reads_are = out.reads_are;
  writes_are = out.writes_are;
  rings_are = subst AreFilled
      (sym (out.rings_are ∙ ap (λ (g : TableGroupsOf). spread (ring_of [] 0) (places_by (slice_index_or g.edges cluster []) (length flat.tables.edges)) rings) same)) filled;
  runners_are = subst (AreRunnersOf flat Holds cluster first.attrs.rows)
      (sym (out.runners_are ∙ ap (λ (g : TableGroupsOf). spread_runners flat.tables (slice_index_or g.actors cluster []) runners) same)) held;
  none_done = out.none_done;
}
