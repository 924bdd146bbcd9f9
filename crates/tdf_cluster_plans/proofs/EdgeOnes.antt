-- Under a table of one cluster the edges of other clusters have the rate 1.
use Rattle.std.proofs.Common.{◌≡◌, ◌∙◌, ℕ, zero, suc, ◌<◌, List, [], ◌∷◌, Option, Some, None, length, map, refl, sym, ap, subst}
use Rattle.std.proofs.Math.ListN.{get_or}
use Rattle.std.proofs.lemmas.Bool.{ne_eqb}
use Rattle.std.proofs.lemmas.List.{get_or-map, length-map}
use Rattle.std.proofs.lemmas.List.Elements.{recursion_from_All}
use Rattle.std.proofs.lemmas.Option.{get_or_from_slice_get, same_Some, slice_get-map, slice_get_read, slice_get_within}
use Rattle.std.proofs.lemmas.Simd.{map-map}
use Rattle.std.specs.List.{AllByRecursion}
use Rattle.std.specs.Option.{option_map}
use Rattle.std.specs.Prelude.{All, slice_get, slice_index, slice_index_or}
use Rattle.tdf_bind_connections.specs.declared.edges.EdgeRow.{EdgeRow}
use Rattle.tdf_bind_connections.specs.declared.modules.PortRow.{PortRow}
use Rattle.tdf_bind_tables.specs.FlatTables.{FlatTablesOf}
use Rattle.tdf_cluster_plans.proofs.OwnNets.{edges_long}
use Rattle.tdf_cluster_plans.specs.Groups.{AreOnesElsewhere, HasPortsInside, edge_cluster, port_cluster}
use Rattle.tdf_dynamic_plans.specs.Attributes.{AttrsOf, IsOfCluster, attrs_at, clusters_of}
use Rattle.tdf_dynamic_plans.specs.Rates.{edge_kind, net_of, net_ports, rate_by, rated_edge, rated_port, read_rate_by, write_rate_by}
use Rattle.tdf_graph.specs.declared.actors.Edge.{Edge}
use Rattle.tdf_lang_tree.specs.declared.blocks.PortKind.{PortKind}
use Rattle.tdf_lang_tree.specs.declared.blocks.PortKind.TheVariants.{In, Out, DeIn, DeOut}
use Rattle.tdf_timestep.specs.Period.{port_rate_or_one, rate_at_port}

-- a module of another cluster isn't in the table
none_at : (tables : FlatTablesOf) (cluster : ℕ) (table : List AttrsOf) → AllByRecursion (IsOfCluster tables cluster) table → (m : ℕ) → (slice_index (clusters_of tables) m ≡ cluster → ⊥)
    → attrs_at table m ≡ None
none_at tables cluster [] all m apart = refl
none_at tables cluster (x ∷ table) all m apart =
    let other : x.number ≡ m → ⊥ = (λ same. apart (ap (slice_index (clusters_of tables)) (sym same) ∙ all.0.inside)) in
    rw (ne_eqb x.number m other) (none_at tables cluster table all.1 m apart)

module _ (tables : FlatTablesOf) (cluster : ℕ) (table : List AttrsOf) (all : All (IsOfCluster tables cluster) table) where
  one_by : (o : Option PortRow) → ((p : PortRow) → o ≡ Some p → port_cluster (clusters_of tables) p ≡ cluster → ⊥) → port_rate_or_one (option_map (rated_port table) o) ≡ 1
  one_by None apart = refl
  one_by (Some p) apart = ap (rate_by p) (none_at tables cluster table (recursion_from_All (IsOfCluster tables cluster) table all) p.«module» (apart p refl))

  one_at : (n : Option ℕ) → ((k : ℕ) (p : PortRow) → n ≡ Some k → slice_get tables.ports k ≡ Some p → port_cluster (clusters_of tables) p ≡ cluster → ⊥) → rate_at_port (net_ports tables table) n ≡ 1
  unfolding net_ports
  one_at None apart = refl
  one_at (Some k) apart = ap port_rate_or_one (slice_get-map (rated_port table) tables.ports k) ∙ one_by (slice_get tables.ports k) (λ p is. apart k p refl is)

  module _ (edge : EdgeRow) (inside : HasPortsInside tables edge) (other : edge_cluster (clusters_of tables) edge ≡ cluster → ⊥) where
    own_apart : (k : ℕ) (p : PortRow) → Some edge.port ≡ Some k → slice_get tables.ports k ≡ Some p → port_cluster (clusters_of tables) p ≡ cluster → ⊥
    own_apart k p same at is = other (sym (inside.own p (ap (slice_get tables.ports) (same_Some edge.port k same) ∙ at)) ∙ is)

    driver_apart : (k : ℕ) (p : PortRow) → edge.driver ≡ Some k → slice_get tables.ports k ≡ Some p → port_cluster (clusters_of tables) p ≡ cluster → ⊥
    driver_apart k p same at is = other (sym (inside.driver k p same at) ∙ is)

    read_by : (kind : Option PortKind) → read_rate_by (net_ports tables table) edge kind ≡ 1
    read_by None = refl
    read_by (Some In) = one_at (Some edge.port) own_apart
    read_by (Some Out) = refl
    read_by (Some DeIn) = one_at (Some edge.port) own_apart
    read_by (Some DeOut) = refl

    write_by : (kind : Option PortKind) → write_rate_by (net_ports tables table) edge kind ≡ 1
    write_by None = refl
    write_by (Some In) = one_at edge.driver driver_apart
    write_by (Some Out) = refl
    write_by (Some DeIn) = refl
    write_by (Some DeOut) = one_at (Some edge.port) own_apart

    pub reads_one : (rated_edge tables.ports (net_ports tables table) edge).read_rate ≡ 1
    reads_one = read_by (edge_kind tables.ports edge)

    pub writes_one : (rated_edge tables.ports (net_ports tables table) edge).write_rate ≡ 1
    writes_one = write_by (edge_kind tables.ports edge)

at_map : {A : Type 0} (f : A → ℕ) (rows : List A) (k : ℕ) (x : A) → slice_get rows k ≡ Some x → slice_index (map f rows) k ≡ f x
at_map f rows k x is = get_or-map f rows k x 0 (slice_get_within rows k x is) ∙ ap f (get_or_from_slice_get rows k x x is)

-- what is wanted
pub wanted_is : (tables : FlatTablesOf) (table : List AttrsOf) (f : Edge → ℕ)
    → map f (net_of tables table).edges ≡ map (λ (row : EdgeRow). f (rated_edge tables.ports (net_ports tables table) row)) tables.edges
unfolding net_of
wanted_is tables table f = map-map f (rated_edge tables.ports (net_ports tables table)) tables.edges

pub wanted_long : (tables : FlatTablesOf) (table : List AttrsOf) (f : Edge → ℕ) → length (map f (net_of tables table).edges) ≡ length tables.edges
wanted_long tables table f = length-map (net_of tables table).edges f ∙ edges_long tables table

pub wanted_at : (tables : FlatTablesOf) (table : List AttrsOf) (f : Edge → ℕ) (k : ℕ) (row : EdgeRow) (edge : Edge) → k < length tables.edges → row ≡ slice_index_or tables.edges k row
    → edge ≡ rated_edge tables.ports (net_ports tables table) row → f edge ≡ slice_index (map f (net_of tables table).edges) k
wanted_at tables table f k row edge less is edge_is =
    ap f edge_is
    ∙ sym (ap (λ l. get_or l k 0) (wanted_is tables table f)
    ∙ at_map (λ (r : EdgeRow). f (rated_edge tables.ports (net_ports tables table) r)) tables.edges k row (slice_get_read tables.edges (length tables.edges) k row refl less is))

-- what holds of all rows holds of each
all_at : (tables : FlatTablesOf) (edges : List EdgeRow) → AllByRecursion (HasPortsInside tables) edges → (k : ℕ) (edge : EdgeRow) → slice_get edges k ≡ Some edge → HasPortsInside tables edge
all_at tables [] all k edge is = absurd cc
all_at tables (x ∷ edges) all zero edge is = subst (HasPortsInside tables) (same_Some x edge is) all.0
all_at tables (x ∷ edges) all (suc k) edge is = all_at tables edges all.1 k edge is

module _ (tables : FlatTablesOf) (cluster : ℕ) (table : List AttrsOf) (all : All (IsOfCluster tables cluster) table) (inside : All (HasPortsInside tables) tables.edges) where
  edge_has : (k : ℕ) (x : EdgeRow) → slice_get tables.edges k ≡ Some x → HasPortsInside tables x
  edge_has k x at = all_at tables tables.edges (recursion_from_All (HasPortsInside tables) tables.edges inside) k x at

  -- the rates under a table of the cluster are ones elsewhere
  elsewhere : (f : Edge → ℕ) → ((k : ℕ) (x : EdgeRow) → slice_get tables.edges k ≡ Some x → (edge_cluster (clusters_of tables) x ≡ cluster → ⊥) → f (rated_edge tables.ports (net_ports tables table) x) ≡ 1)
      → AreOnesElsewhere tables cluster (map f (net_of tables table).edges)
  elsewhere f one = record {
    long = wanted_long tables table f;
    ones = λ e edge at other. ap (λ l. get_or l e 0) (wanted_is tables table f) ∙ at_map (λ (row : EdgeRow). f (rated_edge tables.ports (net_ports tables table) row)) tables.edges e edge at ∙ one e edge at other;
  }

  pub reads_elsewhere : AreOnesElsewhere tables cluster (map (λ (edge : Edge). edge.read_rate) (net_of tables table).edges)
  reads_elsewhere = elsewhere (λ (edge : Edge). edge.read_rate) (λ k x at other. reads_one tables cluster table all x (edge_has k x at) other)

  pub writes_elsewhere : AreOnesElsewhere tables cluster (map (λ (edge : Edge). edge.write_rate) (net_of tables table).edges)
  writes_elsewhere = elsewhere (λ (edge : Edge). edge.write_rate) (λ k x at other. writes_one tables cluster table all x (edge_has k x at) other)
