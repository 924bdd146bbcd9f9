-- The net under a table is a net, and has the clusters of the model.
use Rattle.std.proofs.Common.{◌≡◌, ◌∙◌, ℕ, ◌*◌, ◌<◌, ◌≤◌, zero, suc, List, [], ◌∷◌, Option, Some, None, length, refl, sym, ap, map, subst, arith}
use Rattle.std.proofs.lemmas.List.{length-map, length-append}
use Rattle.std.proofs.lemmas.List.Elements.{All-from_recursion, recursion_from_All}
use Rattle.std.proofs.lemmas.List.FromFn.{length-map-range_with_len}
use Rattle.std.proofs.lemmas.Option.{slice_get_within, slice_get_read, get_or_from_slice_get, slice_get-map}
use Rattle.std.specs.List.{AllByRecursion, enumerate_from, range_with_len}
use Rattle.std.specs.Option.{option_map}
use Rattle.std.specs.Prelude.{All, Contains, slice_get, filter_map}
use Rattle.tdf_base.specs.Limits.{greatest_delay}
use Rattle.tdf_bind_tables.specs.Actors.{net_edge, module_actor, port_actor, actor_place}
use Rattle.tdf_bind_tables.specs.FlatTables.{FlatTablesOf}
use Rattle.tdf_bind_tables.specs.Ranges.{AreInRange}
use Rattle.tdf_dynamic_plans.specs.Attributes.{AttrsOf, clusters_of}
use Rattle.tdf_dynamic_plans.specs.Rates.{port_rate, rated_port, net_ports, write_rate_by, read_rate_by, rated_edge, AreRates, IsWired}
use Rattle.tdf_graph.specs.Clusters.{Joined, stays, goes, comes, AreClusters}
use Rattle.tdf_graph.specs.Ranges.{IsRate, IsEdge, IsGraphPort}
use Rattle.tdf_graph.specs.declared.actors.Edge.{Edge}
use Rattle.tdf_graph.specs.declared.actors.Port.{Port}
use Rattle.tdf_timestep.specs.Period.{port_rate_or_one, rate_at_port}
use Rattle.tdf_lang_tree.specs.declared.blocks.PortKind.{PortKind}
use Rattle.tdf_lang_tree.specs.declared.blocks.PortKind.TheVariants.{In, Out, DeIn, DeOut}
use Rattle.tdf_bind_connections.specs.declared.edges.EdgeRow.{EdgeRow}
use Rattle.tdf_bind_connections.specs.declared.modules.PortRow.{PortRow}

-- rates in range

one_is_rate : IsRate 1
one_is_rate = record { some = omega arith; few = omega arith }

rate_there : (ports : List Port) (p : ℕ) → AllByRecursion (λ (x : Port). IsRate x.rate) ports → IsRate (port_rate_or_one (slice_get ports p))
rate_there [] p all = one_is_rate
rate_there (x ∷ ports) zero all = all.0
rate_there (x ∷ ports) (suc p) all = rate_there ports p all.1

rate_fits : (ports : List Port) (p : Option ℕ) → AllByRecursion (λ (x : Port). IsRate x.rate) ports → IsRate (rate_at_port ports p)
rate_fits ports None all = one_is_rate
rate_fits ports (Some p) all = rate_there ports p all

write_fits : (ports : List Port) (edge : EdgeRow) (kind : Option PortKind) → AllByRecursion (λ (x : Port). IsRate x.rate) ports → IsRate (write_rate_by ports edge kind)
write_fits ports edge None all = one_is_rate
write_fits ports edge (Some In) all = rate_fits ports edge.driver all
write_fits ports edge (Some Out) all = one_is_rate
write_fits ports edge (Some DeIn) all = one_is_rate
write_fits ports edge (Some DeOut) all = rate_fits ports (Some edge.port) all

read_fits : (ports : List Port) (edge : EdgeRow) (kind : Option PortKind) → AllByRecursion (λ (x : Port). IsRate x.rate) ports → IsRate (read_rate_by ports edge kind)
read_fits ports edge None all = one_is_rate
read_fits ports edge (Some In) all = rate_fits ports (Some edge.port) all
read_fits ports edge (Some Out) all = one_is_rate
read_fits ports edge (Some DeIn) all = rate_fits ports (Some edge.port) all
read_fits ports edge (Some DeOut) all = one_is_rate

module _ (rows : List PortRow) (ports : List Port) (rates : AllByRecursion (λ (x : Port). IsRate x.rate) ports) (count : ℕ) where
  edges_fit : (edges : List EdgeRow) → AllByRecursion (λ (e : EdgeRow). e.writer < count) edges → AllByRecursion (λ (e : EdgeRow). e.reader < count) edges
      → AllByRecursion (λ (e : EdgeRow). e.initial ≤ 2 * greatest_delay) edges → AllByRecursion (IsEdge count) (map (rated_edge rows ports) edges)
  edges_fit [] w r d = tt
  edges_fit (e ∷ edges) w r d = (
    record {
      writer = w.0;
      reader = r.0;
      writes = write_fits ports e _ rates;
      reads = read_fits ports e _ rates;
      starts = d.0;
    },
    edges_fit edges w.1 r.1 d.1,
  )

module _ (table : List AttrsOf) (modules count : ℕ) (few : modules ≤ count) where
  ports_fit : (rows : List PortRow) → AllByRecursion (λ (p : PortRow). p.«module» < modules) rows → AllByRecursion (λ (p : PortRow). IsRate (port_rate table p)) rows
      → AllByRecursion (IsGraphPort count) (map (rated_port table) rows)
  ports_fit [] own rates = tt
  ports_fit (p ∷ rows) own rates = (record { actor = (let h = own.0 in omega (arith, h, few)); rate = rates.0 }, ports_fit rows own.1 rates.1)

rates_of_ports : (table : List AttrsOf) (rows : List PortRow) → AllByRecursion (λ (p : PortRow). IsRate (port_rate table p)) rows → AllByRecursion (λ (x : Port). IsRate x.rate) (map (rated_port table) rows)
rates_of_ports table [] rates = tt
rates_of_ports table (p ∷ rows) rates = (rates.0, rates_of_ports table rows rates.1)

pub ports_are_fit : (tables : FlatTablesOf) (table : List AttrsOf) (count : ℕ) → AreInRange tables → length tables.modules ≤ count → AreRates tables table
    → All (IsGraphPort count) (net_ports tables table)
unfolding net_ports
ports_are_fit tables table count in_range few rates = All-from_recursion (IsGraphPort count) (map (rated_port table) tables.ports)
    (ports_fit table (length tables.modules) count few tables.ports (recursion_from_All (λ (p : PortRow). p.«module» < length tables.modules) tables.ports in_range.port_modules)
    (recursion_from_All (λ (p : PortRow). IsRate (port_rate table p)) tables.ports rates))

pub edges_are_fit : (tables : FlatTablesOf) (table : List AttrsOf) → AreInRange tables → All (λ (e : EdgeRow). e.initial ≤ 2 * greatest_delay) tables.edges → AreRates tables table
    → All (IsEdge (length tables.actors)) (map (rated_edge tables.ports (net_ports tables table)) tables.edges)
unfolding net_ports
edges_are_fit tables table in_range delays rates = All-from_recursion (IsEdge (length tables.actors)) (map (rated_edge tables.ports (net_ports tables table)) tables.edges)
    (edges_fit tables.ports (map (rated_port table) tables.ports) (rates_of_ports table tables.ports (recursion_from_All (λ (p : PortRow). IsRate (port_rate table p)) tables.ports rates))
    (length tables.actors) tables.edges
    (recursion_from_All (λ (e : EdgeRow). e.writer < length tables.actors) tables.edges in_range.edge_writers)
    (recursion_from_All (λ (e : EdgeRow). e.reader < length tables.actors) tables.edges in_range.edge_readers)
    (recursion_from_All (λ (e : EdgeRow). e.initial ≤ 2 * greatest_delay) tables.edges delays))

-- clusters don't depend on rates

contains_at : {X : Type 0} (xs : List X) (x : X) → Contains xs x → (j : ℕ) × (slice_get xs j ≡ Some x)
contains_at xs x found = (found.0, slice_get_read xs (length xs) found.0 x refl found.1 (sym found.2))

at_contains : {X : Type 0} (xs : List X) (j : ℕ) (x : X) → slice_get xs j ≡ Some x → Contains xs x
at_contains xs j x is = (j, slice_get_within xs j x is, get_or_from_slice_get xs j x x is)

module _ {A B : Type 0} (f g : A → B) where
  there : (xs : List A) (j : ℕ) (o : Option A) (y : B) → slice_get xs j ≡ o → option_map f o ≡ Some y → (x : A) × (f x ≡ y) × Contains (map g xs) (g x)
  there xs j None y is same = absurd (grind (arith, same))
  there xs j (Some x) y is same = (x, inside same, at_contains (map g xs) j (g x) (slice_get-map g xs j ∙ ap (option_map g) is))
    where
      or_this : Option B → B
      or_this None = y
      or_this (Some z) = z

      inside : Some (f x) ≡ Some y → f x ≡ y
      inside e = ap or_this e

  pub moved : (xs : List A) (y : B) → Contains (map f xs) y → (x : A) × (f x ≡ y) × Contains (map g xs) (g x)
  moved xs y found = let at = contains_at (map f xs) y found in there xs at.0 (slice_get xs at.0) y refl (sym (slice_get-map f xs at.0) ∙ at.1)

-- two lists of edges between the same actors
abbrev SameEnds : (f g : EdgeRow → Edge) → Type 0
SameEnds f g = (row : EdgeRow) → ((f row).writer ≡ (g row).writer) × ((f row).reader ≡ (g row).reader)

module _ (rows : List EdgeRow) (f g : EdgeRow → Edge) (same : SameEnds f g) where
  chain : {a b : ℕ} → Joined (map f rows) a b → Joined (map g rows) a b
  chain (stays a) = stays a
  chain {b = b} (goes e found rest) =
      let m = moved f g rows e found in
      let w : (g m.0).writer ≡ e.writer = sym (same m.0).0 ∙ ap (λ (x : Edge). x.writer) m.1 in
      let r : (g m.0).reader ≡ e.reader = sym (same m.0).1 ∙ ap (λ (x : Edge). x.reader) m.1 in
      subst (λ n. Joined (map g rows) n b) w (goes (g m.0) m.2 (subst (λ n. Joined (map g rows) n b) (sym r) (chain rest)))
  chain {b = b} (comes e found rest) =
      let m = moved f g rows e found in
      let w : (g m.0).writer ≡ e.writer = sym (same m.0).0 ∙ ap (λ (x : Edge). x.writer) m.1 in
      let r : (g m.0).reader ≡ e.reader = sym (same m.0).1 ∙ ap (λ (x : Edge). x.reader) m.1 in
      subst (λ n. Joined (map g rows) n b) r (comes (g m.0) m.2 (subst (λ n. Joined (map g rows) n b) (sym w) (chain rest)))

module _ (rows : List EdgeRow) (f g : EdgeRow → Edge) (same : SameEnds f g) where
  clusters_by : (count : ℕ) (numbers : List ℕ) → AreClusters count (map f rows) numbers → AreClusters count (map g rows) numbers
  clusters_by count numbers are = record {
    long = are.long;
    together = λ a b h k e. chain rows f g same (are.together a b h k e);
    joined = λ a b h k j. are.joined a b h k (chain rows g f (λ row. (sym (same row).0, sym (same row).1)) j);
    first = λ a h none. are.first a h (λ b less j. none b less (chain rows f g same j));
  }

pub rated_clusters : (tables : FlatTablesOf) (table : List AttrsOf) → IsWired tables
    → AreClusters (length tables.actors) (map (rated_edge tables.ports (net_ports tables table)) tables.edges) (clusters_of tables)
rated_clusters tables table wired = clusters_by tables.edges net_edge (rated_edge tables.ports (net_ports tables table)) (λ row. (refl, refl))
    (length tables.actors) (clusters_of tables) wired.actors.clusters

-- the modules are the first actors
pub modules_few : (tables : FlatTablesOf) → IsWired tables → length tables.modules ≤ length tables.actors
modules_few tables wired =
    let all = sym (length-map tables.actors actor_place) ∙ ap length wired.actors.places
    ∙ length-append (map module_actor (range_with_len 0 (length tables.modules))) (filter_map (λ port. port_actor port.0 port.1) (enumerate_from 0 tables.ports)) in
    let modules = length-map-range_with_len module_actor 0 (length tables.modules) in
    omega (arith, all, modules)
