-- A cluster of a flat model as a net of streams, and how it starts.
-- Source: own; initial samples after IEEE 1666.1-2016, delays of TDF ports.
use Rattle.std.specs.Prelude.{ℕ, Bool, true, false, not, ◌||◌, List, [], ◌∷◌, ◌++◌, length, map, Option, Some, None, ℤ, pos, nat_eq, if◌then◌else◌, slice_get, slice_index, slice_index_or}
use Rattle.std.specs.List.{enumerate_from, range_with_len}
use Rattle.tdf_bind_tables.specs.FlatTables.{FlatTablesOf}
use Rattle.tdf_dynamic_plans.specs.Attributes.{AttrsOf, attrs_at, clusters_of, rates_in}
use Rattle.tdf_fixed.specs.Cast.{fraction_of}
use Rattle.tdf_fixed.specs.declared.raw.Raw.{Raw}
use Rattle.tdf_bind_invariants.specs.Below.{Flat}
use Rattle.tdf_streams.specs.Net.{Net}
use Rattle.tdf_graph.specs.declared.actors.Actor.{Actor}
use Rattle.tdf_graph.specs.declared.actors.Actor.TheVariants as actor
use Rattle.tdf_streams.specs.Bodies.{module_acted, changed, initialized, reinitialized}
use Rattle.tdf_streams.specs.Periods.{PeriodInfo}
use Rattle.tdf_streams.specs.Places.{actor_kind, is_own, reader_at, source_at, writer_at}
use Rattle.tdf_lang_tree.specs.Pure.{PureTree}
use Rattle.tdf_lang_tree.specs.declared.blocks.PortKind.{PortKind}
use Rattle.tdf_lang_tree.specs.declared.blocks.PortKind.TheVariants.{In, Out, DeIn, DeOut}
use Rattle.tdf_bind_connections.specs.declared.drivers.SignalRow.{SignalRow}
use Rattle.tdf_bind_connections.specs.declared.edges.EdgeRow.{EdgeRow}
use Rattle.tdf_bind_connections.specs.declared.modules.PortRow.{PortRow}

-- what a cluster starts from: the samples that each edge holds, none for edges of other clusters,
-- and what the variables of each module hold
pub record Start : Type 0 where
  pub lists : List (List Raw)
  pub cells : List (List ℤ)

abbrev pub is_sampler_kind : Option Actor → Bool
is_sampler_kind (Some actor.Sampler) = true
is_sampler_kind _ = false

-- a sampler's values come from outside; and an actor of another cluster counts as one, so that
-- nothing is said of it
abbrev pub is_outside_cluster : FlatTablesOf → (cluster : ℕ) → ℕ → Bool
is_outside_cluster tables cluster m = is_sampler_kind (actor_kind tables m)
    || not (nat_eq (slice_index (clusters_of tables) m) cluster)

abbrev pub zero_sample : Raw
zero_sample = record { num = pos 0; frac = 0 }

-- the streams of a cluster from a start on; actors and edges have the numbers of the flat model
abbrev pub cluster_net : PureTree → Flat → (cluster : ℕ) → Start → Net (List ℤ) Raw PeriodInfo
cluster_net model flat cluster start = record {
  edges = length flat.tables.edges;
  writer = λ e. writer_at flat.tables.edges e;
  reader = λ e. reader_at flat.tables.edges e;
  source = λ e. source_at flat.tables.edges e;
  delay = λ e. length (slice_index_or start.lists e []);
  initial = λ e k. slice_index_or (slice_index_or start.lists e []) k zero_sample;
  is_sampler = λ m. is_outside_cluster flat.tables cluster m;
  start = λ m. slice_index_or start.cells m [];
  change = λ m periods cells. changed model flat m periods cells;
  reinitialize = λ m p cells. reinitialized model flat m p.info cells;
  process = λ m p cells inputs.
      module_acted model flat m (actor_kind flat.tables m) p.info cells inputs;
}

-- how many fraction bits the samples of a signal have
abbrev pub fraction_of_row : Option SignalRow → ℕ
fraction_of_row None = 0
fraction_of_row (Some signal) = fraction_of signal.format

abbrev pub fraction_of_kind : FlatTablesOf → PortKind → ℕ → ℕ
fraction_of_kind tables In signal = fraction_of_row (slice_get tables.signals signal)
fraction_of_kind tables Out signal = fraction_of_row (slice_get tables.signals signal)
fraction_of_kind tables DeIn signal = fraction_of_row (slice_get tables.de_signals signal)
fraction_of_kind tables DeOut signal = fraction_of_row (slice_get tables.de_signals signal)

-- a sample 0 of the format of a port's signal
abbrev pub zero_of_port : FlatTablesOf → PortRow → Raw
zero_of_port tables port =
    record { num = pos 0; frac = fraction_of_kind tables port.kind port.signal }

-- initial sample k of a port: the last one that is given for this place, else 0
abbrev pub given_at : Raw → ℕ → List (ℕ × Raw) → Raw
given_at zero k [] = zero
given_at zero k (given ∷ rest) =
    given_at (if nat_eq given.0 k then given.1 else zero) k rest

abbrev pub initial_sample : FlatTablesOf → PortRow → ℕ → Raw
initial_sample tables port k = given_at (zero_of_port tables port) k port.initials

-- those of a port, as many as its delay
abbrev pub initial_samples : FlatTablesOf → Option PortRow → List Raw
initial_samples tables None = []
initial_samples tables (Some port) =
    map (initial_sample tables port) (range_with_len 0 port.delay)

abbrev pub driver_samples : FlatTablesOf → Option ℕ → List Raw
driver_samples tables None = []
driver_samples tables (Some driver) = initial_samples tables (slice_get tables.ports driver)

-- the samples that an edge holds at first: the initial ones of the port that gives it, then those
-- of the port that drives it
abbrev pub initial_list : FlatTablesOf → EdgeRow → List Raw
initial_list tables edge =
    initial_samples tables (slice_get tables.ports edge.port) ++ driver_samples tables edge.driver

abbrev pub list_if_own : FlatTablesOf → (cluster : ℕ) → ℕ → EdgeRow → List Raw
list_if_own tables cluster e edge =
    if is_own tables cluster e then initial_list tables edge else []

-- how a cluster starts as the text says it, under these attributes
abbrev pub text_start : PureTree → Flat → (cluster : ℕ) → List AttrsOf → Start
text_start model flat cluster table = record {
  lists = map (λ edge. list_if_own flat.tables cluster edge.0 edge.1)
      (enumerate_from 0 flat.tables.edges);
  cells = map (λ m. initialized model flat m (rates_in (attrs_at table m)))
      (range_with_len 0 (length flat.tables.modules));
}
