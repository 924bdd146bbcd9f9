-- A model has one first fault at most, and none where it has a flat model.
use Rattle.std.proofs.Common.{◌≡◌, ◌∙◌, false, List, [], ◌∷◌, Some, length, map, refl, sym, ap, arith}
use Rattle.std.proofs.lemmas.List.{length-map}
use Rattle.std.proofs.lemmas.Option.{none-some, same_Some}
use Rattle.std.specs.List.{AllZip, cons_option}
use Rattle.std.specs.Option.{option_map}
use Rattle.std.specs.Prelude.{slice_get}
use Rattle.tdf_base.specs.declared.faults.Fault.{Fault}
use Rattle.tdf_bind_tables.specs.Actors.{AreActors, cluster_of}
use Rattle.tdf_bind_tables.specs.FlatTables.{FlatTablesOf, FollowsFrom, HasManyClusters, IsFirstTableFault, OfDriver, OfTrace, OfClusters, count_in, driver_faults_in, driver_report, edges_in, ports_in, signals_in, trace_report}
use Rattle.tdf_bind.proofs.OneFlat.{one_actors, same_edges, same_graph}
use Rattle.tdf_graph.specs.Clusters.{greatest}
use Rattle.tdf_bind_hierarchy.specs.Tables.{TablesOf}
use Rattle.tdf_bind_connections.specs.Drivers.{misdriven, signal_rows, writers_in}
use Rattle.tdf_bind_connections.specs.Modules.{module_row, placed_modules}
use Rattle.tdf_bind_connections.specs.Traces.{IsTraceOf, unknown_line, unknown_lines}
use Rattle.tdf_bind_connections.specs.declared.roles.Role.{Role}
use Rattle.tdf_bind_connections.specs.declared.traces.TraceLine.{TraceLine}
use Rattle.tdf_bind_connections.specs.declared.traces.TraceRow.{TraceRow}

-- where there are no faults there is no first one
no_first : {A : Type 0} (report : A → Fault) (faults : List A) (fault : Fault) → faults ≡ [] → option_map report (slice_get faults 0) ≡ Some fault → ⊥
no_first report faults fault none first = none-some fault (sym (ap (λ l. option_map report (slice_get l 0)) none) ∙ first)

module _ (roles : List Role) (tables : TablesOf) (lines : List TraceLine) where
  drivers_first : (f : Fault) → driver_faults_in roles tables ≡ [] → option_map (driver_report tables) (slice_get (driver_faults_in roles tables) 0) ≡ Some f → ⊥
  drivers_first f none first = no_first (driver_report tables) (driver_faults_in roles tables) f none first

  traces_first : (f : Fault) → unknown_lines tables lines ≡ [] → option_map trace_report (slice_get (unknown_lines tables lines) 0) ≡ Some f → ⊥
  traces_first f none first = no_first trace_report (unknown_lines tables lines) f none first

  pub one_first : (f g : Fault) → IsFirstTableFault roles tables lines f → IsFirstTableFault roles tables lines g → f ≡ g
  one_first f g (OfDriver d) (OfDriver e) = same_Some f g (sym d ∙ e)
  one_first f g (OfDriver d) (OfTrace none e) = absurd (drivers_first f none d)
  one_first f g (OfDriver d) (OfClusters none known many is) = absurd (drivers_first f none d)
  one_first f g (OfTrace none d) (OfDriver e) = absurd (drivers_first g none e)
  one_first f g (OfTrace none d) (OfTrace other e) = same_Some f g (sym d ∙ e)
  one_first f g (OfTrace none d) (OfClusters other known many is) = absurd (traces_first f known d)
  one_first f g (OfClusters none known many is) (OfDriver e) = absurd (drivers_first g none e)
  one_first f g (OfClusters none known many is) (OfTrace other e) = absurd (traces_first g known e)
  one_first f g (OfClusters none known many is) (OfClusters other same more are) = is ∙ sym are

-- the lines of traces that lead to signals are known
no_unknown : (tables : TablesOf) (rows : List TraceRow) (lines : List TraceLine) → AllZip (IsTraceOf tables) rows lines → unknown_lines tables lines ≡ []
no_unknown tables [] [] are = refl
no_unknown tables [] (line ∷ lines) are = absurd are
no_unknown tables (row ∷ rows) [] are = absurd are
no_unknown tables (row ∷ rows) (line ∷ lines) are = ap (λ o. cons_option (unknown_line line o) (unknown_lines tables lines)) are.0.signal ∙ no_unknown tables rows lines are.1

module _ (roles : List Role) (tables : TablesOf) (lines : List TraceLine) (flat : FlatTablesOf) (follows : FollowsFrom tables roles lines flat) where
  ports : flat.ports ≡ ports_in roles tables
  ports = follows.modules.ports

  count : length flat.modules ≡ count_in roles tables
  count = ap length follows.modules.modules ∙ length-map (placed_modules roles tables.instances) module_row

  signals : flat.signals ≡ signals_in roles tables
  signals = follows.signals.signals ∙ ap (λ p. signal_rows (writers_in roles tables p false) tables.signals) ports

  edges : flat.edges ≡ edges_in roles tables
  edges = follows.edges ∙ same_edges (length flat.modules) (count_in roles tables) flat.signals (signals_in roles tables) flat.ports (ports_in roles tables) count signals ports

  actors : AreActors (count_in roles tables) (ports_in roles tables) (edges_in roles tables) flat.actors
  actors = same_graph (length flat.modules) (count_in roles tables) flat.ports (ports_in roles tables) flat.edges (edges_in roles tables) flat.actors count ports edges follows.actors

  not_many : HasManyClusters (count_in roles tables) (ports_in roles tables) (edges_in roles tables) → ⊥
  not_many many =
      let same : greatest (map cluster_of many.actors) ≡ greatest (map cluster_of flat.actors) = ap (λ rows. greatest (map cluster_of rows))
      (one_actors (count_in roles tables) (ports_in roles tables) (edges_in roles tables) many.actors flat.actors many.are actors) in
      let more = many.many in
      let few = follows.clusters in
      omega (arith, same, more, few)

  drivers : driver_faults_in roles tables ≡ []
  drivers = ap (misdriven roles tables) (sym ports) ∙ follows.drivers

  pub first_or_flat : (fault : Fault) → IsFirstTableFault roles tables lines fault → ⊥
  first_or_flat fault (OfDriver first) = drivers_first roles tables lines fault drivers first
  first_or_flat fault (OfTrace none first) = traces_first roles tables lines fault (no_unknown tables flat.traces lines follows.traces) first
  first_or_flat fault (OfClusters none known many is) = not_many many
