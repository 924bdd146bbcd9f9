-- The lists of a cluster at the start as the text says it.
use Rattle.std.proofs.Common.{◌≡◌, ◌∙◌, ℕ, zero, suc, ◌+◌, ◌*◌, Bool, true, false, if◌then◌else◌, Option, Some, None, option_map, List, [], ◌∷◌, length, length-append, slice_get, slice_index, slice_index_or, refl, ap, sym, subst, arith}
use Rattle.std.proofs.lemmas.List.FromFn.{length-map-range_with_len}
use Rattle.std.proofs.lemmas.List.Elements.{All-from_recursion}
use Rattle.std.proofs.lemmas.Option.{get_or_from_slice_get, slice_get-map}
use Rattle.std.specs.List.{AllByRecursion, cons_option, enumerate_from}
use Rattle.std.specs.Prelude.{All, IfSome, filter_map}
use Rattle.tdf_bind_tables.specs.FlatTables.{FlatTablesOf}
use Rattle.tdf_dynamic_plans.specs.Attributes.{AttrsOf}
use Rattle.tdf_bind_invariants.specs.Below.{Flat, IsFlatOf}
use Rattle.tdf_streams.proofs.Lists.{get_inside}
use Rattle.tdf_streams.proofs.Steps.{none_some}
use Rattle.tdf_streams.proofs.Rows.{all_at}
use Rattle.tdf_streams.specs.Cluster.{driver_samples, initial_list, initial_sample, initial_samples, list_if_own, text_start}
use Rattle.tdf_streams.specs.Laws.{TextHasLists, TextHoldsDelays}
use Rattle.tdf_streams.specs.Periods.{done_before}
use Rattle.tdf_streams.specs.Places.{is_own, reader_at, writer_at}
use Rattle.tdf_streams.specs.Starts.{initial_of_row}
use Rattle.tdf_lang_tree.specs.Pure.{PureTree}
use Rattle.tdf_lang_tree.specs.declared.blocks.PortKind.{PortKind}
use Rattle.tdf_lang_tree.specs.declared.blocks.PortKind.TheVariants.{In, Out, DeIn, DeOut}
use Rattle.tdf_bind_connections.specs.Edges.{actor_at, driven_edge, driver_port, edge_by, edge_from, edge_of_kind, edges_of}
use Rattle.tdf_bind_connections.specs.declared.drivers.SignalRow.{SignalRow}
use Rattle.tdf_bind_connections.specs.declared.edges.EdgeRow.{EdgeRow}
use Rattle.tdf_bind_connections.specs.declared.modules.PortRow.{PortRow}

-- a port has as many initial samples as its delay
samples_long : (tables : FlatTablesOf) (o : Option PortRow) (port : PortRow) → o ≡ Some port → length (initial_samples tables o) ≡ port.delay
samples_long tables o port is = ap (λ x. length (initial_samples tables x)) is ∙ length-map-range_with_len (initial_sample tables port) 0 port.delay

module _ (tables : FlatTablesOf) (signals : List SignalRow) where
  -- the samples of an edge are as many as it says
  IsLong : EdgeRow → Type 0
  IsLong edge = length (initial_list tables edge) ≡ edge.initial

  one_port : (number : ℕ) (port : PortRow) (edge : EdgeRow) → slice_get tables.ports number ≡ Some port → edge.port ≡ number → edge.driver ≡ None → edge.initial ≡ port.delay → IsLong edge
  unfolding IsLong
  one_port number port edge at of_port undriven delay =
      let a = samples_long tables (slice_get tables.ports edge.port) port (ap (slice_get tables.ports) of_port ∙ at) in
      let d : length (driver_samples tables edge.driver) ≡ 0 = ap (λ o. length (driver_samples tables o)) undriven in
      let s = length-append (initial_samples tables (slice_get tables.ports edge.port)) (driver_samples tables edge.driver) in
      omega (arith, a, d, s, delay)

  from_port : (number : ℕ) (port : PortRow) (out : ℕ) (o : Option PortRow) → slice_get tables.ports number ≡ Some port → slice_get tables.ports out ≡ o → IfSome (edge_from number port out o) IsLong
  unfolding IsLong
  from_port number port out None at is = tt
  from_port number port out (Some driver) at is =
      let a = samples_long tables (slice_get tables.ports number) port at in
      let d = samples_long tables (slice_get tables.ports out) driver is in
      let s = length-append (initial_samples tables (slice_get tables.ports number)) (initial_samples tables (slice_get tables.ports out)) in
      omega (arith, a, d, s)

  driven : (number : ℕ) (port : PortRow) (o : Option ℕ) → slice_get tables.ports number ≡ Some port → IfSome (driven_edge tables.ports number port o) IsLong
  driven number port None at = tt
  driven number port (Some out) at = from_port number port out (slice_get tables.ports out) at refl

  by_kind : (kind : PortKind) (number actor : ℕ) (port : PortRow) → slice_get tables.ports number ≡ Some port → IfSome (edge_of_kind kind signals tables.ports number actor port) IsLong
  by_kind In number actor port at = driven number port (driver_port signals port.signal) at
  by_kind Out number actor port at = tt
  by_kind DeIn number actor port at = one_port number port _ at refl refl refl
  by_kind DeOut number actor port at = one_port number port _ at refl refl refl

-- what holds of the edge that each port gives holds of all edges of a flat model
module _ (signals : List SignalRow) (ports : List PortRow) (P : EdgeRow → Type 0)
    (each : (number actor : ℕ) (port : PortRow) → slice_get ports number ≡ Some port → IfSome (edge_of_kind port.kind signals ports number actor port) P) where
  one_more : (o : Option EdgeRow) (edges : List EdgeRow) → IfSome o P → AllByRecursion P edges → AllByRecursion P (cons_option o edges)
  one_more None edges here rest = rest
  one_more (Some edge) edges here rest = (here, rest)

  all_from : (modules k : ℕ) (rows : List PortRow) → ((j : ℕ) → slice_get ports (k + j) ≡ slice_get rows j)
      → AllByRecursion P (filter_map (λ port. edge_by signals ports port.0 (actor_at modules ports port.0) port.1) (enumerate_from k rows))
  all_from modules k [] same = tt
  all_from modules k (port ∷ rows) same =
      let z : k ≡ k + 0 = omega arith in
      one_more (edge_by signals ports k (actor_at modules ports k) port) _ (each k (actor_at modules ports k) port (ap (slice_get ports) z ∙ same 0))
      (all_from modules (k + 1) rows (λ j. let n : k + 1 + j ≡ k + suc j = omega arith in ap (slice_get ports) n ∙ same (suc j)))

pub edges_all : (model : PureTree) (flat : Flat) (P : EdgeRow → Type 0) → IsFlatOf model flat
    → ((number actor : ℕ) (port : PortRow) → slice_get flat.tables.ports number ≡ Some port → IfSome (edge_of_kind port.kind flat.tables.signals flat.tables.ports number actor port) P) → All P flat.tables.edges
edges_all model flat P is each = subst (λ (es : List EdgeRow). All P es) (sym is.tables.follows.edges)
    (All-from_recursion P (edges_of (length flat.tables.modules) flat.tables.signals flat.tables.ports)
    (all_from flat.tables.signals flat.tables.ports P each (length flat.tables.modules) 0 flat.tables.ports (λ j. let z : 0 + j ≡ j = omega arith in ap (slice_get flat.tables.ports) z)))

-- an edge of a flat model holds at the start of the text as many samples as it says
list_long : (model : PureTree) (flat : Flat) → IsFlatOf model flat → (e : ℕ) (edge : EdgeRow) → slice_get flat.tables.edges e ≡ Some edge → length (initial_list flat.tables edge) ≡ edge.initial
unfolding IsLong
list_long model flat is e edge at = all_at (λ (x : EdgeRow). length (initial_list flat.tables x) ≡ x.initial) flat.tables.edges e edge
    (edges_all model flat (λ (x : EdgeRow). length (initial_list flat.tables x) ≡ x.initial) is (λ number actor port there. by_kind flat.tables flat.tables.signals port.kind number actor port there)) at

numbered : {X : Type 0} (k : ℕ) (xs : List X) (j : ℕ) (x : X) → slice_get xs j ≡ Some x → slice_get (enumerate_from k xs) j ≡ Some (k + j, x)
numbered k [] j x at = none_some x at
numbered k (y ∷ xs) zero x at = let z : k ≡ k + 0 = omega arith in ap (λ n. Some (n, y)) z ∙ ap (option_map (λ q. (k + 0, q))) at
numbered k (y ∷ xs) (suc j) x at = let n : k + 1 + j ≡ k + suc j = omega arith in numbered (k + 1) xs j x at ∙ ap (λ q. Some (q, x)) n

own_long : (tables : FlatTablesOf) (cluster e : ℕ) (edge : EdgeRow) (own : Bool) → length (initial_list tables edge) ≡ edge.initial
    → length (if own then initial_list tables edge else []) ≡ (if own then edge.initial else 0)
own_long tables cluster e edge true long = long
own_long tables cluster e edge false long = refl

-- the list of an edge at the start of the text
pub text_list : (model : PureTree) (flat : Flat) (cluster : ℕ) (table : List AttrsOf) (e : ℕ) (edge : EdgeRow) → slice_get flat.tables.edges e ≡ Some edge
    → slice_index_or (text_start model flat cluster table).lists e [] ≡ list_if_own flat.tables cluster e edge
text_list model flat cluster table e edge at = get_or_from_slice_get (text_start model flat cluster table).lists e (list_if_own flat.tables cluster e edge) []
    (slice_get-map (λ edge. list_if_own flat.tables cluster edge.0 edge.1) (enumerate_from 0 flat.tables.edges) e
    ∙ ap (option_map (λ edge. list_if_own flat.tables cluster edge.0 edge.1)) (numbered 0 flat.tables.edges e edge at ∙ ap (λ n. Some (n, edge)) (omega arith)))

pub text_holds_delays : TextHoldsDelays
text_holds_delays model flat cluster table is e inside =
    ap length (text_list model flat cluster table e row.0 row.1) ∙ own_long flat.tables cluster e row.0 (is_own flat.tables cluster e) (list_long model flat is e row.0 row.1)
    ∙ ap (λ n. if is_own flat.tables cluster e then n else 0) (ap initial_of_row (sym row.1))
  where
    row : (edge : EdgeRow) × (slice_get flat.tables.edges e ≡ Some edge)
    row = get_inside flat.tables.edges e inside

pub text_has_lists : TextHasLists
text_has_lists model flat cluster table p is whole e inside =
    let l = text_holds_delays model flat cluster table is e inside in
    let r = none_before (reader_at flat.tables.edges e) (slice_index p.reads e) in let w = none_before (writer_at flat.tables.edges e) (slice_index p.writes e) in omega (arith, l, r, w)
  where
    none_before : (m k : ℕ) → done_before p m * k ≡ 0
    none_before m k = let same : slice_index p.counts m ≡ slice_index p.info.counts m = ap (λ l. slice_index l m) whole in
        let z : done_before p m ≡ 0 = omega (arith, same) in rw z (omega arith)
