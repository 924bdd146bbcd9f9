-- The samples of a signal and those of the edges of its readers.
use Rattle.std.proofs.Common.{◌≡◌, ◌∙◌, ℕ, suc, ◌+◌, ◌-◌, ◌*◌, ◌<◌, ◌≤◌, Bool, true, false, Option, Some, None, option_map, if◌then◌else◌, nat_lt, List, [], ◌∷◌, ◌++◌, length, length-append, map, append_assoc, slice_get, slice_index, slice_index_or, refl, ap, sym, subst, inl, inr, arith, ℤ}
use Rattle.std.proofs.Math.Nat.{mul-le-mul_right}
use Rattle.std.proofs.lemmas.Bool.{cases_lt, eq-eqb, le-ltb, lt-ltb}
use Rattle.std.proofs.lemmas.List.FromFn.{length-map-range_with_len}
use Rattle.std.proofs.lemmas.Option.{get_or_from_slice_get, slice_get-map, slice_get_within}
use Rattle.std.proofs.lemmas.Nat.{div-mul-add, mod-mul-add}
use Rattle.std.specs.List.{range_with_len, sum_by}
use Rattle.std.specs.Option.{option_and_then}
use Rattle.std.specs.Prelude.{All, IfSome}
use Rattle.tdf_fixed.specs.declared.raw.Raw.{Raw}
use Rattle.tdf_bind_tables.specs.FlatTables.{FlatTablesOf}
use Rattle.tdf_streams.proofs.Known.{find_more}
use Rattle.tdf_streams.proofs.Firing.{find_now}
use Rattle.tdf_streams.proofs.Lists.{get_high, get_low, get_made_at, some_same}
use Rattle.tdf_streams.proofs.Steps.{none_some}
use Rattle.tdf_streams.specs.Net.{Net, Past, Period, count, written}
use Rattle.tdf_streams.specs.Streams.{Spot, find, output, place, spot}
use Rattle.tdf_streams.specs.Carried.{EdgesBeginAsRead, EdgesCarrySignals, IsDriven, OutputsAreSamples}
use Rattle.tdf_streams.proofs.Edges.{EdgeIn, edge_in}
use Rattle.tdf_streams.proofs.Rows.{all_at}
use Rattle.tdf_streams.proofs.Starts.{edges_all, text_list}
use Rattle.tdf_streams.specs.Cluster.{cluster_net, driver_samples, initial_list, initial_sample, initial_samples, text_start, zero_sample}
use Rattle.tdf_streams.specs.Laws.{ClusterNet}
use Rattle.tdf_streams.specs.Places.{driver_or, source_at, source_of_row, writer_at, writer_of_row}
use Rattle.tdf_dynamic_plans.specs.Attributes.{AttrsOf, clusters_of}
use Rattle.tdf_dynamic_plans.specs.Rates.{edge_kind, kind_of_port, net_ports, rated_port, write_rate_by}
use Rattle.tdf_bind_invariants.specs.Below.{Flat, IsFlatOf}
use Rattle.tdf_bind_invariants.specs.Limits.{AreWithinLimits}
use Rattle.tdf_timestep.specs.Period.{port_rate_or_one, rate_at_port}
use Rattle.tdf_lang_tree.specs.Pure.{PureTree}
use Rattle.tdf_lang_tree.specs.declared.blocks.PortKind.{PortKind}
use Rattle.tdf_lang_tree.specs.declared.blocks.PortKind.TheVariants.{In, Out, DeIn, DeOut}
use Rattle.tdf_bind_connections.specs.Edges.{driven_edge, driver_port, edge_from, edge_of_kind, sampler_edge, sink_edge}
use Rattle.tdf_bind_connections.specs.declared.drivers.SignalRow.{SignalRow}
use Rattle.tdf_bind_connections.specs.declared.edges.EdgeRow.{EdgeRow}
use Rattle.tdf_streams.specs.Periods.{IsTimedRecord, PeriodInfo, PeriodRecord}
use Rattle.tdf_streams.specs.Signals.{output_at_spot, outputs_in, port_output, rate_in, signal_sample}
use Rattle.tdf_bind_connections.specs.declared.modules.PortRow.{PortRow}

pub outputs_are : OutputsAreSamples
unfolding port_output
outputs_are tables old p later port number a k past t inside below at =
    rw (late, rest, found, div-mul-add a (rate_in port p) k below, mod-mul-add a (rate_in port p) k below, at) refl
  where
    late : nat_lt (port.delay + (sum_by (outputs_in port) old + (a * rate_in port p + k))) port.delay ≡ false
    late = le-ltb _ _ (omega arith)

    rest : port.delay + (sum_by (outputs_in port) old + (a * rate_in port p + k)) - port.delay ≡ sum_by (outputs_in port) old + (a * rate_in port p + k)
    rest = omega arith

    early : a * rate_in port p + k < outputs_in port p
    early = let m : (a + 1) * rate_in port p ≤ count port.«module» p * rate_in port p = mul-le-mul_right (rate_in port p) (omega (arith, inside)) in
        let one : (a + 1) * rate_in port p ≡ a * rate_in port p + rate_in port p = grind arith in omega (arith, m, one, below)

    found : find (outputs_in port) [] (old ++ p ∷ later) (sum_by (outputs_in port) old + (a * rate_in port p + k)) ≡ Some (spot old p (a * rate_in port p + k))
    found = subst (λ ps. find (outputs_in port) [] ps (sum_by (outputs_in port) old + (a * rate_in port p + k)) ≡ Some (spot old p (a * rate_in port p + k))) (append_assoc old (p ∷ []) later)
        (find_more (outputs_in port) [] (old ++ p ∷ []) later (sum_by (outputs_in port) old + (a * rate_in port p + k)) (spot old p (a * rate_in port p + k))
        (find_now (outputs_in port) [] old p (a * rate_in port p + k) early))

-- two sizes that agree on all periods find the same spot
module _ {I : Type 0} (f g : Period I → ℕ) where
  found_alike : (before ps : List (Period I)) (n : ℕ) → ((k : ℕ) (p : Period I) → slice_get ps k ≡ Some p → f p ≡ g p) → find f before ps n ≡ find g before ps n
  unfolding find
  found_alike before [] n same = refl
  found_alike before (p ∷ ps) n same = rw (same 0 p refl, found_alike (before ++ p ∷ []) ps (n - g p) (λ k q at. same (suc k) q at)) refl

module _ {I : Type 0} (size : Period I → ℕ) where
  -- a spot that is found lies in one of the periods
  found_in : (before ps : List (Period I)) (n : ℕ) (s : Spot I) → find size before ps n ≡ Some s → (k : ℕ) × (slice_get ps k ≡ Some s.period)
  unfolding find
  found_in before [] n s at = none_some s at
  found_in before (p ∷ ps) n s at = go (nat_lt n (size p)) at (λ later. found_in (before ++ p ∷ []) ps (n - size p) s later)
    where
      go : (b : Bool) → (if b then Some (spot before p n) else find size (before ++ p ∷ []) ps (n - size p)) ≡ Some s
          → (find size (before ++ p ∷ []) ps (n - size p) ≡ Some s → (k : ℕ) × (slice_get ps k ≡ Some s.period)) → (k : ℕ) × (slice_get (p ∷ ps) k ≡ Some s.period)
      go true h rest = (0, ap Some (ap (λ (x : Spot I). x.period) (some_same (spot before p n) s h)))
      go false h rest = (let r = rest h in (suc r.0, r.1))

then_alike : {A B : Type 0} (f g : A → Option B) (o : Option A) → ((a : A) → o ≡ Some a → f a ≡ g a) → option_and_then f o ≡ option_and_then g o
then_alike f g None same = refl
then_alike f g (Some a) same = same a refl

module _ {S V I : Type 0} (net : Net S V I) (periods : List (Period I)) (past : Past S V) (e k : ℕ) where
  place_early : k < net.delay e → place net periods past e k ≡ Some (net.initial e k)
  unfolding place
  place_early early = rw (lt-ltb k (net.delay e) early) refl

  place_late : net.delay e ≤ k → place net periods past e k ≡ option_and_then (output net past e) (find (written net e) [] periods (k - net.delay e))
  unfolding place
  place_late late = rw (le-ltb k (net.delay e) late) refl

-- an item of the samples that a port begins with, after some others
item_after : (tables : FlatTablesOf) (front : List Raw) (port : PortRow) (d : Raw) (j : ℕ) → j < port.delay → slice_index_or (front ++ map (initial_sample tables port) (range_with_len 0 port.delay)) (length front + j) d ≡ initial_sample tables port j
item_after tables front port d j inside = get_or_from_slice_get _ (length front + j) (initial_sample tables port j) d
    (get_high front (map (initial_sample tables port) (range_with_len 0 port.delay)) (length front + j) (omega arith)
    ∙ ap (slice_get (map (initial_sample tables port) (range_with_len 0 port.delay))) (omega arith)
    ∙ get_made_at (initial_sample tables port) 0 port.delay j inside ∙ ap (λ n. Some (initial_sample tables port n)) (omega arith))

-- the edge of a port that reads a signal of samples
IsOfDriver : FlatTablesOf → EdgeRow → Type 0
IsOfDriver tables edge = (out : ℕ) (port driver : PortRow) → IsDriven tables edge out port driver
    → (port.kind ≡ In) × (edge.writer ≡ driver.«module») × (edge.initial ≡ port.delay + driver.delay)

module _ (tables : FlatTablesOf) (signals : List SignalRow) where
  undriven : (edge : EdgeRow) → edge.driver ≡ None → IsOfDriver tables edge
  unfolding IsOfDriver
  undriven edge none out port driver is = none_some out (sym none ∙ is.driven)

  from_out : (number : ℕ) (port : PortRow) (out : ℕ) (o : Option PortRow) → port.kind ≡ In → slice_get tables.ports number ≡ Some port → slice_get tables.ports out ≡ o → IfSome (edge_from number port out o) (IsOfDriver tables)
  unfolding IsOfDriver
  from_out number port out None kind at is = tt
  from_out number port out (Some driver) kind at is = λ out2 port2 driver2 driven.
      (let p : port ≡ port2 = some_same port port2 (sym at ∙ driven.reader) in
      let o : out ≡ out2 = some_same out out2 driven.driven in
      let d : driver ≡ driver2 = some_same driver driver2 (sym is ∙ ap (slice_get tables.ports) o ∙ driven.writer) in
      (ap (λ (x : PortRow). x.kind) (sym p) ∙ kind, ap (λ (x : PortRow). x.«module») d, ap (λ (x : PortRow). x.delay + driver.delay) p ∙ ap (λ (x : PortRow). port2.delay + x.delay) d))

  of_kind : (kind : PortKind) (number actor : ℕ) (port : PortRow) → port.kind ≡ kind → slice_get tables.ports number ≡ Some port → IfSome (edge_of_kind kind signals tables.ports number actor port) (IsOfDriver tables)
  of_kind In number actor port kind at = go (driver_port signals port.signal)
    where
      go : (o : Option ℕ) → IfSome (driven_edge tables.ports number port o) (IsOfDriver tables)
      go None = tt
      go (Some out) = from_out number port out (slice_get tables.ports out) kind at refl
  of_kind Out number actor port kind at = tt
  of_kind DeIn number actor port kind at = undriven (sampler_edge number actor port) refl
  of_kind DeOut number actor port kind at = undriven (sink_edge number actor port) refl

pub driven_is : (model : PureTree) (flat : Flat) (e : ℕ) (edge : EdgeRow) → IsFlatOf model flat → slice_get flat.tables.edges e ≡ Some edge
    → (out : ℕ) (port driver : PortRow) → IsDriven flat.tables edge out port driver → (port.kind ≡ In) × (edge.writer ≡ driver.«module») × (edge.initial ≡ port.delay + driver.delay)
unfolding IsOfDriver
driven_is model flat e edge is at = all_at (IsOfDriver flat.tables) flat.tables.edges e edge
    (edges_all model flat (IsOfDriver flat.tables) is (λ number actor port there. of_kind flat.tables flat.tables.signals port.kind number actor port refl there)) at

own_list : (model : PureTree) (flat : Flat) (cluster : ℕ) (table : List AttrsOf) (e : ℕ) (edge : EdgeRow) → slice_get flat.tables.edges e ≡ Some edge
    → slice_index (clusters_of flat.tables) edge.writer ≡ cluster → slice_index_or (text_start model flat cluster table).lists e [] ≡ initial_list flat.tables edge
own_list model flat cluster table e edge at own =
    let is : slice_index (clusters_of flat.tables) (writer_at flat.tables.edges e) ≡ cluster = ap (λ o. slice_index (clusters_of flat.tables) (writer_of_row o)) at ∙ own in
    text_list model flat cluster table e edge at ∙ ap (λ (b : Bool). if b then initial_list flat.tables edge else []) (eq-eqb (slice_index (clusters_of flat.tables) (writer_at flat.tables.edges e)) cluster is)

module _ (model : PureTree) (flat : Flat) (cluster : ℕ) (table : List AttrsOf) (periods : List PeriodRecord) (past : Past (List ℤ) Raw) (e : ℕ) (edge : EdgeRow) (port : PortRow)
    (is : IsFlatOf model flat) (at : slice_get flat.tables.edges e ≡ Some edge) (own : slice_index (clusters_of flat.tables) edge.writer ≡ cluster) (reader : slice_get flat.tables.ports edge.port ≡ Some port) where
  abbrev net : ClusterNet
  net = cluster_net model flat cluster (text_start model flat cluster table)

  -- the initial samples of a port
  abbrev firsts : PortRow → List Raw
  firsts row = map (initial_sample flat.tables row) (range_with_len 0 row.delay)

  firsts_long : (row : PortRow) → length (firsts row) ≡ row.delay
  firsts_long row = length-map-range_with_len (initial_sample flat.tables row) 0 row.delay

  list : slice_index_or (text_start model flat cluster table).lists e [] ≡ firsts port ++ driver_samples flat.tables edge.driver
  list = own_list model flat cluster table e edge at own ∙ ap (λ o. initial_samples flat.tables o ++ driver_samples flat.tables edge.driver) reader

  begins : (k : ℕ) → k < port.delay → place net periods past e k ≡ Some (initial_sample flat.tables port k)
  begins k early =
      let m = firsts_long port in
      place_early net periods past e k (subst (λ (l : List Raw). k < length l) (sym list) (let s = length-append (firsts port) (driver_samples flat.tables edge.driver) in omega (arith, s, m, early)))
      ∙ ap Some (ap (λ (l : List Raw). slice_index_or l k zero_sample) list ∙ get_or_from_slice_get (firsts port ++ driver_samples flat.tables edge.driver) k (initial_sample flat.tables port k) zero_sample
      (get_low (firsts port) (driver_samples flat.tables edge.driver) k (omega (arith, m, early))
      ∙ get_made_at (initial_sample flat.tables port) 0 port.delay k early ∙ ap (λ n. Some (initial_sample flat.tables port n)) (omega arith)))

  module _ (out : ℕ) (driver : PortRow) (limits : AreWithinLimits flat) (timed : All (IsTimedRecord flat cluster) periods) (driven : IsDriven flat.tables edge out port driver) where
    facts : (port.kind ≡ In) × (edge.writer ≡ driver.«module») × (edge.initial ≡ port.delay + driver.delay)
    facts = driven_is model flat e edge is at out port driver driven

    both_lists : slice_index_or (text_start model flat cluster table).lists e [] ≡ firsts port ++ firsts driver
    both_lists = list ∙ ap (λ o. firsts port ++ driver_samples flat.tables o) driven.driven ∙ ap (λ o. firsts port ++ initial_samples flat.tables o) driven.writer

    delay_is : net.delay e ≡ port.delay + driver.delay
    delay_is = let l : net.delay e ≡ length (firsts port ++ firsts driver) = ap length both_lists in
        let s = length-append (firsts port) (firsts driver) in let m = firsts_long port in let d = firsts_long driver in omega (arith, l, s, m, d)

    writer_is : writer_at flat.tables.edges e ≡ driver.«module»
    writer_is = ap writer_of_row at ∙ facts.1

    source_is : source_at flat.tables.edges e ≡ out
    source_is = ap source_of_row at ∙ ap (driver_or edge.port) driven.driven

    writes_are : (p : PeriodRecord) → IsTimedRecord flat cluster p → slice_index p.writes e ≡ rate_in driver p
    unfolding net_ports
    writes_are p one =
        here.writes ∙ ap (λ (x : EdgeRow). write_rate_by (net_ports flat.tables p.info.table) x (edge_kind flat.tables.ports x)) (some_same here.edge edge (sym here.at ∙ at))
        ∙ ap (write_rate_by (net_ports flat.tables p.info.table) edge) (ap kind_of_port reader ∙ ap Some facts.0)
        ∙ ap (rate_at_port (net_ports flat.tables p.info.table)) driven.driven
        ∙ ap port_rate_or_one (slice_get-map (rated_port p.info.table) flat.tables.ports out ∙ ap (option_map (rated_port p.info.table)) driven.writer)
      where
        here : EdgeIn flat limits cluster p one e
        here = edge_in flat limits cluster p one e (slice_get_within flat.tables.edges e edge at)

    timed_at : (k : ℕ) (p : PeriodRecord) → slice_get periods k ≡ Some p → IsTimedRecord flat cluster p
    timed_at k p there = all_at (IsTimedRecord flat cluster) periods k p timed there

    sizes : (k : ℕ) (p : PeriodRecord) → slice_get periods k ≡ Some p → written net e p ≡ outputs_in driver p
    sizes k p there = ap (λ n. slice_index p.counts n * slice_index p.writes e) writer_is ∙ ap (λ n. slice_index p.counts driver.«module» * n) (writes_are p (timed_at k p there))

    outs : (n : ℕ) (s : Spot PeriodInfo) → find (outputs_in driver) [] periods n ≡ Some s → output net past e s ≡ output_at_spot driver out past s
    unfolding output
    outs n s found = let in_one = found_in (outputs_in driver) [] periods n s found in rw (writes_are s.period (timed_at in_one.0 s.period in_one.1), writer_is, source_is) refl

    carries : (j : ℕ) → place net periods past e (port.delay + j) ≡ signal_sample flat.tables periods driver out past j
    unfolding port_output
    carries j = elim (cases_lt j driver.delay) [
      | inl early ↦ place_early net periods past e (port.delay + j) (let d = delay_is in omega (arith, d, early))
          ∙ ap Some (ap (λ (l : List Raw). slice_index_or l (port.delay + j) zero_sample) both_lists ∙ ap (λ n. slice_index_or (firsts port ++ firsts driver) (n + j) zero_sample) (sym (firsts_long port))
          ∙ item_after flat.tables (firsts port) driver zero_sample j early)
          ∙ sym (ap (λ (b : Bool). if b then Some (initial_sample flat.tables driver j) else port_output periods driver out past (j - driver.delay)) (lt-ltb j driver.delay early))
      | inr late ↦ place_late net periods past e (port.delay + j) (let d = delay_is in omega (arith, d, late))
          ∙ ap (λ n. option_and_then (output net past e) (find (written net e) [] periods n)) (let d = delay_is in let k : port.delay + j - net.delay e ≡ j - driver.delay = omega (arith, d) in k)
          ∙ ap (option_and_then (output net past e)) (found_alike (written net e) (outputs_in driver) [] periods (j - driver.delay) sizes)
          ∙ then_alike (output net past e) (output_at_spot driver out past) (find (outputs_in driver) [] periods (j - driver.delay)) (λ s found. outs (j - driver.delay) s found)
          ∙ sym (ap (λ (b : Bool). if b then Some (initial_sample flat.tables driver j) else port_output periods driver out past (j - driver.delay)) (le-ltb j driver.delay late))
    ]

pub begin_as_read : EdgesBeginAsRead
begin_as_read model flat cluster table periods past e k edge port is at own reader early = begins model flat cluster table periods past e edge port is at own reader k early

pub edges_carry : EdgesCarrySignals
edges_carry model flat cluster table periods past e out j edge port driver limits is timed at own driven =
    carries model flat cluster table periods past e edge port is at own driven.reader out driver limits timed driven j
