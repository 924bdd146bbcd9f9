use Rattle.std.proofs.Common.{◌≡◌, ◌∙◌, ◌<◌, ◌↔◌, ℕ, ℤ, [], Global, List, Vec, ap, arith, length, map, subst, sym, take, true}
use Rattle.std.specs.Prelude.{Contains, slice_index, slice_index_or}
use Rattle.tdf_bind_tables.specs.FlatTables.{FlatTablesOf}
use Rattle.tdf_cluster_net.specs.Numbers.{AllBelow, Rise}
use Rattle.tdf_cluster_plans.specs.Groups.{AreTableGroups, TableGroupsOf}
use Rattle.tdf_dynamic_first.specs.declared.first.First.{First}
use Rattle.tdf_dynamic_plans.specs.Attributes.{AttrsOf, clusters_of}
use Rattle.tdf_dynamic_plans.specs.Rates.{net_of}
use Rattle.tdf_exec_parts.proofs.FirstRings.{in_groups}
use Rattle.tdf_exec_parts.proofs.Left.{all_held, all_left}
use Rattle.tdf_exec_parts.proofs.OwnEdges.{own_at, own_below, own_numbers}
use Rattle.tdf_exec_parts.proofs.judging.hold_edges.Goals as goal
use Rattle.tdf_exec_parts.specs.States.{HoldEdges}
use Rattle.tdf_exec_parts.specs.machine.Traffic.{AreLeft}
use Rattle.tdf_schedule.specs.declared.entry.Entry.{Entry}
use Rattle.tdf_exec_layout.specs.Below.{read_rates, write_rates}

-- what is the cluster's own
module _ (tables : FlatTablesOf) (groups : TableGroupsOf) (cluster : ℕ) (has : Contains (clusters_of tables) cluster) (are : AreTableGroups tables groups) where
  in_actors : cluster < length groups.actors
  in_actors = let less = in_groups tables groups cluster has are in let long = are.actors.long in omega (arith, less, long)

  in_edges : cluster < length groups.edges
  in_edges = let less = in_groups tables groups cluster has are in let long = are.edges.long in omega (arith, less, long)

  actors_rise : (numbers : List ℕ) → numbers ≡ slice_index_or groups.actors cluster [] → Rise numbers
  actors_rise numbers is = subst (λ (l : List ℕ). Rise l) (sym is) ((are.actors.each cluster (in_groups tables groups cluster has are)).rising)

  edges_are : (numbers : List ℕ) → numbers ≡ slice_index_or groups.edges cluster [] → numbers ≡ own_below tables cluster (length tables.edges)
  edges_are numbers is = is ∙ own_numbers tables groups cluster has are

  edges_inside : (numbers : List ℕ) → numbers ≡ slice_index_or groups.edges cluster [] → AllBelow (length tables.edges) numbers
  edges_inside numbers is i less = (own_at tables cluster numbers (edges_are numbers is) i less).0

pub actors-requires : goal.actors-requires
actors-requires c = in_actors c.args.flat.now.tables c.args.groups.now c.args.cluster c.requires.has c.requires.groups

pub firings-requires : goal.firings-requires
firings-requires c = actors_rise c.args.flat.now.tables c.args.groups.now c.args.cluster c.requires.has c.requires.groups c.actors.result.now c.actors.ensures

pub actors-requires-2 : goal.actors-requires-2
actors-requires-2 c = in_actors c.args.flat.now.tables c.args.groups.now c.args.cluster c.requires.has c.requires.groups

pub edges-numbers-requires : goal.edges-numbers-requires
edges-numbers-requires c = in_edges c.args.flat.now.tables c.args.groups.now c.args.cluster c.requires.has c.requires.groups

pub set_own_rates-requires-clause-inside : goal.set_own_rates-requires-clause-inside
set_own_rates-requires-clause-inside c = edges_inside c.args.flat.now.tables c.args.groups.now c.args.cluster c.requires.has c.requires.groups c.edges-numbers.result.now c.edges-numbers.ensures

pub are_left-requires-clause-inside : goal.are_left-requires-clause-inside
are_left-requires-clause-inside c = edges_inside c.args.flat.now.tables c.args.groups.now c.args.cluster c.requires.has c.requires.groups c.edges-numbers.result.now c.edges-numbers.ensures

abbrev items : Vec ℤ Global → List ℤ
items nums = nums.items

pub returns : goal.returns
returns c =
    let t = c.args.flat.now.tables in
    let cluster = c.args.cluster in
    let first = c.args.first.now in
    let place = c.args.place in
    let entries = c.deref.result.now in
    let numbers = c.edges-numbers.result.now in
    let reads = c.deref-4.result.now in
    let writes = c.deref-5.result.now in
    let edges = map items c.args.edges.now in
    let entries_are : entries ≡ first.plan.entries.items = c.deref.ensures.value ∙ ap (λ (x : First). x.plan.entries.items) c.first.view_is in
    let rows_are : c.deref-3.result.now ≡ first.attrs.rows = c.deref-3.ensures.value ∙ ap (λ (x : First). x.attrs.rows) c.first.view_is in
    let are : numbers ≡ own_below t cluster (length t.edges) = edges_are t c.args.groups.now cluster c.requires.has c.requires.groups numbers c.edges-numbers.ensures in
    let reads_are : reads ≡ map (slice_index (read_rates (net_of t first.attrs.rows))) numbers =
    c.deref-4.ensures.value ∙ c.set_own_rates.ensures.reads ∙ ap (λ (r : List AttrsOf). map (slice_index (read_rates (net_of t r))) numbers) rows_are in
    let writes_are : writes ≡ map (slice_index (write_rates (net_of t first.attrs.rows))) numbers =
    c.deref-5.ensures.value ∙ c.set_own_rates.ensures.writes ∙ ap (λ (r : List AttrsOf). map (slice_index (write_rates (net_of t r))) numbers) rows_are in
    let left : (c.are_left.result ≡ true) ↔ AreLeft t (take place entries) reads writes numbers edges = c.are_left.ensures in (
      λ yes. subst (λ (l : List Entry). HoldEdges t cluster first.attrs.rows l place edges) entries_are
          (all_held t cluster first.attrs.rows entries place numbers reads writes are reads_are writes_are edges (left.0 yes)),
      λ hold. left.1 (all_left t cluster first.attrs.rows entries place numbers reads writes are reads_are writes_are edges
          (subst (λ (l : List Entry). HoldEdges t cluster first.attrs.rows l place edges) (sym entries_are) hold)),
    )
