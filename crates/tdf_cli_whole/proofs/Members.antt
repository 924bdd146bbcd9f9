-- A valid snapshot has the members of its model, with numbers in the ranges that its text has.
use Rattle.std.proofs.Common.{◌≡◌, ◌∙◌, ℕ, ◌+◌, ◌<◌, ◌≤◌, List, Some, length, map, slice_get, sym, subst, arith}
use Rattle.std.proofs.lemmas.List.{length-map}
use Rattle.std.proofs.lemmas.Option.{slice_get_within}
use Rattle.std.specs.List.{AllZip}
use Rattle.tdf_base.specs.Limits.{most_events, time_end}
use Rattle.tdf_bind.specs.Flat.{IsFlatOf}
use Rattle.tdf_bind.specs.declared.model.Flat.{Flat}
use Rattle.tdf_bind_connections.specs.declared.drivers.SignalRow.{SignalRow}
use Rattle.tdf_bind_connections.specs.declared.traces.TraceRow.{TraceRow}
use Rattle.tdf_bind_invariants.specs.Formats.{IsSoundModel}
use Rattle.tdf_bind_invariants.specs.Limits.{AreWithinLimits, FlatIsWithinLimits}
use Rattle.tdf_bind_tables.specs.Actors.{cluster_of}
use Rattle.tdf_cli_whole.proofs.Clusters.{cluster_fits, time_small}
use Rattle.tdf_cli_whole.proofs.Numbers.{nums_fit}
use Rattle.tdf_cli_whole.proofs.Shown.{column_fits}
use Rattle.tdf_cli_whole.proofs.Zips.{all_each, range_at, range_long, zip_all, zip_map}
use Rattle.tdf_cli_whole.specs.Members.{ValidSnapshotsFit}
use Rattle.tdf_dynamic_first.specs.declared.first.First.{First}
use Rattle.tdf_events.specs.Runnable.{signal_formats}
use Rattle.tdf_events.specs.State.{IsKernelState}
use Rattle.tdf_events_invariants.specs.Runnable.{EventRowsAreFew}
use Rattle.tdf_exec_layout.specs.Samples.{EdgesHaveFormats}
use Rattle.tdf_expr.specs.Made.{cell_formats}
use Rattle.tdf_graph.specs.Clusters.{greatest}
use Rattle.tdf_lang_tree.specs.Pure.{PureTree}
use Rattle.tdf_save.specs.Members.{AreNums, BlockMembersOf, IsClusterFor, IsColumnInRange, IsKernelFor, IsNum, IsPendingFor}
use Rattle.tdf_save_members.specs.OfFlat.{block_members, cluster_members, clusters_in, members_of, named_event}
use Rattle.tdf_saved.specs.State.{ClusterStateOf, KernelStateOf, SnapshotOf}
use Rattle.tdf_sim_resumed.specs.Starting.{rows_from_saved}
use Rattle.tdf_sim_resumed.specs.Valid.{IsValid}
use Rattle.tdf_streams.proofs.Api.{get_inside}

-- ---- the event side

kernel_fits : (flat : Flat) (time : ℕ) (s : KernelStateOf) → length flat.tables.events ≤ most_events → time < time_end → IsKernelState flat time s → IsKernelFor (members_of flat) s
kernel_fits flat time s few low is = record {
  values = zip_all IsNum (λ (row : SignalRow). row.path) flat.tables.de_signals s.values (sym (values.many ∙ length-map flat.tables.de_signals (λ (row : SignalRow). row.format))) values.each;
  blocks = zip_map (λ (b : BlockMembersOf) nums. AreNums b.cells nums) (block_members flat) flat.tables.blocks s.blocks (sym is.blocks.long)
      (λ i row nums at there. nums_fit (cell_formats flat.checked row.block) nums (is.blocks.each i row nums at there));
  pending = all_each (IsPendingFor (members_of flat)) s.pending (λ i p at. (
      let x = is.pending.each i p at in
      let e = x.event in let u = x.until in let l = length-map flat.tables.events (named_event flat.tables) in
      record { event = omega (arith, e, l); small = omega (arith, e, few); time = omega (arith, u, low) }));
}
  where
    values : AreNums (length (signal_formats flat)) s.values
    values = nums_fit (signal_formats flat) s.values is.values

-- ---- clusters and columns

module _ (formats : EdgesHaveFormats) (model : PureTree) (flat : Flat) (firsts : List First) (s : SnapshotOf) (sound : IsSoundModel model) (is : IsFlatOf model flat) (limits : AreWithinLimits flat) (valid : IsValid model flat firsts s) where
  cluster_at : (i : ℕ) (c : ClusterStateOf) → slice_get s.clusters i ≡ Some c → IsClusterFor (cluster_members flat (i + 1)) c
  cluster_at i c there =
      let first = get_inside firsts i (let n = slice_get_within s.clusters i c there in let l = valid.clusters.all in omega (arith, n, l)) in
      cluster_fits formats model flat sound is limits (i + 1) s.time c first.0.attrs.rows first.0.plan (valid.clusters.each i first.0 c first.1 there) valid.times.time

  pub clusters_fit : AllZip IsClusterFor (map (cluster_members flat) (clusters_in flat)) s.clusters
  clusters_fit = zip_map IsClusterFor (cluster_members flat) (clusters_in flat) s.clusters
      (range_long 1 (greatest (map cluster_of flat.tables.actors)) ∙ sym valid.members.clusters)
      (λ i k c at there. (
      let r = range_at 1 (greatest (map cluster_of flat.tables.actors)) i k at in
      let e : i + 1 ≡ k = omega (arith, r) in
      subst (λ n. IsClusterFor (cluster_members flat n) c) e (cluster_at i c there)))

  pub columns_fit : AllZip (λ label column. IsColumnInRange column) (map (λ (row : TraceRow). row.label) flat.tables.traces) s.columns
  columns_fit = zip_map (λ label column. IsColumnInRange column) (λ (row : TraceRow). row.label) flat.tables.traces s.columns (sym valid.members.columns)
      (λ i row column at there. column_fits model flat firsts s limits valid (rows_from_saved model flat firsts s) row column (valid.columns.numbers i row column at there) (valid.columns.each i row column at there))

pub snapshots_fit : FlatIsWithinLimits → EventRowsAreFew → EdgesHaveFormats → ValidSnapshotsFit
snapshots_fit within few formats model flat firsts s sound is valid =
    let limits = within model flat sound.kept sound.types is in
    let used = valid.times.used in let most = valid.times.most in record {
      time = time_small s.time valid.times.time;
      used = omega (arith, used, most);
      budget = omega (arith, most);
      clusters = clusters_fit formats model flat firsts s sound is limits valid;
      kernel = kernel_fits flat s.time s.kernel (few model flat is).events valid.times.time valid.kernel;
      columns = columns_fit formats model flat firsts s sound is limits valid;
    }
