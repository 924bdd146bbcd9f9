-- The snapshot of a run is valid as a whole.
use Rattle.std.proofs.Common.{◌≡◌, ◌∙◌, ◌+◌, ℕ, List, [], Some, length, slice_get, slice_index_or, sym, ap, subst, arith}
use Rattle.std.proofs.lemmas.List.{length-map}
use Rattle.std.proofs.lemmas.Option.{slice_get_within}
use Rattle.std.specs.List.{enumerate_from, zip}
use Rattle.tdf_bind.specs.declared.model.Flat.{Flat}
use Rattle.tdf_dynamic_first.specs.declared.first.First.{First}
use Rattle.tdf_events.specs.Side.{SideOf}
use Rattle.tdf_lang_tree.specs.Pure.{PureTree}
use Rattle.tdf_saved.specs.State.{ClusterStateOf, SnapshotOf}
use Rattle.tdf_sim_history.specs.World.{Change, ClusterAt, World}
use Rattle.tdf_sim_resumed.proofs.Api.{resumed_at}
use Rattle.tdf_sim_resumed.specs.Resuming.{resumed_cluster, resumed_clusters}
use Rattle.tdf_sim_resumed.specs.Starting.{resumed_world}
use Rattle.tdf_sim_split.specs.Columns.{AreAtSame, HasValidColumns, IsAtSame, SavedColumnsAreValid}
use Rattle.tdf_sim_split.specs.Formats.{FormatsAreKept}
use Rattle.tdf_sim_split.specs.Following.{IsResumedCluster}
use Rattle.tdf_sim_split.specs.Laws.{GoesOnFrom}
use Rattle.tdf_sim_split.specs.Snapshots.{HasValidParts, SnapshotsAreValid, SnapshotsGoOn, told_ahead}
use Rattle.tdf_sim_split.specs.Validity.{SnapshotIsValid}
use Rattle.tdf_streams.proofs.Api.{get_inside, some_same}

-- a cluster that goes on from one is at its place
at_same : (model : PureTree) (flat : Flat) (number : ℕ) (c b : ClusterAt) → IsResumedCluster model flat number c b → IsAtSame c b
at_same model flat number c b r = record {
  entries = r.entries;
  place = r.place;
  since = r.since;
  table = ap (λ i. i.table) r.rest.info;
  counts = ap (λ i. i.counts) r.rest.info;
  period = ap (λ i. i.period) r.rest.info;
}

module _ (model : PureTree) (flat : Flat) (firsts : List First) (s : SnapshotOf) (w : World SideOf) (time : ℕ) (on : GoesOnFrom model flat time w (resumed_world model flat firsts s (told_ahead w))) where
  abbrev ahead : List (List Change)
  ahead = told_ahead w

  -- whatever is told of the boundaries to come, there are as many clusters
  long : (one : List (List Change)) → length (resumed_clusters model flat firsts s one) ≡ length (enumerate_from 0 (zip firsts s.clusters))
  long one = length-map (enumerate_from 0 (zip firsts s.clusters)) (λ (c : ℕ × (First × ClusterStateOf)). resumed_cluster model flat (c.0 + 1) s.time c.1.0 c.1.1 (slice_index_or one c.0 []))

  -- and they are at the same places
  module _ (n : ℕ) (c : ClusterAt) (first : First) (state : ClusterStateOf) where
    other_told : (one two : List Change) → IsAtSame c (resumed_cluster model flat (n + 1) s.time first state one) → IsAtSame c (resumed_cluster model flat (n + 1) s.time first state two)
    other_told one two same = record {
      entries = same.entries;
      place = same.place;
      since = same.since;
      table = same.table;
      counts = same.counts;
      period = same.period;
    }

  each_same : (n : ℕ) (c d : ClusterAt) → slice_get w.clusters n ≡ Some c → slice_get (resumed_clusters model flat firsts s []) n ≡ Some d → IsAtSame c d
  each_same n c d c_at d_at =
      let r = resumed_at model flat firsts s [] n d d_at in
      let b = get_inside (resumed_clusters model flat firsts s ahead) n (let i = slice_get_within (resumed_clusters model flat firsts s []) n d d_at in let one = long [] in let two = long ahead in omega (arith, i, one, two)) in
      let q = resumed_at model flat firsts s ahead n b.0 b.1 in
      let f : q.first ≡ r.first = some_same q.first r.first (sym q.first_at ∙ r.first_at) in
      let t : q.state ≡ r.state = some_same q.state r.state (sym q.state_at ∙ r.state_at) in
      let is : b.0 ≡ resumed_cluster model flat (n + 1) s.time r.first r.state (slice_index_or ahead n []) = q.is ∙ (λ i. resumed_cluster model flat (n + 1) s.time (f i) (t i) (slice_index_or ahead n [])) in
      subst (IsAtSame c) (sym r.is) (other_told n c r.first r.state (slice_index_or ahead n []) (slice_index_or [] n [])
      (subst (IsAtSame c) is (at_same model flat (n + 1) c b.0 (on.each n c b.0 c_at b.1))))

  pub places_same : AreAtSame w.clusters (resumed_clusters model flat firsts s [])
  places_same = record {
    same = long [] ∙ sym (long ahead) ∙ on.same;
    each = each_same;
  }

pub snapshot_valid : SavedColumnsAreValid → SnapshotsAreValid → SnapshotsGoOn → FormatsAreKept → SnapshotIsValid
snapshot_valid columns_valid parts_valid goes_on formats_kept model flat firsts start w rows from time budget vcd s kept sound is checked limits tells has columns many soon some most plans begins values = record {
  times = parts.times;
  members = record { clusters = parts.all; columns = shown.members };
  clusters = plans;
  kernel = parts.kernel;
  columns = shown.columns;
  alike = shown.alike;
}
  where
    parts : HasValidParts flat s
    parts = parts_valid model flat start w from time budget vcd s sound is checked limits has many soon some most

    shown : HasValidColumns model flat firsts s has.is.columns.rows
    shown = columns_valid model flat start w rows from time budget vcd s firsts kept checked limits tells has.start_is.sound has.told has.later columns has.is
        (places_same model flat firsts s w time (goes_on model flat firsts start w from time budget vcd s sound is checked limits has plans)) parts.kernel
        (formats_kept model flat start w time budget vcd s sound is limits tells has.start_is.sound has.told begins values has.is)
