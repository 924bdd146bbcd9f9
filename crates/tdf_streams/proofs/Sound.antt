-- The records of periods are sound for the net of a cluster, so its streams have their values.
use Rattle.std.proofs.Common.{◌≡◌, ◌∙◌, ℕ, ◌+◌, ◌*◌, ◌<◌, List, length, slice_index, slice_index_or, ap, sym, subst, inl, inr, arith}
use Rattle.std.proofs.lemmas.Bool.{cases_eq, eqb-true}
use Rattle.std.proofs.lemmas.List.{length-map}
use Rattle.tdf_bind_tables.specs.Actors.{cluster_of}
use Rattle.tdf_dynamic_plans.specs.Attributes.{clusters_of}
use Rattle.tdf_bind_invariants.specs.Below.{Flat}
use Rattle.tdf_streams.proofs.Values.{all_are_known}
use Rattle.tdf_streams.proofs.Fed.{fed_are_known}
use Rattle.tdf_streams.proofs.Known.{known_more}
use Rattle.tdf_streams.specs.Grounds.{AreSound, IsSound}
use Rattle.tdf_streams.specs.Net.{count}
use Rattle.tdf_bind_invariants.specs.Limits.{AreWithinLimits}
use Rattle.tdf_streams.proofs.Edges.{EdgeIn, edge_in, rated}
use Rattle.tdf_streams.proofs.Grounds.{grounded_there}
use Rattle.tdf_streams.proofs.Rows.{at_contains, not_true, or_right}
use Rattle.tdf_streams.specs.Cluster.{Start, cluster_net, is_sampler_kind}
use Rattle.tdf_streams.specs.Laws.{AllAreKnown, FedAreKnown, MoreKeeps}
use Rattle.tdf_streams.specs.Periods.{IsPeriodRecord, IsTimedRecord, IsWholeRecord, PeriodRecord, done_before, net_in}
use Rattle.tdf_streams.specs.Places.{actor_kind, reader_at, reader_of_row, writer_at, writer_of_row}
use Rattle.tdf_streams.specs.Starts.{AreRecords, held_at_head}
use Rattle.tdf_lang_tree.specs.Pure.{PureTree}

module _ (flat : Flat) (cluster : ℕ) (p : PeriodRecord) (timed : IsTimedRecord flat cluster p) where
  pub before_and_left : (m : ℕ) → done_before p m + count m p ≡ slice_index p.info.counts m
  before_and_left m = let l = timed.left m in omega (arith, l)

  -- an actor that is activated is in the cluster
  pub active_inside : (m a : ℕ) → a < slice_index p.info.counts m → slice_index (clusters_of flat.tables) m ≡ cluster
  active_inside m a below = elim (cases_eq (slice_index (clusters_of flat.tables) m) cluster) [
    | inl inside ↦ inside
    | inr outside ↦ absurd (let z = timed.counts_are.outside m outside in omega (arith, z, below))
  ]

  pub long_is : length p.counts ≡ length flat.tables.actors
  long_is = timed.long ∙ timed.counts_are.long ∙ length-map flat.tables.actors cluster_of

module _ (model : PureTree) (flat : Flat) (cluster : ℕ) (start : Start) (limits : AreWithinLimits flat) where
  pub rates_positive : (p : PeriodRecord) → IsTimedRecord flat cluster p → (e : ℕ) → e < length flat.tables.edges → (0 < slice_index p.writes e) × (0 < slice_index p.reads e)
  rates_positive p timed e inside = (
    subst (λ r. 0 < r) (sym at.writes) (let s = at.fits.writes.some in omega (arith, s)),
    subst (λ r. 0 < r) (sym at.reads) (let s = at.fits.reads.some in omega (arith, s)),
  )
    where
      at : EdgeIn flat limits cluster p timed e
      at = edge_in flat limits cluster p timed e inside

  pub balanced_at : (p : PeriodRecord) → IsTimedRecord flat cluster p → (e : ℕ) → e < length flat.tables.edges
      → slice_index p.info.counts (writer_at flat.tables.edges e) * slice_index p.writes e ≡ slice_index p.info.counts (reader_at flat.tables.edges e) * slice_index p.reads e
  balanced_at p timed e inside = rw (ap writer_of_row at.at, ap reader_of_row at.at, at.writes, at.reads)
      (timed.counts_are.balanced (rated flat limits cluster p timed at.edge) (at_contains (net_in flat.tables p).edges e (rated flat limits cluster p timed at.edge) at.net_edge_at))
    where
      at : EdgeIn flat limits cluster p timed e
      at = edge_in flat limits cluster p timed e inside

  pub is_sound : (p : PeriodRecord) (begun : ℕ → ℕ) → IsPeriodRecord flat cluster p → ((m : ℕ) → begun m + count m p ≡ slice_index p.info.counts m)
      → IsSound (cluster_net model flat cluster start) (length flat.tables.actors) (held_at_head flat.tables cluster) begun p
  is_sound p begun is whole = record {
    actors_are = long_is flat cluster p is.timed;
    active = λ m below plain. (let inside = eqb-true (slice_index (clusters_of flat.tables) m) cluster (not_true _ (or_right (is_sampler_kind (actor_kind flat.tables m)) _ plain)) in
        let long = sym (length-map flat.tables.actors cluster_of) in
        subst (λ n. 0 < n) (sym (whole m)) (is.timed.counts_are.positive m (omega (arith, below, long)) inside));
    positive = rates_positive p is.timed;
    balanced = λ e inside. rw (whole (writer_at flat.tables.edges e), whole (reader_at flat.tables.edges e)) (balanced_at p is.timed e inside);
    grounded = λ m a below. (let early : a < slice_index p.info.counts m = subst (λ n. a < n) (whole m) below in
        grounded_there model flat cluster start p limits is.timed m a (active_inside flat cluster p is.timed m a early) (is.grounded m a early));
  }

  pub whole_sound : (p : PeriodRecord) → IsWholeRecord flat cluster p → IsSound (cluster_net model flat cluster start) (length flat.tables.actors) (held_at_head flat.tables cluster) (λ m. 0) p
  whole_sound p whole = is_sound p (λ m. 0) whole.is (λ m. (let same : count m p ≡ slice_index p.info.counts m = ap (λ l. slice_index l m) whole.whole in omega (arith, same)))

  pub are_sound : (first : PeriodRecord) (later : List PeriodRecord) → AreRecords flat cluster start first later
      → AreSound (cluster_net model flat cluster start) (length flat.tables.actors) (held_at_head flat.tables cluster) (done_before first) first later
  are_sound first later records = record {
    lists = records.lists;
    head = is_sound first (done_before first) records.head (before_and_left flat cluster first records.head.timed);
    rest = λ k d inside. whole_sound (slice_index_or later k d) (records.rest k d inside);
  }

pub fed_known : FedAreKnown
fed_known model flat cluster start first later reads limits records =
    fed_are_known (cluster_net model flat cluster start) (length flat.tables.actors) (held_at_head flat.tables cluster) (done_before first) reads first later (are_sound model flat cluster start limits first later records)

pub all_known : AllAreKnown
all_known model flat cluster start first later reads limits records =
    all_are_known (cluster_net model flat cluster start) (length flat.tables.actors) (held_at_head flat.tables cluster) reads (done_before first) first later (are_sound model flat cluster start limits first later records)

pub more_keeps : MoreKeeps
more_keeps model flat cluster start = known_more (cluster_net model flat cluster start)
