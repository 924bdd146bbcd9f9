-- Orders in which the firings of a period are played.
use Rattle.std.proofs.Common.{◌≡◌, ◌∙◌, ℕ, suc, ◌+◌, ◌*◌, ◌<◌, List, [], ◌∷◌, length, slice_index, slice_index_or, ap, inl, inr, arith}
use Rattle.tdf_bind_invariants.specs.Below.{Flat}
use Rattle.tdf_streams.proofs.Playing.{any_order, order_keeps, played_turns}
use Rattle.tdf_streams.proofs.Firing.{fired_turn}
use Rattle.tdf_streams.proofs.Plays.{order_plays}
use Rattle.tdf_streams.proofs.Played.{played_are_grounded}
use Rattle.tdf_streams.proofs.Values.{whole_past}
use Rattle.tdf_streams.specs.Net.{count}
use Rattle.tdf_streams.specs.Playing.{IsPlayed}
use Rattle.tdf_streams.specs.Stands.{Stands}
use Rattle.tdf_bind_invariants.specs.Limits.{AreWithinLimits}
use Rattle.tdf_streams.proofs.Grounds.{grounded_here}
use Rattle.tdf_streams.proofs.Sound.{active_inside, are_sound, balanced_at, before_and_left, rates_positive}
use Rattle.tdf_streams.specs.Cluster.{Start, cluster_net}
use Rattle.tdf_streams.specs.Laws.{AnyOrder, ClusterPlay, EndsWhole, FiringIsKnown, IsComplete, OrderPlays, OrderStands, PlayedAreGrounded, StandsAtHead, UngroundedStops}
use Rattle.tdf_streams.specs.Periods.{PeriodRecord, done_before}
use Rattle.tdf_streams.specs.Places.{reader_at, writer_at}
use Rattle.tdf_streams.specs.StandingLaws.{HeadsWhole}
use Rattle.tdf_streams.specs.Starts.{ArePast, held_at_head}
use Rattle.tdf_lang_tree.specs.Pure.{PureTree}
use Rattle.tdf_fixed.specs.declared.raw.Raw.{Raw}

both : (a b c : ℕ) → (a + b) * c ≡ a * c + b * c
both a b c = grind arith

none_before : (p : PeriodRecord) → p.counts ≡ p.info.counts → (m k : ℕ) → done_before p m * k ≡ 0
none_before p whole m k = let same : slice_index p.counts m ≡ slice_index p.info.counts m = ap (λ l. slice_index l m) whole in
    let z : done_before p m ≡ 0 = omega (arith, same) in rw z (omega arith)

pub order_stands : OrderStands
order_stands model flat cluster start old p reads order f y z = order_keeps (cluster_net model flat cluster start) old p reads order f y z

pub firing_known : FiringIsKnown
firing_known model flat cluster start old p reads f m t y z stands left present next flows =
    let e : 1 + f ≡ suc f = omega arith in rw e (fired_turn (cluster_net model flat cluster start) old p reads f m t y z stands left present next flows)

pub alike_orders : AnyOrder
alike_orders model flat cluster start old p reads f y z v one other stands first second alike =
    any_order (cluster_net model flat cluster start) old p reads f y z v one other stands first second (λ m.
    (let a = played_turns (cluster_net model flat cluster start) old p reads one m y z first in
    let b = played_turns (cluster_net model flat cluster start) old p reads other m y v second in
    let c = alike m in omega (arith, a, b, c)))

module _ (model : PureTree) (flat : Flat) (cluster : ℕ) (start : Start) (limits : AreWithinLimits flat) where
  -- what each list holds, by the firings of the period that were done before the start and since
  pub list_counts : (old : List PeriodRecord) (p : PeriodRecord) (reads : ℕ → List Raw) (f : ℕ) (y : ClusterPlay) → ArePast flat cluster start old p
      → Stands (cluster_net model flat cluster start) old p reads f y → (e : ℕ) → e < length flat.tables.edges
      → length (slice_index_or y.lists e []) + (done_before p (reader_at flat.tables.edges e) + slice_index y.turns (reader_at flat.tables.edges e)) * slice_index p.reads e
      ≡ held_at_head flat.tables cluster e + (done_before p (writer_at flat.tables.edges e) + slice_index y.turns (writer_at flat.tables.edges e)) * slice_index p.writes e
  list_counts [] p reads f y past stands e inside =
      let c = (stands.lists e inside).count in let s = past e inside in
      let r = both (done_before p (reader_at flat.tables.edges e)) (slice_index y.turns (reader_at flat.tables.edges e)) (slice_index p.reads e) in
      let w = both (done_before p (writer_at flat.tables.edges e)) (slice_index y.turns (writer_at flat.tables.edges e)) (slice_index p.writes e) in
      omega (arith, c, s, r, w)
  list_counts (first ∷ later) p reads f y past stands e inside =
      let c = (stands.lists e inside).count in
      let s = whole_past (cluster_net model flat cluster start) (length flat.tables.actors) (held_at_head flat.tables cluster) reads (done_before first) first later
      (are_sound model flat cluster start limits first later past.0) e inside in
      let r = both (done_before p (reader_at flat.tables.edges e)) (slice_index y.turns (reader_at flat.tables.edges e)) (slice_index p.reads e) in
      let w = both (done_before p (writer_at flat.tables.edges e)) (slice_index y.turns (writer_at flat.tables.edges e)) (slice_index p.writes e) in
      let r0 = none_before p past.1 (reader_at flat.tables.edges e) (slice_index p.reads e) in let w0 = none_before p past.1 (writer_at flat.tables.edges e) (slice_index p.writes e) in
      omega (arith, c, s, r, w, r0, w0)

  complete_turns : (old : List PeriodRecord) (p : PeriodRecord) (reads : ℕ → List Raw) (order : List ℕ) (f : ℕ) (y z : ClusterPlay)
      → StandsAtHead (cluster_net model flat cluster start) old p reads f y → IsPlayed (cluster_net model flat cluster start) old p reads order y z → IsComplete order p
      → (m : ℕ) → slice_index z.turns m ≡ count m p
  complete_turns old p reads order f y z head played complete m =
      let t = played_turns (cluster_net model flat cluster start) old p reads order m y z played in let h = head.turns m in let c = complete m in omega (arith, t, h, c)

pub ends_whole : EndsWhole
ends_whole model flat cluster start old p reads order f y z limits past timed head played complete e inside =
    let c = list_counts model flat cluster start limits old p reads (length order + f) z past (order_keeps (cluster_net model flat cluster start) old p reads order f y z head.stands played) e inside in
    let r = all_done (reader_at flat.tables.edges e) (slice_index p.reads e) in let w = all_done (writer_at flat.tables.edges e) (slice_index p.writes e) in
    let even = balanced_at model flat cluster start limits p timed e inside in
    omega (arith, c, r, w, even)
  where
    all_done : (m k : ℕ) → (done_before p m + slice_index z.turns m) * k ≡ slice_index p.info.counts m * k
    all_done m k = ap (λ n. n * k) (ap (λ n. done_before p m + n) (complete_turns model flat cluster start limits old p reads order f y z head played complete m) ∙ before_and_left flat cluster p timed m)

pub heads_whole : HeadsWhole
heads_whole model flat cluster start old p reads f y limits past whole head e inside =
    let c = list_counts model flat cluster start limits old p reads f y past head.stands e inside in
    let r = none_done (reader_at flat.tables.edges e) (slice_index p.reads e) in let w = none_done (writer_at flat.tables.edges e) (slice_index p.writes e) in omega (arith, c, r, w)
  where
    none_done : (k n : ℕ) → (done_before p k + slice_index y.turns k) * n ≡ 0
    none_done k n = let same : slice_index p.counts k ≡ slice_index p.info.counts k = ap (λ l. slice_index l k) whole in let t = head.turns k in
        let z : done_before p k + slice_index y.turns k ≡ 0 = omega (arith, same, t) in rw z (omega arith)

pub played_grounded : PlayedAreGrounded
played_grounded model flat cluster start old p reads order f y z limits past timed whole head played complete m a below =
    grounded_here model flat cluster start p limits timed m a (active_inside flat cluster p timed m a below)
    (played_are_grounded (cluster_net model flat cluster start) (held_at_head flat.tables cluster) old p reads f y z order
    (record { positive = rates_positive model flat cluster start limits p timed; turns = head.turns; lists = heads_whole model flat cluster start old p reads f y limits past whole head })
    head.stands played m a (let t = complete_turns model flat cluster start limits old p reads order f y z head played complete m in
    let w : slice_index p.counts m ≡ slice_index p.info.counts m = ap (λ l. slice_index l m) whole in omega (arith, below, t, w)))

pub complete_plays : OrderPlays
complete_plays model flat cluster start old p reads order f y head states are_given complete =
    order_plays (cluster_net model flat cluster start) old p reads are_given order y states (λ m. (let t = head.turns m in let c = complete m in omega (arith, t, c)))

pub ungrounded_stops : UngroundedStops
ungrounded_stops model flat cluster start old p reads order f y limits past timed whole head states are_given complete none =
    elim (complete_plays model flat cluster start old p reads order f y head states are_given complete) [
      | inl played ↦ absurd (none (played_grounded model flat cluster start old p reads order f y played.0 limits past timed whole head played.1 complete))
      | inr stops ↦ stops
    ]
