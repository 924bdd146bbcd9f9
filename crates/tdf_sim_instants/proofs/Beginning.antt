-- How the parts of a run grow by one cluster, and what they are together.
use Rattle.std.proofs.Common.{◌≡◌, ◌∙◌, ◌⊎◌, ◌≢◌, ℕ, zero, suc, ◌+◌, ◌<◌, ◌≤◌, List, [], ◌∷◌, ◌++◌, Option, Some, length, length-set, map, replicate, slice_get, inl, inr, refl, sym, ap, subst, arith}
use Rattle.std.proofs.lemmas.List.{length-map, length_push, map_push}
use Rattle.std.proofs.lemmas.List.Sums.{sum_by_push}
use Rattle.std.proofs.lemmas.Option.{slice_get_within}
use Rattle.std.specs.Prelude.{Err, IfOk, Ok, Result, slice_set, sum}
use Rattle.tdf_base.specs.declared.memory.Memory.{Memory}
use Rattle.tdf_bind_tables.specs.FlatTables.{FlatTablesOf}
use Rattle.tdf_convert.specs.Outputs.{OutputsOf, WritesOf}
use Rattle.tdf_convert.specs.declared.links.Links.{Links}
use Rattle.tdf_dynamic_first.specs.First.{IsFirstPlan}
use Rattle.tdf_dynamic_first.specs.declared.first.First.{First}
use Rattle.tdf_sim_instants.specs.Engine.{AreInProgress, AreRoomsBut, AreRoomy, HaveRooms, IsEngineOf, IsReadyAt, IsRoomOf}
use Rattle.tdf_sim_instants.specs.Making.{HavePlans}
use Rattle.tdf_sim_instants.specs.Settling.{IsBefore}
use Rattle.tdf_sim_instants.specs.declared.engine.Engine.{Engine}
use Rattle.tdf_sim_instants.specs.machine.Making.{AreGivenUpTo, AreLinkedUpTo, AreRoomsFrom, AreRoomsUpTo, HasRoomSet, HaveBegunWith, room_of, whole_room}
use Rattle.tdf_events.proofs.Api.{none_at_start, none_pending_before}
use Rattle.tdf_events.specs.Kernel.{IsKernelOf, KernelOf, side_of}
use Rattle.tdf_events.specs.Side.{start_side}
use Rattle.tdf_sim_refinement.specs.Below.{AreTableGroups, ClusterOf, HasLayoutOf, IsMostOf, KeepsLayouts, LayoutOf, Room, Runner, sent_size, size_due, traced_size}
use Rattle.tdf_bind.specs.declared.model.Flat.{Flat}
use Rattle.tdf_streams.proofs.Api.{none_some, some_same}
use Rattle.tdf_bind_invariants.specs.Limits.{AreWithinLimits}
use Rattle.tdf_sim_refinement.specs.Linked.{AreSamplerLinks, AreSinkLinks}
use Rattle.tdf_sim_refinement.proofs.Api.{entries_inside, get_set_other, same_or_not, set_is, takes_time}
use Rattle.tdf_sim_refinement.specs.Begun.{HasBegun, HaveBegun}

-- lists
pushed : {A : Type 0} (xs : List A) (y : A) (n : ℕ) (x : A) → slice_get (xs ++ y ∷ []) n ≡ Some x → (slice_get xs n ≡ Some x) ⊎ ((n ≡ length xs) × (y ≡ x))
pushed [] y zero x at = inr (refl, some_same y x at)
pushed [] y (suc n) x at = none_some x at
pushed (z ∷ zs) y zero x at = inl at
pushed (z ∷ zs) y (suc n) x at = elim (pushed zs y n x at) [ inl old ↦ inl old | inr new ↦ inr (ap suc new.0, new.1) ]

there_at : {A : Type 0} (xs : List A) (n : ℕ) → n < length xs → (x : A) × (slice_get xs n ≡ Some x)
there_at [] n less = absurd (omega (arith, less))
there_at (x ∷ xs) zero less = (x, refl)
there_at (x ∷ xs) (suc n) less = there_at xs n (omega (arith, less))

all_same : {A : Type 0} (x : A) (count n : ℕ) (y : A) → slice_get (replicate count x) n ≡ Some y → y ≡ x
all_same x zero n y at = none_some y at
all_same x (suc count) zero y at = sym (some_same x y at)
all_same x (suc count) (suc n) y at = all_same x count n y at

-- one cluster more
pub plan_here : (flat : Flat) (firsts : List First) (n m : ℕ) (first : First) → HavePlans flat firsts → slice_get firsts m ≡ Some first → n ≡ m → IsFirstPlan flat (n + 1) first
plan_here flat firsts n m first plans at same = subst (λ k. IsFirstPlan flat (k + 1) first) (sym same) (plans.each m first at)

pub begun_more : (flat : Flat) (firsts : List First) (cs : List ClusterOf) (n : ℕ) (first : First) (c : ClusterOf) → HaveBegun flat firsts cs → n ≡ length cs → HasBegun flat (n + 1) first c → HaveBegun flat (firsts ++ first ∷ []) (cs ++ c ∷ [])
begun_more flat firsts cs n first c begun many here = record {
  same = length_push firsts first ∙ ap (λ k. k + 1) begun.same ∙ sym (length_push cs c);
  each = λ m f d f_at d_at. by_case m f d (pushed firsts first m f f_at) (pushed cs c m d d_at);
}
  where
    by_case : (m : ℕ) (f : First) (d : ClusterOf) → (slice_get firsts m ≡ Some f) ⊎ ((m ≡ length firsts) × (first ≡ f)) → (slice_get cs m ≡ Some d) ⊎ ((m ≡ length cs) × (c ≡ d)) → HasBegun flat (m + 1) f d
    by_case m f d (inl f_at) (inl d_at) = begun.each m f d f_at d_at
    by_case m f d (inl f_at) (inr last) = absurd (let w = slice_get_within firsts m f f_at in let s = begun.same in let l = last.0 in omega (arith, w, s, l))
    by_case m f d (inr last) (inl d_at) = absurd (let w = slice_get_within cs m d d_at in let s = begun.same in let l = last.0 in omega (arith, w, s, l))
    by_case m f d (inr one) (inr other) =
        let e : n ≡ m = many ∙ sym other.0 in
        subst (λ k. HasBegun flat (k + 1) f d) e (subst (λ x. HasBegun flat (n + 1) x d) one.1 (subst (λ x. HasBegun flat (n + 1) first x) other.1 here))

begun_none : (flat : Flat) → HaveBegun flat [] []
begun_none flat = record { same = refl; each = λ m f d f_at d_at. none_some f f_at }

pub none_begun : (flat : Flat) (cs : List ClusterOf) (layout : LayoutOf) → cs ≡ [] → ((n : ℕ) → HasLayoutOf flat n layout) → HaveBegunWith flat [] cs layout
none_begun flat cs layout none has = record { begun = subst (HaveBegun flat []) (sym none) (begun_none flat); left = λ n above. has n }

pub begun_with : (flat : Flat) (firsts : List First) (cs : List ClusterOf) (old new : LayoutOf) (n : ℕ) (first : First) (c : ClusterOf) → HaveBegunWith flat firsts cs old → n ≡ length cs
    → HasBegun flat (n + 1) first c → KeepsLayouts flat (n + 1) old new → HaveBegunWith flat (firsts ++ first ∷ []) (cs ++ c ∷ []) new
begun_with flat firsts cs old new n first c have many here keeps = record {
  begun = begun_more flat firsts cs n first c have.begun many here;
  left = λ k above. (let l = length_push cs c in
      keeps k (λ e. absurd (omega (arith, above, l, many, e))) (have.left k (omega (arith, above, l))));
}

-- the links that were found are those of so many clusters
pub linked_all : {V E : Type 0} (items_of : V → List Links) (tables : FlatTablesOf) (count : ℕ) (found : Result V E) → IfOk found (λ v. length (items_of v) ≡ count)
    → IfOk found (λ v. (m : ℕ) (l : Links) → slice_get (items_of v) m ≡ Some l → AreSamplerLinks tables (m + 1) l.list.items) → IfOk found (λ v. AreLinkedUpTo tables count (items_of v))
linked_all items_of tables count (Ok v) long each = record { long = long; each = each }
linked_all items_of tables count (Err e) long each = tt

-- the room of one cluster more
pub room_more : (clusters : List ClusterOf) (n : ℕ) (rooms : List Room) (c : ClusterOf) (room : Room) → AreRoomsUpTo clusters n rooms → slice_get clusters n ≡ Some c → IsMostOf sent_size c.runners c.entries room.sent → IsMostOf traced_size c.runners c.entries room.traced
    → AreRoomsUpTo clusters (n + 1) (rooms ++ room ∷ [])
room_more clusters n rooms c room are at sent traced = record {
  few = let w = slice_get_within clusters n c at in omega (arith, w);
  long = length_push rooms room ∙ ap (λ k. k + 1) are.long;
  each = λ m d r d_at r_at. by_case m d r d_at (pushed rooms room m r r_at);
}
  where
    by_case : (m : ℕ) (d : ClusterOf) (r : Room) → slice_get clusters m ≡ Some d → (slice_get rooms m ≡ Some r) ⊎ ((m ≡ length rooms) × (room ≡ r)) → IsRoomOf d r
    by_case m d r d_at (inl r_at) = are.each m d r d_at r_at
    by_case m d r d_at (inr last) =
        let here : c ≡ d = some_same c d (sym at ∙ ap (slice_get clusters) (sym (last.0 ∙ are.long)) ∙ d_at) in
        subst (λ (k : Room). IsRoomOf d k) last.1 (subst (λ (k : ClusterOf). IsRoomOf k room) here (record { sent = sent.above; traced = traced.above }))

pub rooms_all : (clusters : List ClusterOf) (n : ℕ) (rooms : List Room) → AreRoomsUpTo clusters n rooms → length clusters ≤ n → AreRoomsBut [] clusters rooms
rooms_all clusters n rooms are all = record { same = let f = are.few in let l = are.long in omega (arith, f, l, all); each = λ m c room c_at room_at none. are.each m c room c_at room_at }

-- the rooms of clusters anew, one after the other
module _ (places : List ℕ) (k : ℕ) (clusters : List ClusterOf) (rooms : List Room) where
  pub rooms_first : AreRoomsBut places clusters rooms → AreRoomsFrom places 0 clusters rooms
  rooms_first but = record { same = but.same; each = λ n c room c_at room_at none. but.each n c room c_at room_at (λ j at. none j (omega arith) at) }

  pub rooms_last : AreRoomsFrom places k clusters rooms → length places ≤ k → AreRoomsBut [] clusters rooms
  rooms_last are past = record {
    same = are.same;
    each = λ n c room c_at room_at none. are.each n c room c_at room_at (λ j from at. (let w = slice_get_within places j n at in absurd (omega (arith, w, past, from))));
  }

  -- a place is none of those from the k-th on where it is another than the k-th and none of those behind
  none_from : (n m : ℕ) → slice_get places k ≡ Some n → (m ≡ n → ⊥) → ((j : ℕ) → k + 1 ≤ j → slice_get places j ≡ Some m → ⊥) → (j : ℕ) → k ≤ j → slice_get places j ≡ Some m → ⊥
  none_from n m here apart behind j from at = elim (same_or_not j k) [
    | inl same ↦ apart (some_same m n (sym at ∙ ap (slice_get places) same ∙ here))
    | inr other ↦ behind j (omega (arith, from, other)) at
  ]

  pub room_set : (n : ℕ) (new : List Room) → slice_get places k ≡ Some n → HasRoomSet n clusters rooms new → AreRoomsFrom places k clusters rooms → AreRoomsFrom places (k + 1) clusters new
  room_set n new here set are = record {
    same = set.same ∙ are.same;
    each = λ m d r d_at r_at behind. by_case m d r d_at r_at behind (same_or_not m n);
  }
    where
      by_case : (m : ℕ) (d : ClusterOf) (r : Room) → slice_get clusters m ≡ Some d → slice_get new m ≡ Some r → ((j : ℕ) → k + 1 ≤ j → slice_get places j ≡ Some m → ⊥) → (m ≡ n) ⊎ (m ≢ n) → IsRoomOf d r
      by_case m d r d_at r_at behind (inl same) = set.here d r (ap (slice_get clusters) (sym same) ∙ d_at) (ap (slice_get new) (sym same) ∙ r_at)
      by_case m d r d_at r_at behind (inr apart) = are.each m d r d_at (sym (set.others m apart) ∙ r_at) (none_from n m here apart behind)

-- the room of one cluster anew
module _ (clusters : List ClusterOf) (n : ℕ) (rooms : List Room) where
  pub none_set : length clusters ≤ n → HasRoomSet n clusters rooms rooms
  none_set past = record {
    same = refl;
    here = λ c room c_at room_at. (let w = slice_get_within clusters n c c_at in absurd (omega (arith, w, past)));
    others = λ m apart. refl;
  }

  pub one_set : (c : ClusterOf) (room : Room) → length rooms ≡ length clusters → slice_get clusters n ≡ Some c → IsMostOf sent_size c.runners c.entries room.sent → IsMostOf traced_size c.runners c.entries room.traced
      → HasRoomSet n clusters rooms (slice_set rooms n room)
  one_set c room long at sent traced = record {
    same = length-set rooms n room;
    here = λ d r d_at r_at.
        (let c_is : c ≡ d = some_same c d (sym at ∙ d_at) in
        let w = slice_get_within clusters n c at in
        let r_is : room ≡ r = set_is rooms n n room r (omega (arith, w, long)) refl r_at in
        subst (λ (z : Room). IsRoomOf d z) r_is (subst (λ (z : ClusterOf). IsRoomOf z room) c_is (record { sent = sent.above; traced = traced.above })));
    others = λ m apart. get_set_other rooms n m room apart;
  }

-- their sums
pub whole_push : (rooms : List Room) (room : Room) → whole_room (rooms ++ room ∷ []) ≡ room_of ((whole_room rooms).sent + room.sent) ((whole_room rooms).traced + room.traced)
whole_push rooms room = λ i. room_of (sent i) (traced i)
  where
    sent : sum (map (λ (r : Room). r.sent) (rooms ++ room ∷ [])) ≡ sum (map (λ (r : Room). r.sent) rooms) + room.sent
    sent =
        let p = ap sum (map_push (λ (r : Room). r.sent) rooms room) in
        let q = sum_by_push (λ (k : ℕ). k) (map (λ (r : Room). r.sent) rooms) room.sent in omega (arith, p, q)

    traced : sum (map (λ (r : Room). r.traced) (rooms ++ room ∷ [])) ≡ sum (map (λ (r : Room). r.traced) rooms) + room.traced
    traced =
        let p = ap sum (map_push (λ (r : Room). r.traced) rooms room) in
        let q = sum_by_push (λ (k : ℕ). k) (map (λ (r : Room). r.traced) rooms) room.traced in omega (arith, p, q)

mapped : (f : Room → ℕ) (rooms : List Room) (n m : ℕ) → slice_get (map f rooms) n ≡ Some m → (room : Room) × (slice_get rooms n ≡ Some room) × (f room ≡ m)
mapped f [] n m at = none_some m at
mapped f (r ∷ rooms) zero m at = (r, refl, some_same (f r) m at)
mapped f (r ∷ rooms) (suc n) m at = mapped f rooms n m at

-- the rooms of all clusters are enough together
pub rooms_have : (size : Option Runner → ℕ) (f : Room → ℕ) (clusters : List ClusterOf) (rooms : List Room) → ((c : ClusterOf) (room : Room) → IsRoomOf c room → (offset : ℕ) → size_due size c.runners offset c.entries ≤ f room)
    → AreRoomsBut [] clusters rooms → (room : ℕ) → room ≡ sum (map f rooms) → HaveRooms size clusters room
rooms_have size f clusters rooms few are room is = record {
  most = map f rooms;
  same = length-map rooms f ∙ are.same;
  each = λ n m offset c c_at m_at.
      (let r = mapped f rooms n m m_at in
      let p = few c r.0 (are.each n c r.0 c_at r.1 (λ k at. none_some n at)) offset in
      let e = r.2 in omega (arith, p, e));
  within = omega (arith, is);
}

pub sent_few : (c : ClusterOf) (room : Room) → IsRoomOf c room → (offset : ℕ) → size_due sent_size c.runners offset c.entries ≤ room.sent
sent_few c room is offset = is.sent offset

pub traced_few : (c : ClusterOf) (room : Room) → IsRoomOf c room → (offset : ℕ) → size_due traced_size c.runners offset c.entries ≤ room.traced
traced_few c room is offset = is.traced offset

-- empty lists with the rooms that clusters need
pub rooms_made : (clusters : List ClusterOf) (rooms : List Room) (room : Room) (o : OutputsOf) (w : WritesOf) → AreRoomsBut [] clusters rooms → room ≡ whole_room rooms
    → o ≡ record { sent = []; traced = []; sent_room = room.sent; traced_room = room.traced } → w ≡ record { list = []; room = room.sent } → AreRoomy clusters o w
rooms_made clusters rooms room o w are is outputs writes = record {
  sent_room = rooms_have sent_size (λ (r : Room). r.sent) clusters rooms sent_few are o.sent_room (ap (λ (p : OutputsOf). p.sent_room) outputs ∙ ap (λ (r : Room). r.sent) is);
  traced_room = rooms_have traced_size (λ (r : Room). r.traced) clusters rooms traced_few are o.traced_room (ap (λ (p : OutputsOf). p.traced_room) outputs ∙ ap (λ (r : Room). r.traced) is);
  write_room = let a : o.sent_room ≡ room.sent = ap (λ (p : OutputsOf). p.sent_room) outputs in let b : w.room ≡ room.sent = ap (λ (v : WritesOf). v.room) writes in omega (arith, a, b);
  none_sent = ap (λ (p : OutputsOf). p.sent) outputs;
  none_traced = ap (λ (p : OutputsOf). p.traced) outputs;
  none_written = ap (λ (v : WritesOf). v.list) writes;
}

-- all together
pub engine_made : (flat : Flat) (e : Engine) → length e.since.items ≡ length e.clusters.items → AreInProgress flat e.clusters.items
    → AreLinkedUpTo flat.tables (length e.clusters.items) e.links.items
    → AreGivenUpTo e.links.items (length e.links.items) e.inputs.items → AreSinkLinks flat.tables e.sinks.list.items
    → AreRoomy e.clusters.items e.outputs e.writes → AreRoomsBut [] e.clusters.items e.rooms.items → AreTableGroups flat.tables e.groups → IsKernelOf flat e.kernel → IsEngineOf flat e
engine_made flat e as_many going linked given sinks roomy rooms groups kernel = record {
  since = as_many;
  links = linked.long;
  inputs = given.long ∙ linked.long;
  clusters = going;
  linked = linked.each;
  given = given.each;
  sinks = sinks;
  sent_room = roomy.sent_room;
  traced_room = roomy.traced_room;
  write_room = roomy.write_room;
  none_sent = roomy.none_sent;
  none_written = roomy.none_written;
  rooms = rooms;
  kernel = kernel;
  groups = groups;
}

-- the clusters at the start
pub all_begun : (flat : Flat) (firsts : List First) (cs : List ClusterOf) → AreWithinLimits flat → HaveBegun flat firsts cs → AreInProgress flat cs
all_begun flat firsts cs limits begun n c at =
    let within = slice_get_within cs n c at in
    let same = begun.same in
    let inside : n < length firsts = omega (arith, within, same) in
    let f = there_at firsts n inside in
    let b = begun.each n f.0 c f.1 at in
    record {
      of = b.of;
      number = b.start.number_is;
      going = b.start.not_crossed;
      takes = takes_time flat c limits b.of;
      inside = entries_inside flat c limits b.of;
    }

pub ready_made : (flat : Flat) (firsts : List First) (e : Engine) → HaveBegun flat firsts e.clusters.items → e.since.items ≡ replicate (length e.clusters.items) 0 → side_of e.kernel ≡ start_side flat → IsReadyAt 0 e
ready_made flat firsts e begun since side = record {
  begun = λ n s at. (let z = starts n s at in omega (arith, z));
  before = λ n s c c_at s_at. record {
    begun = inl (starts n s s_at, refl);
    done = λ i x below at. absurd (let z = none_done n c c_at in omega (arith, z, below));
  };
  clusters = λ n s c c_at s_at. omega arith;
  side = subst (IsBefore 0) (sym side) (record {
    none = none_pending_before (start_side flat).notices.times 0 (none_at_start flat).0;
    idle = λ less. absurd (omega (arith, less));
  });
}
  where
    starts : (n s : ℕ) → slice_get e.since.items n ≡ Some s → s ≡ 0
    starts n s at = all_same 0 (length e.clusters.items) n s (ap (λ (l : List ℕ). slice_get l n) (sym since) ∙ at)

    none_done : (n : ℕ) (c : ClusterOf) → slice_get e.clusters.items n ≡ Some c → c.place ≡ 0
    none_done n c c_at =
        let within = slice_get_within e.clusters.items n c c_at in
        let same = begun.same in
        let f = there_at firsts n (omega (arith, within, same)) in
        (begun.each n f.0 c f.1 c_at).start.place_is

-- an engine that is made of such parts has them
module _ (flat : Flat) (firsts : List First) (clusters : List ClusterOf) (r : Result Engine Memory) (kept : IfOk r (λ (e : Engine). e.clusters.items ≡ clusters)) where
  pub begun_kept : HaveBegun flat firsts clusters → IfOk r (λ (e : Engine). HaveBegun flat firsts e.clusters.items)
  begun_kept begun = go r kept
    where
      go : (r : Result Engine Memory) → IfOk r (λ (e : Engine). e.clusters.items ≡ clusters) → IfOk r (λ (e : Engine). HaveBegun flat firsts e.clusters.items)
      go (Ok e) same = subst (HaveBegun flat firsts) (sym same) begun
      go (Err e) same = tt

  module _ (since : List ℕ) (at : IfOk r (λ (e : Engine). e.since.items ≡ since)) (none : since ≡ replicate (length clusters) 0) where
    pub since_kept : IfOk r (λ (e : Engine). e.since.items ≡ replicate (length e.clusters.items) 0)
    since_kept = go r kept at
      where
        go : (r : Result Engine Memory) → IfOk r (λ (e : Engine). e.clusters.items ≡ clusters) → IfOk r (λ (e : Engine). e.since.items ≡ since) → IfOk r (λ (e : Engine). e.since.items ≡ replicate (length e.clusters.items) 0)
        go (Ok e) same at = at ∙ none ∙ ap (λ (l : List ClusterOf). replicate (length l) 0) (sym same)
        go (Err e) same at = tt

    pub ready_kept : HaveBegun flat firsts clusters → (k : KernelOf) → IfOk r (λ (e : Engine). e.kernel ≡ k) → side_of k ≡ start_side flat → IfOk r (λ (e : Engine). IsReadyAt 0 e)
    ready_kept begun k is side = go r (begun_kept begun) since_kept is
      where
        go : (r : Result Engine Memory) → IfOk r (λ (e : Engine). HaveBegun flat firsts e.clusters.items) → IfOk r (λ (e : Engine). e.since.items ≡ replicate (length e.clusters.items) 0) → IfOk r (λ (e : Engine). e.kernel ≡ k)
            → IfOk r (λ (e : Engine). IsReadyAt 0 e)
        go (Ok e) begun since is = ready_made flat firsts e begun since (ap side_of is ∙ side)
        go (Err e) begun since is = tt

pub side_kept : (flat : Flat) (r : Result Engine Memory) (k : KernelOf) → IfOk r (λ (e : Engine). e.kernel ≡ k) → side_of k ≡ start_side flat → IfOk r (λ (e : Engine). side_of e.kernel ≡ start_side flat)
side_kept flat (Ok e) k is side = ap side_of is ∙ side
side_kept flat (Err e) k is side = tt
