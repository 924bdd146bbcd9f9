-- Why the parts of an instant can be done one after the other, and what holds after them.
use Rattle.std.proofs.Common.{◌≡◌, ◌∙◌, ℕ, ◌+◌, ◌-◌, ◌≤◌, List, [], ◌++◌, Option, Some, length, map, slice_get, refl, sym, ap, subst, arith}
use Rattle.std.proofs.lemmas.List.{length-map}
use Rattle.std.proofs.lemmas.Option.{slice_get_within}
use Rattle.std.specs.List.{All}
use Rattle.tdf_convert.specs.Emitted.{write_of_sent as write_to}
use Rattle.tdf_convert.specs.Links.{AreLinks, AreRising, HaveSignals}
use Rattle.tdf_convert.specs.Sampled.{PlansGoByOffset}
use Rattle.tdf_convert.specs.declared.links.Links.{Links}
use Rattle.tdf_sim_instants.proofs.Crossed.{Crosses, GivesAsMuch, all_crosses, crossed_long}
use Rattle.tdf_sim_instants.proofs.Onward.{IsDueFrom, crossed_before, crossed_due, crossed_on, fired_on, turned_before, turned_later}
use Rattle.tdf_sim_instants.proofs.Parts.{pass_sends, sorted_of}
use Rattle.tdf_sim_instants.proofs.Passed.{Turns, all_turns, passed_long}
use Rattle.tdf_sim_instants.proofs.Rooms.{room_for_pass, rooms_kept}
use Rattle.tdf_sim_instants.proofs.Samples.{samples_here}
use Rattle.tdf_sim_instants.specs.Crossing.{CanCross, CrossingOf, crossing_of}
use Rattle.tdf_sim_instants.specs.Engine.{AreRoomsBut, AreRoomy, CanFireAll, HasDoneBefore, HaveBoundaries, HaveRooms, IsEngineOf, IsInProgress, IsNoneOf, IsReadyAt, IsRoomOf}
use Rattle.tdf_sim_instants.specs.Sampling.{CanSample, HaveSampled, sampling_at}
use Rattle.tdf_sim_instants.specs.Settling.{CanSettle, IsBefore}
use Rattle.tdf_sim_instants.specs.Times.{due_time}
use Rattle.tdf_sim_instants.specs.declared.engine.Engine.{Engine}
use Rattle.tdf_events.specs.Delta.{AreWritesOf}
use Rattle.tdf_events.specs.Kernel.{IsKernelOf, side_of}
use Rattle.tdf_events.specs.Runnable.{IsRunnable, signal_formats}
use Rattle.tdf_sim_refinement.specs.Below.{ClusterOf, IsMoved, IsSentOf, IsSoundFlat, Room, Runner, sent_size, size_due, traced_size}
use Rattle.tdf_fixed.specs.declared.raw.Raw.{Raw}
use Rattle.tdf_bind.specs.declared.model.Flat.{Flat}
use Rattle.tdf_bind_invariants.specs.Limits.{AreWithinLimits}
use Rattle.tdf_streams.proofs.Api.{get_inside, none_some}
use Rattle.tdf_sim_refinement.proofs.Api.{emitted_to, moved_sent, moved_traced, pass_rooms, pass_sent}
use Rattle.tdf_sim_refinement.specs.Pass.{CanPass, HasPassedAll, PassAt, RunOf, pass_at, pass_run}

-- a cluster that has done entries gives as much by its plan
due_moved_sent : (offset : ℕ) (c b : ClusterOf) → IsMoved c b → size_due sent_size b.runners offset b.entries ≡ size_due sent_size c.runners offset c.entries
due_moved_sent offset c b moved = moved_sent c b moved offset b.entries ∙ ap (λ (z : ClusterOf). size_due sent_size c.runners offset z.entries) moved.rest

due_moved_traced : (offset : ℕ) (c b : ClusterOf) → IsMoved c b → size_due traced_size b.runners offset b.entries ≡ size_due traced_size c.runners offset c.entries
due_moved_traced offset c b moved = moved_traced c b moved offset b.entries ∙ ap (λ (z : ClusterOf). size_due traced_size c.runners offset z.entries) moved.rest

-- what is room for a cluster is room for one that gives as much
room_as_much : (c d : ClusterOf) (room : Room) → GivesAsMuch c d → IsRoomOf c room → IsRoomOf d room
room_as_much c d room much is = record {
  sent = λ offset. (let a = is.sent offset in let b = much.sent offset in omega (arith, a, b));
  traced = λ offset. (let a = is.traced offset in let b = much.traced offset in omega (arith, a, b));
}

-- boundaries can be had
pub can_cross : (flat : Flat) (time left : ℕ) (e : Engine) → IsEngineOf flat e → IsReadyAt time e → CanCross flat time (crossing_of e.clusters.items e.since.items left [])
can_cross flat time left e of ready = record {
  same = of.since;
  begun = ready.begun;
  of = λ n c at. (of.clusters n c at).of;
  going = λ n c at. (of.clusters n c at).going;
}

-- after the boundaries
module _ (flat : Flat) (time left : ℕ) (e : Engine) (of : IsEngineOf flat e) (ready : IsReadyAt time e) (limits : AreWithinLimits flat) (e2 : Engine) (left2 : ℕ)
    (crossed : HaveBoundaries flat time e left (crossing_of e2.clusters.items e2.since.items left2 e2.planned.items)) where
  -- no cluster got a new plan
  abbrev Unplanned : Type 0
  Unplanned = e2.planned.items ≡ []

  -- the cluster at a place got none
  abbrev Unchanged : ℕ → Type 0
  Unchanged n = IsNoneOf e2.planned.items n

  unchanged : Unplanned → (n : ℕ) → Unchanged n
  unchanged none n = subst (λ l. IsNoneOf l n) (sym none) (λ k at. none_some n at)

  abbrev first : CrossingOf
  first = crossing_of e.clusters.items e.since.items left []

  abbrev mid : CrossingOf
  mid = crossing_of e2.clusters.items e2.since.items left2 e2.planned.items

  long : (length mid.clusters ≡ length e.clusters.items) × (length mid.since ≡ length e.clusters.items)
  long = let l = crossed_long Unplanned flat time first (length e.clusters.items) mid crossed in (l.0, l.1 ∙ of.since)

  module _ (n t : ℕ) (d : ClusterOf) (d_at : slice_get mid.clusters n ≡ Some d) (t_at : slice_get mid.since n ≡ Some t) where
    from : (c : ClusterOf) × (s : ℕ) × (slice_get e.clusters.items n ≡ Some c) × (slice_get e.since.items n ≡ Some s) × Crosses (Unchanged n) flat time c d s t
    from = let i = slice_get_within mid.clusters n d d_at in let l = long.0 in
        all_crosses (Unchanged n) flat time first (length e.clusters.items) mid crossed n (λ p. p) t d d_at t_at (omega (arith, i, l))

    pub on_at : IsInProgress flat n d
    on_at = crossed_on (Unchanged n) flat n time from.1 t from.0 d limits (of.clusters n from.0 from.2) from.4

    begun_by : (c : ClusterOf) (s : ℕ) → slice_get e.since.items n ≡ Some s → Crosses (Unchanged n) flat time c d s t → t ≤ time
    begun_by c s s_at (Crosses.Stays going same kept) = let b = ready.begun n s s_at in omega (arith, b, kept)
    begun_by c s s_at (Crosses.Begins head much d_of now) = omega (arith, now)

    pub begun_at : t ≤ time
    begun_at = begun_by from.0 from.1 from.3 from.4

    pub due_at : IsDueFrom time t d
    due_at = crossed_due (Unchanged n) flat time from.1 t from.0 d on_at.takes (ready.clusters n from.1 from.0 from.2 from.3) from.4

    pub before_at : HasDoneBefore (time + 1) t d
    before_at = crossed_before (Unchanged n) flat time from.1 t from.0 d (ready.before n from.1 from.0 from.2 from.3) from.4

    much_by : Unchanged n → (c : ClusterOf) (s : ℕ) → Crosses (Unchanged n) flat time c d s t → GivesAsMuch c d
    much_by none c s (Crosses.Stays going same kept) = record {
      sent = λ offset. ap (λ (z : ClusterOf). size_due sent_size z.runners offset z.entries) same;
      traced = λ offset. ap (λ (z : ClusterOf). size_due traced_size z.runners offset z.entries) same;
    }
    much_by none c s (Crosses.Begins head much d_of now) = much none

  since_of : (n : ℕ) (d : ClusterOf) → slice_get mid.clusters n ≡ Some d → (t : ℕ) × (slice_get mid.since n ≡ Some t)
  since_of n d d_at = let i = slice_get_within mid.clusters n d d_at in let l0 = long.0 in let l1 = long.1 in get_inside mid.since n (omega (arith, i, l0, l1))

  cluster_of : (n t : ℕ) → slice_get mid.since n ≡ Some t → (d : ClusterOf) × (slice_get mid.clusters n ≡ Some d)
  cluster_of n t t_at = let i = slice_get_within mid.since n t t_at in let l0 = long.0 in let l1 = long.1 in get_inside mid.clusters n (omega (arith, i, l0, l1))

  pub begun_mid : (n t : ℕ) → slice_get mid.since n ≡ Some t → t ≤ time
  begun_mid n t t_at = let d = cluster_of n t t_at in begun_at n t d.0 d.1 t_at

  -- where no cluster got a new plan the rooms are enough
  rooms_mid : Unplanned → (size : Option Runner → ℕ) → ((c d : ClusterOf) → GivesAsMuch c d → (offset : ℕ) → size_due size d.runners offset d.entries ≡ size_due size c.runners offset c.entries) → (room : ℕ)
      → HaveRooms size e.clusters.items room → HaveRooms size mid.clusters room
  rooms_mid none size of_size room rooms = rooms_kept size room e.clusters.items mid.clusters rooms long.0
      (λ n offset d d_at. (let t = since_of n d d_at in let f = from n t.0 d d_at t.1 in (f.0, f.2, of_size f.0 d (much_by n t.0 d d_at t.1 (unchanged none n) f.0 f.1 f.4) offset)))

  -- where a cluster got no new plan its room is known
  pub rooms_known : AreRoomsBut e2.planned.items e2.clusters.items e.rooms.items
  rooms_known = record {
    same = of.rooms.same ∙ sym long.0;
    each = λ n d room d_at room_at none.
        (let t = since_of n d d_at in
        let f = from n t.0 d d_at t.1 in
        room_as_much f.0 d room (much_by n t.0 d d_at t.1 none f.0 f.1 f.4) (of.rooms.each n f.0 room f.2 room_at (λ k at. none_some n at)));
  }

  pub roomy_if_none : Unplanned → e.outputs.traced ≡ [] → AreRoomy e2.clusters.items e.outputs e.writes
  roomy_if_none none untraced = record {
    sent_room = rooms_mid none sent_size (λ c d much. much.sent) e.outputs.sent_room of.sent_room;
    traced_room = rooms_mid none traced_size (λ c d much. much.traced) e.outputs.traced_room of.traced_room;
    write_room = of.write_room;
    none_sent = of.none_sent;
    none_traced = untraced;
    none_written = of.none_written;
  }

  placed : (n : ℕ) (l : Links) (i : List Raw) → slice_get e.links.items n ≡ Some l → slice_get e.inputs.items n ≡ Some i → AreLinks l.list.items (length i)
  placed n l i l_at i_at = subst (AreLinks l.list.items) (sym (of.given n l i l_at i_at)) (of.linked n l l_at).placed

  signals : (n : ℕ) (l : Links) → slice_get e.links.items n ≡ Some l → HaveSignals l.list.items (length e.kernel.values)
  signals n l l_at = subst (HaveSignals l.list.items) (sym (of.kernel.values.long ∙ length-map flat.tables.de_signals (λ row. row.format))) (of.linked n l l_at).signals

  abbrev crossed_engine : Engine
  crossed_engine = record e { clusters = e2.clusters; since = e2.since; planned = e2.planned; rooms = e2.rooms; outputs = e2.outputs; writes = e2.writes }

  module _ (sound : IsSoundFlat flat) (roomy : AreRoomy e2.clusters.items e2.outputs e2.writes) where
    can_pass : (inputs : List (List Raw)) → HaveSampled (sampling_at time mid.since mid.clusters e.links.items e.kernel.values) (length mid.clusters) e.inputs.items inputs
        → CanPass flat (pass_at time mid.since inputs) (pass_run mid.clusters e2.outputs left2)
    can_pass inputs sampled = record {
      since = let l0 = long.0 in let l1 = long.1 in omega (arith, l0, l1);
      inputs = let l0 = long.0 in let i = of.inputs in let s = sampled.same in omega (arith, l0, i, s);
      begun = begun_mid;
      of = λ n c at. (let t = since_of n c at in (on_at n t.0 c at t.1).of);
      given = λ n s c i c_at s_at i_at due. (samples_here sound.model flat sound.sound sound.is e of time mid.since mid.clusters inputs long.0 sampled n s c i c_at s_at i_at
          (on_at n s c c_at s_at).of (on_at n s c c_at s_at).number due).1;
      room = record {
        sent = let r = room_for_pass sent_size time e2.outputs.sent_room mid.since mid.clusters roomy.sent_room in let z = ap length roomy.none_sent in omega (arith, r, z);
        traced = let r = room_for_pass traced_size time e2.outputs.traced_room mid.since mid.clusters roomy.traced_room in let z = ap length roomy.none_traced in omega (arith, r, z);
      };
    }

    pub can_fire : e2 ≡ crossed_engine → CanFireAll flat time e2 left2
    can_fire rest = record {
      going = ap (λ (z : Engine). z.kernel.spent) rest ∙ of.kernel.going;
      sample = subst (λ (z : Engine). CanSample (sampling_at time e2.since.items e2.clusters.items z.links.items z.kernel.values) z.inputs.items) (sym rest) (record {
        since = long.1 ∙ sym long.0;
        links = of.links ∙ sym long.0;
        inputs = of.inputs ∙ sym long.0;
        begun = begun_mid;
        placed = placed;
        signals = signals;
      });
      pass = λ inputs sampled. can_pass inputs
          (subst (λ (z : Engine). HaveSampled (sampling_at time e2.since.items e2.clusters.items z.links.items z.kernel.values) (length e2.clusters.items) z.inputs.items inputs) rest sampled);
    }

  -- after the firings
  module _ (by : PlansGoByOffset) (sound : IsSoundFlat flat) (roomy : AreRoomy e2.clusters.items e2.outputs e2.writes) (rest2 : e2 ≡ crossed_engine) (e3 : Engine) (left3 : ℕ)
      (all : HasPassedAll flat (pass_at time e2.since.items e3.inputs.items) (pass_run e2.clusters.items e2.outputs left2) (pass_run e3.clusters.items e3.outputs left3))
      (rest3 : e3 ≡ record e2 { clusters = e3.clusters; inputs = e3.inputs; outputs = e3.outputs }) where
    abbrev pass : PassAt
    pass = pass_at time e2.since.items e3.inputs.items

    abbrev x : RunOf
    x = pass_run e2.clusters.items e2.outputs left2

    abbrev y : RunOf
    y = pass_run e3.clusters.items e3.outputs left3

    fired_engine : e3 ≡ record e { clusters = e3.clusters; since = e2.since; planned = e2.planned; inputs = e3.inputs; rooms = e2.rooms; outputs = e3.outputs; writes = e2.writes }
    fired_engine = rest3 ∙ ap (λ (z : Engine). record z { clusters = e3.clusters; inputs = e3.inputs; outputs = e3.outputs }) rest2

    long3 : length e3.clusters.items ≡ length e.clusters.items
    long3 = passed_long flat pass x (length e2.clusters.items) y all.sent all.passed ∙ long.0

    module _ (n s : ℕ) (d : ClusterOf) (d_at : slice_get e3.clusters.items n ≡ Some d) (s_at : slice_get e2.since.items n ≡ Some s) where
      turned : (c : ClusterOf) × (slice_get e2.clusters.items n ≡ Some c) × Turns flat (time - s) c d
      turned = let i = slice_get_within e3.clusters.items n d d_at in let l0 = long.0 in let l3 = long3 in
          all_turns flat pass x (length e2.clusters.items) y all.sent all.passed n s d d_at s_at (omega (arith, i, l0, l3))

      pub on_after : IsInProgress flat n d
      on_after = fired_on flat n (time - s) turned.0 d (on_at n s turned.0 turned.1 s_at) turned.2

      pub later_after : time + 1 ≤ due_time s d
      later_after = turned_later flat time s turned.0 d (begun_at n s turned.0 turned.1 s_at) (sorted_of by flat turned.0 (on_at n s turned.0 turned.1 s_at).of) (on_at n s turned.0 turned.1 s_at).inside
          (due_at n s turned.0 turned.1 s_at) turned.2

      pub before_after : HasDoneBefore (time + 1) s d
      before_after = turned_before flat time s turned.0 d (begun_at n s turned.0 turned.1 s_at) (before_at n s turned.0 turned.1 s_at) turned.2

      alike_after : (size : Option Runner → ℕ) → ((offset : ℕ) (c b : ClusterOf) → IsMoved c b → size_due size b.runners offset b.entries ≡ size_due size c.runners offset c.entries) → (offset : ℕ) (c : ClusterOf)
          → Turns flat (time - s) c d → size_due size d.runners offset d.entries ≡ size_due size c.runners offset c.entries
      alike_after size moved offset c (Turns.Idles none same) = ap (λ (z : ClusterOf). size_due size z.runners offset z.entries) same
      alike_after size moved offset c (Turns.Fires due d_of did) = moved offset c d did.moved

    since3 : (n : ℕ) (d : ClusterOf) → slice_get e3.clusters.items n ≡ Some d → (s : ℕ) × (slice_get e2.since.items n ≡ Some s)
    since3 n d d_at = let i = slice_get_within e3.clusters.items n d d_at in let l = long3 in let l1 = long.1 in get_inside e2.since.items n (omega (arith, i, l, l1))

    rooms_after : (size : Option Runner → ℕ) → ((offset : ℕ) (c b : ClusterOf) → IsMoved c b → size_due size b.runners offset b.entries ≡ size_due size c.runners offset c.entries) → (room : ℕ)
        → HaveRooms size e2.clusters.items room → HaveRooms size e3.clusters.items room
    rooms_after size moved room rooms = rooms_kept size room e2.clusters.items e3.clusters.items rooms (long3 ∙ sym long.0)
        (λ n offset d d_at. (let s = since3 n d d_at in let t = turned n s.0 d d_at s.1 in (t.0, t.1, alike_after n s.0 d d_at s.1 size moved offset t.0 t.2)))

    -- a cluster that has done entries gives no more than before
    rooms_later : AreRoomsBut [] e2.clusters.items e2.rooms.items → AreRoomsBut [] e3.clusters.items e2.rooms.items
    rooms_later rooms = record {
      same = rooms.same ∙ long.0 ∙ sym long3;
      each = λ n d room d_at room_at none.
          (let s = since3 n d d_at in
          let t = turned n s.0 d d_at s.1 in
          let is = rooms.each n t.0 room t.1 room_at none in
          record {
            sent = λ offset. (let a = is.sent offset in let b = alike_after n s.0 d d_at s.1 sent_size due_moved_sent offset t.0 t.2 in omega (arith, a, b));
            traced = λ offset. (let a = is.traced offset in let b = alike_after n s.0 d d_at s.1 traced_size due_moved_traced offset t.0 t.2 in omega (arith, a, b));
          });
    }

    rooms3 : (e3.outputs.sent_room ≡ e2.outputs.sent_room) × (e3.outputs.traced_room ≡ e2.outputs.traced_room)
    rooms3 = pass_rooms flat pass x y all

    sends : (e3.outputs.sent ≡ all.sent) × All (IsSentOf flat.tables) all.sent
    sends = let p = pass_sends flat pass x (length e2.clusters.items) y all.sent all.passed in
        (p.0 ∙ ap (λ l. l ++ all.sent) roomy.none_sent, p.1)

    pub writes_room : length e3.outputs.sent ≤ e3.writes.room
    writes_room =
        let p = pass_sent flat pass x y all in
        let z = ap length roomy.none_sent in
        let r = room_for_pass sent_size time e2.outputs.sent_room mid.since mid.clusters roomy.sent_room in
        let w = roomy.write_room in
        let k = ap (λ (q : Engine). q.writes.room) fired_engine in omega (arith, p, z, r, w, k)

    pub can_settle : IsRunnable flat → CanSettle flat time e3.kernel (map (write_to e3.sinks.list.items) e3.outputs.sent)
    can_settle runnable = subst (λ (q : Engine). CanSettle flat time q.kernel (map (write_to q.sinks.list.items) e3.outputs.sent)) (sym fired_engine) (record {
      runnable = runnable;
      kernel = of.kernel;
      before = ready.side;
      fit = subst (λ l. AreWritesOf (signal_formats flat) (map (write_to e.sinks.list.items) l)) (sym sends.0)
          (emitted_to sound.model flat e.sinks.list.items all.sent sound.sound sound.is of.sinks sends.1).1;
    })

    pub rising_after : AreRising e3.sinks.list.items
    rising_after = subst (λ (q : Engine). AreRising q.sinks.list.items) (sym fired_engine) of.sinks.order

    pub none_after : e3.writes.list ≡ []
    none_after = ap (λ (q : Engine). q.writes.list) fired_engine ∙ roomy.none_written

    pub before_events : IsBefore time (side_of e3.kernel)
    before_events = subst (λ (q : Engine). IsBefore time (side_of q.kernel)) (sym fired_engine) ready.side

    -- after the event part
    module _ (f : Engine) (rest4 : f ≡ record e3 { outputs = record e3.outputs { sent = [] }; writes = record e3.writes { list = [] }; kernel = f.kernel }) where
      whole : f ≡ record e {
        clusters = e3.clusters;
        since = e2.since;
        planned = e2.planned;
        inputs = e3.inputs;
        rooms = e2.rooms;
        outputs = record e3.outputs { sent = [] };
        writes = record e2.writes { list = [] };
        kernel = f.kernel;
      }
      whole = rest4 ∙ ap (λ (z : Engine). record z { outputs = record e3.outputs { sent = [] }; writes = record z.writes { list = [] }; kernel = f.kernel }) fired_engine

      pub engine_after : HaveSampled (sampling_at time e2.since.items e2.clusters.items e2.links.items e2.kernel.values) (length e2.clusters.items) e2.inputs.items e3.inputs.items
          → AreRoomsBut [] e2.clusters.items e2.rooms.items → IsKernelOf flat f.kernel → IsEngineOf flat f
      engine_after sampled rooms kernel = subst (IsEngineOf flat) (sym whole) (record {
        since = long.1 ∙ sym long3;
        links = of.links ∙ sym long3;
        inputs = sampled.same ∙ ap (λ (z : Engine). length z.inputs.items) rest2 ∙ of.inputs ∙ sym long3;
        clusters = λ n d d_at. (let s = since3 n d d_at in on_after n s.0 d d_at s.1);
        linked = of.linked;
        given = λ n l i l_at i_at.
            (let i_in = slice_get_within e3.inputs.items n i i_at in
            let sm = sampled.same in
            let old = get_inside e2.inputs.items n (omega (arith, i_in, sm)) in
            sampled.long n old.0 i old.1 i_at ∙ of.given n l old.0 l_at (sym (ap (λ (z : Engine). slice_get z.inputs.items n) rest2) ∙ old.1));
        sinks = of.sinks;
        sent_room = subst (HaveRooms sent_size e3.clusters.items) (sym rooms3.0) (rooms_after sent_size due_moved_sent e2.outputs.sent_room roomy.sent_room);
        traced_room = subst (HaveRooms traced_size e3.clusters.items) (sym rooms3.1) (rooms_after traced_size due_moved_traced e2.outputs.traced_room roomy.traced_room);
        write_room = let r = rooms3.0 in let w = roomy.write_room in omega (arith, r, w);
        none_sent = refl;
        none_written = refl;
        rooms = rooms_later rooms;
        kernel = kernel;
        groups = of.groups;
      })

      pub ready_after : IsBefore (time + 1) (side_of f.kernel) → IsReadyAt (time + 1) f
      ready_after side = subst (IsReadyAt (time + 1)) (sym whole) (record {
        begun = λ n s s_at. (let b = begun_mid n s s_at in omega (arith, b));
        before = λ n s d d_at s_at. before_after n s d d_at s_at;
        clusters = λ n s d d_at s_at. later_after n s d d_at s_at;
        side = side;
      })
