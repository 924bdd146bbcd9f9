-- What a cluster came to, and what came of one that goes on from it, stay the same.
use Rattle.std.proofs.Common.{◌≡◌, ◌∙◌, ℕ, ◌+◌, ◌<◌, ◌≤◌, true, false, ◌&&◌, ◌||◌, not, nat_eq, Option, Some, None, List, [], ◌∷◌, ◌++◌, append_assoc, length, slice_get, slice_index_or, slice_set, length-set, get_or-set_same, get_or-set_other, refl, sym, ap, subst, inl, inr, arith}
use Rattle.std.proofs.lemmas.Bool.{cases_eq, eq-eqb}
use Rattle.std.proofs.lemmas.Option.{get_or_from_slice_get, slice_get_within}
use Rattle.std.specs.Prelude.{All, IsSome, drop, slice_index, unwrap_or}
use Rattle.tdf_bind.specs.Flat.{IsFlatOf}
use Rattle.tdf_bind.specs.declared.model.Flat.{Flat}
use Rattle.tdf_bind_invariants.specs.Limits.{AreWithinLimits}
use Rattle.tdf_bind_tables.specs.declared.actors.ActorRow.{ActorRow}
use Rattle.tdf_dynamic.specs.Asked.{asked}
use Rattle.tdf_dynamic_plans.proofs.Api.{modules_few}
use Rattle.tdf_dynamic_plans.specs.Attributes.{AttrsOf, IsOfCluster, clusters_of}
use Rattle.tdf_exec_layout.proofs.Api.{module_kind}
use Rattle.tdf_exec_layout.specs.Wires.{SinksHaveOne}
use Rattle.tdf_expr.specs.Checked.{IsCheckedOf}
use Rattle.tdf_fixed.specs.declared.raw.Raw.{Raw}
use Rattle.tdf_graph.specs.declared.actors.Actor.TheVariants as actor
use Rattle.tdf_lang_tree.specs.Kept.{IsKept}
use Rattle.tdf_lang_tree.specs.Pure.{PureTree}
use Rattle.tdf_schedule.specs.declared.entry.Entry.{Entry}
use Rattle.tdf_sim_history.proofs.Api.{last_record}
use Rattle.tdf_sim_history.specs.Answers.{IsAnswer, Leads, asks_in, last_cells}
use Rattle.tdf_sim_history.specs.Instant.{is_over, next_entry, periods_of, sample_taken, same_period, stepped, with_new, with_read, with_same}
use Rattle.tdf_sim_history.specs.World.{Change, ClusterAt, New, Same, next_change}
use Rattle.tdf_sim_split.proofs.Alike.{HasView, IsNoSampler, IsSampler, IsSink, StepsKeep}
use Rattle.tdf_sim_split.proofs.Asked.{leads_same}
use Rattle.tdf_sim_split.proofs.Sound.{new_sound, same_sound, step_plain, step_read}
use Rattle.tdf_sim_split.proofs.Streams.{last_same, sink_same}
use Rattle.tdf_sim_split.specs.Following.{Follows, HavePeriods, Inside, IsResumedCluster, IsSoundCluster, Later}
use Rattle.tdf_sim_refinement.proofs.Api.{all_at}
use Rattle.tdf_streams.proofs.Api.{get_inside, is_wired}
use Rattle.tdf_streams.specs.Cluster.{is_outside_cluster, is_sampler_kind}
use Rattle.tdf_streams.specs.Periods.{PeriodRecord, period_record}
use Rattle.tdf_streams.specs.Places.{kind_of_row}
use Rattle.tdf_streams_onward.specs.Laws.{BodiesGoByTable, FiringsAreEnough, StreamsGoOn}

module _ (by_table : BodiesGoByTable) (goes_on : StreamsGoOn) (enough : FiringsAreEnough) (model : PureTree) (flat : Flat) (is_flat : IsFlatOf model flat) (limits : AreWithinLimits flat) (sinks : SinksHaveOne flat.tables)
    (kept : IsKept model) (checked : IsCheckedOf model flat.checked) where
  -- what both came to, with all that is known of it
  pub record GoesWith (number : ℕ) (c b h g : ClusterAt) : Type 0 where
    pub resumed : IsResumedCluster model flat number c b
    pub sound : IsSoundCluster flat number c
    pub follows : Follows c b h g
    pub whole : IsSoundCluster flat number h
    pub part : IsSoundCluster flat number g

  module _ (number : ℕ) (c b h g : ClusterAt) (with : GoesWith number c b h g) where
    follows : Follows c b h g
    follows = with.follows

    -- the info of the period that both are in, but for whether it is new
    info_table : HavePeriods c b h g → g.now.info.table ≡ h.now.info.table
    info_table (Inside old now old_g now_g from from_g low entries) = ap (λ (p : PeriodRecord). p.info.table) now_g ∙ ap (λ i. i.table) with.resumed.rest.info ∙ sym (ap (λ (p : PeriodRecord). p.info.table) now)
    info_table (Later between old old_g now from from_g) = ap (λ (p : PeriodRecord). p.info.table) now

    info_period : HavePeriods c b h g → g.now.info.period ≡ h.now.info.period
    info_period (Inside old now old_g now_g from from_g low entries) = ap (λ (p : PeriodRecord). p.info.period) now_g ∙ ap (λ i. i.period) with.resumed.rest.info ∙ sym (ap (λ (p : PeriodRecord). p.info.period) now)
    info_period (Later between old old_g now from from_g) = ap (λ (p : PeriodRecord). p.info.period) now

    info_counts : HavePeriods c b h g → g.now.info.counts ≡ h.now.info.counts
    info_counts (Inside old now old_g now_g from from_g low entries) = ap (λ (p : PeriodRecord). p.info.counts) now_g ∙ ap (λ i. i.counts) with.resumed.rest.info ∙ sym (ap (λ (p : PeriodRecord). p.info.counts) now)
    info_counts (Later between old old_g now from from_g) = ap (λ (p : PeriodRecord). p.info.counts) now

    now_writes : HavePeriods c b h g → g.now.writes ≡ h.now.writes
    now_writes (Inside old now old_g now_g from from_g low entries) = ap (λ (p : PeriodRecord). p.writes) now_g ∙ with.resumed.rest.writes ∙ sym (ap (λ (p : PeriodRecord). p.writes) now)
    now_writes (Later between old old_g now from from_g) = ap (λ (p : PeriodRecord). p.writes) now

    now_reads : HavePeriods c b h g → g.now.reads ≡ h.now.reads
    now_reads (Inside old now old_g now_g from from_g low entries) = ap (λ (p : PeriodRecord). p.reads) now_g ∙ with.resumed.rest.reads ∙ sym (ap (λ (p : PeriodRecord). p.reads) now)
    now_reads (Later between old old_g now from from_g) = ap (λ (p : PeriodRecord). p.reads) now

    next_same : (table : List AttrsOf) → same_period table g.now ≡ same_period table h.now
    next_same table = λ i. record {
      counts = info_counts follows.periods i;
      writes = now_writes follows.periods i;
      reads = now_reads follows.periods i;
      info = record { table = table; counts = info_counts follows.periods i; period = info_period follows.periods i; is_new = false };
    }

    pub view_of : HasView h g
    view_of = record {
      entries = follows.entries;
      place = follows.place;
      since = follows.since;
      period = info_period follows.periods;
      table = info_table follows.periods;
      ahead = follows.ahead;
      bounds = follows.bounds;
    }

    over_g : (time : ℕ) → is_over time h ≡ true → is_over time g ≡ true
    over_g time over = (λ i. nat_eq (follows.place i) (length (follows.entries i)) && nat_eq time (follows.since i + info_period follows.periods i)) ∙ over

    -- ---- what is told

    -- a row of the table is a module of the cluster
    module _ (j : ℕ) (a : AttrsOf) (at : slice_get h.now.info.table j ≡ Some a) where
      own_row : (is_outside_cluster flat.tables number a.number ≡ false) × (a.number < length flat.tables.actors)
      own_row =
          let attributes = (last_record flat number h.begun h.old h.now with.whole.records).timed.attributes in
          let own = all_at (IsOfCluster flat.tables number) h.now.info.table j a attributes.own at in
          let kind = module_kind (length flat.tables.modules) flat.tables limits.actors a.number own.is_module in
          let few = modules_few flat.tables (is_wired flat limits) in
          let inside = own.is_module in (
            ap (λ k. is_sampler_kind k || not (nat_eq (slice_index (clusters_of flat.tables) a.number) number)) kind ∙ ap not (eq-eqb (slice_index (clusters_of flat.tables) a.number) number own.inside),
            omega (arith, inside, few),
          )

      row_last : last_cells model flat number g a.number ≡ last_cells model flat number h a.number
      row_last = last_same by_table goes_on enough model flat is_flat limits sinks number c b h g with.resumed follows with.sound with.whole with.part a.number own_row.0 own_row.1

    pub answer_same : (x : Change) → IsAnswer model flat number h x → IsAnswer model flat number g x
    answer_same x answer = record {
      known = subst (All (λ (a : AttrsOf). IsSome (last_cells model flat number g a.number))) (sym (info_table follows.periods)) (λ j d below. (
          let a = get_inside h.now.info.table j below in
          let is = get_or_from_slice_get h.now.info.table j a.0 d a.1 in
          subst (λ (r : AttrsOf). IsSome (last_cells model flat number g r.number)) (sym is) (subst IsSome (sym (row_last j a.0 a.1)) (subst (λ (r : AttrsOf). IsSome (last_cells model flat number h r.number)) is (answer.known j d below)))));
      leads = subst (λ t. Leads flat.tables number (asks_in model flat number g) t x) (sym (info_table follows.periods))
          (leads_same flat.tables number h.now.info.table (asks_in model flat number h) (asks_in model flat number g) (λ j a at. ap (λ o. asked model flat a (unwrap_or o [])) (row_last j a at)) x answer.leads);
    }

    -- ---- steps

    later_now : HavePeriods c b h g → (table : List AttrsOf) (time : ℕ) → (next : PeriodRecord) (h2 g2 : ClusterAt) → h2.old ≡ periods_of h → g2.old ≡ periods_of g → h2.now ≡ next → g2.now ≡ next → h2.from ≡ 0 → g2.from ≡ 0 → HavePeriods c b h2 g2
    later_now (Inside old now old_g now_g from from_g low entries) table time next h2 g2 old2 old2_g now2 now2_g from2 from2_g =
        Later [] (old2 ∙ (λ i. old i ++ now i ∷ [])) (old2_g ∙ (λ i. old_g i ++ now_g i ∷ [])) (now2_g ∙ sym now2) from2 from2_g
    later_now (Later between old old_g now from from_g) table time next h2 g2 old2 old2_g now2 now2_g from2 from2_g =
        Later (between ++ h.now ∷ []) (old2 ∙ ap (λ l. l ++ h.now ∷ []) old ∙ append_assoc c.old (c.now ∷ between) (h.now ∷ [])) (old2_g ∙ (λ i. old_g i ++ now i ∷ [])) (now2_g ∙ sym now2) from2 from2_g

    inside_step : HavePeriods c b h g → (h2 g2 : ClusterAt) → h2.old ≡ h.old → h2.now ≡ h.now → h2.from ≡ h.from → h2.entries ≡ h.entries → h.place ≤ h2.place → g2.old ≡ g.old → g2.now ≡ g.now → g2.from ≡ g.from → HavePeriods c b h2 g2
    inside_step (Inside old now old_g now_g from from_g low entries) h2 g2 o n f e p og ng fg =
        Inside (o ∙ old) (n ∙ now) (og ∙ old_g) (ng ∙ now_g) (f ∙ from) (fg ∙ from_g) (omega (arith, low, p)) (e ∙ entries)
    inside_step (Later between old old_g now from from_g) h2 g2 o n f e p og ng fg = Later between (o ∙ old) (og ∙ old_g) (ng ∙ now ∙ sym n) (f ∙ from) (fg ∙ from_g)

    follows_step : Follows c b (stepped h) (stepped g)
    follows_step = record {
      begun = follows.begun;
      begun_on = follows.begun_on;
      entries = follows.entries;
      bounds = follows.bounds;
      since = follows.since;
      place = ap (λ k. k + 1) follows.place;
      ahead = follows.ahead;
      periods = inside_step follows.periods (stepped h) (stepped g) refl refl refl refl (omega arith) refl refl refl;
      many = follows.many;
      reads = follows.reads;
    }

    reads_more : (m : ℕ) (value : Raw) (k : ℕ) → m < length h.reads → slice_index_or (slice_set h.reads m (slice_index_or h.reads m [] ++ value ∷ [])) k []
        ≡ slice_index_or c.reads k [] ++ slice_index_or (slice_set g.reads m (slice_index_or g.reads m [] ++ value ∷ [])) k []
    reads_more m value k inside = elim (cases_eq k m) [
      | inl same ↦ (
          let inside_g : m < length g.reads = (let l = follows.many in omega (arith, inside, l)) in
          ap (λ j. slice_index_or (slice_set h.reads m (slice_index_or h.reads m [] ++ value ∷ [])) j []) same
          ∙ get_or-set_same h.reads m (slice_index_or h.reads m [] ++ value ∷ []) [] inside
          ∙ ap (λ l. l ++ value ∷ []) (follows.reads m) ∙ append_assoc (slice_index_or c.reads m []) (slice_index_or g.reads m []) (value ∷ [])
          ∙ ap (λ l. slice_index_or c.reads m [] ++ l) (sym (get_or-set_same g.reads m (slice_index_or g.reads m [] ++ value ∷ []) [] inside_g))
          ∙ ap (λ j. slice_index_or c.reads j [] ++ slice_index_or (slice_set g.reads m (slice_index_or g.reads m [] ++ value ∷ [])) j []) (sym same))
      | inr apart ↦ (get_or-set_other h.reads m k (slice_index_or h.reads m [] ++ value ∷ []) [] apart ∙ follows.reads k
          ∙ ap (λ l. slice_index_or c.reads k [] ++ l) (sym (get_or-set_other g.reads m k (slice_index_or g.reads m [] ++ value ∷ []) [] apart)))
    ]

    follows_read : (m : ℕ) (value : Raw) → m < length h.reads → Follows c b (stepped (with_read m value h)) (stepped (with_read m value g))
    follows_read m value inside = record {
      begun = follows.begun;
      begun_on = follows.begun_on;
      entries = follows.entries;
      bounds = follows.bounds;
      since = follows.since;
      place = ap (λ k. k + 1) follows.place;
      ahead = follows.ahead;
      periods = inside_step follows.periods (stepped (with_read m value h)) (stepped (with_read m value g)) refl refl refl refl (omega arith) refl refl refl;
      many = length-set g.reads m (slice_index_or g.reads m [] ++ value ∷ []) ∙ follows.many ∙ sym (length-set h.reads m (slice_index_or h.reads m [] ++ value ∷ []));
      reads = λ k. reads_more m value k inside;
    }

    follows_same : (time : ℕ) (table : List AttrsOf) → Follows c b (with_same time table h) (with_same time table g)
    follows_same time table = record {
      begun = follows.begun;
      begun_on = follows.begun_on;
      entries = follows.entries;
      bounds = follows.bounds;
      since = refl;
      place = refl;
      ahead = ap (drop 1) follows.ahead;
      periods = later_now follows.periods table time (same_period table h.now) (with_same time table h) (with_same time table g) refl refl refl (next_same table) refl refl;
      many = follows.many;
      reads = follows.reads;
    }

    follows_new : (time : ℕ) (table : List AttrsOf) (counts : List ℕ) (period : ℕ) (entries : List Entry) (bounds : List ℕ)
        → Follows c b (with_new flat.tables time table counts period entries bounds h) (with_new flat.tables time table counts period entries bounds g)
    follows_new time table counts period entries bounds = record {
      begun = follows.begun;
      begun_on = follows.begun_on;
      entries = refl;
      bounds = refl;
      since = refl;
      place = refl;
      ahead = ap (drop 1) follows.ahead;
      periods = later_now follows.periods table time (period_record flat.tables table counts period true) (with_new flat.tables time table counts period entries bounds h) (with_new flat.tables time table counts period entries bounds g) refl refl refl refl refl refl;
      many = follows.many;
      reads = follows.reads;
    }

    -- the next entry is the same, and what is told
    next_g : (x : Entry) → next_entry h ≡ Some x → next_entry g ≡ Some x
    next_g x next = (λ i. slice_get (follows.entries i) (follows.place i)) ∙ next

    told_g : (x : Change) → next_change h ≡ x → next_change g ≡ x
    told_g x told = (λ i. slice_index_or (follows.ahead i) 0 (Same (info_table follows.periods i))) ∙ told

  -- clusters of two worlds by place
  pub data GoAt (cs bs : List ClusterAt) (n : ℕ) (h g : ClusterAt) : Type 0 where
    At : (c b : ClusterAt) → slice_get cs n ≡ Some c → slice_get bs n ≡ Some b → GoesWith (n + 1) c b h g → GoAt cs bs n h g

  -- so their steps keep it
  module _ (cs bs : List ClusterAt) where
    view : (n : ℕ) (h g : ClusterAt) → GoAt cs bs n h g → HasView h g
    view n h g (At c b c_at b_at with) = view_of (n + 1) c b h g with

    sink_kind : (o : Option ActorRow) → IsSink o → kind_of_row o ≡ Some actor.Sink
    sink_kind None is = absurd is
    sink_kind (Some row) is = ap Some is

    sink : (n : ℕ) (h g : ClusterAt) (x : Entry) → GoAt cs bs n h g → next_entry h ≡ Some x → IsSink (slice_get flat.tables.actors x.actor) → sample_taken model flat (n + 1) g x.actor ≡ sample_taken model flat (n + 1) h x.actor
    sink n h g x (At c b c_at b_at with) next is =
        sink_same by_table goes_on enough model flat is_flat limits sinks (n + 1) c b h g with.resumed with.follows with.sound with.whole with.part x.actor (sink_kind (slice_get flat.tables.actors x.actor) is)

    step : (n : ℕ) (h g : ClusterAt) (x : Entry) → GoAt cs bs n h g → next_entry h ≡ Some x → IsNoSampler (slice_get flat.tables.actors x.actor) → GoAt cs bs n (stepped h) (stepped g)
    step n h g x (At c b c_at b_at with) next plain = At c b c_at b_at (record {
      resumed = with.resumed;
      sound = with.sound;
      follows = follows_step (n + 1) c b h g with;
      whole = step_plain model flat kept checked (n + 1) h with.whole x next plain;
      part = step_plain model flat kept checked (n + 1) g with.part x (next_g (n + 1) c b h g with x next) plain;
    })

    sampler_inside : (m : ℕ) (o : Option ActorRow) → slice_get flat.tables.actors m ≡ o → IsSampler o → m < length flat.tables.actors
    sampler_inside m None at is = absurd is
    sampler_inside m (Some row) at is = slice_get_within flat.tables.actors m row at

    read : (n : ℕ) (h g : ClusterAt) (x : Entry) (value : Raw) → GoAt cs bs n h g → next_entry h ≡ Some x → IsSampler (slice_get flat.tables.actors x.actor) → GoAt cs bs n (stepped (with_read x.actor value h)) (stepped (with_read x.actor value g))
    read n h g x value (At c b c_at b_at with) next sampler = At c b c_at b_at (record {
      resumed = with.resumed;
      sound = with.sound;
      follows = follows_read (n + 1) c b h g with x.actor value (let i = sampler_inside x.actor (slice_get flat.tables.actors x.actor) refl sampler in let m = with.whole.many in omega (arith, i, m));
      whole = step_read model flat kept checked (n + 1) h with.whole x next value sampler;
      part = step_read model flat kept checked (n + 1) g with.part x (next_g (n + 1) c b h g with x next) value sampler;
    })

    same : (n time : ℕ) (h g : ClusterAt) (table : List AttrsOf) → GoAt cs bs n h g → is_over time h ≡ true → next_change h ≡ Same table → IsAnswer model flat (n + 1) h (Same table) → GoAt cs bs n (with_same time table h) (with_same time table g)
    same n time h g table (At c b c_at b_at with) over told answer = At c b c_at b_at (record {
      resumed = with.resumed;
      sound = with.sound;
      follows = follows_same (n + 1) c b h g with time table;
      whole = same_sound model flat kept checked (n + 1) h with.whole time over table told answer;
      part = same_sound model flat kept checked (n + 1) g with.part time (over_g (n + 1) c b h g with time over) table (told_g (n + 1) c b h g with (Same table) told) (answer_same (n + 1) c b h g with (Same table) answer);
    })

    new : (n time : ℕ) (h g : ClusterAt) (table : List AttrsOf) (counts : List ℕ) (period : ℕ) (entries : List Entry) (bounds : List ℕ) → GoAt cs bs n h g → is_over time h ≡ true → next_change h ≡ New table counts period entries bounds
        → IsAnswer model flat (n + 1) h (New table counts period entries bounds) → GoAt cs bs n (with_new flat.tables time table counts period entries bounds h) (with_new flat.tables time table counts period entries bounds g)
    new n time h g table counts period entries bounds (At c b c_at b_at with) over told answer = At c b c_at b_at (record {
      resumed = with.resumed;
      sound = with.sound;
      follows = follows_new (n + 1) c b h g with time table counts period entries bounds;
      whole = new_sound model flat kept checked (n + 1) h with.whole time over table counts period entries bounds told answer;
      part = new_sound model flat kept checked (n + 1) g with.part time (over_g (n + 1) c b h g with time over) table counts period entries bounds (told_g (n + 1) c b h g with (New table counts period entries bounds) told)
          (answer_same (n + 1) c b h g with (New table counts period entries bounds) answer);
    })

    answer : (n : ℕ) (h g : ClusterAt) (x : Change) → GoAt cs bs n h g → IsAnswer model flat (n + 1) h x → IsAnswer model flat (n + 1) g x
    answer n h g x (At c b c_at b_at with) is = answer_same (n + 1) c b h g with x is

    pub steps_keep : StepsKeep model flat (GoAt cs bs)
    steps_keep = record { view = view; answer = answer; sink = sink; step = step; read = read; same = same; new = new }
