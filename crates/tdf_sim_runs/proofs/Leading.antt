-- From one instant of a run to the next, and how it ends: the history is told what the boundaries led to.
use Rattle.std.proofs.Common.{◌≡◌, ◌∙◌, ℕ, ◌+◌, ◌-◌, ◌<◌, ◌≤◌, Bool, true, false, ◌&&◌, List, [], ◌∷◌, ◌++◌, Some, length, nat_eq, slice_get, inl, inr, refl, sym, ap, subst, arith}
use Rattle.std.proofs.lemmas.Bool.{cases_lt, eqb-true}
use Rattle.std.proofs.lemmas.List.Sums.{sum_by-append, sum_by-cons}
use Rattle.std.proofs.lemmas.Option.{slice_get_within}
use Rattle.tdf_sim_instants.proofs.Api.{counts_all, have_plans, true_false}
use Rattle.tdf_sim_instants.specs.CrossingLaws.{AreToldAt, Becomes}
use Rattle.tdf_sim_instants.specs.Engine.{HasBeenSpent, HasBeenStopped, HasHadInstant, IsEngineOf, IsReadyAt}
use Rattle.tdf_sim_instants.specs.InstantLaws.{InstantEnds, InstantEndsSpent, InstantEndsStopped, InstantGoes, InstantGoesAlong, IsModelOf}
use Rattle.tdf_sim_instants.specs.Times.{IsNextDue}
use Rattle.tdf_sim_instants.specs.declared.engine.Engine.{Engine}
use Rattle.tdf_base.specs.declared.faults.Fault.{Fault as FaultOf}
use Rattle.tdf_bind_tables.specs.FlatTables.{FlatTablesOf}
use Rattle.tdf_events.specs.Kernel.{side_of}
use Rattle.tdf_events.specs.Side.{SideOf}
use Rattle.tdf_bind.specs.declared.model.Flat.{Flat}
use Rattle.tdf_streams.proofs.Api.{get_inside}
use Rattle.tdf_sim_history.specs.Answers.{AreAnswers, IsAnswer, OfAll, OfClusters, OfFirst}
use Rattle.tdf_sim_history.specs.Instant.{RunFault, instant, is_due, is_over, periods_of}
use Rattle.tdf_sim_history.specs.Telling.{AreTold, IsTold, all_told, state_as, world_told}
use Rattle.tdf_sim_history.specs.Texts.{left_by, new_plans, notes_in, notes_to}
use Rattle.tdf_sim_history.specs.World.{Change, ClusterAt, Rules, World, next_change}
use Rattle.tdf_sim_history.proofs.Api.{happens, reached, skipped, spent_ends, fault_ends, history_told, more_answers, more_told, told_twice, to_same, told_alike, untold_told}
use Rattle.tdf_sim_history.specs.History.{HistoryState, Step, Fault, Past, On, Spent, Stopped, history, state_of}
use Rattle.tdf_sim_history.specs.TurnLaws.{IsNextTime, IsOn}
use Rattle.tdf_sim_runs.proofs.Dues.{next_is}
use Rattle.tdf_sim_runs.proofs.Keeping.{IsInPeriod, firings_keep}
use Rattle.tdf_sim_runs.proofs.Plans.{news_are, notes_over, notes_rest}
use Rattle.tdf_sim_runs.proofs.Waiting.{all_on, due_told, on_same}
use Rattle.tdf_sim_runs.specs.News.{news_text}
use Rattle.tdf_sim_runs.specs.Ongoing.{AreTimed, AreToldTo, HistoryEnds, InstantLeadsOn, InstantSpends, InstantStops, IsOngoing, StopIsReached}
use Rattle.tdf_streams.specs.Periods.{PeriodRecord}
use Rattle.tdf_streams.specs.Signals.{time_of_periods}
use Rattle.tdf_lang_tree.specs.Pure.{PureTree}
use Rattle.tdf_sim_history.specs.Rules.{rules_of, world_engine}

-- what was ready from a time on is ready at the next one
pub ready_then : (from stop time : ℕ) (e : Engine) → IsReadyAt from e → from ≤ time → IsNextDue e.clusters.items e.since.items (side_of e.kernel) stop time → IsReadyAt time e
ready_then from stop time e ready low next = record {
  begun = λ n s s_at. (let b = ready.begun n s s_at in omega (arith, b, low));
  before = λ n s c c_at s_at. (
      let b = ready.before n s c c_at s_at in
      record {
        begun = elim b.begun [
          | inl start ↦ (let z = start.0 in elim (cases_lt 0 time) [ inl some ↦ inr (omega (arith, z, some)) | inr none ↦ inl (z, omega (arith, none)) ])
          | inr less ↦ inr (omega (arith, less, low))
        ];
        done = λ i x below at. (let d = b.done i x below at in omega (arith, d, low));
      });
  clusters = λ n s c c_at s_at. next.each n s c (record { cluster = c_at; begun = s_at });
  side = next.before;
}

-- both parts of a test
and_right : (a b : Bool) → (a && b) ≡ true → b ≡ true
and_right true b is = is
and_right false b is = absurd cc

-- the next period begins when those before it are over
began_timed : (time : ℕ) (h : ClusterAt) → is_over time h ≡ true → h.since ≡ h.origin + time_of_periods h.old → time ≡ h.origin + time_of_periods (periods_of h)
began_timed time h over timed =
    let t = eqb-true time (h.since + h.now.info.period) (and_right (nat_eq h.place (length h.entries)) (nat_eq time (h.since + h.now.info.period)) over) in
    let a = sum_by-append (λ (p : PeriodRecord). p.info.period) h.old (h.now ∷ []) in
    let b = sum_by-cons (λ (p : PeriodRecord). p.info.period) h.now [] in
    omega (arith, t, a, b, timed)

timed_by : (tables : FlatTablesOf) (time : ℕ) (h mid g : ClusterAt) → h.since ≡ h.origin + time_of_periods h.old → Becomes tables time h mid → IsInPeriod mid g → g.since ≡ g.origin + time_of_periods g.old
timed_by tables time h mid g timed (Becomes.Stayed going same) kept =
    let a = kept.since ∙ ap (λ (z : ClusterAt). z.since) same in
    let b = kept.origin ∙ ap (λ (z : ClusterAt). z.origin) same in
    let c = ap time_of_periods (kept.old ∙ ap (λ (z : ClusterAt). z.old) same) in omega (arith, a, b, c, timed)
timed_by tables time h mid g timed (Becomes.Began table over is) kept =
    let a = kept.since ∙ ap (λ (z : ClusterAt). z.since) is in
    let b = kept.origin ∙ ap (λ (z : ClusterAt). z.origin) is in
    let c = ap time_of_periods (kept.old ∙ ap (λ (z : ClusterAt). z.old) is) in
    let t = began_timed time h over timed in omega (arith, a, b, c, t)
timed_by tables time h mid g timed (Becomes.Changed table counts period entries bounds over is) kept =
    let a = kept.since ∙ ap (λ (z : ClusterAt). z.since) is in
    let b = kept.origin ∙ ap (λ (z : ClusterAt). z.origin) is in
    let c = ap time_of_periods (kept.old ∙ ap (λ (z : ClusterAt). z.old) is) in
    let t = began_timed time h over timed in omega (arith, a, b, c, t)

module _ (model : PureTree) (flat : Flat) (time : ℕ) (w : World SideOf) (e f : Engine) (left rest : ℕ) (had : HasHadInstant flat time e f left rest) (goes : InstantGoes model flat time w e f left rest had) where
  -- a cluster after the instant, from what it was
  pub from_before : (n : ℕ) (g : ClusterAt) → slice_get goes.world.clusters n ≡ Some g
      → (h : ClusterAt) × (mid : ClusterAt) × (slice_get w.clusters n ≡ Some h) × (slice_get goes.crossing.clusters n ≡ Some mid) × Becomes flat.tables time h mid × IsInPeriod mid g
  from_before n g g_at =
      let g_in : slice_get goes.passing.clusters n ≡ Some g = sym (ap (λ l. slice_get l n) goes.same) ∙ g_at in
      let keeps = firings_keep model flat (rules_of model flat) time (length w.clusters) _ _ goes.passing.goes in
      let i = slice_get_within goes.passing.clusters n g g_in in
      let s = keeps.same in
      let mid = get_inside goes.crossing.clusters n (omega (arith, i, s)) in
      let a = goes.crossing.at.same in
      let h_in = same_long n (slice_get_within goes.crossing.clusters n mid.0 mid.1) in
      let h = get_inside w.clusters n h_in in
      (h.0, mid.0, h.1, mid.1, goes.crossing.became n h.0 mid.0 h.1 mid.1 h_in, keeps.each n mid.0 g mid.1 g_in)
    where
      same_long : (k : ℕ) → k < length goes.crossing.clusters → k < length w.clusters
      same_long k inside = elim (cases_lt k (length w.clusters)) [
        | inl less ↦ less
        | inr over ↦ (let x = get_inside goes.crossing.clusters k inside in slice_get_within w.clusters k x.0 (sym (goes.crossing.rest k over) ∙ x.1))
      ]

  pub stays_timed : AreTimed w → AreTimed goes.world
  stays_timed timed = record {
    each = λ n g g_at. (let b = from_before n g g_at in timed_by flat.tables time b.0 b.1 g (timed.each n b.0 b.2) b.4 b.5);
  }

module _ (along : InstantGoesAlong) (model : PureTree) (flat : Flat) (start : World SideOf) (from stop time left : ℕ) (e : Engine) (m : IsModelOf model flat) (of : IsEngineOf flat e) (ready : IsReadyAt from e)
    (going : IsOngoing model flat start from e left) (within : from ≤ stop) (next : IsNextDue e.clusters.items e.since.items (side_of e.kernel) stop time) where
  abbrev rules : Rules SideOf
  rules = rules_of model flat

  abbrev own : World SideOf
  own = world_told going.ahead start

  next_time : IsNextTime (world_engine model flat) going.world from stop time
  next_time = next_is model flat going.world e left of going.now from stop time ready next within

  pub ready_now : IsReadyAt time e
  ready_now = ready_then from stop time e ready next_time.not_before next

  on_own : history (world_engine model flat) 0 own from ≡ On going.world
  on_own = let z : from ≡ from - 0 = omega arith in ap (history (world_engine model flat) 0 own) z ∙ going.on.on

  -- an instant of which something is told, in the history that is told this besides
  module _ (more : List (List Change)) (are_told : (n : ℕ) → AreToldAt model flat time n going.world more) (less : time < stop) where
    abbrev ahead : List (List Change)
    ahead = all_told going.ahead more

    twice : world_told more own ≡ world_told ahead start
    twice = told_twice going.ahead more start

    abbrev world : World SideOf
    world = world_told more going.world

    on_more : history (world_engine model flat) 0 (world_told more own) from ≡ On world
    on_more = history_told more model flat rules own from going.some from (omega arith) ∙ ap (state_as (world_told more)) on_own

    pub is_on : IsOn (world_engine model flat) 0 (world_told more own) from world
    is_on = record { reached = omega arith; on = (let z : from - 0 ≡ from = omega arith in ap (history (world_engine model flat) 0 (world_told more own)) z ∙ on_more) }

    pub next_told : IsNextTime (world_engine model flat) world from stop time
    next_told = record {
      not_before = next_time.not_before;
      not_after = next_time.not_after;
      none = λ t low below. due_told rules more going.world t ∙ next_time.none t low below;
      due = λ soon. due_told rules more going.world time ∙ next_time.due soon;
    }

    pub on_between : (t : ℕ) → from ≤ t → t ≤ time → history (world_engine model flat) 0 (world_told more own) t ≡ On world
    on_between t low high =
        let k : t ≡ t - from + from = omega (arith, low) in
        ap (history (world_engine model flat) 0 (world_told more own)) k
        ∙ skipped (world_engine model flat) 0 (world_told more own) from world (t - from) on_more
        (λ u above below. next_told.none u (omega (arith, above)) (omega (arith, below, low, high)))

    -- what holds of the boundaries before and of those of this instant holds of all up to it
    of_more : (P : OfClusters) (last : ℕ) → OfAll model flat rules (world_told more own) from P → ((n : ℕ) → OfFirst flat.tables time n world P)
        → ((t : ℕ) (u : World SideOf) → time < t → t < last → history (world_engine model flat) 0 (world_told more own) t ≡ On u → ⊥) → OfAll model flat rules (world_told more own) last P
    of_more P last before here after t n u below at due = elim (cases_lt t from) [
      | inl early ↦ before t n u early at due
      | inr low ↦ elim (cases_lt t time) [
        | inl soon ↦ absurd (
            let same = on_same u world (sym at ∙ on_between t low (omega (arith, soon))) in
            true_false (sym due ∙ ap (λ w. is_due rules w t) same ∙ next_told.none t low soon))
        | inr late ↦ elim (cases_lt time t) [
          | inl past ↦ absurd (after t u past below at)
          | inr is ↦
              (let e : t ≡ time = omega (arith, late, is) in
              let same = on_same u world (sym at ∙ on_between t low (omega (arith, is))) in
              subst (λ (w : World SideOf). OfFirst flat.tables t n w P) (sym same) (subst (λ k. OfFirst flat.tables k n world P) (sym e) (here n)))
        ]
      ]
    ]

    told_from : AreTold model flat rules (world_told more own) from
    told_from = more_told more model flat rules own from going.some

    answers_from : AreAnswers model flat rules (world_told more own) from
    answers_from = more_answers more model flat rules own from going.some going.told.answers

    abbrev AfterNone : ℕ → Type 0
    AfterNone last = (t : ℕ) (u : World SideOf) → time < t → t < last → history (world_engine model flat) 0 (world_told more own) t ≡ On u → ⊥

    pub some_to : (last : ℕ) → AfterNone last → AreTold model flat rules (world_told ahead start) last
    some_to last after = subst (λ (w : World SideOf). AreTold model flat rules w last) twice
        (of_more (λ number c. IsTold c) last told_from (λ n. (are_told n).some) after)

    pub told_to : (last : ℕ) → AfterNone last → AreToldTo model flat start last ahead
    told_to last after = record {
      answers = subst (λ (w : World SideOf). AreAnswers model flat rules w last) twice
          (of_more (λ number c. IsAnswer model flat number c (next_change c)) last answers_from (λ n. (are_told n).answers) after);
      counts = counts_all going.ahead more going.told.counts (are_told 0).counts;
    }

    -- the instant happens then
    pub happens_told : history (world_engine model flat) 0 (world_told more own) (time + 1) ≡ state_of time (instant model flat rules time world)
    happens_told = let z : time + 1 ≡ time + 1 - 0 = omega arith in
        ap (history (world_engine model flat) 0 (world_told more own)) z ∙ happens (world_engine model flat) 0 (world_told more own) from world is_on stop time next_told less

    -- the notes up to the next time are those that there were
    pub notes_then : notes_to model flat rules (world_told ahead start) (time + 1)
        ≡ notes_to model flat rules own from ++ new_plans flat time (left_by (instant model flat rules time world))
    notes_then = ap (λ (w : World SideOf). notes_to model flat rules w (time + 1)) (sym twice)
        ∙ notes_over model flat rules (world_told more own) from time world next_time.not_before on_between next_told less
        ∙ ap (λ t. t ++ new_plans flat time (left_by (instant model flat rules time world)))
        (to_same model flat rules (world_told more own) own from (untold_told more own) (λ t low. told_alike model flat rules own more from going.some t low) from (omega arith))

  module _ (less : time < stop) (f : Engine) (rest : ℕ) (had : HasHadInstant flat time e f left rest) where
    pub goes_now : InstantGoes model flat time going.world e f left rest had
    goes_now = along model flat time going.world e f left rest m of ready_now going.now had

    abbrev pub more_now : List (List Change)
    more_now = goes_now.crossing.told

    pub told_all_now : (n : ℕ) → AreToldAt model flat time n going.world more_now
    told_all_now n = goes_now.are_told n

    pub leads_to : history (world_engine model flat) 0 (world_told more_now own) (time + 1) ≡ On goes_now.world
    leads_to = happens_told more_now told_all_now less ∙ ap (state_of time) goes_now.goes

    pub none_after : (t : ℕ) (u : World SideOf) → time < t → t < time + 1 → history (world_engine model flat) 0 (world_told more_now own) t ≡ On u → ⊥
    none_after t u low high at = omega (arith, low, high)

    unfoldable pub leads_on : IsOngoing model flat start (time + 1) f rest
    leads_on = record {
      can = going.can;
      ahead = ahead more_now told_all_now less;
      told = told_to more_now told_all_now less (time + 1) none_after;
      some = some_to more_now told_all_now less (time + 1) none_after;
      world = goes_now.world;
      on = subst (λ (w : World SideOf). IsOn (world_engine model flat) 0 w (time + 1) goes_now.world) (told_twice going.ahead more_now start)
          (record { reached = omega arith; on = (let z : time + 1 - 0 ≡ time + 1 = omega arith in ap (history (world_engine model flat) 0 (world_told more_now own)) z ∙ leads_to) });
      now = goes_now.now;
      timed = stays_timed model flat time going.world e f left rest had goes_now going.timed;
    }

    -- the news of it
    pub news_now : (news : List ℕ) → news ≡ notes_to model flat rules own from
        → news ++ news_text flat time f.clusters.items f.planned.items ≡ notes_to model flat rules (world_told leads_on.ahead start) (time + 1)
    unfolding leads_on
    news_now news are =
        ap (λ t. t ++ news_text flat time f.clusters.items f.planned.items) are
        ∙ ap (λ t. notes_to model flat rules own from ++ t)
        (news_are flat time goes_now.world f.clusters.items f.planned.items (have_plans model flat f.since.items goes_now.world.clusters f.clusters.items goes_now.now.at) goes_now.planned
        ∙ ap (λ s. new_plans flat time (left_by s)) (sym goes_now.goes))
        ∙ sym (notes_then more_now told_all_now less)

  -- an instant that ends the history
  module _ (less : time < stop) (f : Engine) (ends : World SideOf → Step (World SideOf) RunFault) (state : World SideOf → HistoryState (World SideOf) RunFault)
      (is : (v : World SideOf) → state_of time (ends v) ≡ state v) (over : (v : World SideOf) (t : ℕ) → time < t → t ≤ stop
      → (more : List (List Change)) → IsOn (world_engine model flat) 0 (world_told more own) from (world_told more going.world) → IsNextTime (world_engine model flat) (world_told more going.world) from stop time
      → instant model flat rules time (world_told more going.world) ≡ ends v → history (world_engine model flat) 0 (world_told more own) t ≡ state v)
      (never : (v u : World SideOf) → state v ≡ On u → ⊥) (ended : InstantEnds model flat time going.world f ends) where
    pub state_at_end : (t : ℕ) → time < t → t ≤ stop → history (world_engine model flat) 0 (world_told ended.told own) t ≡ state ended.last
    state_at_end t low high = over ended.last t low high ended.told (is_on ended.told ended.are_told less) (next_told ended.told ended.are_told less) ended.goes

    unfoldable pub ends_so : HistoryEnds model flat start stop f state
    ends_so = record {
      ahead = ahead ended.told ended.are_told less;
      told = told_to ended.told ended.are_told less stop (λ t u low high at. never ended.last u (sym (state_at_end t low (omega (arith, high))) ∙ at));
      last = ended.last;
      has = ended.has;
      is = ap (λ (w : World SideOf). history (world_engine model flat) 0 w stop) (sym (told_twice going.ahead ended.told start)) ∙ state_at_end stop less (omega arith);
    }

    -- the news of it
    pub news_ended : ((v : World SideOf) (t : ℕ) → notes_in model flat rules t (state v) ≡ []) → ((v : World SideOf) → left_by (ends v) ≡ v) → (news : List ℕ) → news ≡ notes_to model flat rules own from
        → news ++ news_text flat time f.clusters.items f.planned.items ≡ notes_to model flat rules (world_told ends_so.ahead start) stop
    unfolding ends_so
    news_ended quiet leaves news are =
        ap (λ t. t ++ news_text flat time f.clusters.items f.planned.items) are
        ∙ ap (λ t. notes_to model flat rules own from ++ t)
        (news_are flat time ended.last f.clusters.items f.planned.items ended.has.plans ended.has.planned
        ∙ ap (new_plans flat time) (sym (ap left_by ended.goes ∙ leaves ended.last)))
        ∙ sym (notes_then ended.told ended.are_told less)
        ∙ ap (λ (w : World SideOf). notes_to model flat rules w (time + 1)) (sym (told_twice going.ahead ended.told start))
        ∙ sym (notes_rest model flat rules (world_told ended.told own) (time + 1) stop (omega (arith, less))
        (λ t low high. ap (notes_in model flat rules t) (state_at_end t (omega (arith, low)) (omega (arith, high))) ∙ quiet ended.last t))
        ∙ ap (λ (w : World SideOf). notes_to model flat rules w stop) (told_twice going.ahead ended.told start)

-- spent, and stopped by a fault
pub spent_over : (model : PureTree) (flat : Flat) (A u : World SideOf) (from stop time : ℕ) (v : World SideOf) (t : ℕ) → time < stop → time < t → t ≤ stop → IsOn (world_engine model flat) 0 A from u
    → IsNextTime (world_engine model flat) u from stop time → instant model flat (rules_of model flat) time u ≡ Past v → history (world_engine model flat) 0 A t ≡ Spent time v
spent_over model flat A u from stop time v t less low high on next is =
    let z : t ≡ t - 0 = omega arith in
    ap (history (world_engine model flat) 0 A) z ∙ spent_ends (world_engine model flat) 0 A from u on t time v
    (record { not_before = next.not_before; not_after = omega (arith, low); none = next.none; due = λ soon. next.due less }) low is

pub fault_over : (model : PureTree) (flat : Flat) (A u : World SideOf) (from stop time : ℕ) (fault : RunFault) (v : World SideOf) (t : ℕ) → time < stop → time < t → t ≤ stop → IsOn (world_engine model flat) 0 A from u
    → IsNextTime (world_engine model flat) u from stop time → instant model flat (rules_of model flat) time u ≡ Fault fault v → history (world_engine model flat) 0 A t ≡ Stopped time fault v
fault_over model flat A u from stop time fault v t less low high on next is =
    let z : t ≡ t - 0 = omega arith in
    ap (history (world_engine model flat) 0 A) z ∙ fault_ends (world_engine model flat) 0 A from u on t time fault v
    (record { not_before = next.not_before; not_after = omega (arith, low); none = next.none; due = λ soon. next.due less }) low is

abbrev pub spent_at : (time : ℕ) → World SideOf → HistoryState (World SideOf) RunFault
spent_at time v = Spent time v

pub spent_never : (time : ℕ) (v u : World SideOf) → spent_at time v ≡ On u → ⊥
spent_never time v u same = absurd cc

pub stopped_never : (time : ℕ) (fault : RunFault) (v u : World SideOf) → Stopped time fault v ≡ On u → ⊥
stopped_never time fault v u same = absurd cc

module _ (along : InstantGoesAlong) (model : PureTree) (flat : Flat) (start : World SideOf) (from stop time left : ℕ) (e f : Engine) (m : IsModelOf model flat) (of : IsEngineOf flat e) (ready : IsReadyAt from e)
    (going : IsOngoing model flat start from e left) (within : from ≤ stop) (next : IsNextDue e.clusters.items e.since.items (side_of e.kernel) stop time) (less : time < stop) where
  module _ (ends : InstantEndsSpent) (spent : HasBeenSpent flat time e f left) where
    abbrev pub ended : InstantEnds model flat time going.world f (λ v. Past v)
    ended = ends model flat time going.world e f left m of (ready_now along model flat start from stop time left e m of ready going within next) going.now spent

    unfoldable pub spends : HistoryEnds model flat start stop f (λ v. Spent time v)
    spends = ends_so along model flat start from stop time left e m of ready going within next less f (λ v. Past v) (λ v. Spent time v) (λ v. refl)
        (λ v t low high more on next is. spent_over model flat _ _ from stop time v t less low high on next is) (spent_never time) ended

    abbrev pub more_spent : List (List Change)
    more_spent = ended.told

    pub news_spent : (news : List ℕ) → news ≡ notes_to model flat (rules_of model flat) (world_told going.ahead start) from
        → news ++ news_text flat time f.clusters.items f.planned.items ≡ notes_to model flat (rules_of model flat) (world_told spends.ahead start) stop
    unfolding spends ends_so
    news_spent = news_ended along model flat start from stop time left e m of ready going within next less f (λ v. Past v) (λ v. Spent time v) (λ v. refl)
        (λ v t low high more on next is. spent_over model flat _ _ from stop time v t less low high on next is) (spent_never time) ended (λ v t. refl) (λ v. refl)

  module _ (stops : InstantEndsStopped) (number : ℕ) (fault : FaultOf) (stopped : HasBeenStopped flat time number fault e f left) where
    abbrev pub of_run : RunFault
    of_run = record { cluster = number; fault = fault }

    abbrev pub halted : InstantEnds model flat time going.world f (λ v. Fault of_run v)
    halted = stops model flat time number fault going.world e f left m of (ready_now along model flat start from stop time left e m of ready going within next) going.now stopped

    unfoldable pub halts : HistoryEnds model flat start stop f (λ v. Stopped time of_run v)
    halts = ends_so along model flat start from stop time left e m of ready going within next less f (λ v. Fault of_run v) (λ v. Stopped time of_run v) (λ v. refl)
        (λ v t low high more on next is. fault_over model flat _ _ from stop time of_run v t less low high on next is) (stopped_never time of_run) halted

    abbrev pub more_halted : List (List Change)
    more_halted = halted.told

    pub news_halted : (news : List ℕ) → news ≡ notes_to model flat (rules_of model flat) (world_told going.ahead start) from
        → news ++ news_text flat time f.clusters.items f.planned.items ≡ notes_to model flat (rules_of model flat) (world_told halts.ahead start) stop
    unfolding halts ends_so
    news_halted = news_ended along model flat start from stop time left e m of ready going within next less f (λ v. Fault of_run v) (λ v. Stopped time of_run v) (λ v. refl)
        (λ v t low high more on next is. fault_over model flat _ _ from stop time of_run v t less low high on next is) (stopped_never time of_run) halted (λ v t. refl) (λ v. refl)

-- where nothing is due before the stop, the history goes on up to it
pub stop_reached : StopIsReached
stop_reached model flat start from stop left e of ready going within next =
    let own = world_told going.ahead start in
    let free : IsNextTime (world_engine model flat) going.world from stop stop = next_is model flat going.world e left of going.now from stop stop ready next within in
    record {
      told = record {
        answers = all_on model flat own from stop going.world going.on stop free (λ number c. IsAnswer model flat number c (next_change c)) going.told.answers;
        counts = going.told.counts;
      };
      is = let z : stop ≡ stop - 0 = omega arith in ap (history (world_engine model flat) 0 own) z ∙ reached (world_engine model flat) 0 own from going.world going.on stop free;
    }

pub instant_leads_on : InstantGoesAlong → InstantLeadsOn
instant_leads_on along model flat start from stop time left rest e f m of ready going within next less had =
    leads_on along model flat start from stop time left e m of ready going within next less f rest had

pub instant_spends : InstantGoesAlong → InstantEndsSpent → InstantSpends
instant_spends along ends model flat start from stop time left e f m of ready going within next less spent =
    spends along model flat start from stop time left e f m of ready going within next less ends spent

pub instant_stops : InstantGoesAlong → InstantEndsStopped → InstantStops
instant_stops along stops model flat start from stop time left number fault e f m of ready going within next less stopped =
    halts along model flat start from stop time left e f m of ready going within next less stops number fault stopped
