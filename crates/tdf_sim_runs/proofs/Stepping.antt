-- An instant of a run, and what its trace shows of it.
use Rattle.std.proofs.Common.{◌≡◌, ◌∙◌, ℕ, zero, suc, ◌+◌, ◌-◌, ◌<◌, ◌≤◌, List, [], ◌++◌, Option, refl, sym, ap, subst, arith, inl, inr}
use Rattle.std.proofs.lemmas.List.Elements.{All-append, All-nil, All-weaker}
use Rattle.std.proofs.lemmas.Option.{slice_get_within}
use Rattle.std.specs.Prelude.{All}
use Rattle.std.proofs.lemmas.Bool.{cases_lt}
use Rattle.tdf_base.specs.Limits.{time_end}
use Rattle.tdf_convert.specs.Outputs.{OutputsOf}
use Rattle.tdf_convert.specs.declared.outputs.Traced.{Traced}
use Rattle.tdf_convert.specs.declared.outputs.Sent.{Sent}
use Rattle.tdf_events.specs.Runnable.{AreOfSignals, signal_formats}
use Rattle.tdf_sim_instants.specs.Engine.{HasHadInstant, IsEngineOf, IsReadyAt}
use Rattle.tdf_sim_instants.specs.CrossingLaws.{Becomes}
use Rattle.tdf_sim_instants.specs.InstantLaws.{InstantGoes, InstantGoesAlong, IsModelOf}
use Rattle.tdf_sim_instants.specs.declared.engine.Engine.{Engine}
use Rattle.tdf_events.specs.Side.{SideOf}
use Rattle.tdf_sim_instants.specs.Below.{Done, HavePassed, Idle, PassAt, PassHasTurn, RunOf, SampleHasFewPlaces}
use Rattle.tdf_bind.specs.declared.model.Flat.{Flat}
use Rattle.tdf_sim_shown.specs.Below.{AreInFormatsTo, CanTake, ClockAt, HasAdvanced, IsShown, Shown, ShowsInstant, clock_at, values_before}
use Rattle.tdf_streams.proofs.Api.{get_inside}
use Rattle.tdf_sim_history.specs.Cells.{world_before, world_of}
use Rattle.tdf_sim_history.specs.Instant.{RunFault}
use Rattle.tdf_sim_history.specs.Telling.{world_told}
use Rattle.tdf_sim_history.specs.World.{ClusterAt, World}
use Rattle.tdf_sim_history.specs.WorldLaws.{AreSteady}
use Rattle.tdf_sim_history.specs.History.{HistoryState, history}
use Rattle.tdf_sim_runs.proofs.Keeping.{IsInPeriod}
use Rattle.tdf_sim_runs.proofs.Leading.{from_before, goes_now, leads_on, news_now}
use Rattle.tdf_sim_runs.proofs.Handing.{news_more}
use Rattle.tdf_sim_runs.proofs.Onward.{goes_quietly}
use Rattle.tdf_sim_runs.proofs.Staying.{steady, steady_more}
use Rattle.tdf_sim_runs.specs.Advancing.{InstantAdvances}
use Rattle.tdf_sim_runs.specs.News.{news_text}
use Rattle.tdf_sim_runs.specs.Ongoing.{IsOngoing}
use Rattle.tdf_sim_runs.specs.Running.{CanGoOn, RunGoesOn, IsDueNow, IsRunningAt, AreWithin}
use Rattle.tdf_sim_runs.specs.declared.running.Running.{Running}
use Rattle.tdf_sim_shown.proofs.Api.{advanced_can_be_taken, told_is_shown}
use Rattle.tdf_lang_tree.specs.Pure.{PureTree}
use Rattle.tdf_sim_history.specs.Rules.{rules_of, world_engine}
use Rattle.tdf_sim_history.proofs.Api.{states_leave, told_alike, told_twice}
use Rattle.tdf_trace.specs.Tracked.{AreSince}
use Rattle.tdf_streams.specs.Periods.{PeriodRecord}

-- what a pass traces has few places
module _ (flat : Flat) (pass : PassAt) where
  turn_few : (n : ℕ) (x y : RunOf) (sent : List Sent) → PassHasTurn flat pass n x y sent → All SampleHasFewPlaces x.outputs.traced → All SampleHasFewPlaces y.outputs.traced
  turn_few n x y sent (Idle turn is did) few = subst (λ (o : OutputsOf). All SampleHasFewPlaces o.traced) (sym did.outputs) few
  turn_few n x y sent (Done turn is did) few = subst (λ (o : OutputsOf). All SampleHasFewPlaces o.traced) (sym did.fired.gained.are)
      (All-append SampleHasFewPlaces x.outputs.traced did.fired.gained.traced few did.fired.gained.places)

  passes_few : (n : ℕ) (x y : RunOf) (sent : List Sent) → HavePassed flat pass n x y sent → All SampleHasFewPlaces x.outputs.traced → All SampleHasFewPlaces y.outputs.traced
  unfolding HavePassed
  passes_few zero x y sent passed few = subst (λ (z : RunOf). All SampleHasFewPlaces z.outputs.traced) (sym passed.0) few
  passes_few (suc n) x y sent passed few = turn_few n passed.0 y passed.2 passed.4 (passes_few n x passed.0 passed.1 passed.3 few)

module _ (along : InstantGoesAlong) (advances : InstantAdvances) (flat : Flat) (r : Running) (can : CanGoOn flat r) (due : IsDueNow r.engine r.from) (e : Engine) (rest : ℕ)
    (of : IsEngineOf flat e) (had : HasHadInstant flat r.from r.engine e r.left rest) where
  abbrev clock : ClockAt
  clock = clock_at r.from e.since.items e.clusters.items

  traced_few : All (λ (t : Traced). t.value.frac ≤ 120) e.outputs.traced
  traced_few = All-weaker SampleHasFewPlaces (λ (t : Traced). t.value.frac ≤ 120) (λ t few. omega (arith, few)) e.outputs.traced
      (subst (λ (o : OutputsOf). All SampleHasFewPlaces o.traced) (sym had.traced)
      (passes_few flat _ _ _ _ had.fired.firings.sent had.fired.firings.passed (subst (All SampleHasFewPlaces) (sym had.fired.none_traced) (All-nil SampleHasFewPlaces))))

  module _ (model : PureTree) (start : World SideOf) (handed : List ℕ) (m : IsModelOf model flat) (run : IsRunningAt model flat start handed r) where
    abbrev on_now : IsOngoing model flat start (r.from + 1) e rest
    on_now = leads_on along model flat start r.from due.stop r.from r.left r.engine m can.engine can.ready run.going (let b = due.below in omega (arith, b)) due.next due.below e rest had

    abbrev goes : InstantGoes model flat r.from run.going.world r.engine e r.left rest had
    goes = goes_now along model flat start r.from due.stop r.from r.left r.engine m can.engine can.ready run.going (let b = due.below in omega (arith, b)) due.next due.below e rest had

    -- the history that is told the answers of the boundaries of this instant, too
    abbrev own : World SideOf
    own = world_told on_now.ahead start

    twice : world_told goes.crossing.told (world_told run.going.ahead start) ≡ own
    unfolding leads_on
    twice = told_twice run.going.ahead goes.crossing.told start

    shown_told : IsShown model flat own r.from (world_told goes.crossing.told run.going.world) r.shown
    shown_told = subst (λ (w : World SideOf). IsShown model flat w r.from (world_told goes.crossing.told run.going.world) r.shown) twice
        (told_is_shown model flat (world_told run.going.ahead start) run.going.world r.from goes.crossing.told r.shown run.going.some run.shown)

    advanced : HasAdvanced model flat r.from (world_told goes.crossing.told run.going.world) goes.world e.outputs.traced
    advanced = advances model flat r.from run.going.world r.engine e r.left rest m run.going.now can.none had goes

    values_are : e.kernel.values ≡ values_before model flat own (r.from + 1)
    unfolding leads_on
    values_are =
        let z : r.from + 1 ≡ r.from + 1 - 0 = omega arith in
        ap (λ (s : SideOf). s.values) goes.now.side
        ∙ sym (ap (λ (x : HistoryState (World SideOf) RunFault). (world_of x).events.values) (ap (history (world_engine model flat) 0 own) z ∙ on_now.on.on))

    -- as before, whatever is told besides, the values are of their formats
    fits_now : AreInFormatsTo model flat own (r.from + 1)
    fits_now t low = elim (cases_lt r.from t) [
      | inl late ↦ (let z : r.from + 1 ≡ t = omega (arith, low, late) in
          subst (λ k. AreOfSignals (signal_formats flat) (world_before model flat (rules_of model flat) own k).events.values) z (subst (AreOfSignals (signal_formats flat)) values_are of.kernel.values))
      | inr early ↦ subst (AreOfSignals (signal_formats flat))
          (sym (ap (λ (w : World SideOf). w.events.values) (states_leave (history (world_engine model flat) 0 (world_told goes.crossing.told (world_told run.going.ahead start)) t) (history (world_engine model flat) 0 (world_told run.going.ahead start) t)
          (told_alike model flat (rules_of model flat) (world_told run.going.ahead start) goes.crossing.told r.from run.going.some t early)))
          ∙ ap (λ (w : World SideOf). (world_before model flat (rules_of model flat) w t).events.values) twice) (run.fits t early)
    ]

    -- as what is told is told with its counts
    steady_now : AreSteady model flat (world_told goes.crossing.told run.going.world)
    steady_now = steady_more model flat run.going.world goes.crossing.told (goes.are_told 0).counts (steady model flat run.going.world r.engine r.left run.going.now)

    -- no period ends before the rows that are written
    within_at : AreWithin r.shown.trace.rows.upto e
    within_at n s d s_at d_at =
        let i = slice_get_within e.since.items n s s_at in
        let l = of.since in
        let c = goes.now.at.same in
        let g = get_inside goes.world.clusters n (omega (arith, i, l, c)) in
        let b = from_before model flat r.from run.going.world r.engine e r.left rest had goes n g.0 g.1 in
        let now_b = goes.now.at.begun n s g.0 g.1 s_at in
        let p = run.going.now.at.same in
        let q = can.engine.since in
        let k = slice_get_within run.going.world.clusters n b.0 b.2 in
        let t = get_inside r.engine.since.items n (omega (arith, k, p, q)) in
        let x = get_inside r.engine.clusters.items n (omega (arith, k, p)) in
        let o = run.going.now.at.begun n t.0 b.0 b.2 t.1 in
        let new_time = (goes.now.at.each n g.0 d g.1 d_at).time_is in
        let old_time = (run.going.now.at.each n b.0 x.0 b.2 x.1).time_is in
        let w = can.within n t.0 x.0 t.1 x.1 in
        let m = within_by b.0 b.1 g.0 b.4 b.5 (omega (arith, w, o, old_time)) in omega (arith, m, now_b, new_time)
      where
        within_by : (h mid g : ClusterAt) → Becomes flat.tables r.from h mid → IsInPeriod mid g → r.shown.trace.rows.upto ≤ h.since + h.now.info.period → r.shown.trace.rows.upto ≤ g.since + g.now.info.period
        within_by h mid g (Becomes.Stayed going same) kept low =
            let k = kept.since ∙ ap (λ (z : ClusterAt). z.since) same in
            let p = ap (λ (z : PeriodRecord). z.info.period) (kept.now ∙ ap (λ (z : ClusterAt). z.now) same) in omega (arith, low, k, p)
        within_by h mid g (Becomes.Began table over is) kept low = let k = kept.since in let m = ap (λ (z : ClusterAt). z.since) is in let y = can.early in omega (arith, y, k, m)
        within_by h mid g (Becomes.Changed table counts period entries bounds over is) kept low = let k = kept.since in let m = ap (λ (z : ClusterAt). z.since) is in let y = can.early in omega (arith, y, k, m)

  pub can_take : r.from < time_end → CanTake flat clock e.outputs.traced e.kernel.values r.shown
  can_take soon =
      let some = can.some in
      let g = goes some.model some.start some.handed some.of some.is in
      advanced_can_be_taken some.model flat (own some.model some.start some.handed some.of some.is) (world_told g.crossing.told some.is.going.world) g.world clock e.outputs.traced e.kernel.values r.shown some.of.is some.of.limits
      (shown_told some.model some.start some.handed some.of some.is)
      (advanced some.model some.start some.handed some.of some.is) (steady_now some.model some.start some.handed some.of some.is) g.now.at of.since soon can.early
      can.since traced_few of.kernel.values

  -- and when it is shown
  module _ (s : Shown) (news : List ℕ) (shows : ShowsInstant flat clock e.outputs.traced e.kernel.values r.shown s) (upto : s.trace.rows.upto ≡ r.shown.trace.rows.upto) (since : AreSince s.trace.rows.upto s.tracking.list) (about : s.trace.about ≡ r.shown.trace.about)
      (last : Running) (is : last ≡ record r { engine = record e { outputs = record e.outputs { traced = [] } }; shown = s; from = r.from + 1; left = rest; news = last.news })
      (news_is : last.news.items ≡ r.news.items ++ news_text flat r.from e.clusters.items e.planned.items) where
    abbrev stepped : Running
    stepped = record r { engine = record e { outputs = record e.outputs { traced = [] } }; shown = s; from = r.from + 1; left = rest; news = last.news }

    runs_so : (model : PureTree) (start : World SideOf) (handed : List ℕ) → IsModelOf model flat → IsRunningAt model flat start handed r → IsRunningAt model flat start handed stepped
    unfolding leads_on
    runs_so model start handed m run =
        let g = goes model start handed m run in
        let on = on_now model start handed m run in record {
          going = record {
            can = on.can;
            ahead = on.ahead;
            told = on.told;
            some = on.some;
            world = on.world;
            on = on.on;
            now = record { at = g.now.at; side = g.now.side; turns = g.now.turns };
            timed = on.timed;
          };
          shown = shows model (own model start handed m run) (world_told g.crossing.told run.going.world) g.world m.limits (shown_told model start handed m run) (advanced model start handed m run) g.now.at (values_are model start handed m run);
          fits = fits_now model start handed m run;
          news_are = news_more handed r.news.items (news_text flat r.from e.clusters.items e.planned.items) last.news.items news_is ∙ news_now along model flat start r.from due.stop r.from r.left r.engine m can.engine can.ready run.going (let b = due.below in omega (arith, b)) due.next due.below e rest had (handed ++ r.news.items) run.news_are;
        }

    pub step_runs : (model : PureTree) (start : World SideOf) (handed : List ℕ) → IsModelOf model flat → IsRunningAt model flat start handed r → IsRunningAt model flat start handed last
    step_runs model start handed m run = subst (IsRunningAt model flat start handed) (sym is) (runs_so model start handed m run)

    pub step_can : IsEngineOf flat stepped.engine → IsReadyAt (r.from + 1) stepped.engine → CanGoOn flat last
    step_can engine ready =
        let some = can.some in subst (CanGoOn flat) (sym is) (record {
          engine = engine;
          ready = ready;
          none = refl;
          early = (let y = can.early in omega (arith, y, upto));
          since = since;
          within = λ n t d t_at d_at. (let l = within_at some.model some.start some.handed some.of some.is n t d t_at d_at in omega (arith, l, upto));
          printable = can.printable;
          some = record { model = some.model; of = some.of; start = some.start; handed = some.handed; is = runs_so some.model some.start some.handed some.of some.is };
        })

    pub step_goes : (taken : Option (List ℕ)) → RunGoesOn flat r last [] taken taken
    step_goes taken = goes_quietly flat r last taken (let f = ap (λ (z : Running). z.from) is in omega (arith, f)) (ap (λ (z : Running). z.shown.trace.about) is ∙ about) (ap (λ (z : Running). z.shown.trace.rows.upto) is ∙ upto) step_runs
