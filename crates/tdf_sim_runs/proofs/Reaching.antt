-- How a run comes to its end.
use Rattle.std.proofs.Common.{◌≡◌, ◌∙◌, ℕ, ◌-◌, ◌<◌, ◌≤◌, List, [], ◌++◌, Option, max, append-nil, append_assoc, refl, sym, ap, subst, arith}
use Rattle.std.specs.Io.KnownBytes.{Appends}
use Rattle.tdf_sim_instants.specs.Engine.{HasBeenSpent, HasBeenStopped}
use Rattle.tdf_sim_instants.specs.InstantLaws.{InstantEndsSpent, InstantEndsStopped, InstantGoesAlong, IsModelOf}
use Rattle.tdf_sim_instants.specs.Times.{IsNextDue}
use Rattle.tdf_sim_instants.specs.declared.engine.Engine.{Engine}
use Rattle.tdf_events.specs.Kernel.{side_of}
use Rattle.tdf_events.specs.Side.{SideOf}
use Rattle.tdf_bind.specs.declared.model.Flat.{Flat}
use Rattle.tdf_sim_history.specs.Cells.{run_cells, world_before, world_of}
use Rattle.tdf_sim_history.specs.Instant.{RunFault}
use Rattle.tdf_base.specs.declared.faults.Fault.{Fault as FaultOf}
use Rattle.tdf_sim_instants.specs.Below.{BoundariesHaveOne}
use Rattle.tdf_sim_history.specs.Telling.{all_told, state_as, world_told}
use Rattle.tdf_sim_history.specs.Texts.{notes_to}
use Rattle.tdf_sim_history.specs.World.{Change, World}
use Rattle.tdf_sim_history.proofs.Api.{end_lies, history_told, told_twice}
use Rattle.tdf_sim_shown.proofs.Api.{told_is_shown}
use Rattle.tdf_sim_history.specs.History.{On, Spent, HistoryState, Stopped, end_time, history}
use Rattle.tdf_sim_runs.proofs.Ended.{before_end}
use Rattle.tdf_sim_runs.proofs.Handing.{news_more}
use Rattle.tdf_sim_runs.proofs.Known.{agree_known, known_max, known_none, known_now, known_rows}
use Rattle.tdf_sim_runs.proofs.Waiting.{runs_to, runs_to_next}
use Rattle.tdf_sim_runs.proofs.Leading.{ends_so, halts, more_halted, more_spent, news_halted, news_spent, spends, stop_reached}
use Rattle.tdf_sim_runs.proofs.Onward.{cells_stay, on_before, told_before, waiting, waits_later, waits_runs}
use Rattle.tdf_sim_runs.proofs.Written.{none_taken, rows_less, rows_part, rows_then}
use Rattle.tdf_sim_runs.specs.Ending.{EndsAs, EndsBy, GoesToEnd, WritesKnown, WritesPart, end_from, state_from}
use Rattle.tdf_sim_runs.specs.News.{news_text}
use Rattle.tdf_sim_runs.specs.Ongoing.{AreToldTo}
use Rattle.tdf_sim_runs.proofs.Told.{ends_alike, on_other}
use Rattle.tdf_sim_runs.specs.Running.{CanGoOn, RunGoesOn, IsRunningAt, WritesFrontTo}
use Rattle.tdf_sim_runs.specs.declared.going.Ended.{Ended}
use Rattle.tdf_sim_runs.specs.declared.going.Ended.TheVariants as ended
use Rattle.tdf_sim_runs.specs.declared.running.Running.{Running}
use Rattle.tdf_sim_shown.specs.Below.{IsShown}
use Rattle.tdf_trace.specs.Writings.{AboutSeen, rows_text}
use Rattle.tdf_lang_tree.specs.Pure.{PureTree}
use Rattle.tdf_sim_history.specs.Rules.{rules_of, world_engine}

-- a run that goes on does so up to the end, which comes by the stop, whatever answers the history is told
end_after : BoundariesHaveOne → (model : PureTree) (flat : Flat) (start : World SideOf) (handed : List ℕ) (ahead : List (List Change)) (r : Running) (stop : ℕ) → IsModelOf model flat → IsRunningAt model flat start handed r
    → AreToldTo model flat start stop ahead → r.from ≤ stop → r.from ≤ end_from model flat start ahead stop
end_after law model flat start handed ahead r stop m run to within =
    let own = world_told ahead start in
    let on = on_other law model flat start r.from r.left r.engine m run.going ahead (told_before model flat start r.from stop ahead within to) in
    let z : stop - 0 ≡ stop = omega arith in
    let y : r.from - 0 ≡ r.from = omega arith in
    subst (λ n. r.from ≤ end_time (history (world_engine model flat) 0 own n) stop) z (end_lies (world_engine model flat) 0 own r.from on.0
    (record { reached = omega arith; on = ap (history (world_engine model flat) 0 own) y ∙ on.1 }) stop within)

last_on : (model : PureTree) (flat : Flat) (start : World SideOf) (ahead : List (List Change)) (stop : ℕ) → (w : World SideOf) × (history (world_engine model flat) 0 (world_told ahead start) (end_from model flat start ahead stop) ≡ On w)
last_on model flat start ahead stop = before_end (world_engine model flat) (world_told ahead start) stop

-- how a run ended, where no news are handed on, or some and then others
module _ (model : PureTree) (flat : Flat) (start : World SideOf) (handed : List ℕ) where
  ends_none : (stop : ℕ) (z : Running) (how : Ended) → EndsAs model flat start handed stop z how → EndsAs model flat start (handed ++ []) stop z how
  ends_none stop z how ending = subst (λ l. EndsAs model flat start l stop z how) (sym (append-nil handed)) ending

  ends_then : (one other : List ℕ) (stop : ℕ) (z : Running) (how : Ended) → EndsAs model flat start ((handed ++ one) ++ other) stop z how → EndsAs model flat start (handed ++ (one ++ other)) stop z how
  ends_then one other stop z how ending = subst (λ l. EndsAs model flat start l stop z how) (append_assoc handed one other) ending

module _ (law : BoundariesHaveOne) where
  -- no row
  pub part_none : (flat : Flat) (r : Running) (stop : ℕ) (taken : Option (List ℕ)) → WritesPart flat stop r taken taken
  part_none flat r stop taken model start handed ahead m run to = known_none r.shown.trace.about (run_cells model flat (rules_of model flat) (world_told ahead start) (end_from model flat start ahead stop))
      r.shown.trace.rows.upto (end_from model flat start ahead stop) taken

  -- a front part of the rows below a mark is one of those that are known at the end
  pub part_to : (flat : Flat) (r : Running) (stop : ℕ) (before after : Option (List ℕ)) → CanGoOn flat r → r.from ≤ stop → WritesFrontTo flat r before after → WritesPart flat stop r before after
  part_to flat r stop before after can within part model start handed ahead m run to =
      let last = last_on model flat start ahead stop in
      let later = end_after law model flat start handed ahead r stop m run to within in
      let early = told_before model flat start r.from stop ahead within to in
      let own = world_told ahead start in
      let end = end_from model flat start ahead stop in
      let stay = cells_stay law model flat start last.0 handed ahead r end part.mark m can run early later last.1 part.early part.since part.within in
      record {
        mark = part.mark;
        within = (let e = part.early in omega (arith, e, later));
        known = agree_known (run_cells model flat (rules_of model flat) own r.from) (run_cells model flat (rules_of model flat) own end) part.mark part.mark (omega arith) stay
            (known_now law model flat start handed ahead r part.mark m run early part.early part.since);
        front = rows_less r.shown.trace.about (run_cells model flat (rules_of model flat) own r.from) (run_cells model flat (rules_of model flat) own end)
            r.shown.trace.rows.upto part.mark part.mark before after (omega arith) stay (part.front model start handed ahead m run early);
      }

  -- also after the rows that were written before
  pub part_then : (flat : Flat) (x y : Running) (stop : ℕ) (g : List ℕ) (a b c : Option (List ℕ)) → CanGoOn flat y → y.from ≤ stop → RunGoesOn flat x y g a b → WritesPart flat stop y b c → WritesPart flat stop x a c
  part_then flat x y stop g a b c can within one part model start handed ahead m run to =
      let mid = one.runs model start handed m run in
      let last = last_on model flat start ahead stop in
      let later = end_after law model flat start (handed ++ g) ahead y stop m mid to within in
      let early = told_before model flat start y.from stop ahead within to in
      let own = world_told ahead start in
      let end = end_from model flat start ahead stop in
      let upto = y.shown.trace.rows.upto in
      let stay = cells_stay law model flat start last.0 (handed ++ g) ahead y end upto m can mid early later last.1 can.early can.since can.within in
      let rest : WritesKnown x.shown.trace.about (run_cells model flat (rules_of model flat) own end) upto end b c
      = subst (λ (o : AboutSeen). WritesKnown o (run_cells model flat (rules_of model flat) own end) upto end b c) one.about (part model start (handed ++ g) ahead m mid to) in
      record {
        mark = max upto rest.mark;
        within = (let e = can.early in let k = rest.within in omega (arith, e, later, k));
        known = known_max (run_cells model flat (rules_of model flat) own end) upto rest.mark
            (agree_known (run_cells model flat (rules_of model flat) own y.from) (run_cells model flat (rules_of model flat) own end) upto upto (omega arith) stay
            (known_now law model flat start (handed ++ g) ahead y upto m mid early can.early can.since)) rest.known;
        front = rows_part x.shown.trace.about (run_cells model flat (rules_of model flat) own y.from) (run_cells model flat (rules_of model flat) own end)
            x.shown.trace.rows.upto upto (max upto rest.mark) a b c one.wrote (omega arith) stay (one.rows model start handed ahead m run early)
            (known_rows x.shown.trace.about (run_cells model flat (rules_of model flat) own end) upto end (max upto rest.mark) b c rest (omega arith));
      }

  -- the time at which a run has ended is that of the history, whatever answers it is told
  end_told : (model : PureTree) (flat : Flat) (start : World SideOf) (handed : List ℕ) (ahead : List (List Change)) (stop : ℕ) (z : Running) (how : Ended) → IsModelOf model flat → EndsAs model flat start handed stop z how
      → AreToldTo model flat start stop ahead → end_from model flat start ahead stop ≡ z.from
  end_told model flat start handed ahead stop z how m ending to =
      sym (ends_alike law model flat start ending.ahead ahead stop m ending.can ending.told to) ∙ ending.time

  -- a run that goes on and then to its end goes to its end
  pub end_then : (flat : Flat) (x y z : Running) (stop : ℕ) (how : Ended) (g h : List ℕ) (a b c : Option (List ℕ)) → CanGoOn flat y → y.from ≤ stop → RunGoesOn flat x y g a b → GoesToEnd flat stop y z h b c how → GoesToEnd flat stop x z (g ++ h) a c how
  end_then flat x y z stop how g h a b c can within one to = record {
    about = to.about ∙ one.about;
    wrote = (let l = one.wrote in let k = to.wrote in omega (arith, l, k));
    early = to.early;
    since = to.since;
    ends = λ model start handed m run. ends_then model flat start handed g h stop z how (to.ends model start (handed ++ g) m (one.runs model start handed m run));
    rows = λ model start handed ahead m run told. (
        let mid = one.runs model start handed m run in
        let e = to.ends model start (handed ++ g) m mid in
        let own = world_told ahead start in
        let time = end_told model flat start ((handed ++ g) ++ h) ahead stop z how m e told in
        let last = last_on model flat start ahead stop in
        let later = end_after law model flat start (handed ++ g) ahead y stop m mid told within in
        let early = told_before model flat start y.from stop ahead within told in
        rows_then x.shown.trace.about (run_cells model flat (rules_of model flat) own y.from) (run_cells model flat (rules_of model flat) own z.from)
        x.shown.trace.rows.upto y.shown.trace.rows.upto z.shown.trace.rows.upto a b c one.wrote to.wrote
        (cells_stay law model flat start last.0 (handed ++ g) ahead y z.from y.shown.trace.rows.upto m can mid early (omega (arith, later, time)) (ap (history (world_engine model flat) 0 own) (sym time) ∙ last.1) can.early can.since can.within)
        (one.rows model start handed ahead m run early)
        (subst (λ (o : AboutSeen). Appends b c (rows_text o (run_cells model flat (rules_of model flat) own z.from) y.shown.trace.rows.upto z.shown.trace.rows.upto)) one.about
        (to.rows model start (handed ++ g) ahead m mid told)));
  }

-- where nothing is due before the stop, it is reached
module _ (flat : Flat) (r : Running) (stop time : ℕ) (can : CanGoOn flat r) (within : r.from ≤ stop) (next : IsNextDue r.engine.clusters.items r.engine.since.items (side_of r.engine.kernel) stop time) where
  abbrev at_time : Running
  at_time = waiting flat r stop time can within next

  module _ (model : PureTree) (start : World SideOf) (handed : List ℕ) (m : IsModelOf model flat) (run : IsRunningAt model flat start handed r) where
    late : IsRunningAt model flat start handed at_time
    late = waits_runs flat r stop time can within next model start handed m run

    shown_at : IsShown model flat (world_told late.going.ahead start) time (world_before model flat (rules_of model flat) (world_told late.going.ahead start) time) r.shown
    shown_at = subst (λ (w : World SideOf). IsShown model flat (world_told late.going.ahead start) time w r.shown) (sym (ap world_of (on_before model flat start handed at_time late))) late.shown

    -- also by the history that is told more of the boundaries of an instant at this time
    shown_more : (more : List (List Change)) → IsShown model flat (world_told (all_told late.going.ahead more) start) time
        (world_before model flat (rules_of model flat) (world_told (all_told late.going.ahead more) start) time) r.shown
    shown_more more =
        let own = world_told late.going.ahead start in
        let on : history (world_engine model flat) 0 (world_told more own) time ≡ On (world_told more late.going.world)
        = history_told more model flat (rules_of model flat) own time late.going.some time (omega arith) ∙ ap (state_as (world_told more)) (on_before model flat start handed at_time late) in
        subst (λ (s : World SideOf). IsShown model flat s time (world_before model flat (rules_of model flat) s time) r.shown) (told_twice late.going.ahead more start)
        (subst (λ (w : World SideOf). IsShown model flat (world_told more own) time w r.shown) (sym (ap world_of on))
        (told_is_shown model flat own late.going.world time more r.shown late.going.some late.shown))

  pub reaches : time ≡ stop → (taken : Option (List ℕ)) → GoesToEnd flat stop r at_time [] taken taken ended.Reached
  unfolding late waits_runs runs_to_next runs_to
  reaches same taken = record {
    about = refl;
    wrote = omega arith;
    early = (let e = can.early in let l = waits_later flat r stop time can within next in omega (arith, e, l));
    since = can.since;
    ends = λ model start handed m run. (
        let state = stop_reached model flat start r.from stop r.left r.engine can.engine can.ready run.going within
        (subst (λ t. IsNextDue r.engine.clusters.items r.engine.since.items (side_of r.engine.kernel) stop t) same next) in
        let late_run = late model start handed m run in
        ends_none model flat start handed stop at_time ended.Reached (record {
          can = run.going.can;
          ahead = run.going.ahead;
          told = state.told;
          by = (run.going.world, state.is, run.going.now, can.engine.kernel);
          time = ap (λ (x : HistoryState (World SideOf) RunFault). end_time x stop) state.is ∙ sym same;
          shown = shown_at model start handed m run;
          news = late_run.news_are ∙ ap (notes_to model flat (rules_of model flat) (world_told run.going.ahead start)) same;
        }));
    rows = λ model start handed ahead m run to. none_taken r.shown.trace.about (run_cells model flat (rules_of model flat) (world_told ahead start) time) r.shown.trace.rows.upto r.shown.trace.rows.upto taken (omega arith);
  }

  -- where an instant ends it at that time
  module _ (along : InstantGoesAlong) (less : time < stop) (f : Engine) (left : ℕ) (last : Running) (is : last ≡ record at_time { engine = f; left = left; news = last.news })
      (news_is : last.news.items ≡ r.news.items ++ news_text flat time f.clusters.items f.planned.items) (taken : Option (List ℕ)) where
    abbrev ended_run : Running
    ended_run = record at_time { engine = f; left = left; news = last.news }

    ends_with : (how : Ended) (state : World SideOf → HistoryState (World SideOf) RunFault) → ((v : World SideOf) → end_time (state v) stop ≡ time)
        → ((model : PureTree) (start : World SideOf) (ahead : List (List Change)) (v : World SideOf) → state_from model flat start ahead stop ≡ state v → EndsBy model flat start ahead stop ended_run how)
        → ((model : PureTree) (start : World SideOf) (handed : List ℕ) → IsModelOf model flat → (run : IsRunningAt model flat start handed r) → (more : List (List Change)) × (told : AreToldTo model flat start stop (all_told run.going.ahead more)) × (v : World SideOf)
        × (state_from model flat start (all_told run.going.ahead more) stop ≡ state v)
        × ((handed ++ r.news.items) ++ news_text flat time f.clusters.items f.planned.items ≡ notes_to model flat (rules_of model flat) (world_told (all_told run.going.ahead more) start) stop))
        → GoesToEnd flat stop r last [] taken taken how
    unfolding late waits_runs runs_to_next runs_to
    ends_with how state at by so = subst (λ z. GoesToEnd flat stop r z [] taken taken how) (sym is) (record {
      about = refl;
      wrote = omega arith;
      early = (let k = can.early in let l = waits_later flat r stop time can within next in omega (arith, k, l));
      since = can.since;
      ends = λ model start handed m run. (
          let x = so model start handed m run in
          ends_none model flat start handed stop ended_run how (record {
            can = run.going.can;
            ahead = all_told run.going.ahead x.0;
            told = x.1;
            by = by model start (all_told run.going.ahead x.0) x.2 x.3;
            time = ap (λ (y : HistoryState (World SideOf) RunFault). end_time y stop) x.3 ∙ at x.2;
            shown = shown_more model start handed m run x.0;
            news = news_more handed r.news.items (news_text flat time f.clusters.items f.planned.items) last.news.items news_is ∙ x.4;
          }));
      rows = λ model start handed ahead m run to. none_taken r.shown.trace.about (run_cells model flat (rules_of model flat) (world_told ahead start) time) r.shown.trace.rows.upto r.shown.trace.rows.upto taken (omega arith);
    })

    pub is_spent : InstantEndsSpent → HasBeenSpent flat time r.engine f r.left → GoesToEnd flat stop r last [] taken taken ended.Spent
    unfolding spends ends_so
    is_spent over spent = ends_with ended.Spent (λ v. Spent time v) (λ v. refl) (λ model start ahead v at. (v, at)) (λ model start handed m run. (
        let h = spends along model flat start r.from stop time r.left r.engine f m can.engine can.ready run.going within next less over spent in
        let n = news_spent along model flat start r.from stop time r.left r.engine f m can.engine can.ready run.going within next less over spent (handed ++ r.news.items) run.news_are in
        (more_spent along model flat start r.from stop time r.left r.engine f m can.engine can.ready run.going within next less over spent, h.told, h.last, h.is, n)))

    pub is_stopped : InstantEndsStopped → (number : ℕ) (fault : FaultOf) → HasBeenStopped flat time number fault r.engine f r.left → GoesToEnd flat stop r last [] taken taken (ended.Stopped number fault)
    unfolding halts ends_so
    is_stopped over number fault stopped = ends_with (ended.Stopped number fault) (λ v. Stopped time (record { cluster = number; fault = fault }) v) (λ v. refl) (λ model start ahead v at. (v, at)) (λ model start handed m run. (
        let h = halts along model flat start r.from stop time r.left r.engine f m can.engine can.ready run.going within next less over number fault stopped in
        let n = news_halted along model flat start r.from stop time r.left r.engine f m can.engine can.ready run.going within next less over number fault stopped (handed ++ r.news.items) run.news_are in
        (more_halted along model flat start r.from stop time r.left r.engine f m can.engine can.ready run.going within next less over number fault stopped, h.told, h.last, h.is, n)))
