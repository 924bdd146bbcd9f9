-- The history of a run, and that which is told other answers of its boundaries, are the same but for what is told.
use Rattle.std.proofs.Common.{◌≡◌, ◌∙◌, ℕ, suc, ◌+◌, ◌-◌, ◌≤◌, Option, Some, None, option_map, List, [], ◌∷◌, length, map, slice_get, slice_index_or, refl, sym, ap, subst, arith, ◌<◌, slice_index}
use Rattle.std.proofs.lemmas.List.Elements.{All-append}
use Rattle.std.proofs.lemmas.Option.{slice_get-map, slice_get_within}
use Rattle.std.specs.List.{All}
use Rattle.tdf_sim_instants.proofs.Api.{told_get}
use Rattle.tdf_sim_instants.specs.InstantLaws.{IsModelOf}
use Rattle.tdf_sim_instants.specs.declared.engine.Engine.{Engine}
use Rattle.tdf_sim_runs.proofs.Staying.{counts_of, steady}
use Rattle.tdf_sim_runs.specs.Ongoing.{AreToldTo, CanBeTold, IsOngoing}
use Rattle.tdf_sim_runs.specs.Staying.{CellsStayBelow}
use Rattle.tdf_sim_history.proofs.Api.{cells_agree, go_on, starts, answers_agree, attributes_alike, cells_same, states_end, to_same, untold_told}
use Rattle.tdf_streams.proofs.Api.{get_inside, some_same}
use Rattle.tdf_sim_instants.specs.Below.{BoundariesHaveOne}
use Rattle.tdf_events.specs.Side.{SideOf}
use Rattle.tdf_bind.specs.declared.model.Flat.{Flat}
use Rattle.tdf_sim_history.specs.Cells.{run_cells, column_spans, samples_done}
use Rattle.tdf_sim_history.specs.Instant.{RunFault, periods_of}
use Rattle.tdf_sim_history.specs.Telling.{state_as, told_more, untold, world_told, world_untold}
use Rattle.tdf_sim_history.specs.Texts.{end_of, notes_to}
use Rattle.tdf_sim_history.specs.World.{Change, ClusterAt, Rules, World}
use Rattle.tdf_sim_history.specs.History.{HistoryState, On, Spent, Stopped, history}
use Rattle.tdf_trace_rows.specs.Laws.{Agree}
use Rattle.tdf_streams.specs.Signals.{time_of_periods}
use Rattle.tdf_lang_tree.specs.Pure.{PureTree}
use Rattle.tdf_sim_history.specs.Continuing.{HasToldCounts, HasWholePlan}
use Rattle.tdf_sim_history.specs.WorldLaws.{AreSteady, HasDone, IsSettled}
use Rattle.tdf_sim_history.specs.Rules.{rules_of, world_engine}
use Rattle.tdf_sim_history.specs.TableLaws.{HaveAttributes}
use Rattle.tdf_sim_history.specs.Columns.{ColumnStart}
use Rattle.tdf_dynamic_plans.specs.Attributes.{clusters_of}
use Rattle.tdf_trace_rows.specs.Positions.{position_at}

-- a state that is another but for what is told, where that one is on
world_at : {K : Type 0} → HistoryState (World K) RunFault → World K → World K
world_at (On u) z = u
world_at (Stopped time fault v) z = z
world_at (Spent time v) z = z

pub on_untold : {K : Type 0} (w : World K) (s : HistoryState (World K) RunFault) → On (world_untold w) ≡ state_as world_untold s → (v : World K) × (s ≡ On v) × (world_untold v ≡ world_untold w)
unfolding world_at
on_untold {K = K} w (On v) same = (v, refl, sym (ap (λ (x : HistoryState (World K) RunFault). world_at x (world_untold w)) same))
on_untold w (Stopped time fault v) same = absurd cc
on_untold w (Spent time v) same = absurd cc

module _ (law : BoundariesHaveOne) (model : PureTree) (flat : Flat) (start : World SideOf) (from left : ℕ) (e : Engine) (m : IsModelOf model flat) (going : IsOngoing model flat start from e left)
    (ahead : List (List Change)) (to : AreToldTo model flat start from ahead) where
  abbrev rules : Rules SideOf
  rules = rules_of model flat

  abbrev own : World SideOf
  own = world_told going.ahead start

  abbrev other : World SideOf
  other = world_told ahead start

  same_starts : world_untold own ≡ world_untold other
  same_starts = untold_told going.ahead start ∙ sym (untold_told ahead start)

  own_attributes : HaveAttributes flat own
  own_attributes = attributes_alike flat start own (sym (untold_told going.ahead start)) going.can.attributes

  pub agrees : (time : ℕ) → time ≤ from → state_as world_untold (history (world_engine model flat) 0 own time) ≡ state_as world_untold (history (world_engine model flat) 0 other time)
  agrees time low = answers_agree law model flat rules own other from time m.sound.kept m.checked m.limits own_attributes same_starts going.told.answers to.answers low

  on_own : history (world_engine model flat) 0 own from ≡ On going.world
  on_own = let z : from ≡ from - 0 = omega arith in ap (history (world_engine model flat) 0 own) z ∙ going.on.on

  pub on_other : (v : World SideOf) × (history (world_engine model flat) 0 other from ≡ On v) × (world_untold v ≡ world_untold going.world)
  on_other = on_untold going.world (history (world_engine model flat) 0 other from)
      (ap (state_as world_untold) (sym on_own) ∙ agrees from (omega arith))

  -- and so are the plans that came
  pub news_told : notes_to model flat rules own from ≡ notes_to model flat rules other from
  news_told = to_same model flat rules own other from same_starts agrees from (omega arith)

  -- the cells before the time are the same
  pub cells_told : Agree (run_cells model flat rules own from) (run_cells model flat rules other from) from
  cells_told = cells_same model flat rules own other from same_starts agrees from (omega arith)

  abbrev v : World SideOf
  v = on_other.0

  -- a cluster of that history is one of this one but for what is told
  twin : (n : ℕ) (c : ClusterAt) → slice_get v.clusters n ≡ Some c → (h : ClusterAt) × (slice_get going.world.clusters n ≡ Some h) × (c ≡ record h { ahead = c.ahead })
  twin n c at =
      let bare : slice_get (map untold going.world.clusters) n ≡ Some (untold c)
      = ap (λ (w : World SideOf). slice_get w.clusters n) (sym on_other.2) ∙ slice_get-map untold v.clusters n ∙ ap (option_map untold) at in
      let inside = slice_get_within (map untold going.world.clusters) n (untold c) bare in
      let h = get_inside going.world.clusters n (let l = long_map going.world.clusters in omega (arith, inside, l)) in
      let same : untold h.0 ≡ untold c = some_same (untold h.0) (untold c) (sym (slice_get-map untold going.world.clusters n ∙ ap (option_map untold) h.1) ∙ bare) in
      (h.0, h.1, ap (λ (d : ClusterAt). record d { ahead = c.ahead }) (sym same))
    where
      long_map : (cs : List ClusterAt) → length (map untold cs) ≡ length cs
      long_map [] = refl
      long_map (c ∷ cs) = ap suc (long_map cs)

  -- what is told of a start has its counts
  whole_start : (n : ℕ) (c : ClusterAt) → slice_get other.clusters n ≡ Some c → HasWholePlan c
  whole_start n c at = go (slice_get start.clusters n) refl (sym (told_get ahead n start) ∙ at)
    where
      go : (o : Option ClusterAt) → slice_get start.clusters n ≡ o → option_map (told_more (slice_index_or ahead n [])) o ≡ Some c → HasWholePlan c
      go None there is = absurd cc
      go (Some d) there is = subst HasWholePlan (some_same (told_more (slice_index_or ahead n []) d) c is) (
          let w = going.can.whole n d there in
          record {
            counts = w.counts;
            whole = w.whole;
            ahead = All-append HasToldCounts d.ahead (slice_index_or ahead n []) w.ahead (counts_of ahead n to.counts);
          })

  counted : (n : ℕ) (c : ClusterAt) → slice_get v.clusters n ≡ Some c → All HasToldCounts c.ahead
  counted n c at =
      let on = go_on model flat rules other other 0 (starts (world_engine model flat) 0 other) from v (omega arith) on_other.1 in
      let inside = slice_get_within v.clusters n c at in
      let l = on.same in
      let d = get_inside other.clusters n (omega (arith, inside, l)) in
      ((on.each n d.0 c d.1 at).planned (whole_start n d.0 d.1)).ahead

  pub steady_told : AreSteady model flat v
  steady_told = record {
    each = λ n c at. (
        let h = twin n c at in
        let d = (steady model flat going.world e left going.now).each n h.0 h.1 in
        subst (HasDone model flat (n + 1)) (sym h.2) (record { records = d.records; plan = record { counts = d.plan.counts; whole = d.plan.whole; ahead = counted n c at }; place = d.place; known = d.known }));
  }

  -- what has its samples there has them here
  pub settled_told : (shown : List ColumnStart) (mark : ℕ) → IsSettled flat shown going.world mark → IsSettled flat shown v mark
  settled_told shown mark settled = record {
    within = λ n c at. (let h = twin n c at in subst (λ (z : ClusterAt). mark ≤ z.origin + time_of_periods (periods_of z)) (sym h.2) (settled.within n h.0 h.1));
    there = λ s number port c time j shows at low position. (
        let h = twin (slice_index (clusters_of flat.tables) port.«module» - 1) c at in
        subst (λ (z : ClusterAt). position_at 0 (column_spans port s z.origin (periods_of z)) time ≡ Some j → j < samples_done s port z) (sym h.2)
        (settled.there s number port h.0 time j shows h.1 low) position);
  }

pub cells_stay_below : BoundariesHaveOne → CellsStayBelow
cells_stay_below law model flat start last ahead from end mark left e m of going to low at_end below settled =
    let other = on_other law model flat start from left e m going ahead to in
    cells_agree model flat (rules_of model flat) (world_told ahead start) other.0 last from end mark m.limits
    other.1 low at_end (steady_told law model flat start from left e m going ahead to)
    (settled_told law model flat start from left e m going ahead to start.shown mark settled)

-- two ways to be told answers up to a stop end at one time
pub ends_alike : BoundariesHaveOne → (model : PureTree) (flat : Flat) (start : World SideOf) (one other : List (List Change)) (stop : ℕ) → IsModelOf model flat → CanBeTold flat start
    → AreToldTo model flat start stop one → AreToldTo model flat start stop other
    → end_of model flat (rules_of model flat) (world_told one start) stop ≡ end_of model flat (rules_of model flat) (world_told other start) stop
ends_alike law model flat start one other stop m can told to =
    let low : stop ≤ stop = omega arith in
    states_end (history (world_engine model flat) 0 (world_told one start) stop) (history (world_engine model flat) 0 (world_told other start) stop)
    (answers_agree law model flat (rules_of model flat) (world_told one start) (world_told other start) stop stop m.sound.kept m.checked m.limits
    (attributes_alike flat start (world_told one start) (sym (untold_told one start)) can.attributes) (untold_told one start ∙ sym (untold_told other start)) told.answers to.answers low) stop

-- the cells before a time at which both go on, or have ended
pub ends_cells : BoundariesHaveOne → (model : PureTree) (flat : Flat) (start : World SideOf) (one other : List (List Change)) (stop end : ℕ) → IsModelOf model flat → CanBeTold flat start
    → AreToldTo model flat start stop one → AreToldTo model flat start stop other → end ≤ stop
    → Agree (run_cells model flat (rules_of model flat) (world_told one start) end) (run_cells model flat (rules_of model flat) (world_told other start) end) end
ends_cells law model flat start one other stop end m can told to within =
    cells_same model flat (rules_of model flat) (world_told one start) (world_told other start) stop (untold_told one start ∙ sym (untold_told other start))
    (λ time low. answers_agree law model flat (rules_of model flat) (world_told one start) (world_told other start) stop time m.sound.kept m.checked m.limits
    (attributes_alike flat start (world_told one start) (sym (untold_told one start)) can.attributes) (untold_told one start ∙ sym (untold_told other start)) told.answers to.answers low) end within
