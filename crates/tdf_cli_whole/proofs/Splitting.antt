-- A run of an accepted model is its part up to a stop, and the rest from the snapshot there.
use Rattle.std.proofs.Common.{◌≡◌, ◌∙◌, ℕ, ◌+◌, ◌-◌, ◌<◌, ◌≤◌, Bool, List, [], ◌++◌, Some, append_assoc, length, refl, sym, ap, subst, arith}
use Rattle.std.proofs.lemmas.List.{length-map}
use Rattle.std.proofs.lemmas.List.FromFn.{length-enumerate_from}
use Rattle.std.specs.List.{enumerate_from}
use Rattle.tdf_bind.specs.declared.model.Flat.{Flat}
use Rattle.tdf_bind_invariants.specs.Limits.{FlatIsWithinLimits}
use Rattle.tdf_cli_whole.specs.Split.{AcceptedRunsSplit, AreInBounds, IsWhole, SavedRunsAreValid}
use Rattle.tdf_dynamic.specs.Laws.{BoundariesHaveOne}
use Rattle.tdf_dynamic_first.specs.Laws.{ClustersAreWhole, FlatIsPlannable}
use Rattle.tdf_dynamic_first.specs.declared.first.First.{First}
use Rattle.tdf_dynamic_plans.specs.Attributes.{clusters_of}
use Rattle.tdf_events.specs.Runnable.{AreOfSignals, signal_formats}
use Rattle.tdf_events.specs.Side.{SideOf}
use Rattle.tdf_events_invariants.specs.Runnable.{SoundIsRunnable}
use Rattle.tdf_graph.specs.Clusters.{greatest}
use Rattle.tdf_lang_tree.specs.Pure.{PureTree}
use Rattle.tdf_saved.specs.State.{SnapshotOf}
use Rattle.tdf_sim.proofs.Api.{can_run, first_plans}
use Rattle.tdf_sim.specs.Runs.{IsAcceptedTree}
use Rattle.tdf_sim.specs.States.{saved_world}
use Rattle.tdf_sim.specs.declared.sim.Sim.{Sim}
use Rattle.tdf_sim_history.proofs.Api.{answers_agree, first_attributes, states_leave, states_on}
use Rattle.tdf_sim_history.specs.Answers.{AreAnswers}
use Rattle.tdf_sim_history.specs.Cells.{run_cells}
use Rattle.tdf_sim_history.specs.History.{HistoryState, On, Spent, Stopped}
use Rattle.tdf_sim_history.specs.Instant.{RunFault}
use Rattle.tdf_sim_history.specs.Rules.{rules_of, start_world}
use Rattle.tdf_sim_history.specs.TableLaws.{HaveAttributes}
use Rattle.tdf_sim_history.specs.Telling.{state_as, world_told, world_untold}
use Rattle.tdf_sim_history.specs.Texts.{notes_to, state_at}
use Rattle.tdf_sim_history.specs.World.{Change, World}
use Rattle.tdf_sim_notes.proofs.Api.{notes_are}
use Rattle.tdf_sim_notes.specs.Ending.{HaveAnswers, end_of, end_text, run_end}
use Rattle.tdf_sim_notes.specs.Plans.{plans_of}
use Rattle.tdf_sim_notes.specs.declared.ending.End.{End}
use Rattle.tdf_sim_notes.specs.declared.ending.End.TheVariants as ending
use Rattle.tdf_sim_resumed.specs.Formats.{AreInFormatsTo}
use Rattle.tdf_sim_resumed.specs.Snapshot.{IsSnapshot}
use Rattle.tdf_sim_runs.specs.Below.{IsModelOf, IsValid, resumed_world, rows_from_saved}
use Rattle.tdf_sim_runs.specs.Ongoing.{AreToldTo}
use Rattle.tdf_sim_runs.specs.Paused.{IsSnapshotOfRun}
use Rattle.tdf_sim_runs.specs.Rest.{rest_end, rest_trace}
use Rattle.tdf_sim_runs.specs.Runs.{model_about}
use Rattle.tdf_sim_split.specs.Alike.{BothOn, BothSpent, BothStopped, StatesAlike}
use Rattle.tdf_sim_split.specs.Columns.{EventsAreThere, TextsBeginWithColumns}
use Rattle.tdf_sim_split.specs.Parts.{RunSplits, StandsAlike}
use Rattle.tdf_sim_split.specs.Snapshots.{HasSnapshot, HasValidParts, SnapshotsAreValid, TextsAreSoundStarts}
use Rattle.tdf_sim_split.specs.Unbroken.{RunsAreUnbroken}
use Rattle.tdf_sim_split.specs.Validity.{SnapshotIsValid}
use Rattle.tdf_sim_unique.specs.Laws.{AreFirstPlans}
use Rattle.tdf_sim_unique.specs.PartLaws.{AnswersHaveSnapshots, AreToldAlike}
use Rattle.tdf_sim_unique.proofs.Api.{starts_alike}
use Rattle.tdf_trace.specs.Writings.{head_of, writing_of}
use Rattle.tdf_trace_rows.specs.Rows.{text_from}
use Rattle.tdf_trace_rows.specs.declared.kinds.TraceKind.{TraceKind}
use Rattle.tdf_cli_whole.specs.Members.{EventsAreTold}
use Rattle.tdf_sim_split.specs.Formats.{TextsBeginInFormats}

-- ---- texts

ends_alike : (stop turns : ℕ) (x y : HistoryState (World SideOf) RunFault) → StatesAlike StandsAlike x y → end_of stop turns x ≡ end_of stop turns y
ends_alike stop turns x y (BothOn a b r) = ap (λ k. ending.Reached stop (turns - k)) (sym r.left)
ends_alike stop turns x y (BothStopped time fault a b r) = refl
ends_alike stop turns x y (BothSpent time a b r) = refl

-- histories that are one write one
module _ (kind : TraceKind) (tree : PureTree) (sim : Sim) (plans : List First) (s : SnapshotOf) (ahead told : List (List Change)) (from stop turns : ℕ)
    (splits : RunSplits (writing_of (model_about kind sim.flat)) tree sim.flat (start_world tree sim.flat sim.firsts.items ahead turns) (world_told told (saved_world tree sim plans s)) from
    (rows_from_saved tree sim.flat plans s) stop) (w : World SideOf) (on : state_at tree sim.flat (rules_of tree sim.flat) (start_world tree sim.flat sim.firsts.items ahead turns) from ≡ On w) where
  abbrev rows : ℕ
  rows = rows_from_saved tree sim.flat plans s

  abbrev one : World SideOf
  one = start_world tree sim.flat sim.firsts.items ahead turns

  abbrev before : List ℕ
  before = notes_to tree sim.flat (rules_of tree sim.flat) one from

  abbrev news : List ℕ
  news = notes_to tree sim.flat (rules_of tree sim.flat) (world_told told (saved_world tree sim plans s)) stop

  abbrev closing : List ℕ
  closing = end_text sim.flat.resolution turns (rest_end tree sim.flat (saved_world tree sim plans s) told stop turns)

  same_end : run_end tree sim.flat sim.firsts.items ahead stop turns ≡ rest_end tree sim.flat (saved_world tree sim plans s) told stop turns
  same_end = ends_alike stop turns (state_at tree sim.flat (rules_of tree sim.flat) one stop)
      (state_at tree sim.flat (rules_of tree sim.flat) (world_told told (saved_world tree sim plans s)) stop) splits.states

  is_whole : IsWhole kind tree sim plans s ahead told from stop turns
  is_whole = record {
    world = w;
    comes = on;
    rows = splits.unwritten;
    trace = splits.trace ∙ ap (λ n. (head_of (model_about kind sim.flat) ++ text_from (writing_of (model_about kind sim.flat)).line (run_cells tree sim.flat (rules_of tree sim.flat) one from) 0 n)
        ++ rest_trace tree sim.flat (model_about kind sim.flat) (saved_world tree sim plans s) told rows stop) (let z : rows ≡ rows - 0 = omega arith in z);
    end = same_end;
    notes = notes_are tree sim.flat sim.firsts.items ahead stop turns
        ∙ ap (λ l. plans_of sim.flat sim.firsts.items ++ l ++ end_text sim.flat.resolution turns (run_end tree sim.flat sim.firsts.items ahead stop turns)) splits.notes
        ∙ ap (λ (e : End). plans_of sim.flat sim.firsts.items ++ (before ++ news) ++ end_text sim.flat.resolution turns e) same_end
        ∙ ap (λ l. l ++ closing) (sym (append_assoc (plans_of sim.flat sim.firsts.items) before news))
        ∙ append_assoc (plans_of sim.flat sim.firsts.items ++ before) news closing;
  }

-- ---- a snapshot of an accepted model's run

module _ (within : FlatIsWithinLimits) (runnable : SoundIsRunnable) (events : EventsAreTold) (tree : PureTree) (sim : Sim) (accepted : IsAcceptedTree tree sim)
    (from turns : ℕ) (vcd : Bool) (s : SnapshotOf) (bounds : AreInBounds from turns) where
  model_is : IsModelOf tree sim.flat
  model_is = (can_run within runnable tree sim accepted).of

  events_are : EventsAreThere sim.flat.tables
  events_are = events tree sim.flat model_is.sound model_is.is

  module _ (formats : TextsBeginInFormats) (starts : TextsAreSoundStarts) (columns : TextsBeginWithColumns) (parts : SnapshotsAreValid) (valid : SnapshotIsValid) (of : IsSnapshotOfRun tree sim.flat sim.firsts.items from turns vcd s) where
    abbrev saved : World SideOf
    saved = start_world tree sim.flat sim.firsts.items of.ahead turns

    has : HasSnapshot tree sim.flat saved of.world 0 from turns vcd s
    has = record {
      start_is = starts tree sim.flat sim.firsts.items of.ahead turns model_is.is model_is.checked model_is.limits accepted.accepted.plans.each of.answers.counts;
      later = omega arith;
      told = of.answers.are;
      is = of.is;
    }

    many : length saved.clusters ≡ greatest (clusters_of sim.flat.tables)
    many = length-map (enumerate_from 0 sim.firsts.items) _ ∙ length-enumerate_from 0 sim.firsts.items ∙ accepted.accepted.plans.all

    has_parts : HasValidParts sim.flat s
    has_parts = parts tree sim.flat saved of.world 0 from turns vcd s model_is.sound model_is.is model_is.checked model_is.limits has many bounds.early bounds.some bounds.most

    valid_is : (plans : List First) × IsValid tree sim.flat plans s
    valid_is = (
      has_parts.firsts,
      valid tree sim.flat has_parts.firsts saved of.world 0 0 from turns vcd s accepted.kept model_is.sound model_is.is model_is.checked model_is.limits events_are has
          (columns tree sim.flat sim.firsts.items of.ahead turns events_are) many bounds.early bounds.some bounds.most has_parts.plans
          (formats tree sim.flat sim.firsts.items of.ahead turns from model_is.sound model_is.is model_is.limits events_are of.fits) of.fits,
    )

  -- ---- a run to a later stop

  module _ (whole : ClustersAreWhole) (plannable : FlatIsPlannable) (one_answer : BoundariesHaveOne) (have : AnswersHaveSnapshots) (unbroken : RunsAreUnbroken)
      (of : IsSnapshotOfRun tree sim.flat sim.firsts.items from turns vcd s) (ahead : List (List Change)) (stop : ℕ) (early : from ≤ stop)
      (answers : HaveAnswers tree sim.flat sim.firsts.items ahead stop turns) where
    abbrev there : World SideOf
    there = start_world tree sim.flat sim.firsts.items of.ahead turns

    abbrev here : World SideOf
    here = start_world tree sim.flat sim.firsts.items ahead turns

    so_far : AreAnswers tree sim.flat (rules_of tree sim.flat) here from
    so_far t n v less = answers.are t n v (omega (arith, less, early))

    firsts_are : AreFirstPlans sim.flat sim.firsts.items
    firsts_are = first_plans whole plannable tree sim accepted.kept accepted.accepted

    attributes : HaveAttributes sim.flat there
    attributes = first_attributes tree sim.flat sim.firsts.items of.ahead there.events turns model_is.limits (λ n first at. (firsts_are.has n first at, firsts_are.each n first at))

    told_alike : AreToldAlike tree sim.flat there here from
    told_alike = record {
      start = starts_alike tree sim.flat of.ahead ahead sim.firsts.items turns;
      attributes = attributes;
      answers = of.answers.are;
      others = so_far;
    }

    alike : (t : ℕ) → t ≤ from → state_as world_untold (state_at tree sim.flat (rules_of tree sim.flat) there t) ≡ state_as world_untold (state_at tree sim.flat (rules_of tree sim.flat) here t)
    alike t low = answers_agree one_answer tree sim.flat (rules_of tree sim.flat) there here from t accepted.kept model_is.checked model_is.limits attributes told_alike.start of.answers.are so_far low

    -- the run to the later stop has the same snapshot
    snapshot : (w : World SideOf) × IsSnapshot tree sim.flat here w from turns vcd s
    snapshot =
        let on = states_on (state_at tree sim.flat (rules_of tree sim.flat) there from) (state_at tree sim.flat (rules_of tree sim.flat) here from) (alike from (omega arith)) of.world of.is.reached in
        (on.0, have tree sim.flat there here of.world on.0 from turns vcd s accepted.kept model_is.is model_is.limits told_alike on.1 of.is)

    fits : AreInFormatsTo tree sim.flat here from
    fits t low = subst (AreOfSignals (signal_formats sim.flat))
        (ap (λ (u : World SideOf). u.events.values) (states_leave (state_at tree sim.flat (rules_of tree sim.flat) there t) (state_at tree sim.flat (rules_of tree sim.flat) here t) (alike t low)))
        (of.fits t low)

    splits : (kind : TraceKind) (plans : List First) (told : List (List Change)) → IsValid tree sim.flat plans s → AreToldTo tree sim.flat (saved_world tree sim plans s) stop told
        → IsWhole kind tree sim plans s ahead told from stop turns
    splits kind plans told valid answers_on = is_whole kind tree sim plans s ahead told from stop turns
        (unbroken (writing_of (model_about kind sim.flat)) tree sim.flat sim.firsts.items plans ahead told snapshot.0 s from stop turns vcd model_is.sound model_is.is model_is.checked model_is.limits
        events_are accepted.accepted.plans.each accepted.accepted.plans.all answers.counts answers.are early bounds.early bounds.some bounds.most snapshot.1 fits valid.clusters answers_on.answers)
        snapshot.0 snapshot.1.reached

pub saved_runs_are_valid : FlatIsWithinLimits → SoundIsRunnable → EventsAreTold → TextsBeginInFormats → TextsAreSoundStarts → TextsBeginWithColumns → SnapshotsAreValid → SnapshotIsValid → SavedRunsAreValid
saved_runs_are_valid within runnable events formats starts columns parts valid tree sim from turns vcd s accepted bounds of =
    valid_is within runnable events tree sim accepted from turns vcd s bounds formats starts columns parts valid of

pub accepted_runs_split : FlatIsWithinLimits → SoundIsRunnable → EventsAreTold → ClustersAreWhole → FlatIsPlannable → BoundariesHaveOne → AnswersHaveSnapshots → RunsAreUnbroken → AcceptedRunsSplit
accepted_runs_split within runnable events whole plannable one_answer have unbroken kind tree sim plans s ahead told from stop turns vcd accepted bounds early of valid answers answers_on =
    splits within runnable events tree sim accepted from turns vcd s bounds whole plannable one_answer have unbroken of ahead stop early answers kind plans told valid answers_on
