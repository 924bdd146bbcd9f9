-- The outcomes of `save`, of `resume` and of one `run` of a text.
use Rattle.std.proofs.Common.{◌≡◌, ◌∙◌, ◌⊎◌, ◌≢◌, ℕ, ◌+◌, ◌*◌, ◌<◌, ◌≤◌, Bool, true, false, if◌then◌else◌, nat_lt, List, ◌++◌, Option, None, Some, inl, inr, length, refl, sym, ap, subst, arith, codes}
use Rattle.std.proofs.lemmas.Bool.Decides.{nat_tests}
use Rattle.tdf_base.specs.Limits.{longest_text, time_end}
use Rattle.tdf_base.specs.declared.faults.Fault.{Fault}
use Rattle.tdf_base.specs.declared.resolution.Resolution.{Resolution}
use Rattle.tdf_base.specs.declared.resolution.Resolution.TheVariants.{Ps, Fs}
use Rattle.tdf_cli.proofs.Api.{OfEnd, OfRest, OfResume, OfRunText, OfSaveText, OfStateEnd, ran, same_tree, seen, seen_resume, seen_state}
use Rattle.tdf_cli.specs.Input.{Text, longest_state}
use Rattle.tdf_cli.specs.Outcome.{HasOneOutcome, HasOutcome, is_resumed, is_run, is_saved}
use Rattle.tdf_cli.specs.Resumed.{HasResumeOutcome, goes_on, rest_news, rest_outcome}
use Rattle.tdf_cli.specs.Runs.{Outcome, has_run, note, run_outcome, status_of, stop_in}
use Rattle.tdf_cli.specs.Saving.{IsAskedRun, part_outcome, saved_trace, state_outcome, whole_state}
use Rattle.tdf_cli.specs.Status.{status_number}
use Rattle.tdf_cli_whole.specs.Joined.{IsJoined, SavedAndResumedIsOneRun, stopped_at}
use Rattle.tdf_cli_whole.specs.Members.{ValidSnapshotsFit}
use Rattle.tdf_cli_whole.specs.Split.{AcceptedRunsSplit, AreInBounds, IsWhole, SavedRunsAreValid}
use Rattle.tdf_cli_words.specs.declared.asked.RunOptions.{RunOptions}
use Rattle.tdf_cli_words.specs.declared.asked.SavePart.TheVariants.{State, Trace}
use Rattle.tdf_cli_words.specs.declared.asked.Settings.TheVariants.{Resume, Run, Save}
use Rattle.tdf_lang_parser.proofs.Api.{text_keeps}
use Rattle.tdf_lang_parser.specs.Refused.{SpellsText}
use Rattle.tdf_lang_tree.specs.Pure.{PureTree}
use Rattle.tdf_sim.proofs.Api.{accepted_tree, can_run}
use Rattle.tdf_sim.specs.Accepted.{IsAccepted}
use Rattle.tdf_sim.specs.Ends.{AreToldTo, Change, First, HaveAnswers, HistoryState, IsValid, On, RunFault, SideOf, SnapshotOf, World, end_of, is_vcd, kind_saved, members_of, model_about, part_notes, part_trace, rest_end, rest_notes, rest_trace, rows_from_saved, run_state, saved_text, IsModelOf}
use Rattle.tdf_sim.specs.FirstFault.{IsFirstFault}
use Rattle.tdf_sim.specs.Histories.{Spent, Stopped}
use Rattle.tdf_sim.specs.Laws.{FaultOrAccepted, ModelsAreAlike, RunsAreAlike}
use Rattle.tdf_sim.specs.Runs.{IsAcceptedTree}
use Rattle.tdf_sim.specs.StateLaws.{AnswersAreAlike, StateIsOne, ValidIsAlike}
use Rattle.tdf_sim.specs.States.{IsSavedState, saved_world}
use Rattle.tdf_sim.specs.declared.sim.Sim.{Sim}
use Rattle.tdf_sim_runs.specs.Paused.{IsSnapshotOfRun}
use Rattle.tdf_streams.proofs.Api.{some_same}
use Rattle.tdf_trace_rows.specs.declared.kinds.TraceKind.{TraceKind}
use Rattle.tdf_trace_rows.specs.declared.kinds.TraceKind.TheVariants.{Table, Vcd}
use Rattle.tdf_bind_invariants.specs.Limits.{FlatIsWithinLimits}
use Rattle.tdf_events_invariants.specs.Runnable.{SoundIsRunnable}

-- ---- stops

scaled_stop : (n end : ℕ) → (if nat_lt n time_end then Some n else None) ≡ Some end → (end ≡ n) × (n < time_end)
scaled_stop n end is = go (nat_lt n time_end) refl is
  where
    go : (b : Bool) → nat_lt n time_end ≡ b → (if b then Some n else None) ≡ Some end → (end ≡ n) × (n < time_end)
    go true below is = (sym (some_same n end is), grind (arith, nat_tests, below))
    go false below is = absurd cc

early_stop : (unit : Resolution) (stop end : ℕ) → stop_in unit stop ≡ Some end → stop < time_end → end < time_end
early_stop Ps stop end is low = let e = some_same stop end is in omega (arith, e, low)
early_stop Fs stop end is low = let e = scaled_stop (stop * 1000) end is in let a = e.0 in let b = e.1 in omega (arith, a, b)

later_stop : (unit : Resolution) (one other from end : ℕ) → stop_in unit one ≡ Some from → stop_in unit other ≡ Some end → one ≤ other → from ≤ end
later_stop Ps one other from end is too low = let e = some_same one from is in let f = some_same other end too in omega (arith, e, f, low)
later_stop Fs one other from end is too low = let e = (scaled_stop (one * 1000) from is).0 in let f = (scaled_stop (other * 1000) end too).0 in omega (arith, e, f, low)

kind_again : (kind : TraceKind) → kind_saved (is_vcd kind) ≡ kind
kind_again Table = refl
kind_again Vcd = refl

-- ---- a text that was saved

-- an outcome of a state with status 0 is the text of a snapshot of a run
record IsSavedRun (asked : RunOptions) (text : List ℕ) (state : Outcome) : Type 0 where
  pub tree : PureTree
  pub spells : SpellsText text tree
  pub sim : Sim
  pub accepted : IsAccepted tree sim
  pub end : ℕ
  pub stops : stop_in sim.flat.resolution asked.stop ≡ Some end
  pub snapshot : SnapshotOf
  pub of : IsSnapshotOfRun tree sim.flat sim.firsts.items end asked.turns (is_vcd asked.kind) snapshot
  pub is : state.out ≡ saved_text (members_of sim.flat) text snapshot

not_done : (stop turns : ℕ) (x : HistoryState (World SideOf) RunFault) → ((w : World SideOf) → x ≢ On w) → status_number (status_of (end_of stop turns x)) ≡ 0 → ⊥
not_done stop turns (On w) not done = not w refl
not_done stop turns (Stopped time fault w) not done = absurd (omega (arith, done))
not_done stop turns (Spent time w) not done = absurd (omega (arith, done))

either : (b : Bool) (x y : Outcome) → status_number (if b then x else y).status ≡ 0 → (status_number x.status ≡ 0 → ⊥) → (if b then x else y).out ≡ y.out
either true x y done bad = absurd (bad done)
either false x y done bad = refl

whole_bytes : (bytes : List ℕ) → status_number (state_outcome bytes).status ≡ 0 → (state_outcome bytes).out ≡ bytes
whole_bytes bytes done = either (nat_lt longest_state (length bytes)) _ (whole_state bytes) done (λ is. absurd (omega (arith, is)))

-- the number of an outcome's status
abbrev answer_number : Outcome → ℕ
answer_number o = status_number o.status

module _ (asked : RunOptions) (text : List ℕ) (state : Outcome) (done : status_number state.status ≡ 0) where
  at_stop : (tree : PureTree) (sim : Sim) (end : Option ℕ) → SpellsText text tree → IsAccepted tree sim → stop_in sim.flat.resolution asked.stop ≡ end → OfStateEnd asked tree text sim end state
      → IsSavedRun asked text state
  at_stop tree sim None spells accepted stops same = let e : 9 ≡ 0 = ap answer_number (sym same) ∙ done in absurd (omega (arith, e))
  at_stop tree sim (Some end) spells accepted stops (inl (bytes, has, same)) = record {
    tree = tree;
    spells = spells;
    sim = sim;
    accepted = accepted;
    end = end;
    stops = stops;
    snapshot = has.snapshot;
    of = has.of;
    is = ap (λ (o : Outcome). o.out) same ∙ whole_bytes bytes (ap answer_number (sym same) ∙ done) ∙ has.is;
  }
  at_stop tree sim (Some end) spells accepted stops (inr (ahead, answers, ends, same)) =
      absurd (not_done end asked.turns (run_state tree sim.flat sim.firsts.items ahead end asked.turns) ends (ap answer_number (sym same) ∙ done))

  saved_run : OfSaveText State asked text state → IsSavedRun asked text state
  saved_run (inl (fault, is, same)) = let e : 1 ≡ 0 = ap answer_number (sym same) ∙ done in absurd (omega (arith, e))
  saved_run (inr (tree, spells, has)) = let x = seen_state has in at_stop tree x.0 (stop_in x.0.flat.resolution asked.stop) spells x.1 refl x.2

-- ---- one run

-- a run of a model to a stop, told answers
record IsRunTo (asked : RunOptions) (tree : PureTree) (sim : Sim) (stop : ℕ) : Type 0 where
  pub end : ℕ
  pub stops : stop_in sim.flat.resolution stop ≡ Some end
  pub ahead : List (List Change)
  pub answers : HaveAnswers tree sim.flat sim.firsts.items ahead end asked.turns

module _ (models : ModelsAreAlike) (runs : RunsAreAlike) (apart : FaultOrAccepted) (asked : RunOptions) (text : List ℕ) (tree : PureTree) (sim : Sim) (spells : SpellsText text tree) (accepted : IsAccepted tree sim)
    (stop : ℕ) (whole : Outcome) (in_time : status_number whole.status ≢ 9) where
  at_end : (other : Sim) (end : Option ℕ) → IsAccepted tree other → stop_in other.flat.resolution stop ≡ end → OfEnd (stopped_at asked stop) tree other end whole → IsRunTo asked tree sim stop
  at_end other None is stops same = absurd (in_time (ap answer_number same))
  at_end other (Some end) is stops (ahead, answers, same) = record {
    end = end;
    stops = ap (λ (u : Resolution). stop_in u stop) (models tree sim other (text_keeps spells) accepted is).unit ∙ stops;
    ahead = ahead;
    answers = (runs tree other sim (text_keeps spells) is accepted ahead asked.kind end asked.turns).answers answers;
  }

  run_to : OfRunText (stopped_at asked stop) text whole → IsRunTo asked tree sim stop
  run_to (inl (fault, is, same)) = absurd (apart text fault sim is (record { tree = tree; spelled = spells; accepted = accepted }))
  run_to (inr (other_tree, other_spells, has)) =
      let x = ran has in
      let same : other_tree ≡ tree = same_tree text tree other_tree spells other_spells in
      at_end x.0 (stop_in x.0.flat.resolution stop) (subst (λ (t : PureTree). IsAccepted t x.0) same x.1) refl
      (subst (λ (t : PureTree). OfEnd (stopped_at asked stop) t x.0 (stop_in x.0.flat.resolution stop) whole) same x.2)

-- ---- a run that goes on

-- plans and answers with which a run goes on from a snapshot
record GoesOnTo (tree : PureTree) (sim : Sim) (s : SnapshotOf) (end : ℕ) : Type 0 where
  pub plans : List First
  pub valid : IsValid tree sim.flat plans s
  pub told : List (List Change)
  pub answers : AreToldTo tree sim.flat (saved_world tree sim plans s) end told

module _ (models : ModelsAreAlike) (one_state : StateIsOne) (alike : ValidIsAlike) (answers_alike : AnswersAreAlike) (stop : ℕ) (bytes : List ℕ) (tree : PureTree) (sim : Sim) (plans : List First) (s : SnapshotOf)
    (saved : IsSavedState bytes tree sim plans s) (end : ℕ) (stops : stop_in sim.flat.resolution stop ≡ Some end) (late : s.time ≤ end) (rest : Outcome) where
  at_rest : (other : Sim) (others : List First) → IsSavedState bytes tree other others s → OfRest tree other others s (Some end) rest → GoesOnTo tree sim s end
  at_rest other others is (inl (early, same)) = absurd (omega (arith, early, late))
  at_rest other others is (inr (low, told, answers, same)) = record {
    plans = others;
    valid = alike tree other sim (text_keeps saved.spells) is.accepted saved.accepted others s is.valid;
    told = told;
    answers = answers_alike tree other sim (text_keeps saved.spells) is.accepted saved.accepted others s told end answers;
  }

  goes_to : HasResumeOutcome stop bytes rest → GoesOnTo tree sim s end
  goes_to has = go (seen_resume has)
    where
      of_one : (other : Sim) (others : List First) → IsSavedState bytes tree other others s → OfRest tree other others s (stop_in other.flat.resolution stop) rest → GoesOnTo tree sim s end
      of_one other others is of = at_rest other others is (subst (λ (o : Option ℕ). OfRest tree other others s o rest)
          (ap (λ (u : Resolution). stop_in u stop) (models tree other sim (text_keeps saved.spells) is.accepted saved.accepted).unit ∙ stops) of)

      go : OfResume stop bytes rest → GoesOnTo tree sim s end
      go (inl (none, same)) = absurd (none tree sim plans s saved)
      go (inr (other_tree, other, others, t, x)) =
          let same = one_state bytes other_tree tree other sim others plans t s x.0 saved in
          let y : IsSavedState bytes tree other others s × OfRest tree other others s (stop_in other.flat.resolution stop) rest =
          subst (λ (r : PureTree). IsSavedState bytes r other others s × OfRest r other others s (stop_in other.flat.resolution stop) rest) same.0
          (subst (λ (r : SnapshotOf). IsSavedState bytes other_tree other others r × OfRest other_tree other others r (stop_in other.flat.resolution stop) rest) same.1 x) in
          of_one other others y.0 y.1

-- ---- all together

module _ (one : HasOneOutcome) (apart : FaultOrAccepted) (models : ModelsAreAlike) (runs : RunsAreAlike) (one_state : StateIsOne) (alike : ValidIsAlike) (answers_alike : AnswersAreAlike)
    (within : FlatIsWithinLimits) (runnable : SoundIsRunnable) (fit : ValidSnapshotsFit) (valid : SavedRunsAreValid) (split : AcceptedRunsSplit) where
  pub joined : SavedAndResumedIsOneRun
  joined asked text stop part state rest whole short bounds late part_has state_has done rest_has whole_has in_time = record {
    status = ap (λ (o : Outcome). o.status) whole_is ∙ ap status_of (ends.end ∙ ap (λ n. rest_end tree sim.flat (saved_world tree sim on.plans s) on.told run.end n) turns_are) ∙ sym (ap (λ (o : Outcome). o.status) rest_is);
    out = ap (λ (o : Outcome). o.out) whole_is ∙ ends.trace
        ∙ ap (λ (k : TraceKind). part_trace asked.kind tree sim.flat sim.firsts.items run.ahead saved.end asked.turns rows
        ++ rest_trace tree sim.flat (model_about k sim.flat) (saved_world tree sim on.plans s) on.told rows run.end) kind_is
        ∙ sym (λ i. (part_is i).out ++ (rest_is i).out);
    notes = ap (λ (o : Outcome). o.notes) whole_is ∙ ends.notes
        ∙ ap (λ n. part_notes tree sim.flat sim.firsts.items run.ahead saved.end asked.turns
        ++ rest_notes tree sim.flat (saved_world tree sim on.plans s) on.told run.end n (rest_news tree sim on.plans s on.told run.end)) turns_are
        ∙ sym (λ i. (part_is i).notes ++ (rest_is i).notes);
  }
    where
      saved : IsSavedRun asked text state
      saved = saved_run asked text state done (seen state_has)

      tree : PureTree
      tree = saved.tree

      sim : Sim
      sim = saved.sim

      s : SnapshotOf
      s = saved.snapshot

      accepted : IsAcceptedTree tree sim
      accepted = accepted_tree tree sim saved.spells saved.accepted

      model_is : IsModelOf tree sim.flat
      model_is = (can_run within runnable tree sim accepted).of

      run : IsRunTo asked tree sim stop
      run = run_to models runs apart asked text tree sim saved.spells saved.accepted stop whole in_time (seen whole_has)

      in_order : saved.end ≤ run.end
      in_order = later_stop sim.flat.resolution asked.stop stop saved.end run.end saved.stops run.stops late

      at_first : AreInBounds saved.end asked.turns
      at_first = record {
        early = (let e = early_stop sim.flat.resolution stop run.end run.stops bounds.early in omega (arith, e, in_order));
        some = bounds.some;
        most = bounds.most;
      }

      first : (plans : List First) × IsValid tree sim.flat plans s
      first = valid tree sim saved.end asked.turns (is_vcd asked.kind) s accepted at_first saved.of

      is_state : (plans : List First) → IsValid tree sim.flat plans s → IsSavedState state.out tree sim plans s
      is_state plans is = record {
        text = text;
        short = short;
        spells = saved.spells;
        accepted = saved.accepted;
        fits = fit tree sim.flat plans s model_is.sound model_is.is is;
        is = saved.is;
        valid = is;
      }

      in_time_of : s.time ≤ run.end
      in_time_of = (let e : s.time ≡ saved.end = saved.of.is.time_is in omega (arith, e, in_order))

      on : GoesOnTo tree sim s run.end
      on = goes_to models one_state alike answers_alike stop state.out tree sim first.0 s (is_state first.0 first.1) run.end run.stops in_time_of rest (seen rest_has)

      rows : ℕ
      rows = rows_from_saved tree sim.flat on.plans s

      ends : IsWhole asked.kind tree sim on.plans s run.ahead on.told saved.end run.end asked.turns
      ends = split asked.kind tree sim on.plans s run.ahead on.told saved.end run.end asked.turns (is_vcd asked.kind) accepted at_first in_order saved.of on.valid run.answers on.answers

      asked_run : IsAskedRun asked tree sim run.ahead saved.end
      asked_run = record {
        accepted = saved.accepted;
        stops = saved.stops;
        answers = record { are = λ t n v less. run.answers.are t n v (omega (arith, less, in_order)); counts = run.answers.counts };
      }

      kind_is : asked.kind ≡ kind_saved s.vcd
      kind_is = sym (kind_again asked.kind) ∙ ap kind_saved (sym saved.of.is.vcd_is)

      turns_are : asked.turns ≡ s.budget
      turns_are = sym saved.of.is.budget_is

      whole_is : whole ≡ run_outcome asked.kind tree sim run.ahead run.end asked.turns
      whole_is = one (Text (Run (stopped_at asked stop)) text) whole (run_outcome asked.kind tree sim run.ahead run.end asked.turns) whole_has
          (is_run saved.spells (has_run saved.accepted run.stops run.ahead run.answers))

      part_is : part ≡ part_outcome asked tree sim run.ahead saved.end rows
      part_is = one (Text (Save Trace asked) text) part (part_outcome asked tree sim run.ahead saved.end rows) part_has
          (is_saved saved.spells (saved_trace asked_run (record { world = ends.world; on = ends.comes }) ends.rows))

      rest_is : rest ≡ rest_outcome tree sim on.plans s on.told run.end
      rest_is = one (Text (Resume stop) state.out) rest (rest_outcome tree sim on.plans s on.told run.end) rest_has
          (is_resumed (goes_on (is_state on.plans on.valid) run.stops in_time_of on.told on.answers))
