-- What the job `save` wrote makes its outcome.
use Rattle.std.proofs.Common.{◌≡◌, ◌∙◌, ℕ, ◌<◌, ◌≤◌, Bool, true, false, List, Option, Some, None, Result, length, refl, sym, ap, subst, inl, inr, arith, codes}
use Rattle.std.specs.Prelude.{if◌then◌else◌, nat_lt}
use Rattle.tdf_base.specs.declared.resolution.Resolution.{Resolution}
use Rattle.tdf_sim.specs.Ends.{Change, End, Flat, HasEndedBefore, HaveAnswers, IsRefusedPart, Paused, PausesAt, Ran, end_text, is_vcd, run_state}
use Rattle.tdf_cli.proofs.Driven.{writes_same}
use Rattle.tdf_cli.proofs.Saved.{OfTrace, OfTraceEnd, comes_too, seen_trace}
use Rattle.tdf_cli.specs.Input.{longest_state}
use Rattle.tdf_cli.specs.Outcome.{WritesFrontOf, WritesOneOf}
use Rattle.tdf_cli.specs.Runs.{Outcome, note, run_outcome, status_of, stop_in}
use Rattle.tdf_cli.specs.Saving.{HasSaveOutcome, HasStateOutcome, HasTraceOutcome, IsAskedRun, ended_state, ended_trace, late_state, late_trace, part_outcome, saved_trace, state_outcome, stop_too_long, whole_state}
use Rattle.tdf_cli.specs.declared.status.Status.{Status}
use Rattle.tdf_cli.specs.declared.status.Status.TheVariants as status
use Rattle.tdf_cli.specs.machine.Stages.{WritesOf}
use Rattle.tdf_cli_words.specs.declared.asked.RunOptions.{RunOptions}
use Rattle.tdf_cli_words.specs.declared.asked.SavePart.{SavePart}
use Rattle.tdf_cli_words.specs.declared.asked.SavePart.TheVariants.{Trace, State}
use Rattle.tdf_io.specs.Bytes.{AppendsFront}
use Rattle.tdf_io.specs.declared.writing.SinkErr.{SinkErr}
use Rattle.tdf_lang_tree.specs.Kept.{IsKept}
use Rattle.tdf_lang_tree.specs.Pure.{PureTree}
use Rattle.tdf_sim.specs.Accepted.{IsAccepted}
use Rattle.tdf_sim.specs.Laws.{ModelsAreAlike, RunsAreAlike}
use Rattle.tdf_sim.specs.declared.sim.Sim.{Sim}
use Rattle.tdf_sim.specs.StateLaws.{PartsAreAlike}
use Rattle.tdf_sim.specs.States.{IsStateText}
use Rattle.tdf_trace_rows.specs.declared.kinds.TraceKind.{TraceKind}

-- ---- the trace

module _ (asked : RunOptions) (tree : PureTree) (sim : Sim) (end : ℕ) (sound : IsAccepted tree sim) (is : stop_in sim.flat.resolution asked.stop ≡ Some end) where
  pub asked_run : (ahead : List (List Change)) → HaveAnswers tree sim.flat sim.firsts.items ahead end asked.turns → IsAskedRun asked tree sim ahead end
  asked_run ahead answers = record { accepted = sound; stops = is; answers = answers }

  module _ (a b c d : Option (List ℕ)) where
    pub paused_writes : (ahead : List (List Change)) → HaveAnswers tree sim.flat sim.firsts.items ahead end asked.turns → (p : Paused)
        → PausesAt asked.kind tree sim.flat sim.firsts.items ahead end asked.turns a b c d p → WritesOneOf (HasTraceOutcome asked tree) status.Done a b c d
    paused_writes ahead answers p at = record {
      outcome = part_outcome asked tree sim ahead end p.run.shown.trace.rows.upto;
      has = saved_trace (asked_run ahead answers) (record { world = at.world; on = at.on }) at.rows;
      answers = refl;
      out = at.trace;
      notes = at.notes;
    }

    pub ended_writes : (ahead : List (List Change)) → HaveAnswers tree sim.flat sim.firsts.items ahead end asked.turns → (ran : Ran) (answer : Status)
        → HasEndedBefore asked.kind tree sim.flat sim.firsts.items ahead end asked.turns a b c d ran → answer ≡ status_of ran.end
        → WritesOneOf (HasTraceOutcome asked tree) answer a b c d
    ended_writes ahead answers ran answer ended answered = record {
      outcome = run_outcome asked.kind tree sim ahead end asked.turns;
      has = ended_trace (asked_run ahead answers) ended.none_on;
      answers = sym (answered ∙ ap status_of ended.runs.end);
      out = ended.runs.trace;
      notes = ended.runs.notes;
    }

    -- front parts of what it writes, whichever answers of its boundaries it is told, are front parts of the texts of each outcome
    module _ (kept : IsKept tree) (models : ModelsAreAlike) (runs : RunsAreAlike) (parts : PartsAreAlike)
        (refused : (ahead : List (List Change)) → HaveAnswers tree sim.flat sim.firsts.items ahead end asked.turns
        → IsRefusedPart asked.kind tree sim.flat sim.firsts.items ahead end asked.turns a b c d) where
      -- of another model of the tree
      front_at : (other : Sim) (o : Outcome) → IsAccepted tree other → OfTraceEnd asked tree other (Some end) o → AppendsFront a b o.out × AppendsFront c d o.notes
      front_at other o fine (x, answers, inl (comes, (rows, rows_is, o_is))) =
          let own = (runs tree other sim kept fine sound x asked.kind end asked.turns).answers answers in
          let both = parts tree other sim kept fine sound x x end asked.turns answers own in
          let on = comes_too end asked.turns (run_state tree other.flat other.firsts.items x end asked.turns) (run_state tree sim.flat sim.firsts.items x end asked.turns) comes.world both.end comes.on in
          let front = (refused x own).waits on.0 on.1 in (
            subst (λ (t : List ℕ). AppendsFront a b t) (sym (both.trace asked.kind rows rows_is.within) ∙ ap (λ (p : Outcome). p.out) (sym o_is)) (front.trace rows (both.rows_too rows rows_is)),
            subst (λ (t : List ℕ). AppendsFront c d t) (sym both.notes ∙ ap (λ (p : Outcome). p.notes) (sym o_is)) front.notes,
          )
      front_at other o fine (x, answers, inr (ends, o_is)) =
          let run = runs tree other sim kept fine sound x asked.kind end asked.turns in
          let own = run.answers answers in
          let front = (refused x own).ends (λ w on.
          let back = comes_too end asked.turns (run_state tree sim.flat sim.firsts.items x end asked.turns) (run_state tree other.flat other.firsts.items x end asked.turns) w (sym run.alike.end) on in
          ends back.0 back.1) in (
            subst (λ (t : List ℕ). AppendsFront a b t) (sym run.alike.trace ∙ ap (λ (p : Outcome). p.out) (sym o_is)) front.trace,
            subst (λ (t : List ℕ). AppendsFront c d t) (sym run.alike.notes ∙ ap (λ (p : Outcome). p.notes) (sym o_is)) front.notes,
          )

      front_by : (o : Outcome) → OfTrace asked tree o → AppendsFront a b o.out × AppendsFront c d o.notes
      front_by o of =
          let early : stop_in of.0.flat.resolution asked.stop ≡ Some end =
          ap (λ (unit : Resolution). stop_in unit asked.stop) (models tree of.0 sim kept of.1 sound).unit ∙ is in
          front_at of.0 o of.1 (subst (λ (e : Option ℕ). OfTraceEnd asked tree of.0 e o) early of.2)

      pub refused_writes : WritesFrontOf (HasTraceOutcome asked tree) a b c d
      refused_writes = record { out = λ o has. (front_by o (seen_trace has)).0; notes = λ o has. (front_by o (seen_trace has)).1 }

-- ---- the state

-- the text of a state is too long, or not
abbrev pub by_length : Bool → (bytes : List ℕ) → Outcome
by_length long bytes = if long then note status.StateTooLong (codes "state too long\n") else whole_state bytes

pub state_long : (bytes : List ℕ) → longest_state < length bytes → note status.StateTooLong (codes "state too long\n") ≡ state_outcome bytes
state_long bytes long =
    let is : nat_lt longest_state (length bytes) ≡ true = grind (arith, long) in ap (λ b. by_length b bytes) (sym is)

pub state_fits : (bytes : List ℕ) → length bytes ≤ longest_state → whole_state bytes ≡ state_outcome bytes
state_fits bytes short =
    let is : nat_lt longest_state (length bytes) ≡ false = grind (arith, short) in ap (λ b. by_length b bytes) (sym is)

-- where there is one outcome
pub writes_only : (Has : Outcome → Type 0) (o : Outcome) → Has o → ((x : Outcome) → Has x → x ≡ o) → (result : Result Status SinkErr) (a b c d : Option (List ℕ))
    → WritesOf (λ x. x ≡ o) result a b c d → WritesOf Has result a b c d
writes_only Has o has only result a b c d w = writes_same (λ x. x ≡ o) Has result a b c d (λ x is. subst (λ (y : Outcome). Has y) (sym is) has) only w

-- what was told of a run that waits, of the run that was asked for
module _ (asked : RunOptions) (tree : PureTree) (sim : Sim) (ahead : List (List Change)) (end : ℕ) (a b c d : Option (List ℕ)) (p : Paused)
    (at : PausesAt asked.kind tree sim.flat sim.firsts.items ahead end asked.turns a b c d p) where
  pub state_there : (text bytes : List ℕ) → IsStateText tree p.flat sim.firsts.items p.run.from p.turns (is_vcd p.kind) text bytes
      → IsStateText tree sim.flat sim.firsts.items end asked.turns (is_vcd asked.kind) text bytes
  state_there text bytes is =
      subst (λ (flat : Flat). IsStateText tree flat sim.firsts.items end asked.turns (is_vcd asked.kind) text bytes) at.flat_is
      (subst (λ (time : ℕ). IsStateText tree p.flat sim.firsts.items time asked.turns (is_vcd asked.kind) text bytes) at.time_is
      (subst (λ (turns : ℕ). IsStateText tree p.flat sim.firsts.items p.run.from turns (is_vcd asked.kind) text bytes) at.turns_is
      (subst (λ (kind : TraceKind). IsStateText tree p.flat sim.firsts.items p.run.from p.turns (is_vcd kind) text bytes) at.kind_is is)))

-- how a run ended before its stop, noted
module _ (asked : RunOptions) (tree : PureTree) (sim : Sim) (end : ℕ) (sound : IsAccepted tree sim) (is : stop_in sim.flat.resolution asked.stop ≡ Some end) (text : List ℕ)
    (ahead : List (List Change)) (answers : HaveAnswers tree sim.flat sim.firsts.items ahead end asked.turns) (ran : Ran) (a b c d : Option (List ℕ))
    (ended : HasEndedBefore asked.kind tree sim.flat sim.firsts.items ahead end asked.turns a b c d ran) where
  pub closing_has : HasStateOutcome asked tree text (note (status_of ran.end) (end_text sim.flat.resolution asked.turns ran.end))
  closing_has = subst (λ (how : End). HasStateOutcome asked tree text (note (status_of how) (end_text sim.flat.resolution asked.turns how))) (sym ended.runs.end)
      (ended_state (asked_run asked tree sim end sound is ahead answers) ended.none_on)

-- a stop that is too late
pub late_save : (part : SavePart) (asked : RunOptions) (tree : PureTree) (text : List ℕ) (sim : Sim) → IsAccepted tree sim → stop_in sim.flat.resolution asked.stop ≡ None
    → HasSaveOutcome part asked tree text stop_too_long
late_save Trace asked tree text sim sound late = late_trace sound late
late_save State asked tree text sim sound late = late_state sound late
