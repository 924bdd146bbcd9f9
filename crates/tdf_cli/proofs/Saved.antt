-- The outcome of `save`: there is one, and how it is written.
use Rattle.std.proofs.Common.{◌≡◌, ◌∙◌, ◌⊎◌, ◌≢◌, ℕ, List, Option, Some, None, refl, sym, ap, subst, inl, inr}
use Rattle.tdf_base.specs.declared.resolution.Resolution.{Resolution}
use Rattle.tdf_cli.specs.Runs.{Outcome, note, run_outcome, status_of, stop_in}
use Rattle.tdf_cli.specs.Saving.{ReachesItsStop, EndsBeforeStop, HasSaveOutcome, HasStateOutcome, HasTraceOutcome, closing_outcome, ended_state, ended_trace, late_state, late_trace, part_outcome, saved_state, saved_trace, state_outcome, stop_too_long}
use Rattle.tdf_cli.specs.declared.status.Status.TheVariants as status
use Rattle.tdf_cli_words.specs.declared.asked.RunOptions.{RunOptions}
use Rattle.tdf_cli_words.specs.declared.asked.SavePart.{SavePart}
use Rattle.tdf_cli_words.specs.declared.asked.SavePart.TheVariants.{Trace, State}
use Rattle.tdf_sim.specs.Ends.{Change, HaveAnswers, HistoryState, IsRowsToWrite, MembersOf, On, RunFault, SideOf, World, end_of, end_text, is_vcd, members_of, run_state, saved_text}
use Rattle.tdf_lang_tree.specs.Kept.{IsKept}
use Rattle.tdf_lang_tree.specs.Pure.{PureTree}
use Rattle.tdf_sim.specs.Accepted.{IsAccepted}
use Rattle.tdf_sim.specs.Laws.{AnswersRunAlike, ModelsAreAlike, RunAlike, RunsAreAlike}
use Rattle.tdf_sim.specs.declared.sim.Sim.{Sim}
use Rattle.tdf_sim.specs.Histories.{Spent, Stopped}
use Rattle.tdf_sim.specs.StateLaws.{MembersAreAlike, PartsAreAlike, PartsRunAlike, SnapshotsAreOne}
use Rattle.tdf_sim.specs.States.{IsStateText}
use Rattle.tdf_trace_rows.specs.declared.kinds.TraceKind.{TraceKind}

-- ---- runs of the models of one tree

-- two runs that are alike have one outcome
pub same_ran : (kind : TraceKind) (tree : PureTree) (a b : Sim) (ahead others : List (List Change)) (end turns : ℕ) → RunAlike tree a b ahead others kind end turns
    → run_outcome kind tree a ahead end turns ≡ run_outcome kind tree b others end turns
same_ran kind tree a b ahead others end turns alike = λ i. record { status = status_of (alike.end i); out = alike.trace i; notes = alike.notes i }

-- so have the runs of two models, whichever answers of their boundaries they are told
pub same_whole : RunsAreAlike → AnswersRunAlike → (kind : TraceKind) (tree : PureTree) (a b : Sim) (end turns : ℕ) → IsKept tree → IsAccepted tree a → IsAccepted tree b
    → (ahead others : List (List Change)) → HaveAnswers tree a.flat a.firsts.items ahead end turns → HaveAnswers tree b.flat b.firsts.items others end turns
    → run_outcome kind tree a ahead end turns ≡ run_outcome kind tree b others end turns
same_whole runs told kind tree a b end turns kept one other ahead others answers answers_too =
    let both = runs tree a b kept one other ahead kind end turns in
    same_ran kind tree a b ahead ahead end turns both.alike
    ∙ same_ran kind tree b b ahead others end turns (told tree b kept other ahead others kind end turns (both.answers answers) answers_too)

-- a history that comes to its stop doesn't end as one does that ends before
ends_apart : (stop turns : ℕ) (x y : HistoryState (World SideOf) RunFault) (w : World SideOf) → end_of stop turns x ≡ end_of stop turns y → x ≡ On w
    → ((v : World SideOf) → y ≢ On v) → ⊥
ends_apart stop turns x (On v) w same on not = not v refl
ends_apart stop turns x (Stopped time fault v) w same on not =
    let apart : end_of stop turns (On w) ≡ end_of stop turns (Stopped time fault v) = ap (end_of stop turns) (sym on) ∙ same in absurd cc
ends_apart stop turns x (Spent time v) w same on not =
    let apart : end_of stop turns (On w) ≡ end_of stop turns (Spent time v) = ap (end_of stop turns) (sym on) ∙ same in absurd cc

-- one that ends as it does comes to its stop too
pub comes_too : (stop turns : ℕ) (x y : HistoryState (World SideOf) RunFault) (w : World SideOf) → end_of stop turns x ≡ end_of stop turns y → x ≡ On w
    → (v : World SideOf) × (y ≡ On v)
comes_too stop turns x (On v) w same on = (v, refl)
comes_too stop turns x (Stopped time fault v) w same on =
    let apart : end_of stop turns (On w) ≡ end_of stop turns (Stopped time fault v) = ap (end_of stop turns) (sym on) ∙ same in absurd cc
comes_too stop turns x (Spent time v) w same on =
    let apart : end_of stop turns (On w) ≡ end_of stop turns (Spent time v) = ap (end_of stop turns) (sym on) ∙ same in absurd cc

-- ---- what an outcome is, by the stop in counts of the resolution, if there is one

abbrev pub OfTraceEnd : RunOptions → PureTree → Sim → Option ℕ → Outcome → Type 0
OfTraceEnd asked tree sim None o = o ≡ stop_too_long
OfTraceEnd asked tree sim (Some end) o = (ahead : List (List Change)) × HaveAnswers tree sim.flat sim.firsts.items ahead end asked.turns
    × ((ReachesItsStop asked tree sim ahead end
    × ((rows : ℕ) × IsRowsToWrite tree sim.flat sim.firsts.items ahead end asked.turns rows × (o ≡ part_outcome asked tree sim ahead end rows)))
    ⊎ (EndsBeforeStop asked tree sim ahead end × (o ≡ run_outcome asked.kind tree sim ahead end asked.turns)))

abbrev pub OfTrace : RunOptions → PureTree → Outcome → Type 0
OfTrace asked tree o = (sim : Sim) × IsAccepted tree sim × OfTraceEnd asked tree sim (stop_in sim.flat.resolution asked.stop) o

pub seen_trace : {asked : RunOptions} {tree : PureTree} {o : Outcome} → HasTraceOutcome asked tree o → OfTrace asked tree o
seen_trace {asked = asked} {tree = tree} (late_trace {sim = sim} sound is) =
    (sim, sound, subst (λ (e : Option ℕ). OfTraceEnd asked tree sim e stop_too_long) (sym is) refl)
seen_trace {asked = asked} {tree = tree} (saved_trace {sim = sim} {ahead = ahead} {end = end} {rows = rows} run comes is) = (
  sim,
  run.accepted,
  subst (λ (e : Option ℕ). OfTraceEnd asked tree sim e (part_outcome asked tree sim ahead end rows)) (sym run.stops)
      (ahead, run.answers, inl (comes, (rows, is, refl))),
)
seen_trace {asked = asked} {tree = tree} (ended_trace {sim = sim} {ahead = ahead} {end = end} run ends) = (
  sim,
  run.accepted,
  subst (λ (e : Option ℕ). OfTraceEnd asked tree sim e (run_outcome asked.kind tree sim ahead end asked.turns)) (sym run.stops)
      (ahead, run.answers, inr (ends, refl)),
)

abbrev pub OfStateEnd : RunOptions → PureTree → (text : List ℕ) → Sim → Option ℕ → Outcome → Type 0
OfStateEnd asked tree text sim None o = o ≡ stop_too_long
OfStateEnd asked tree text sim (Some end) o = ((bytes : List ℕ)
    × IsStateText tree sim.flat sim.firsts.items end asked.turns (is_vcd asked.kind) text bytes × (o ≡ state_outcome bytes))
    ⊎ ((ahead : List (List Change)) × HaveAnswers tree sim.flat sim.firsts.items ahead end asked.turns
    × EndsBeforeStop asked tree sim ahead end × (o ≡ closing_outcome asked tree sim ahead end))

abbrev pub OfState : RunOptions → PureTree → (text : List ℕ) → Outcome → Type 0
OfState asked tree text o = (sim : Sim) × IsAccepted tree sim × OfStateEnd asked tree text sim (stop_in sim.flat.resolution asked.stop) o

pub seen_state : {asked : RunOptions} {tree : PureTree} {text : List ℕ} {o : Outcome} → HasStateOutcome asked tree text o → OfState asked tree text o
seen_state {asked = asked} {tree = tree} {text = text} (late_state {sim = sim} sound is) =
    (sim, sound, subst (λ (e : Option ℕ). OfStateEnd asked tree text sim e stop_too_long) (sym is) refl)
seen_state {asked = asked} {tree = tree} {text = text} (saved_state {sim = sim} {bytes = bytes} sound is has) =
    (sim, sound, subst (λ (e : Option ℕ). OfStateEnd asked tree text sim e (state_outcome bytes)) (sym is) (inl (bytes, has, refl)))
seen_state {asked = asked} {tree = tree} {text = text} (ended_state {sim = sim} {ahead = ahead} {end = end} run ends) = (
  sim,
  run.accepted,
  subst (λ (e : Option ℕ). OfStateEnd asked tree text sim e (closing_outcome asked tree sim ahead end)) (sym run.stops)
      (inr (ahead, run.answers, ends, refl)),
)

-- ---- there is one

module _ (models : ModelsAreAlike) (runs : RunsAreAlike) (told : AnswersRunAlike) (parts : PartsAreAlike) (asked : RunOptions) (tree : PureTree) (kept : IsKept tree) where
  -- two parts of runs
  module _ (a b : Sim) (one : IsAccepted tree a) (other : IsAccepted tree b) (end : ℕ) where
    alike : (x y : List (List Change)) → HaveAnswers tree a.flat a.firsts.items x end asked.turns → HaveAnswers tree b.flat b.firsts.items y end asked.turns
        → PartsRunAlike tree a b x y end asked.turns
    alike x y answers answers_too = parts tree a b kept one other x y end asked.turns answers answers_too

    same_part : (x y : List (List Change)) (rows others : ℕ) → HaveAnswers tree a.flat a.firsts.items x end asked.turns → HaveAnswers tree b.flat b.firsts.items y end asked.turns
        → IsRowsToWrite tree a.flat a.firsts.items x end asked.turns rows → IsRowsToWrite tree b.flat b.firsts.items y end asked.turns others
        → part_outcome asked tree a x end rows ≡ part_outcome asked tree b y end others
    same_part x y rows others answers answers_too is is_too =
        let both = alike x y answers answers_too in
        let texts : part_outcome asked tree a x end rows ≡ part_outcome asked tree b y end rows =
        λ i. record { status = status.Done; out = both.trace asked.kind rows is.within i; notes = both.notes i } in
        texts ∙ ap (part_outcome asked tree b y end) (both.rows rows others is is_too)

    same_end : (o p : Outcome) → OfTraceEnd asked tree a (Some end) o → OfTraceEnd asked tree b (Some end) p → o ≡ p
    same_end o p (x, answers, inl (comes, (rows, is, o_is))) (y, answers_too, inl (comes_too_is, (others, is_too, p_is))) =
        o_is ∙ same_part x y rows others answers answers_too is is_too ∙ sym p_is
    same_end o p (x, answers, inl (comes, has)) (y, answers_too, inr (ends, p_is)) =
        absurd (ends_apart end asked.turns (run_state tree a.flat a.firsts.items x end asked.turns) (run_state tree b.flat b.firsts.items y end asked.turns) comes.world
        (alike x y answers answers_too).end comes.on ends)
    same_end o p (x, answers, inr (ends, o_is)) (y, answers_too, inl (comes, has)) =
        absurd (ends_apart end asked.turns (run_state tree b.flat b.firsts.items y end asked.turns) (run_state tree a.flat a.firsts.items x end asked.turns) comes.world
        (sym (alike x y answers answers_too).end) comes.on ends)
    same_end o p (x, answers, inr (ends, o_is)) (y, answers_too, inr (ends_too, p_is)) =
        o_is ∙ same_whole runs told asked.kind tree a b end asked.turns kept one other x y answers answers_too ∙ sym p_is

  same_traces_at : (a b : Sim) → IsAccepted tree a → IsAccepted tree b → (end : Option ℕ) (o p : Outcome) → OfTraceEnd asked tree a end o → OfTraceEnd asked tree b end p → o ≡ p
  same_traces_at a b one other None o p x y = x ∙ sym y
  same_traces_at a b one other (Some end) o p x y = same_end a b one other end o p x y

  same_traces : (o p : Outcome) → OfTrace asked tree o → OfTrace asked tree p → o ≡ p
  same_traces o p (a, one, x) (b, other, y) = same_traces_at a b one other (stop_in b.flat.resolution asked.stop) o p
      (subst (λ (u : Resolution). OfTraceEnd asked tree a (stop_in u asked.stop) o) (models tree a b kept one other).unit x) y

  pub same_trace : (o p : Outcome) → HasTraceOutcome asked tree o → HasTraceOutcome asked tree p → o ≡ p
  same_trace o p h k = same_traces o p (seen_trace h) (seen_trace k)

  -- two states
  module _ (members : MembersAreAlike) (snapshots : SnapshotsAreOne) (text : List ℕ) where
    module _ (a b : Sim) (one : IsAccepted tree a) (other : IsAccepted tree b) (end : ℕ) where
      same_bytes : (x y : List ℕ) → IsStateText tree a.flat a.firsts.items end asked.turns (is_vcd asked.kind) text x
          → IsStateText tree b.flat b.firsts.items end asked.turns (is_vcd asked.kind) text y → x ≡ y
      same_bytes x y is is_too =
          is.is ∙ ap (λ (m : MembersOf). saved_text m text is.snapshot) (members tree a b kept one other)
          ∙ ap (saved_text (members_of b.flat) text)
          (snapshots tree a b kept one other end asked.turns (is_vcd asked.kind) is.snapshot is_too.snapshot is.of is_too.of)
          ∙ sym is_too.is

      same_closing : (x y : List (List Change)) → HaveAnswers tree a.flat a.firsts.items x end asked.turns → HaveAnswers tree b.flat b.firsts.items y end asked.turns
          → closing_outcome asked tree a x end ≡ closing_outcome asked tree b y end
      same_closing x y answers answers_too =
          let unit = (models tree a b kept one other).unit in
          let ends = (alike a b one other end x y answers answers_too).end in
          λ i. note (status_of (ends i)) (end_text (unit i) asked.turns (ends i))

      state_end : (o p : Outcome) → OfStateEnd asked tree text a (Some end) o → OfStateEnd asked tree text b (Some end) p → o ≡ p
      state_end o p (inl (x, is, o_is)) (inl (y, is_too, p_is)) = o_is ∙ ap state_outcome (same_bytes x y is is_too) ∙ sym p_is
      state_end o p (inl (x, is, o_is)) (inr (y, answers, ends, p_is)) =
          absurd (ends_apart end asked.turns (run_state tree a.flat a.firsts.items is.of.ahead end asked.turns) (run_state tree b.flat b.firsts.items y end asked.turns) is.of.world
          (alike a b one other end is.of.ahead y is.of.answers answers).end is.of.is.reached ends)
      state_end o p (inr (x, answers, ends, o_is)) (inl (y, is, p_is)) =
          absurd (ends_apart end asked.turns (run_state tree b.flat b.firsts.items is.of.ahead end asked.turns) (run_state tree a.flat a.firsts.items x end asked.turns) is.of.world
          (sym (alike a b one other end x is.of.ahead answers is.of.answers).end) is.of.is.reached ends)
      state_end o p (inr (x, answers, ends, o_is)) (inr (y, answers_too, ends_too, p_is)) = o_is ∙ same_closing x y answers answers_too ∙ sym p_is

    same_states_at : (a b : Sim) → IsAccepted tree a → IsAccepted tree b → (end : Option ℕ) (o p : Outcome) → OfStateEnd asked tree text a end o
        → OfStateEnd asked tree text b end p → o ≡ p
    same_states_at a b one other None o p x y = x ∙ sym y
    same_states_at a b one other (Some end) o p x y = state_end a b one other end o p x y

    same_states : (o p : Outcome) → OfState asked tree text o → OfState asked tree text p → o ≡ p
    same_states o p (a, one, x) (b, other, y) = same_states_at a b one other (stop_in b.flat.resolution asked.stop) o p
        (subst (λ (u : Resolution). OfStateEnd asked tree text a (stop_in u asked.stop) o) (models tree a b kept one other).unit x) y

    pub same_state : (o p : Outcome) → HasStateOutcome asked tree text o → HasStateOutcome asked tree text p → o ≡ p
    same_state o p h k = same_states o p (seen_state h) (seen_state k)

    pub same_save : (part : SavePart) (o p : Outcome) → HasSaveOutcome part asked tree text o → HasSaveOutcome part asked tree text p → o ≡ p
    same_save Trace o p h k = same_trace o p h k
    same_save State o p h k = same_state o p h k
