-- The outcome of `resume`: there is one, and what the job wrote makes it.
use Rattle.std.proofs.Common.{◌≡◌, ◌∙◌, ◌⊎◌, ℕ, ◌<◌, ◌≤◌, List, [], ◌++◌, Option, Some, None, Result, Ok, Err, refl, sym, ap, subst, inl, inr, arith, codes}
use Rattle.std.specs.Prelude.{IsErrOf}
use Rattle.tdf_base.specs.declared.resolution.Resolution.{Resolution}
use Rattle.tdf_sim.specs.Ends.{AreToldTo, Change, First, Flat, GoesOnAs, IsModelOf, IsRunningAt, IsValid, Paused, Ran, SideOf, SnapshotOf, World, end_text, kind_saved, model_about, rows_from_saved}
use Rattle.tdf_cli.specs.Outcome.{WritesFrontOf, WritesOneOf}
use Rattle.tdf_cli.specs.Resumed.{HasResumeOutcome, bad_state, early_stop, goes_on, late_stop, rest_news, rest_outcome}
use Rattle.tdf_cli.specs.Runs.{Outcome, note, status_of, stop_in}
use Rattle.tdf_cli.specs.Saving.{stop_too_long}
use Rattle.tdf_cli.specs.declared.status.Status.{Status}
use Rattle.tdf_cli.specs.declared.status.Status.TheVariants as status
use Rattle.tdf_io.proofs.Api.{failed_rose}
use Rattle.tdf_io.specs.Bytes.{AppendsFront}
use Rattle.tdf_io.specs.Faults.{CountsSinkFaults, CountsTwoSinks}
use Rattle.tdf_io.specs.declared.writing.SinkErr.{SinkErr}
use Rattle.tdf_io.specs.declared.writing.SinkErr.TheVariants.{Failed}
use Rattle.tdf_lang_parser.proofs.Api.{text_keeps}
use Rattle.tdf_lang_tree.specs.Pure.{PureTree}
use Rattle.tdf_sim.specs.Laws.{ModelsAreAlike}
use Rattle.tdf_sim.specs.declared.sim.Sim.{Sim}
use Rattle.tdf_sim.specs.StateLaws.{AnswersAreAlike, RestsAreAlike, StateIsOne, ValidIsAlike}
use Rattle.tdf_sim.specs.States.{IsNoState, IsRunOf, IsSavedState, saved_world}
use Rattle.tdf_trace_rows.specs.declared.kinds.TraceKind.{TraceKind}

-- ---- what an outcome is

abbrev pub bad_note : Outcome
bad_note = note status.BadState (codes "bad state\n")

abbrev pub early_note : Outcome
early_note = note status.StopTooEarly (codes "stop too early\n")

-- of a snapshot, by the stop in counts of the resolution, if there is one
abbrev pub OfRest : PureTree → Sim → List First → SnapshotOf → Option ℕ → Outcome → Type 0
OfRest tree sim firsts s None o = o ≡ stop_too_long
OfRest tree sim firsts s (Some end) o = ((end < s.time) × (o ≡ early_note))
    ⊎ ((s.time ≤ end) × (ahead : List (List Change)) × AreToldTo tree sim.flat (saved_world tree sim firsts s) end ahead
    × (o ≡ rest_outcome tree sim firsts s ahead end))

abbrev pub OfState : (stop : ℕ) → (bytes : List ℕ) → PureTree → Sim → List First → SnapshotOf → Outcome → Type 0
OfState stop bytes tree sim firsts s o = IsSavedState bytes tree sim firsts s × OfRest tree sim firsts s (stop_in sim.flat.resolution stop) o

abbrev pub OfResume : (stop : ℕ) → (bytes : List ℕ) → Outcome → Type 0
OfResume stop bytes o = (IsNoState bytes × (o ≡ bad_note))
    ⊎ ((tree : PureTree) × (sim : Sim) × (firsts : List First) × (s : SnapshotOf) × OfState stop bytes tree sim firsts s o)

pub seen_resume : {stop : ℕ} {bytes : List ℕ} {o : Outcome} → HasResumeOutcome stop bytes o → OfResume stop bytes o
seen_resume (bad_state none) = inl (none, refl)
seen_resume (late_stop {tree = tree} {sim = sim} {firsts = firsts} {s = s} saved is) =
    inr (tree, sim, firsts, s, (saved, subst (λ (e : Option ℕ). OfRest tree sim firsts s e stop_too_long) (sym is) refl))
seen_resume (early_stop {tree = tree} {sim = sim} {firsts = firsts} {s = s} saved is early) =
    inr (tree, sim, firsts, s, (saved, subst (λ (e : Option ℕ). OfRest tree sim firsts s e early_note) (sym is) (inl (early, refl))))
seen_resume (goes_on {tree = tree} {sim = sim} {firsts = firsts} {s = s} {end = end} saved is late ahead told) =
    inr (tree, sim, firsts, s, (saved, subst (λ (e : Option ℕ). OfRest tree sim firsts s e (rest_outcome tree sim firsts s ahead end)) (sym is) (inr (late, ahead, told, refl))))

-- ---- there is one

-- of one tree and one snapshot
module _ (models : ModelsAreAlike) (rests : RestsAreAlike) (stop : ℕ) (bytes : List ℕ) (tree : PureTree) (a b : Sim) (firsts others : List First) (s : SnapshotOf) (o p : Outcome) where
  same_rests : (end : ℕ) (x y : List (List Change)) → IsSavedState bytes tree a firsts s → IsSavedState bytes tree b others s
      → AreToldTo tree a.flat (saved_world tree a firsts s) end x → AreToldTo tree b.flat (saved_world tree b others s) end y
      → rest_outcome tree a firsts s x end ≡ rest_outcome tree b others s y end
  same_rests end x y one other told told_too =
      let kept = text_keeps one.spells in
      let unit = (models tree a b kept one.accepted other.accepted).unit in
      let r = rests tree a b kept one.accepted other.accepted firsts others s x y end one.valid other.valid told told_too in
      λ i. record { status = status_of (r.end s.budget i); out = r.trace (kind_saved s.vcd) i; notes = r.notes i ++ end_text (unit i) s.budget (r.end s.budget i) }

  same_at : (end : Option ℕ) → IsSavedState bytes tree a firsts s → IsSavedState bytes tree b others s → OfRest tree a firsts s end o → OfRest tree b others s end p → o ≡ p
  same_at None one other x y = x ∙ sym y
  same_at (Some end) one other (inl (early, is)) (inl (early_too, is_too)) = is ∙ sym is_too
  same_at (Some end) one other (inl (early, is)) (inr (late, ahead, told, is_too)) = absurd (omega (arith, early, late))
  same_at (Some end) one other (inr (late, ahead, told, is)) (inl (early, is_too)) = absurd (omega (arith, early, late))
  same_at (Some end) one other (inr (late, x, told, is)) (inr (late_too, y, told_too, is_too)) = is ∙ same_rests end x y one other told told_too ∙ sym is_too

  same_of_one : OfState stop bytes tree a firsts s o → OfState stop bytes tree b others s p → o ≡ p
  same_of_one (one, x) (other, y) = same_at (stop_in b.flat.resolution stop) one other
      (subst (λ (u : Resolution). OfRest tree a firsts s (stop_in u stop) o) (models tree a b (text_keeps one.spells) one.accepted other.accepted).unit x) y

module _ (models : ModelsAreAlike) (one_state : StateIsOne) (rests : RestsAreAlike) (stop : ℕ) (bytes : List ℕ) where
  same_resumed : (o p : Outcome) → OfResume stop bytes o → OfResume stop bytes p → o ≡ p
  same_resumed o p (inl (none, is)) (inl (none_too, is_too)) = is ∙ sym is_too
  same_resumed o p (inl (none, is)) (inr (tree, sim, firsts, s, x)) = absurd (none tree sim firsts s x.0)
  same_resumed o p (inr (tree, sim, firsts, s, x)) (inl (none, is)) = absurd (none tree sim firsts s x.0)
  same_resumed o p (inr (tree, a, firsts, s, x)) (inr (other, b, others, t, y)) =
      let same = one_state bytes tree other a b firsts others s t x.0 y.0 in
      same_of_one models rests stop bytes tree a b firsts others s o p x
      (subst (λ (r : SnapshotOf). OfState stop bytes tree b others r p) (sym same.1) (subst (λ (r : PureTree). OfState stop bytes r b others t p) (sym same.0) y))

  pub same_resume : (o p : Outcome) → HasResumeOutcome stop bytes o → HasResumeOutcome stop bytes p → o ≡ p
  same_resume o p h k = same_resumed o p (seen_resume h) (seen_resume k)

-- ---- counts of faults

-- a note counts on its own sink
pub note_counts : {T : Type 0} (a n m : ℕ) (result : Result T SinkErr) → CountsSinkFaults n m result → CountsTwoSinks Failed a a n m result
note_counts a n m (Ok value) is = record { rose = λ failed. absurd cc; out_kept = λ kept. refl; notes_kept = λ kept. is.kept }
note_counts a n m (Err error) is = record {
  rose = λ failed. inr (failed_rose n m (Err error) is failed);
  out_kept = λ kept. refl;
  notes_kept = λ kept. is.kept (λ same. kept (ap Err same));
}

-- a refusal is one of every kind of answer
pub refused_counts : {T U : Type 0} (a b n m : ℕ) (error : SinkErr) → CountsTwoSinks {T = T} Failed a b n m (Err error) → CountsTwoSinks {T = U} Failed a b n m (Err error)
refused_counts a b n m error is = record {
  rose = λ failed. is.rose (err_as error Failed failed);
  out_kept = λ kept. is.out_kept (λ failed. kept (err_as error Failed failed));
  notes_kept = λ kept. is.notes_kept (λ failed. kept (err_as error Failed failed));
}
  where
    err_as : {A B : Type 0} (e f : SinkErr) → IsErrOf {T = A} (Err e) f → IsErrOf {T = B} (Err e) f
    err_as e f is = ap Err (let same : e ≡ f = cc in same)

-- ---- a run that goes on

-- the resolution of the model
pub unit_of : (bytes : List ℕ) (p : Paused) (of : IsRunOf bytes p) → p.flat.resolution ≡ of.sim.flat.resolution
unit_of bytes p of = ap (λ (flat : Flat). flat.resolution) of.flat

-- it goes on with each valid list of plans
module _ (bytes : List ℕ) (p : Paused) (of : IsRunOf bytes p) (firsts : List First) (valid : IsValid of.tree of.sim.flat firsts of.snapshot) where
  abbrev start : World SideOf
  start = saved_world of.tree of.sim firsts of.snapshot

  pub is_model : IsModelOf of.tree p.flat
  is_model = subst (λ (flat : Flat). IsModelOf of.tree flat) (sym of.flat) of.model

  pub is_running : IsRunningAt of.tree p.flat start [] p.run
  is_running = subst (λ (flat : Flat). IsRunningAt of.tree flat start [] p.run) (sym of.flat) (of.goes_on firsts valid).runs

  told_back : (ahead : List (List Change)) (end : ℕ) → AreToldTo of.tree of.sim.flat start end ahead → AreToldTo of.tree p.flat start end ahead
  told_back ahead end told = subst (λ (flat : Flat). AreToldTo of.tree flat start end ahead) (sym of.flat) told

  told_there : (ahead : List (List Change)) (end : ℕ) → AreToldTo of.tree p.flat start end ahead → AreToldTo of.tree of.sim.flat start end ahead
  told_there ahead end told = subst (λ (flat : Flat). AreToldTo of.tree flat start end ahead) of.flat told

  -- in the words of the outcome
  pub goes_there : (ahead : List (List Change)) (end : ℕ) (a b c d : Option (List ℕ)) (result : Result Ran SinkErr)
      → GoesOnAs of.tree p.flat (model_about p.kind p.flat) start [] ahead p.run.shown.trace.rows.upto end p.turns a b c d result
      → GoesOnAs of.tree of.sim.flat (model_about (kind_saved of.snapshot.vcd) of.sim.flat) start [] ahead (rows_from_saved of.tree of.sim.flat firsts of.snapshot) end
      of.snapshot.budget a b c d result
  goes_there ahead end a b c d result goes =
      subst (λ (flat : Flat). GoesOnAs of.tree flat (model_about (kind_saved of.snapshot.vcd) flat) start [] ahead (rows_from_saved of.tree of.sim.flat firsts of.snapshot) end
      of.snapshot.budget a b c d result) of.flat
      (subst (λ (kind : TraceKind). GoesOnAs of.tree p.flat (model_about kind p.flat) start [] ahead (rows_from_saved of.tree of.sim.flat firsts of.snapshot) end
      of.snapshot.budget a b c d result) of.kind
      (subst (λ (rows : ℕ). GoesOnAs of.tree p.flat (model_about p.kind p.flat) start [] ahead rows end of.snapshot.budget a b c d result) (of.goes_on firsts valid).rows
      (subst (λ (turns : ℕ). GoesOnAs of.tree p.flat (model_about p.kind p.flat) start [] ahead p.run.shown.trace.rows.upto end turns a b c d result) of.turns goes)))

-- where it ended, it wrote the outcome
module _ (stop : ℕ) (bytes : List ℕ) (p : Paused) (of : IsRunOf bytes p) (end : ℕ) (is : stop_in of.sim.flat.resolution stop ≡ Some end) (late : p.run.from ≤ end)
    (a b c d : Option (List ℕ)) where
  pub ran_on : (ahead : List (List Change)) → AreToldTo of.tree p.flat (saved_world of.tree of.sim of.firsts of.snapshot) end ahead → (ran : Ran) (answer : Status)
      → answer ≡ status_of ran.end
      → GoesOnAs {E = SinkErr} of.tree p.flat (model_about p.kind p.flat) (saved_world of.tree of.sim of.firsts of.snapshot) [] ahead p.run.shown.trace.rows.upto end p.turns a b c d (Ok ran)
      → WritesOneOf (HasResumeOutcome stop bytes) answer a b c d
  ran_on ahead told ran answer answered goes =
      let on = goes_there bytes p of of.firsts of.saved.valid ahead end a b c d (Ok ran) goes in record {
        outcome = rest_outcome of.tree of.sim of.firsts of.snapshot ahead end;
        has = goes_on of.saved is (subst (λ (time : ℕ). time ≤ end) of.time late) ahead (told_there bytes p of of.firsts of.saved.valid ahead end told);
        answers = sym (answered ∙ ap status_of on.end);
        out = on.trace;
        notes = on.notes (rest_news of.tree of.sim of.firsts of.snapshot ahead end) refl;
      }

  -- where it was refused, front parts of the texts of each outcome
  module _ (models : ModelsAreAlike) (one_state : StateIsOne) (valid_alike : ValidIsAlike) (rests : RestsAreAlike) (answers : AnswersAreAlike) (error : SinkErr)
      (goes : (firsts : List First) → IsValid of.tree of.sim.flat firsts of.snapshot → (ahead : List (List Change))
      → AreToldTo of.tree p.flat (saved_world of.tree of.sim firsts of.snapshot) end ahead
      → GoesOnAs of.tree p.flat (model_about p.kind p.flat) (saved_world of.tree of.sim firsts of.snapshot) [] ahead p.run.shown.trace.rows.upto end p.turns a b c d (Err error)) where
    front_rest : (other : Sim) (firsts : List First) → IsSavedState bytes of.tree other firsts of.snapshot → (o : Outcome)
        → OfRest of.tree other firsts of.snapshot (Some end) o → AppendsFront a b o.out × AppendsFront c d o.notes
    front_rest other firsts saved o (inl (early, o_is)) = absurd (omega (arith, early, late, of.time))
    front_rest other firsts saved o (inr (late_too, ahead, told, o_is)) =
        let kept = text_keeps of.saved.spells in
        let valid = valid_alike of.tree other of.sim kept saved.accepted of.saved.accepted firsts of.snapshot saved.valid in
        let own = answers of.tree other of.sim kept saved.accepted of.saved.accepted firsts of.snapshot ahead end told in
        let on = goes_there bytes p of firsts valid ahead end a b c d (Err error) (goes firsts valid ahead (told_back bytes p of firsts valid ahead end own)) in
        let same : rest_outcome of.tree of.sim firsts of.snapshot ahead end ≡ o =
        sym (same_rests models rests stop bytes of.tree other of.sim firsts firsts of.snapshot o o end ahead ahead saved
        (record { text = of.saved.text; short = of.saved.short; spells = of.saved.spells; accepted = of.saved.accepted; fits = of.saved.fits; is = of.saved.is; valid = valid }) told own)
        ∙ sym o_is in (
          subst (λ (x : Outcome). AppendsFront a b x.out) same on.trace_part,
          subst (λ (x : Outcome). AppendsFront c d x.notes) same (on.notes_part (rest_news of.tree of.sim firsts of.snapshot ahead end) refl),
        )

    front_state : (other : Sim) (firsts : List First) (o : Outcome) → OfState stop bytes of.tree other firsts of.snapshot o → AppendsFront a b o.out × AppendsFront c d o.notes
    front_state other firsts o (saved, rest) =
        let early : stop_in other.flat.resolution stop ≡ Some end =
        ap (λ (unit : Resolution). stop_in unit stop) (models of.tree other of.sim (text_keeps of.saved.spells) saved.accepted of.saved.accepted).unit ∙ is in
        front_rest other firsts saved o (subst (λ (e : Option ℕ). OfRest of.tree other firsts of.snapshot e o) early rest)

    front_of : (o : Outcome) → OfResume stop bytes o → AppendsFront a b o.out × AppendsFront c d o.notes
    front_of o (inl (none, o_is)) = absurd (none of.tree of.sim of.firsts of.snapshot of.saved)
    front_of o (inr (tree, sim, firsts, s, x)) =
        let same = one_state bytes tree of.tree sim of.sim firsts of.firsts s of.snapshot x.0 of.saved in
        front_state sim firsts o (subst (λ (r : SnapshotOf). OfState stop bytes of.tree sim firsts r o) same.1 (subst (λ (r : PureTree). OfState stop bytes r sim firsts s o) same.0 x))

    pub refused_on : WritesFrontOf (HasResumeOutcome stop bytes) a b c d
    refused_on = record { out = λ o has. (front_of o (seen_resume has)).0; notes = λ o has. (front_of o (seen_resume has)).1 }
