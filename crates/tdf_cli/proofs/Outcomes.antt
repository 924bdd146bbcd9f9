-- How what the steps wrote makes an outcome.
use Rattle.std.proofs.Common.{◌≡◌, ℕ, ◌≤◌, Bool, length, arith, codes, true, false, refl, List, [], Option, Some, None, Result, Ok, Err, IfOk, OnOk, OnErr, inl, inr, sym, ap, ◌∙◌, subst, append_assoc, append-nil}
use Rattle.std.specs.Io.KnownBytes.{Appends}
use Rattle.std.specs.Prelude.{string_bytes}
use Rattle.std.proofs.KnownBytes.{Appends-nil}
use Rattle.tdf_lang_parser.specs.Refused.{SpellsText}
use Rattle.tdf_cli.specs.Input.{Reading, BadWords, Text, TooLong, ReadFault, NoMemory}
use Rattle.tdf_cli.proofs.Seen.{OfEnd, OfRun, OfRunText, OfSaveText, OfStimulus, ran, same_tree, seen}
use Rattle.tdf_base.specs.Limits.{longest_text}
use Rattle.tdf_cli.specs.Driven.{HasDrivenOutcome}
use Rattle.tdf_cli.specs.Outcome.{HasOneOutcome, HasOutcome, usage, read_fault, too_long, faulty, is_run, too_long_model, is_driven, is_saved, is_resumed, is_checked, is_planned, is_loaded, no_table, too_fine, is_sampled, is_measured, load_end, load_line, loaded, turns_taken, WritesOneOf, WritesOutcome, WritesFrontOf, WritesNothingOrFront}
use Rattle.tdf_cli.specs.Parts.{model_part, table_part}
use Rattle.tdf_cli.specs.Resumed.{HasResumeOutcome}
use Rattle.tdf_cli.specs.Runs.{HasRunOutcome, Outcome, note, run_outcome, status_of, stop_in, too_late, has_run}
use Rattle.tdf_cli.specs.Saving.{HasSaveOutcome}
use Rattle.tdf_cli.specs.machine.Stages.{WritesOf}
use Rattle.tdf_cli_words.specs.declared.asked.RunOptions.{RunOptions}
use Rattle.tdf_cli_words.specs.declared.asked.SavePart.{SavePart}
use Rattle.tdf_lang_tree.specs.Kept.{IsKept}
use Rattle.tdf_sim.specs.Accepted.{IsAccepted}
use Rattle.tdf_sim.specs.declared.sim.Sim.{Sim}
use Rattle.tdf_cli.specs.declared.status.Status.{Status}
use Rattle.tdf_cli.specs.declared.status.Status.TheVariants.{Done, StopTooLong}
use Rattle.tdf_cli.specs.declared.jobs.Texts.{Texts}
use Rattle.tdf_cli_words.specs.declared.asked.Settings.TheVariants.{Run, Drive, Save, Resume, Check, Plan, Load, Sample}
use Rattle.tdf_cli.specs.declared.measure.Measurement.{Measurement}
use Rattle.tdf_cli.specs.machine.Texts.{IsCheckText, IsMeasured, IsPlanText}
use Rattle.tdf_lang_printer.specs.Canon.{canon}
use Rattle.tdf_sim.specs.PlanText.{plans_text}
use Rattle.tdf_sim.specs.Laws.{FaultOrAccepted, ModelsAreAlike, RunsAreAlike}
use Rattle.tdf_io.proofs.Api.{front_none}
use Rattle.tdf_io.specs.Bytes.{AppendsFront, WritesText}
use Rattle.tdf_io.specs.declared.writing.SinkErr.{SinkErr}
use Rattle.tdf_sim.specs.Ends.{Change, End, HaveAnswers, run_end, run_note, trace_of}
use Rattle.tdf_base.specs.declared.resolution.Resolution.{Resolution}
use Rattle.tdf_lang_tree.specs.Pure.{PureTree}
use Rattle.tdf_sampling.specs.Choice.{chosen_table, is_too_fine}
use Rattle.tdf_sampling.specs.declared.asked.Choice.{Choice}
use Rattle.tdf_tables.specs.Tables.{SpellsTable, TableOf, table_text}
use Rattle.tdf_base.specs.declared.memory.Memory.{Memory}
use Rattle.tdf_cli_words.specs.Jobs.{usual_turns}
use Rattle.tdf_trace_rows.specs.declared.kinds.TraceKind.TheVariants.{Table}

-- being out of memory while the text is read has no outcome
abbrev HasSome : Reading → Type 0
HasSome NoMemory = ⊥
HasSome _ = Unit {0}

has_some : {r : Reading} {o : Outcome} → HasOutcome r o → HasSome r
has_some usage = tt
has_some read_fault = tt
has_some too_long = tt
has_some (faulty model is) = tt
has_some (is_run spells run) = tt
has_some (too_long_model long) = tt
has_some (is_driven short has) = tt
has_some (is_saved spells saved) = tt
has_some (is_resumed resumed) = tt
has_some (is_checked spells sound) = tt
has_some (is_planned spells sound) = tt
has_some (is_loaded spells sound ahead answers) = tt
has_some (no_table table is) = tt
has_some (too_fine spells is) = tt
has_some (is_sampled spells is) = tt
has_some (is_measured spells) = tt

front_of : (r : Reading) (a b c d : Option (List ℕ)) → HasSome r → WritesFrontOf (HasOutcome r) a b c d → WritesNothingOrFront r a b c d
front_of BadWords a b c d some w = inr w
front_of (Text job text) a b c d some w = inr w
front_of TooLong a b c d some w = inr w
front_of ReadFault a b c d some w = inr w
front_of NoMemory a b c d some w = absurd some

-- front parts of the texts of an outcome are those of each, since there is no other
front_each : HasOneOutcome → (r : Reading) (o : Outcome) (a b c d : Option (List ℕ)) → HasOutcome r o → AppendsFront a b o.out → AppendsFront c d o.notes → WritesNothingOrFront r a b c d
front_each law r o a b c d has wrote noted = front_of r a b c d (has_some has) (record {
  out = λ other is. subst (λ (x : Outcome). AppendsFront a b x.out) (law r o other has is) wrote;
  notes = λ other is. subst (λ (x : Outcome). AppendsFront c d x.notes) (law r o other has is) noted;
})

-- a note that was written makes its outcome, and where it wasn't all written, a front part of it
pub noted_all : {S : Type 0} {taken : S → Option (List ℕ)} {faults : S → ℕ} {old new : S} {text : List ℕ} (result : Result Status SinkErr) (r : Reading) (status : Status)
    (a : Option (List ℕ)) → HasOutcome r (note status text) → IfOk result (λ s. s ≡ status) → WritesText taken faults old new text result
    → IfOk result (λ s. WritesOutcome r s a a (taken old) (taken new))
noted_all {text = text} (Ok s) r status a has is wrote = record {
  outcome = note status text;
  has = has;
  answers = sym is;
  out = Appends-nil a;
  notes = wrote.all;
}
noted_all (Err error) r status a has is wrote = tt

pub noted_part : {S : Type 0} {taken : S → Option (List ℕ)} {faults : S → ℕ} {old new : S} {text : List ℕ} → HasOneOutcome → (result : Result Status SinkErr) (r : Reading) (status : Status)
    (a : Option (List ℕ)) → HasOutcome r (note status text) → WritesText taken faults old new text result
    → OnErr result (WritesNothingOrFront r a a (taken old) (taken new))
noted_part law (Ok s) r status a has wrote = tt
noted_part {taken = taken} {old = old} {new = new} {text = text} law (Err error) r status a has wrote =
    front_each law r (note status text) a a (taken old) (taken new) has (front_none a []) wrote.part

-- an output that was written makes its outcome, and where it wasn't all written, a front part of it
pub written_all : {S : Type 0} {taken : S → Option (List ℕ)} {faults : S → ℕ} {old new : S} {text : List ℕ} (result : Result Status SinkErr) (r : Reading) (c : Option (List ℕ))
    → HasOutcome r (record { status = Done; out = text; notes = [] }) → IfOk result (λ s. s ≡ Done) → WritesText taken faults old new text result
    → IfOk result (λ s. WritesOutcome r s (taken old) (taken new) c c)
written_all {text = text} (Ok s) r c has is wrote = record {
  outcome = record { status = Done; out = text; notes = [] };
  has = has;
  answers = sym is;
  out = wrote.all;
  notes = Appends-nil c;
}
written_all (Err error) r c has is wrote = tt

pub written_part : {S : Type 0} {taken : S → Option (List ℕ)} {faults : S → ℕ} {old new : S} {text : List ℕ} → HasOneOutcome → (result : Result Status SinkErr) (r : Reading) (c : Option (List ℕ))
    → HasOutcome r (record { status = Done; out = text; notes = [] }) → WritesText taken faults old new text result → OnErr result (WritesNothingOrFront r (taken old) (taken new) c c)
written_part law (Ok s) r c has wrote = tt
written_part {taken = taken} {old = old} {new = new} {text = text} law (Err error) r c has wrote =
    front_each law r (record { status = Done; out = text; notes = [] }) (taken old) (taken new) c c has wrote.part (front_none c [])

-- a run
module _ (asked : RunOptions) (tree : PureTree) (sim : Sim) (end : ℕ) (a b c d : Option (List ℕ)) (sound : IsAccepted tree sim)
    (is : stop_in sim.flat.resolution asked.stop ≡ Some end) where
  pub ran_all : (ahead : List (List Change)) → HaveAnswers tree sim.flat sim.firsts.items ahead end asked.turns
      → (how : End) (answer : Status) → how ≡ run_end tree sim.flat sim.firsts.items ahead end asked.turns → answer ≡ status_of how
      → Appends a b (trace_of asked.kind tree sim.flat sim.firsts.items ahead end asked.turns) → Appends c d (run_note tree sim.flat sim.firsts.items ahead end asked.turns)
      → WritesOneOf (HasRunOutcome asked tree) answer a b c d
  ran_all ahead answers how answer ended answered traced noted = record {
    outcome = run_outcome asked.kind tree sim ahead end asked.turns;
    has = has_run sound is ahead answers;
    answers = sym (answered ∙ ap status_of ended);
    out = traced;
    notes = noted;
  }

  -- front parts of what it writes, whichever answers of its boundaries it is told, are front parts of the texts of each outcome
  module _ (kept : IsKept tree) (models : ModelsAreAlike) (runs : RunsAreAlike)
      (traced : (ahead : List (List Change)) → HaveAnswers tree sim.flat sim.firsts.items ahead end asked.turns
      → AppendsFront a b (trace_of asked.kind tree sim.flat sim.firsts.items ahead end asked.turns))
      (noted : (ahead : List (List Change)) → HaveAnswers tree sim.flat sim.firsts.items ahead end asked.turns
      → AppendsFront c d (run_note tree sim.flat sim.firsts.items ahead end asked.turns)) where
    -- of another model of the tree
    front_at : (other : Sim) (o : Outcome) → IsAccepted tree other → OfEnd asked tree other (Some end) o → AppendsFront a b o.out × AppendsFront c d o.notes
    front_at other o fine of =
        let both = runs tree other sim kept fine sound of.0 asked.kind end asked.turns in
        let own = both.answers of.1 in (
          subst (λ (t : List ℕ). AppendsFront a b t) (sym both.alike.trace ∙ ap (λ (x : Outcome). x.out) (sym of.2)) (traced of.0 own),
          subst (λ (t : List ℕ). AppendsFront c d t) (sym both.alike.notes ∙ ap (λ (x : Outcome). x.notes) (sym of.2)) (noted of.0 own),
        )

    front_by : (o : Outcome) → OfRun asked tree o → AppendsFront a b o.out × AppendsFront c d o.notes
    front_by o of =
        let early : stop_in of.0.flat.resolution asked.stop ≡ Some end =
        ap (λ (unit : Resolution). stop_in unit asked.stop) (models tree of.0 sim kept of.1 sound).unit ∙ is in
        front_at of.0 o of.1 (subst (λ (e : Option ℕ). OfEnd asked tree of.0 e o) early of.2)

    pub ran_part : WritesFrontOf (HasRunOutcome asked tree) a b c d
    ran_part = record { out = λ o has. (front_by o (ran has)).0; notes = λ o has. (front_by o (ran has)).1 }

-- a stop that is too late is the one outcome of a run
late_of : (asked : RunOptions) (tree : PureTree) (other : Sim) (end : Option ℕ) (o : Outcome) → end ≡ None → OfEnd asked tree other end o → o ≡ note StopTooLong (codes "stop too long\n")
late_of asked tree other None o none of = of
late_of asked tree other (Some end) o none of = absurd cc

module _ (asked : RunOptions) (tree : PureTree) (sim : Sim) (kept : IsKept tree) (models : ModelsAreAlike) (sound : IsAccepted tree sim) (late : stop_in sim.flat.resolution asked.stop ≡ None) where
  late_by : (o : Outcome) → OfRun asked tree o → o ≡ note StopTooLong (codes "stop too long\n")
  late_by o of = late_of asked tree of.0 (stop_in of.0.flat.resolution asked.stop) o
      (ap (λ (unit : Resolution). stop_in unit asked.stop) (models tree of.0 sim kept of.1 sound).unit ∙ late) of.2

  pub late_all : {S : Type 0} {taken : S → Option (List ℕ)} {faults : S → ℕ} {old new : S} (result : Result Status SinkErr) (a : Option (List ℕ)) → IfOk result (λ s. s ≡ StopTooLong)
      → WritesText taken faults old new (codes "stop too long\n") result → IfOk result (λ s. WritesOneOf (HasRunOutcome asked tree) s a a (taken old) (taken new))
  late_all (Ok s) a is wrote = record {
    outcome = note StopTooLong (codes "stop too long\n");
    has = too_late sound late;
    answers = sym is;
    out = Appends-nil a;
    notes = wrote.all;
  }
  late_all (Err error) a is wrote = tt

  pub late_part : {S : Type 0} {taken : S → Option (List ℕ)} {faults : S → ℕ} {old new : S} (result : Result Status SinkErr) (a : Option (List ℕ))
      → WritesText taken faults old new (codes "stop too long\n") result → OnErr result (WritesFrontOf (HasRunOutcome asked tree) a a (taken old) (taken new))
  late_part (Ok s) a wrote = tt
  late_part {taken = taken} {old = old} {new = new} (Err error) a wrote = record {
    out = λ o has. subst (λ (x : Outcome). AppendsFront a a x.out) (sym (late_by o (ran has))) (front_none a []);
    notes = λ o has. subst (λ (x : Outcome). AppendsFront (taken old) (taken new) x.notes) (sym (late_by o (ran has))) wrote.part;
  }

-- the same for each text that spells the tree
run_text_from : (asked : RunOptions) (text : List ℕ) (tree : PureTree) (sim : Sim) → FaultOrAccepted → SpellsText text tree → IsAccepted tree sim → (o : Outcome) → OfRunText asked text o
    → HasRunOutcome asked tree o
run_text_from asked text tree sim apart spells sound o (inl f) = absurd (apart text f.0 sim f.1 (record { tree = tree; spelled = spells; accepted = sound }))
run_text_from asked text tree sim apart spells sound o (inr run) = subst (λ (x : PureTree). HasRunOutcome asked x o) (same_tree text tree run.0 spells run.1) run.2

pub run_all : (result : Result Status SinkErr) (asked : RunOptions) (text : List ℕ) (tree : PureTree) (a b c d : Option (List ℕ)) → SpellsText text tree
    → IfOk result (λ s. WritesOneOf (HasRunOutcome asked tree) s a b c d) → IfOk result (λ s. WritesOutcome (Text (Run asked) text) s a b c d)
run_all (Ok s) asked text tree a b c d spells w = record { outcome = w.outcome; has = is_run spells w.has; answers = w.answers; out = w.out; notes = w.notes }
run_all (Err error) asked text tree a b c d spells w = tt

pub run_part : (result : Result Status SinkErr) (asked : RunOptions) (text : List ℕ) (tree : PureTree) (sim : Sim) (a b c d : Option (List ℕ)) → FaultOrAccepted → SpellsText text tree
    → IsAccepted tree sim → OnErr result (WritesFrontOf (HasRunOutcome asked tree) a b c d) → OnErr result (WritesNothingOrFront (Text (Run asked) text) a b c d)
run_part (Ok s) asked text tree sim a b c d apart spells sound w = tt
run_part (Err error) asked text tree sim a b c d apart spells sound w = inr (record {
  out = λ o has. w.out o (run_text_from asked text tree sim apart spells sound o (seen has));
  notes = λ o has. w.notes o (run_text_from asked text tree sim apart spells sound o (seen has));
})

-- the model and the table of a text
stimulus_from : (asked : RunOptions) (text : List ℕ) → length (model_part text) ≤ longest_text → (o : Outcome) → OfStimulus asked text o
    → HasDrivenOutcome asked (model_part text) (table_part text) o
stimulus_from asked text short o (inl f) = absurd (omega (arith, f.0, short))
stimulus_from asked text short o (inr has) = has.1

pub driven_all : (result : Result Status SinkErr) (asked : RunOptions) (text : List ℕ) (a b c d : Option (List ℕ)) → length (model_part text) ≤ longest_text
    → WritesOf (HasDrivenOutcome asked (model_part text) (table_part text)) result a b c d → IfOk result (λ s. WritesOutcome (Text (Drive asked) text) s a b c d)
driven_all (Ok s) asked text a b c d short w = record { outcome = w.outcome; has = is_driven short w.has; answers = w.answers; out = w.out; notes = w.notes }
driven_all (Err error) asked text a b c d short w = tt

pub driven_part : (result : Result Status SinkErr) (asked : RunOptions) (text : List ℕ) (a b c d : Option (List ℕ)) → length (model_part text) ≤ longest_text
    → WritesOf (HasDrivenOutcome asked (model_part text) (table_part text)) result a b c d → OnErr result (WritesNothingOrFront (Text (Drive asked) text) a b c d)
driven_part (Ok s) asked text a b c d short w = tt
driven_part (Err error) asked text a b c d short (inl kept) = inl kept
driven_part (Err error) asked text a b c d short (inr w) = inr (record {
  out = λ o has. w.out o (stimulus_from asked text short o (seen has));
  notes = λ o has. w.notes o (stimulus_from asked text short o (seen has));
})

-- a part of a run
saved_from : (part : SavePart) (asked : RunOptions) (text : List ℕ) (tree : PureTree) (sim : Sim) → FaultOrAccepted → SpellsText text tree → IsAccepted tree sim
    → (o : Outcome) → OfSaveText part asked text o → HasSaveOutcome part asked tree text o
saved_from part asked text tree sim apart spells sound o (inl f) = absurd (apart text f.0 sim f.1 (record { tree = tree; spelled = spells; accepted = sound }))
saved_from part asked text tree sim apart spells sound o (inr save) =
    subst (λ (x : PureTree). HasSaveOutcome part asked x text o) (same_tree text tree save.0 spells save.1) save.2

module _ (part : SavePart) (asked : RunOptions) (text : List ℕ) (tree : PureTree) (a b c d : Option (List ℕ)) (spells : SpellsText text tree) where
  pub saved_all : (result : Result Status SinkErr) → WritesOf (HasSaveOutcome part asked tree text) result a b c d
      → IfOk result (λ s. WritesOutcome (Text (Save part asked) text) s a b c d)
  saved_all (Ok s) w = record { outcome = w.outcome; has = is_saved {part = part} spells w.has; answers = w.answers; out = w.out; notes = w.notes }
  saved_all (Err error) w = tt

  pub saved_front : (sim : Sim) → FaultOrAccepted → IsAccepted tree sim → (result : Result Status SinkErr) → WritesOf (HasSaveOutcome part asked tree text) result a b c d
      → OnErr result (WritesNothingOrFront (Text (Save part asked) text) a b c d)
  saved_front sim apart sound (Ok s) w = tt
  saved_front sim apart sound (Err error) (inl kept) = inl kept
  saved_front sim apart sound (Err error) (inr w) = inr (record {
    out = λ o has. w.out o (saved_from part asked text tree sim apart spells sound o (seen has));
    notes = λ o has. w.notes o (saved_from part asked text tree sim apart spells sound o (seen has));
  })

-- a run that goes on
module _ (stop : ℕ) (bytes : List ℕ) (a b c d : Option (List ℕ)) where
  pub resumed_all : (result : Result Status SinkErr) → WritesOf (HasResumeOutcome stop bytes) result a b c d
      → IfOk result (λ s. WritesOutcome (Text (Resume stop) bytes) s a b c d)
  resumed_all (Ok s) w = record { outcome = w.outcome; has = is_resumed w.has; answers = w.answers; out = w.out; notes = w.notes }
  resumed_all (Err error) w = tt

  pub resumed_front : (result : Result Status SinkErr) → WritesOf (HasResumeOutcome stop bytes) result a b c d
      → OnErr result (WritesNothingOrFront (Text (Resume stop) bytes) a b c d)
  resumed_front (Ok s) w = tt
  resumed_front (Err error) (inl kept) = inl kept
  resumed_front (Err error) (inr w) = inr (record { out = λ o has. w.out o (seen has); notes = λ o has. w.notes o (seen has) })

-- what holds for each text of a table
pub each_table_ok : {T E : Type 0} (result : Result T E) (table : TableOf) (P : List ℕ → T → Type 0) → ((text : List ℕ) → SpellsTable text table → IfOk result (P text))
    → IfOk result (λ s. (text : List ℕ) → SpellsTable text table → P text s)
each_table_ok (Ok x) table P all = all
each_table_ok (Err error) table P all = tt

pub each_table_err : {T E : Type 0} (result : Result T E) (table : TableOf) (P : List ℕ → Type 0) → ((text : List ℕ) → SpellsTable text table → OnErr result (P text))
    → OnErr result ((text : List ℕ) → SpellsTable text table → P text)
each_table_err (Ok x) table P all = tt
each_table_err (Err error) table P all = all

-- what holds for each text that spells a tree
pub each_ok : {T E : Type 0} (result : Result T E) (tree : PureTree) (P : List ℕ → T → Type 0) → ((text : List ℕ) → SpellsText text tree → IfOk result (P text))
    → IfOk result (λ s. (text : List ℕ) → SpellsText text tree → P text s)
each_ok (Ok x) tree P all = all
each_ok (Err error) tree P all = tt

pub each_err : {T E : Type 0} (result : Result T E) (tree : PureTree) (P : List ℕ → Type 0) → ((text : List ℕ) → SpellsText text tree → OnErr result (P text))
    → OnErr result ((text : List ℕ) → SpellsText text tree → P text)
each_err (Ok x) tree P all = tt
each_err (Err error) tree P all = all

pub ruleset text_lemmas = (append_assoc, append-nil)

-- an output and a note that were written make their outcome, and where they weren't all written, front parts of it
pub texts_all : (result : Result Status SinkErr) (r : Reading) (out notes : List ℕ) (a b c d : Option (List ℕ)) → HasOutcome r (record { status = Done; out = out; notes = notes })
    → IfOk result (λ s. s ≡ Done) → OnOk result (Appends a b out) → OnOk result (Appends c d notes) → IfOk result (λ s. WritesOutcome r s a b c d)
texts_all (Ok s) r out notes a b c d has is wrote noted = record {
  outcome = record { status = Done; out = out; notes = notes };
  has = has;
  answers = sym is;
  out = wrote;
  notes = noted;
}
texts_all (Err error) r out notes a b c d has is wrote noted = tt

pub texts_part : HasOneOutcome → (result : Result Status SinkErr) (r : Reading) (out notes : List ℕ) (a b c d : Option (List ℕ)) → HasOutcome r (record { status = Done; out = out; notes = notes })
    → OnErr result (AppendsFront a b out) → OnErr result (AppendsFront c d notes) → OnErr result (WritesNothingOrFront r a b c d)
texts_part law (Ok s) r out notes a b c d has wrote noted = tt
texts_part law (Err error) r out notes a b c d has wrote noted = front_each law r (record { status = Done; out = out; notes = notes }) a b c d has wrote noted

-- a check and its texts
module _ (result : Result Status SinkErr) (text : List ℕ) (tree : PureTree) (sim : Sim) (texts : Texts) (a b c d : Option (List ℕ)) (spells : SpellsText text tree) (sound : IsAccepted tree sim) where
  checks : IsCheckText tree sim texts → HasOutcome (Text Check text) (record { status = Done; out = texts.output.items; notes = texts.note.items })
  checks is = subst (λ (out : List ℕ). HasOutcome (Text Check text) (record { status = Done; out = out; notes = texts.note.items })) (sym is.output)
      (subst (λ (notes : List ℕ). HasOutcome (Text Check text) (record { status = Done; out = canon tree; notes = notes })) (sym is.note) (is_checked spells sound))

  plans : IsPlanText sim texts → HasOutcome (Text Plan text) (record { status = Done; out = texts.output.items; notes = texts.note.items })
  plans is = subst (λ (out : List ℕ). HasOutcome (Text Plan text) (record { status = Done; out = out; notes = texts.note.items })) (sym is.output)
      (subst (λ (notes : List ℕ). HasOutcome (Text Plan text) (record { status = Done; out = plans_text sim; notes = notes })) (sym is.note) (is_planned spells sound))

  pub check_all : IsCheckText tree sim texts → IfOk result (λ s. s ≡ Done) → OnOk result (Appends a b texts.output.items) → OnOk result (Appends c d texts.note.items)
      → IfOk result (λ s. WritesOutcome (Text Check text) s a b c d)
  check_all is = texts_all result (Text Check text) texts.output.items texts.note.items a b c d (checks is)

  pub check_part : HasOneOutcome → IsCheckText tree sim texts → OnErr result (AppendsFront a b texts.output.items) → OnErr result (AppendsFront c d texts.note.items)
      → OnErr result (WritesNothingOrFront (Text Check text) a b c d)
  check_part law is = texts_part law result (Text Check text) texts.output.items texts.note.items a b c d (checks is)

  pub plan_all : IsPlanText sim texts → IfOk result (λ s. s ≡ Done) → OnOk result (Appends a b texts.output.items) → OnOk result (Appends c d texts.note.items)
      → IfOk result (λ s. WritesOutcome (Text Plan text) s a b c d)
  plan_all is = texts_all result (Text Plan text) texts.output.items texts.note.items a b c d (plans is)

  pub plan_part : HasOneOutcome → IsPlanText sim texts → OnErr result (AppendsFront a b texts.output.items) → OnErr result (AppendsFront c d texts.note.items)
      → OnErr result (WritesNothingOrFront (Text Plan text) a b c d)
  plan_part law is = texts_part law result (Text Plan text) texts.output.items texts.note.items a b c d (plans is)

-- what is told of the run of `load`
pub measured_is : (size : ℕ) (tree : PureTree) (sim : Sim) (how : End) (table : List ℕ) (result : Result Measurement Memory) → IfOk result (λ m. m.status ≡ status_of how)
    → IfOk result (λ m. string_bytes m.line ≡ load_line size (turns_taken how) table) → (ahead : List (List Change))
    → HaveAnswers tree sim.flat sim.firsts.items ahead (load_end sim.flat.resolution) usual_turns
    → how ≡ run_end tree sim.flat sim.firsts.items ahead (load_end sim.flat.resolution) usual_turns
    → table ≡ trace_of Table tree sim.flat sim.firsts.items ahead (load_end sim.flat.resolution) usual_turns → IfOk result (IsMeasured tree sim size)
measured_is size tree sim how table (Ok m) status line ahead answers ended traced = record {
  ahead = ahead;
  answers = answers;
  status = sym (status ∙ ap status_of ended);
  line = line ∙ ap (λ (h : End). load_line size (turns_taken h) table) ended
      ∙ ap (load_line size (turns_taken (run_end tree sim.flat sim.firsts.items ahead (load_end sim.flat.resolution) usual_turns))) traced;
}
measured_is size tree sim how table (Err error) status line ahead answers ended traced = tt

-- its line that was written makes its outcome, and where it wasn't all written, a front part of it
module _ (text : List ℕ) (tree : PureTree) (sim : Sim) (seed size : ℕ) (m : Measurement) (a b c : Option (List ℕ)) (spells : SpellsText text tree) (sound : IsAccepted tree sim)
    (is : IsMeasured tree sim size m) where
  pub loaded_all : Appends a b (string_bytes m.line) → WritesOutcome (Text (Load seed size) text) m.status a b c c
  loaded_all wrote = record {
    outcome = loaded size tree sim is.ahead;
    has = is_loaded spells sound is.ahead is.answers;
    answers = is.status;
    out = subst (λ (t : List ℕ). Appends a b t) is.line wrote;
    notes = Appends-nil c;
  }

  pub loaded_part : HasOneOutcome → AppendsFront a b (string_bytes m.line) → WritesNothingOrFront (Text (Load seed size) text) a b c c
  loaded_part law wrote = front_each law (Text (Load seed size) text) (loaded size tree sim is.ahead) a b c c (is_loaded spells sound is.ahead is.answers)
      (subst (λ (t : List ℕ). AppendsFront a b t) is.line wrote) (front_none c [])

never : {T E : Type 0} (x : T) (e : E) → ◌≡◌ {A = Result T E} (Ok x) (Err e) → ⊥
never x e is = absurd cc

-- a choice of rows that are not too many
not_true : (b : Bool) → (b ≡ true → ⊥) → b ≡ false
not_true true not = absurd (not refl)
not_true false not = refl

pub sampled_has : {T E : Type 0} {x : T} {e : E} (choice : Choice) (text : List ℕ) (table rows : TableOf) → SpellsTable text table → rows ≡ chosen_table choice table
    → (is_too_fine choice table.rows ≡ true → ◌≡◌ {A = Result T E} (Ok x) (Err e))
    → HasOutcome (Text (Sample choice) text) (record { status = Done; out = table_text rows; notes = [] })
sampled_has {x = x} {e = e} choice text table rows spells is fine =
    subst (λ (t : TableOf). HasOutcome (Text (Sample choice) text) (record { status = Done; out = table_text t; notes = [] })) (sym is)
    (is_sampled spells (not_true (is_too_fine choice table.rows) (λ b. never x e (fine b))))
