-- The outcome of the command, by what came of its words and of reading.
-- Source: own.
use Rattle.std.specs.Fmt.{decimal}
use Rattle.std.specs.List.{count_by}
use Rattle.std.specs.Prelude.{ℕ, ◌≡◌, ◌⊎◌, ◌<◌, ◌≤◌, ◌-◌, ◌++◌, true, false, List, [], Option, codes, length, nat_eq}
use Rattle.std.specs.Io.KnownBytes.{Appends, Keeps}
use Rattle.tdf_base.specs.Limits.{longest_text}
use Rattle.tdf_base.specs.declared.faults.Fault.{Fault}
use Rattle.tdf_base.specs.declared.resolution.Resolution.{Resolution}
use Rattle.tdf_base.specs.declared.resolution.Resolution.TheVariants.{Ps, Fs}
use Rattle.tdf_lang_parser.specs.Refused.{SpellsText}
use Rattle.tdf_cli.specs.Driven.{HasDrivenOutcome}
use Rattle.tdf_cli.specs.Input.{Reading, BadWords, Text, TooLong, ReadFault, NoMemory, is_model_job, is_table_job}
use Rattle.tdf_cli.specs.Parts.{model_part, table_part}
use Rattle.tdf_cli.specs.Resumed.{HasResumeOutcome}
use Rattle.tdf_cli.specs.Runs.{HasRunOutcome, Outcome, note, refused, status_of}
use Rattle.tdf_cli.specs.Saving.{HasSaveOutcome}
use Rattle.tdf_cli.specs.Tables.{grid_refusal, table_refusal}
use Rattle.tdf_sampling.specs.Choice.{chosen_table, is_too_fine}
use Rattle.tdf_sampling.specs.Statistics.{stats_text}
use Rattle.tdf_sampling.specs.declared.asked.Choice.{Choice}
use Rattle.tdf_tables.specs.Faults.{HasTableFault}
use Rattle.tdf_tables.specs.Tables.{SpellsTable, TableOf, table_text}
use Rattle.tdf_cli.specs.declared.status.Status.{Status}
use Rattle.tdf_cli.specs.declared.status.Status.TheVariants as status
use Rattle.tdf_io.specs.Bytes.{AppendsFront}
use Rattle.tdf_sim.specs.Ends.{Change, End, HaveAnswers, run_end, trace_of}
use Rattle.tdf_dynamic_texts.specs.Plans.{accepted_line}
use Rattle.tdf_lang_printer.specs.Canon.{canon}
use Rattle.tdf_sim.specs.Ends as ending
use Rattle.tdf_sim.specs.Accepted.{IsAccepted}
use Rattle.tdf_sim.specs.declared.sim.Sim.{Sim}
use Rattle.tdf_sim.specs.FirstFault.{cluster_count, IsFirstFault}
use Rattle.tdf_sim.specs.PlanText.{plans_text}
use Rattle.tdf_lang_tree.specs.Pure.{PureTree}
use Rattle.tdf_cli_words.specs.Jobs.{usual_turns}
use Rattle.tdf_cli_words.specs.declared.asked.RunOptions.{RunOptions}
use Rattle.tdf_cli_words.specs.declared.asked.SavePart.{SavePart}
use Rattle.tdf_cli_words.specs.declared.asked.Settings.{Settings}
use Rattle.tdf_cli_words.specs.declared.asked.Settings.TheVariants.{Run, Drive, Save, Resume, Check, Plan, Load, Sample, Stats}
use Rattle.tdf_trace_rows.specs.declared.kinds.TraceKind.TheVariants.{Table}

-- the note of a model that was accepted: the number of its clusters
abbrev pub accepted_text : Sim → List ℕ
accepted_text sim = accepted_line (cluster_count sim.flat.tables)

-- the canonical text of a model
abbrev pub checked : PureTree → Sim → Outcome
checked tree sim =
    record { status = status.Done; out = canon tree; notes = accepted_text sim }

-- the plans of a model
abbrev pub planned : Sim → Outcome
planned sim =
    record { status = status.Done; out = plans_text sim; notes = accepted_text sim }

-- where the run of `load` ends: at 100 us, in counts of a resolution
abbrev pub load_end : Resolution → ℕ
load_end Ps = 100000000
load_end Fs = 100000000000

-- the turns that such a run took
abbrev pub turns_taken : End → ℕ
turns_taken (ending.Reached time turns) = turns
turns_taken (ending.Stopped time cluster fault) = usual_turns
turns_taken (ending.Spent time) = usual_turns

-- the rows of a table below its head
abbrev pub rows_below : List ℕ → ℕ
rows_below table = count_by (λ byte. nat_eq byte 10) table - 1

-- `load size N turns T rows R bytes B`
unfoldable pub load_line : (size turns : ℕ) → (table : List ℕ) → List ℕ
load_line size turns table = codes "load size " ++ decimal size ++ codes " turns " ++ decimal turns
    ++ codes " rows " ++ decimal (rows_below table) ++ codes " bytes " ++ decimal (length table)
    ++ codes "\n"

-- a line on a run with a table that isn't written
abbrev pub loaded : (size : ℕ) → PureTree → Sim → (ahead : List (List Change)) → Outcome
loaded size tree sim ahead = record {
  status = status_of (run_end tree sim.flat sim.firsts.items ahead (load_end sim.flat.resolution)
      usual_turns);
  out = load_line size (turns_taken (run_end tree sim.flat sim.firsts.items ahead
      (load_end sim.flat.resolution) usual_turns)) (trace_of Table tree sim.flat sim.firsts.items
      ahead (load_end sim.flat.resolution) usual_turns);
  notes = [];
}

-- the rows of a choice, as a table
abbrev pub sampled : Choice → TableOf → Outcome
sampled choice table =
    record { status = status.Done; out = table_text (chosen_table choice table); notes = [] }

-- the statistics of a table, or of its windows
abbrev pub measured : (window : Option ℕ) → TableOf → Outcome
measured window table =
    record { status = status.Done; out = stats_text table window; notes = [] }

-- what comes of a reading has this outcome, case by case; being out of memory has none
pub data HasOutcome : Reading → Outcome → Type 0 where
  usage : HasOutcome BadWords (note status.Usage (codes "usage\n"))
  read_fault : HasOutcome ReadFault (note status.ReadFault (codes "read fault\n"))
  too_long : HasOutcome TooLong (note status.TooLong (codes "too long\n"))
  faulty : {job : Settings} {text : List ℕ} {fault : Fault} → is_model_job job ≡ true
      → IsFirstFault text fault → HasOutcome (Text job text) (refused fault)
  is_run : {asked : RunOptions} {text : List ℕ} {tree : PureTree}
      {outcome : Outcome} → SpellsText text tree → HasRunOutcome asked tree outcome
      → HasOutcome (Text (Run asked) text) outcome
  too_long_model : {asked : RunOptions} {text : List ℕ}
      → longest_text < length (model_part text)
      → HasOutcome (Text (Drive asked) text) (note status.TooLong (codes "too long\n"))
  is_driven : {asked : RunOptions} {text : List ℕ} {outcome : Outcome}
      → length (model_part text) ≤ longest_text
      → HasDrivenOutcome asked (model_part text) (table_part text) outcome
      → HasOutcome (Text (Drive asked) text) outcome
  is_saved : {part : SavePart} {asked : RunOptions} {text : List ℕ} {tree : PureTree}
      {outcome : Outcome} → SpellsText text tree → HasSaveOutcome part asked tree text outcome
      → HasOutcome (Text (Save part asked) text) outcome
  is_resumed : {stop : ℕ} {bytes : List ℕ} {outcome : Outcome}
      → HasResumeOutcome stop bytes outcome → HasOutcome (Text (Resume stop) bytes) outcome
  is_checked : {text : List ℕ} {tree : PureTree} {sim : Sim} → SpellsText text tree
      → IsAccepted tree sim → HasOutcome (Text Check text) (checked tree sim)
  is_planned : {text : List ℕ} {tree : PureTree} {sim : Sim} → SpellsText text tree
      → IsAccepted tree sim → HasOutcome (Text Plan text) (planned sim)
  is_loaded : {seed size : ℕ} {text : List ℕ} {tree : PureTree} {sim : Sim}
      → SpellsText text tree → IsAccepted tree sim → (ahead : List (List Change))
      → HaveAnswers tree sim.flat sim.firsts.items ahead (load_end sim.flat.resolution) usual_turns
      → HasOutcome (Text (Load seed size) text) (loaded size tree sim ahead)
  no_table : {job : Settings} {text : List ℕ} {line : ℕ} → is_table_job job ≡ true
      → HasTableFault text line
      → HasOutcome (Text job text) (note status.Refused (table_refusal line))
  too_fine : {choice : Choice} {text : List ℕ} {table : TableOf} → SpellsTable text table
      → is_too_fine choice table.rows ≡ true
      → HasOutcome (Text (Sample choice) text) (note status.Refused grid_refusal)
  is_sampled : {choice : Choice} {text : List ℕ} {table : TableOf} → SpellsTable text table
      → is_too_fine choice table.rows ≡ false
      → HasOutcome (Text (Sample choice) text) (sampled choice table)
  is_measured : {window : Option ℕ} {text : List ℕ} {table : TableOf} → SpellsTable text table
      → HasOutcome (Text (Stats window) text) (measured window table)

-- the answer and the bytes that both sinks gained are those of one of these outcomes
pub record WritesOneOf (Has : Outcome → Type 0) (answer : Status)
    (out_old out_new notes_old notes_new : Option (List ℕ)) : Type 0 where
  pub outcome : Outcome
  pub has : Has outcome
  pub answers : outcome.status ≡ answer
  pub out : Appends out_old out_new outcome.out
  pub notes : Appends notes_old notes_new outcome.notes

-- both sinks gained front parts of the texts of each of these outcomes
pub record WritesFrontOf (Has : Outcome → Type 0)
    (out_old out_new notes_old notes_new : Option (List ℕ)) : Type 0 where
  pub out : (outcome : Outcome) → Has outcome → AppendsFront out_old out_new outcome.out
  pub notes : (outcome : Outcome) → Has outcome → AppendsFront notes_old notes_new outcome.notes

-- nothing was written, or both sinks gained front parts of the texts of each of these outcomes
abbrev pub WritesNothingOrFrontOf : (Has : Outcome → Type 0)
    → (out_old out_new notes_old notes_new : Option (List ℕ)) → Type 0
WritesNothingOrFrontOf Has a b c d = (Keeps a b × Keeps c d) ⊎ WritesFrontOf Has a b c d

-- of what comes of a reading
abbrev pub WritesOutcome : Reading → (answer : Status)
    → (out_old out_new notes_old notes_new : Option (List ℕ)) → Type 0
WritesOutcome r answer a b c d = WritesOneOf (HasOutcome r) answer a b c d

-- out of memory while the text was read: nothing was written
abbrev pub WritesNothingOrFront : Reading
    → (out_old out_new notes_old notes_new : Option (List ℕ)) → Type 0
WritesNothingOrFront NoMemory a b c d = Keeps a b × Keeps c d
WritesNothingOrFront r a b c d = WritesNothingOrFrontOf (HasOutcome r) a b c d

-- what comes of a reading has at most one outcome
abbrev pub HasOneOutcome : Type 0
HasOneOutcome = (r : Reading) (one other : Outcome)
    → HasOutcome r one → HasOutcome r other → one ≡ other
