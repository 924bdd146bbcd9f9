-- What is left of the outcome of `drive` at each of its stages: of a run behind some lines, of a
-- driven tree, of a tree and a table, of a tree and the text of a table.
use Rattle.std.specs.Prelude.{◌≡◌, ◌⊎◌, ℕ, Bool, true, false, List, Option, Some, None, Result, Ok, Err}
use Rattle.tdf_base.specs.declared.faults.Fault.{Fault}
use Rattle.tdf_cli.specs.Driven.{behind, ignored_text}
use Rattle.tdf_cli.specs.Outcome.{WritesNothingOrFrontOf, WritesOneOf}
use Rattle.tdf_cli.specs.Runs.{HasRunOutcome, Outcome, note, refused}
use Rattle.tdf_cli.specs.Tables.{digits_refusal, stimulus_refusal, table_refusal, time_refusal}
use Rattle.tdf_cli.specs.declared.status.Status.{Status}
use Rattle.tdf_cli.specs.declared.status.Status.TheVariants as status
use Rattle.tdf_cli_words.specs.declared.asked.RunOptions.{RunOptions}
use Rattle.tdf_io.specs.declared.writing.SinkErr.{SinkErr}
use Rattle.tdf_lang_tree.specs.Pure.{PureTree}
use Rattle.tdf_sim.specs.FirstFault.{IsTreeFault}
use Rattle.tdf_stim.specs.Drivable.{IsDrivable, has_too_many, long_line, off_line}
use Rattle.tdf_stim.specs.Driven.{driven_tree}
use Rattle.tdf_stim.specs.Signals.{ignored_labels}
use Rattle.tdf_tables.specs.Faults.{HasTableFault}
use Rattle.tdf_tables.specs.Tables.{SpellsTable, TableOf}

-- what was written is that of one of these outcomes, where there is an answer; else nothing, or
-- front parts of the texts of each
abbrev pub WritesOf : (Has : Outcome → Type 0) → Result Status SinkErr
    → (out_old out_new notes_old notes_new : Option (List ℕ)) → Type 0
WritesOf Has (Ok s) a b c d = WritesOneOf Has s a b c d
WritesOf Has (Err error) a b c d = WritesNothingOrFrontOf Has a b c d

abbrev pub HasRunBehind : (lines : List ℕ) → RunOptions → PureTree → Outcome → Type 0
HasRunBehind lines asked tree o =
    (run : Outcome) × HasRunOutcome asked tree run × (o ≡ behind lines run)

abbrev pub HasTreeOutcome : (lines : List ℕ) → RunOptions → PureTree → Outcome → Type 0
HasTreeOutcome lines asked tree o =
    ((fault : Fault) × IsTreeFault tree fault × (o ≡ refused fault))
    ⊎ HasRunBehind lines asked tree o

-- of a table that was looked at: its size, its cells and its times
abbrev pub HasLookedAt : (many : Bool) → (long off : Option ℕ) → (Has : Outcome → Type 0)
    → Outcome → Type 0
HasLookedAt true long off Has o = o ≡ note status.Refused stimulus_refusal
HasLookedAt false (Some line) off Has o = o ≡ note status.Refused (digits_refusal line)
HasLookedAt false None (Some line) Has o = o ≡ note status.Refused (time_refusal line)
HasLookedAt false None None Has o = Has o

abbrev pub HasDrivenTree : RunOptions → PureTree → TableOf → Outcome → Type 0
HasDrivenTree asked tree t o = IsDrivable tree t
    × HasTreeOutcome (ignored_text (ignored_labels tree t)) asked (driven_tree tree t) o

abbrev pub HasPartsOutcome : RunOptions → PureTree → TableOf → Outcome → Type 0
HasPartsOutcome asked tree t o =
    HasLookedAt (has_too_many tree t) (long_line tree t) (off_line tree t)
    (HasDrivenTree asked tree t) o

abbrev pub HasTextOutcome : RunOptions → PureTree → (bytes : List ℕ) → Outcome → Type 0
HasTextOutcome asked tree bytes o =
    ((line : ℕ) × HasTableFault bytes line × (o ≡ note status.Refused (table_refusal line)))
    ⊎ ((t : TableOf) × SpellsTable bytes t × HasPartsOutcome asked tree t o)
