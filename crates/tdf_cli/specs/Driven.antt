-- The outcome of `drive`, for a model and a table.
-- Source: own.
use Rattle.std.specs.List.{flat_map}
use Rattle.std.specs.Prelude.{ℕ, ◌≡◌, ◌++◌, true, false, List, Some, None, codes}
use Rattle.tdf_base.specs.declared.faults.Fault.{Fault}
use Rattle.tdf_cli.specs.Runs.{HasRunOutcome, Outcome, note, refused}
use Rattle.tdf_cli.specs.Tables.{digits_refusal, stimulus_refusal, table_refusal, time_refusal}
use Rattle.tdf_cli.specs.declared.status.Status.TheVariants as status
use Rattle.tdf_cli_words.specs.declared.asked.RunOptions.{RunOptions}
use Rattle.tdf_lang_parser.specs.Refused.{SpellsText}
use Rattle.tdf_lang_tree.specs.Pure.{PureTree}
use Rattle.tdf_sim.specs.FirstFault.{HasFlat, IsEarlyTextFault, IsTreeFault}
use Rattle.tdf_stim.specs.Drivable.{IsDrivable, has_too_many, long_line, off_line}
use Rattle.tdf_stim.specs.Driven.{driven_tree}
use Rattle.tdf_stim.specs.Signals.{ignored_labels}
use Rattle.tdf_tables.specs.Faults.{HasTableFault}
use Rattle.tdf_tables.specs.Tables.{SpellsTable, TableOf}

-- `ignored LABEL`, for a column that drives no signal
abbrev pub ignored_line : (label : List ℕ) → List ℕ
ignored_line label = codes "ignored " ++ (label ++ codes "\n")

unfoldable pub ignored_text : (labels : List (List ℕ)) → List ℕ
ignored_text labels = flat_map ignored_line labels

-- an outcome with lines before its notes
abbrev pub behind : (lines : List ℕ) → Outcome → Outcome
behind lines outcome =
    record { status = outcome.status; out = outcome.out; notes = lines ++ outcome.notes }

-- a model without a fault before its clusters are planned, and a table
pub record AreParts (model bytes : List ℕ) (tree : PureTree) (t : TableOf) : Type 0 where
  pub spells : SpellsText model tree
  pub flat : HasFlat tree
  pub table : SpellsTable bytes t

-- what comes of a model and a table, case by case, in the order in which they are looked at
pub data HasDrivenOutcome (asked : RunOptions) (model bytes : List ℕ)
    : Outcome → Type 0 where
  early : {fault : Fault} → IsEarlyTextFault model fault
      → HasDrivenOutcome asked model bytes (refused fault)
  no_stimulus : {tree : PureTree} {line : ℕ} → SpellsText model tree → HasFlat tree
      → HasTableFault bytes line
      → HasDrivenOutcome asked model bytes (note status.Refused (table_refusal line))
  too_many : {tree : PureTree} {t : TableOf} → AreParts model bytes tree t
      → has_too_many tree t ≡ true
      → HasDrivenOutcome asked model bytes (note status.Refused stimulus_refusal)
  long_cell : {tree : PureTree} {t : TableOf} {line : ℕ} → AreParts model bytes tree t
      → has_too_many tree t ≡ false → long_line tree t ≡ Some line
      → HasDrivenOutcome asked model bytes (note status.Refused (digits_refusal line))
  off_time : {tree : PureTree} {t : TableOf} {line : ℕ} → AreParts model bytes tree t
      → has_too_many tree t ≡ false → long_line tree t ≡ None → off_line tree t ≡ Some line
      → HasDrivenOutcome asked model bytes (note status.Refused (time_refusal line))
  driven_faulty : {tree : PureTree} {t : TableOf} {fault : Fault} → AreParts model bytes tree t
      → IsDrivable tree t → IsTreeFault (driven_tree tree t) fault
      → HasDrivenOutcome asked model bytes (refused fault)
  driven_run : {tree : PureTree} {t : TableOf} {outcome : Outcome} → AreParts model bytes tree t
      → IsDrivable tree t → HasRunOutcome asked (driven_tree tree t) outcome
      → HasDrivenOutcome asked model bytes
      (behind (ignored_text (ignored_labels tree t)) outcome)

-- a model and a table have at most one such outcome
abbrev pub HasOneDrivenOutcome : Type 0
HasOneDrivenOutcome = (asked : RunOptions) (model bytes : List ℕ)
    (one other : Outcome) → HasDrivenOutcome asked model bytes one
    → HasDrivenOutcome asked model bytes other → one ≡ other
