-- What came of the words and of reading the model.
-- Source: own.
use Rattle.std.specs.Prelude.{ℕ, ◌≡◌, ◌+◌, ◌≤◌, Bool, true, false, List, Option, Some, None, length}
use Rattle.std.specs.Io.KnownBytes.{Consumes, IsAtEnd}
use Rattle.tdf_base.specs.Limits.{longest_text}
use Rattle.tdf_cli.specs.declared.input.Input.{Input}
use Rattle.tdf_cli.specs.declared.input.Input.TheVariants as input
use Rattle.tdf_io.specs.Bytes.{GivesExactly, GivesAtMost}
use Rattle.tdf_cli_load.specs.Text.{load_text}
use Rattle.tdf_io.specs.Faults.{FaultsRose}
use Rattle.tdf_cli_words.specs.Jobs.{IsWithin}
use Rattle.tdf_cli_words.specs.Words.{taken_of}
use Rattle.tdf_cli_words.specs.declared.asked.Settings.{Settings}
use Rattle.tdf_cli_words.specs.declared.asked.Settings.TheVariants.{Drive, Load, Resume, Sample, Stats}
use Rattle.tdf_tables.specs.Tables.{longest_table}

pub data Reading : Type 0 where
  -- the words are not accepted, and nothing is read
  BadWords : Reading
  -- the text for what the words ask: all that was left, or one that was made
  Text : Settings → List ℕ → Reading
  -- a byte more than the job reads
  TooLong : Reading
  -- a read failed
  ReadFault : Reading
  -- out of memory while the words or the text were read
  NoMemory : Reading

abbrev pub reading : Input → Reading
reading input.BadWords = BadWords
reading (input.Text job text) = Text job text.items
reading input.TooLong = TooLong
reading input.ReadFault = ReadFault
reading input.NoMemory = NoMemory

-- bytes of the text of `drive` that is read
abbrev pub longest_stimulus : ℕ
longest_stimulus = 4194304

-- bytes of the longest text of a state
abbrev pub longest_state : ℕ
longest_state = 67108864

-- the most bytes that a job reads: those of a model, of a table, of both, or of a state
abbrev pub most_bytes : Settings → ℕ
most_bytes (Drive asked) = longest_stimulus
most_bytes (Resume stop) = longest_state
most_bytes (Sample choice) = longest_table
most_bytes (Stats window) = longest_table
most_bytes _ = longest_text

-- and of what the words ask for; where they aren't accepted nothing is read
abbrev pub bytes_for : Option Settings → ℕ
bytes_for None = 0
bytes_for (Some job) = most_bytes job

-- whether the text of a job is a model
abbrev pub is_model_job : Settings → Bool
is_model_job (Drive asked) = false
is_model_job (Resume stop) = false
is_model_job (Sample choice) = false
is_model_job (Stats window) = false
is_model_job _ = true

-- or a table
abbrev pub is_table_job : Settings → Bool
is_table_job (Sample choice) = true
is_table_job (Stats window) = true
is_table_job _ = false

-- whether a job reads its text; `load` makes one
abbrev pub reads_text : Settings → Bool
reads_text (Load seed size) = false
reads_text _ = true

-- the words ask for a job that reads its text
pub record AskToRead (words : List (List ℕ)) : Type 0 where
  pub job : Settings
  pub asked : taken_of words ≡ Some job
  pub reads : reads_text job ≡ true

-- where the text of a job comes from, by what the source had left before and has left after
abbrev pub ComesFrom : Settings → List ℕ → (old new : Option (List ℕ)) → Type 0
ComesFrom (Load seed size) text old new = (text ≡ load_text seed size) × (new ≡ old)
ComesFrom _ text old new = Consumes old new text × IsAtEnd new

-- how it comes to this: by the words, by what the source had left before and has left after, and by
-- its counts of faults
abbrev pub InputIs : List (List ℕ) → Reading → (old new : Option (List ℕ)) → (before now : ℕ)
    → Type 0
InputIs words BadWords old new before now = (taken_of words ≡ None) × (new ≡ old)
InputIs words (Text job text) old new before now =
    (taken_of words ≡ Some job) × (length text ≤ most_bytes job) × ComesFrom job text old new
InputIs words TooLong old new before now =
    (asks : AskToRead words) × GivesExactly old new (most_bytes asks.job + 1)
InputIs words ReadFault old new before now =
    (asks : AskToRead words) × GivesAtMost old new (most_bytes asks.job) × FaultsRose before now
InputIs words NoMemory old new before now = GivesAtMost old new (bytes_for (taken_of words))

-- a job within its limits for a text that isn't too long
abbrev pub IsReady : Reading → Type 0
IsReady (Text job text) = (length text ≤ most_bytes job) × IsWithin job
IsReady _ = Unit {0}
