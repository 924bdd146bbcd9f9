-- The words of the command, and what they ask for.
-- Source: own.
use Rattle.std.specs.Prelude.{ℕ, List, map, String, string_bytes, if◌then◌else◌, Option, None}
use Rattle.std.specs.declared.alloc.Global.{Global}
use Rattle.tdf_cli_words.specs.Command.{are_matched, given_of}
use Rattle.tdf_cli_words.specs.Jobs.{settings_given}
use Rattle.tdf_cli_words.specs.declared.asked.Settings.{Settings}

-- the bytes of each word
abbrev pub texts_of : List (String Global) → List (List ℕ)
texts_of words = map string_bytes words

-- what the words ask for, if they are taken: words of the command, for a job with its options
unfoldable pub taken_of : List (List ℕ) → Option Settings
taken_of words = if are_matched words then settings_given (given_of words) else None
