-- The command, and the texts that words give its arguments.
-- Source: own; which words a simple command takes, and what they give, is the function of the
-- kit's crate `clap` (`fault_of`, `matches_of`), which follows clap_builder 4.6.7.
use Rattle.std.specs.Prelude.{ℕ, Bool, true, List, Option, Some, codes}
use Rattle.clap.specs.Faults.{fault_of}
use Rattle.clap.specs.Simple.{App, matches_of, new_app, new_rule, with_rule}
use Rattle.clap.specs.Walk.{Rule, first_of, is_empty}

-- an option with one value
abbrev pub option : List ℕ → Rule
option name = record (new_rule name) { long = Some name }

-- the program's own name is none of the words
abbrev pub without_name : App → App
without_name command = record command { top = record command.top { no_binary_name = true } }

-- `tdf JOB --stop TIME --format FORMAT --turns N --part PART --seed N --size N --every TIME
-- --nth N`
unfoldable pub command : App
command = with_rule (with_rule (with_rule (with_rule (with_rule (with_rule (with_rule (with_rule
    (with_rule (without_name (new_app (codes "tdf"))) (new_rule (codes "JOB")))
    (option (codes "stop"))) (option (codes "format"))) (option (codes "turns")))
    (option (codes "part"))) (option (codes "seed"))) (option (codes "size")))
    (option (codes "every"))) (option (codes "nth"))

-- the words meet none of the faults of the command; asking for help is one of them
unfoldable pub are_matched : List (List ℕ) → Bool
are_matched words = is_empty (fault_of command words)

-- the text that matched words give an argument, if any
unfoldable pub text_of : List ℕ → List (List ℕ) → Option (List ℕ)
text_of name words = first_of name (matches_of command words)

-- the texts of all arguments
pub record Given : Type 0 where
  pub job : Option (List ℕ)
  pub stop : Option (List ℕ)
  pub format : Option (List ℕ)
  pub turns : Option (List ℕ)
  pub part : Option (List ℕ)
  pub seed : Option (List ℕ)
  pub size : Option (List ℕ)
  pub every : Option (List ℕ)
  pub nth : Option (List ℕ)

abbrev pub given_of : List (List ℕ) → Given
given_of words = record {
  job = text_of (codes "JOB") words;
  stop = text_of (codes "stop") words;
  format = text_of (codes "format") words;
  turns = text_of (codes "turns") words;
  part = text_of (codes "part") words;
  seed = text_of (codes "seed") words;
  size = text_of (codes "size") words;
  every = text_of (codes "every") words;
  nth = text_of (codes "nth") words;
}
