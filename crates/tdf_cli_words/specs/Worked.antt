-- What some words give the command.
-- Source: own.
use Rattle.std.specs.Prelude.{◌≡◌, ℕ, true, false, List, [], ◌∷◌, Some, None, codes}
use Rattle.tdf_cli_words.specs.Command.{Given, are_matched, given_of}

-- the job `run` with a stop, and nothing else
abbrev pub short_run : Given
short_run = record {
  job = Some (codes "run");
  stop = Some (codes "3us");
  format = None;
  turns = None;
  part = None;
  seed = None;
  size = None;
  every = None;
  nth = None;
}

pub record GivesWords (words : List (List ℕ)) (given : Given) : Type 0 where
  pub matched : are_matched words ≡ true
  pub texts : given_of words ≡ given

abbrev pub IsRefused : List (List ℕ) → Type 0
IsRefused words = are_matched words ≡ false

-- an option stands before or after the job, its value beside it or behind `=`; `--` ends options
pub record AreShortRuns : Type 0 where
  pub after : GivesWords (codes "run" ∷ (codes "--stop" ∷ (codes "3us" ∷ []))) short_run
  pub behind : GivesWords (codes "run" ∷ (codes "--stop=3us" ∷ [])) short_run
  pub before : GivesWords (codes "--stop" ∷ (codes "3us" ∷ (codes "run" ∷ []))) short_run
  pub ended : GivesWords (codes "run" ∷ (codes "--stop" ∷ (codes "3us" ∷ (codes "--" ∷ []))))
      short_run
  pub job_last : GivesWords (codes "--stop" ∷ (codes "3us" ∷ (codes "--" ∷ (codes "run" ∷ []))))
      short_run

-- an option twice, a second job, an option without its value, a shortened option, help
pub record AreRefused : Type 0 where
  pub twice : IsRefused (codes "run" ∷ (codes "--stop=3us" ∷ (codes "--stop=3us" ∷ [])))
  pub two_jobs : IsRefused (codes "run" ∷ (codes "check" ∷ []))
  pub no_value : IsRefused (codes "run" ∷ (codes "--stop" ∷ []))
  pub shortened : IsRefused (codes "run" ∷ (codes "--sto=3us" ∷ []))
  pub help : IsRefused (codes "--help" ∷ [])
  pub short_help : IsRefused (codes "-h" ∷ [])
