-- The worked words, computed.
use Rattle.std.proofs.Common.{refl}
use Rattle.clap.proofs.OnLiterals.{clap_on_literals}
use Rattle.tdf_cli_words.specs.Command.{are_matched, command, text_of}
use Rattle.tdf_cli_words.specs.Worked.{AreRefused, AreShortRuns}

pub are_short_runs : AreShortRuns
unfolding command are_matched text_of clap_on_literals
are_short_runs = record {
  after = record { matched = refl; texts = refl };
  behind = record { matched = refl; texts = refl };
  before = record { matched = refl; texts = refl };
  ended = record { matched = refl; texts = refl };
  job_last = record { matched = refl; texts = refl };
}

pub are_refused : AreRefused
unfolding command are_matched text_of clap_on_literals
are_refused = record {
  twice = refl;
  two_jobs = refl;
  no_value = refl;
  shortened = refl;
  help = refl;
  short_help = refl;
}
