-- When words are taken.
use Rattle.std.proofs.Common.{refl, ℕ, true, false, List, None, ◌≡◌}
use Rattle.tdf_cli_words.specs.Command.{are_matched, given_of}
use Rattle.tdf_cli_words.specs.Jobs.{settings_given}
use Rattle.tdf_cli_words.specs.Words.{taken_of}

pub unmatched : (words : List (List ℕ)) → are_matched words ≡ false → taken_of words ≡ None
unfolding taken_of
unmatched words none = rw none refl

pub matched : (words : List (List ℕ)) → are_matched words ≡ true → taken_of words ≡ settings_given (given_of words)
unfolding taken_of
matched words is = rw is refl
