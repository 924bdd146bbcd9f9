-- Texts that are put together word by word.
use Rattle.std.proofs.Common.{append_assoc, append-nil}

pub ruleset text_laws = (append_assoc, append-nil)
