-- Parts of a snapshot's text.
use Rattle.std.proofs.Common.{append_assoc, append-nil, map}
use Rattle.std.proofs.lemmas.List.{take-append-le}

pub ruleset part_laws = (take-append-le, append_assoc, append-nil)
