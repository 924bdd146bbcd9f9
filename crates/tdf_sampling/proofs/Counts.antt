-- How many rows pass a test from the front on: no more than there are.
use Rattle.std.proofs.lemmas.List.Sums.{prefix_len-le-length}

pub ruleset count_laws = (prefix_len-le-length)
