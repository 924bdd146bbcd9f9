-- std decides the equality of bytes.
use Rattle.std.specs.Cmp.Lexicographic.{bytes_decides}
use Rattle.tdf_base.proofs.laws.law_names.Goals as goal

pub returns : goal.returns
returns c = bytes_decides
