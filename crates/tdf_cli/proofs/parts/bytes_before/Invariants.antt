use Rattle.std.proofs.Common.{◌≡◌, ◌+◌, true, drop}
use Rattle.tdf_cli.specs.Parts.{bytes_before}
use Rattle.tdf_cli.proofs.parts.bytes_before.Given as goal

abbrev pub invariant-loop-at : goal.invariant-loop-at
invariant-loop-at l = bytes_before true l.text ≡ l.at + bytes_before l.begins (drop l.at l.text)
