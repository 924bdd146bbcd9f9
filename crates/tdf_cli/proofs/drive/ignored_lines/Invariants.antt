use Rattle.std.proofs.Common.{◌≡◌, take}
use Rattle.tdf_cli.specs.Driven.{ignored_text}
use Rattle.tdf_cli.proofs.drive.ignored_lines.Given as goal

abbrev pub invariant-loop-label : goal.invariant-loop-label
invariant-loop-label l = l.text.items ≡ ignored_text (take l.label-index l.labels)
