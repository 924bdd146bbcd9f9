-- The sum of the lines so far.
use Rattle.std.proofs.Common.{◌≡◌, take}
use Rattle.std.specs.List.{sum_by}
use Rattle.std.specs.Prelude.{map}
use Rattle.tdf_bind_names.proofs.measures.de_lines_weight.Given as goal
use Rattle.tdf_bind_names.specs.Counts.{de_line_weight}
use Rattle.tdf_bind_names.specs.machine.Counts.{capped}
use Rattle.tdf_lang_tree.specs.Views.{pure_de_line}

abbrev pub invariant-loop-line : goal.invariant-loop-line
invariant-loop-line l = l.total ≡ capped (sum_by (de_line_weight l.measure) (map pure_de_line (take l.line-index l.line-items)))
