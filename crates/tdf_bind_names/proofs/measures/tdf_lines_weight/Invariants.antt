-- The sum of the lines so far.
use Rattle.std.proofs.Common.{◌≡◌, take}
use Rattle.std.specs.List.{sum_by}
use Rattle.std.specs.Prelude.{map}
use Rattle.tdf_bind_names.proofs.measures.tdf_lines_weight.Given as goal
use Rattle.tdf_bind_names.specs.Counts.{tdf_line_weight}
use Rattle.tdf_bind_names.specs.machine.Counts.{capped}
use Rattle.tdf_lang_tree.specs.Views.{pure_tdf_line}

abbrev pub invariant-loop-line : goal.invariant-loop-line
invariant-loop-line l = l.total ≡ capped (sum_by (tdf_line_weight l.measure) (map pure_tdf_line (take l.line-index l.line-items)))
