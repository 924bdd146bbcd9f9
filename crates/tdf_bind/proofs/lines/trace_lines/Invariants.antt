use Rattle.std.proofs.Common.{◌≡◌, ◌++◌, map, drop}
use Rattle.tdf_bind.proofs.lines.trace_lines.Given as goal
use Rattle.tdf_bind.specs.Flat.{trace_line}
use Rattle.tdf_lang_tree.specs.Views.{pure_trace}

abbrev pub invariant-loop-trace : goal.invariant-loop-trace
invariant-loop-trace l = l.lines.items ++ map trace_line (map pure_trace (drop l.trace-index l.trace-items)) ≡ map trace_line (map pure_trace l.trace-items)
