use Rattle.std.proofs.Common.{◌≡◌, drop}
use Rattle.std.specs.Prelude.{map}
use Rattle.tdf_base.specs.First.{least_with}
use Rattle.tdf_expr_names.specs.Names.{in_order, trace_faults, names_of_trace}
use Rattle.tdf_lang_tree.specs.Views.{pure_trace}
use Rattle.tdf_expr_names.proofs.model.check_traces.Given as goal

abbrev pub invariant-loop-trace : goal.invariant-loop-trace
invariant-loop-trace l = least_with l.first (in_order trace_faults names_of_trace l.labels (map pure_trace (drop l.trace-index l.trace-items)))
    ≡ least_with l.initial.first (in_order trace_faults names_of_trace l.initial.labels (map pure_trace l.trace-items))
