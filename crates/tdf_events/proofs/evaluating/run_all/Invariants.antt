use Rattle.std.proofs.Common.{◌≡◌}
use Rattle.tdf_events_queue.specs.Evaluation.{ran_first}
use Rattle.tdf_events.specs.Kernel.{IsKernelOf, side_of}
use Rattle.tdf_events.specs.Processes.{ran}
use Rattle.tdf_events.specs.views.Parts.{kernel_of}
use Rattle.tdf_expr.specs.Checked.{IsCheckedOf}
use Rattle.tdf_lang_tree.specs.Pure.{PureTree}
use Rattle.tdf_events.proofs.evaluating.run_all.Given as goal

abbrev pub invariant-loop-i : goal.invariant-loop-i
invariant-loop-i l = record {
  kernel : IsKernelOf l.flat (kernel_of l.parts);
  triggered : l.parts.triggered ≡ l.initial.parts.triggered;
  ran : (model : PureTree) → IsCheckedOf model l.flat.checked → side_of (kernel_of l.parts) ≡ ran_first (ran model l.flat l.time) l.initial.parts.triggered.members l.i (side_of (kernel_of l.initial.parts));
}
