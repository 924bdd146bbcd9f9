use Rattle.std.proofs.Common.{◌≡◌, ◌+◌}
use Rattle.tdf_events.specs.Delta.{settled}
use Rattle.tdf_events.specs.Kernel.{IsKernelOf, side_of}
use Rattle.tdf_events.specs.views.Parts.{kernel_of}
use Rattle.tdf_expr.specs.Checked.{IsCheckedOf}
use Rattle.tdf_lang_tree.specs.Pure.{PureTree}
use Rattle.tdf_events.proofs.turns.settle.Given as goal

abbrev pub invariant-loop-turns : goal.invariant-loop-turns
invariant-loop-turns l = record {
  kernel : IsKernelOf l.flat (kernel_of l.parts);
  turns : l.turns.left + l.turns.used ≡ l.initial.turns.left + l.initial.turns.used;
  settled : (model : PureTree) → IsCheckedOf model l.flat.checked → settled model l.flat l.time (side_of (kernel_of l.initial.parts)) l.initial.turns.left ≡ settled model l.flat l.time (side_of (kernel_of l.parts)) l.turns.left;
}

abbrev pub decreases-loop-turns : goal.decreases-loop-turns
decreases-loop-turns l = l.turns.left
