-- Truth numbers.
use Rattle.std.proofs.Common.{◌≡◌, Bool, true, false, refl}
use Rattle.tdf_expr_machine.specs.Nodes.{is_true, truth_number}

pub holds_truth : (so : Bool) → is_true (truth_number so) ≡ so
holds_truth true = refl
holds_truth false = refl
