-- The flat model of a tree without a fault of lines can be planned.
use Rattle.tdf_dynamic_first.specs.Laws.{FlatIsPlannable}
use Rattle.tdf_bind.proofs.Api.{delays_are_short}
use Rattle.tdf_sim.specs.machine.Steps.{CanBePlanned}

pub can_be_planned : FlatIsPlannable → CanBePlanned
can_be_planned plannable tree flat kept sound is = plannable tree flat kept (delays_are_short tree sound.types) is
