use Rattle.tdf_exec.proofs.Own.{room_is_own}
use Rattle.tdf_exec.proofs.laws.law_own.Goals as goal

pub returns : goal.returns
returns c = room_is_own c.law_present.ensures.present
