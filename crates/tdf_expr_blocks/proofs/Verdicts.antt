-- A check that passes found no fault.
use Rattle.std.proofs.Common.{◌≡◌, List, [], Option, Some, None, OnOk, sym}
use Rattle.tdf_base.proofs.Api.{finds_first}
use Rattle.tdf_base.specs.First.{first_of, verdict_of}
use Rattle.tdf_base.specs.declared.first.LineFault.{LineFault}

pub passed : (faults : List LineFault) (found : Option LineFault) → found ≡ first_of faults → OnOk (verdict_of found) (faults ≡ [])
passed faults None is = finds_first.none faults (sym is)
passed faults (Some f) is = tt
