use Rattle.std.proofs.Common.{◌≡◌, drop}
use Rattle.tdf_dynamic_plans.specs.Attributes.{attrs_at}
use Rattle.tdf_dynamic_plans.proofs.rates.rate_in.Given as goal

abbrev pub invariant-loop-i : goal.invariant-loop-i
invariant-loop-i l = attrs_at l.table l.port.«module» ≡ attrs_at (drop l.i l.table) l.port.«module»
