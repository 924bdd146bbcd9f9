use Rattle.tdf_dynamic.specs.declared.frames.ModuleFrame.{ModuleFrame}
use Rattle.tdf_dynamic.specs.machine.Rows.{HoldsBelow, IsRefusing}
use Rattle.tdf_dynamic_plans.specs.Attributes.{AttrsOf}
use Rattle.tdf_dynamic_plans.specs.Rates.{net_ports}
use Rattle.tdf_dynamic.proofs.rejecting.first_by.Given as goal

abbrev pub invariant-loop-i : goal.invariant-loop-i
invariant-loop-i l = HoldsBelow (λ (attrs : AttrsOf) (f : ModuleFrame). IsRefusing (net_ports l.flat.tables l.before.table.now) (net_ports l.flat.tables l.after.table.now) l.before.steps.now l.after.steps.now attrs f → ⊥) l.table l.frames l.i
