use Rattle.std.proofs.Common.{◌≡◌, true}
use Rattle.tdf_dynamic.specs.declared.frames.ModuleFrame.{ModuleFrame}
use Rattle.tdf_dynamic.specs.machine.Rows.{HoldsBelow}
use Rattle.tdf_dynamic_plans.specs.Attributes.{AttrsOf}
use Rattle.tdf_dynamic.proofs.tables.first_marked.Given as goal

abbrev pub invariant-loop-i : goal.invariant-loop-i
invariant-loop-i l = HoldsBelow (λ (attrs : AttrsOf) (f : ModuleFrame). f.ports.state.out_of_range ≡ true → ⊥) l.table l.frames l.i
