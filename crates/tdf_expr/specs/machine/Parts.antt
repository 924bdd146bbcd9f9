-- How a body's code runs (own): one that a block doesn't have does nothing.
use Rattle.std.specs.Prelude.{[], Option, Some, None}
use Rattle.tdf_expr_machine.specs.Acts.{acted, IsSafeAct}
use Rattle.tdf_expr_machine.specs.declared.acts.Act.{Act}
use Rattle.tdf_expr_state.specs.State.{State}

abbrev pub IsSafePart : Option Act → State → Type 0
IsSafePart None s = Unit {0}
IsSafePart (Some act) s = IsSafeAct act [] s

abbrev pub part_done : Option Act → State → State
part_done None s = s
part_done (Some act) s = acted act [] s
