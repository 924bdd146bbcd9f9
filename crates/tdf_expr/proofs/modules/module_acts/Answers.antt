use Rattle.tdf_expr.proofs.modules.module_acts.Goals as goal
use Rattle.tdf_expr.specs.declared.bodies.Body.TheVariants as body

pub compile_body-requires-clause-none : goal.compile_body-requires-clause-none
compile_body-requires-clause-none c = c.requires.faultless body.Initialize

pub compile_body-requires-clause-nested : goal.compile_body-requires-clause-nested
compile_body-requires-clause-nested c = c.requires.nested body.Initialize

pub compile_body-requires-2-clause-none : goal.compile_body-requires-2-clause-none
compile_body-requires-2-clause-none c = c.requires.faultless body.Processing

pub compile_body-requires-2-clause-nested : goal.compile_body-requires-2-clause-nested
compile_body-requires-2-clause-nested c = c.requires.nested body.Processing

pub compile_body-requires-3-clause-none : goal.compile_body-requires-3-clause-none
compile_body-requires-3-clause-none c = c.requires.faultless body.Change

pub compile_body-requires-3-clause-nested : goal.compile_body-requires-3-clause-nested
compile_body-requires-3-clause-nested c = c.requires.nested body.Change

pub compile_body-requires-4-clause-none : goal.compile_body-requires-4-clause-none
compile_body-requires-4-clause-none c = c.requires.faultless body.Reinitialize

pub compile_body-requires-4-clause-nested : goal.compile_body-requires-4-clause-nested
compile_body-requires-4-clause-nested c = c.requires.nested body.Reinitialize
