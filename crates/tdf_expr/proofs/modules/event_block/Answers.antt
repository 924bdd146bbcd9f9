use Rattle.std.proofs.Common.{Option, subst}
use Rattle.tdf_base.specs.Limits.{deepest_nesting}
use Rattle.tdf_expr_compiler.specs.Promises.{AreFaultless}
use Rattle.tdf_expr.proofs.Blocked.{event_acts}
use Rattle.tdf_expr.proofs.modules.event_block.Goals as goal
use Rattle.tdf_expr.specs.Blocks.{process_body}
use Rattle.tdf_expr.specs.declared.bodies.Body.TheVariants as body
use Rattle.tdf_lang_tree.specs.Kept.{KeepsStmts}
use Rattle.tdf_lang_tree.specs.Pure.{PureProcess}
use Rattle.tdf_lang_tree.specs.Views.{pure_de}

pub process_acts-requires-clause-faultless : goal.process_acts-requires-clause-faultless
process_acts-requires-clause-faultless c = λ n p is.
    subst (λ (o : Option PureProcess). AreFaultless c.args.scope.now (process_body o)) is (c.requires.faultless (body.Process n))

pub process_acts-requires-clause-nested : goal.process_acts-requires-clause-nested
process_acts-requires-clause-nested c = λ n p is.
    subst (λ (o : Option PureProcess). KeepsStmts deepest_nesting (process_body o)) is (c.requires.nested (body.Process n))

pub returns : goal.returns
returns c = record {
  sound = c.requires.sound;
  shapes = c.in_ok-cells.ensures.shapes;
  starts = c.in_ok-cells.ensures.starts;
  rates = c.in_ok-rates.ensures.spans;
  spans = c.in_ok-ports.ensures.spans;
  samples = c.in_ok-ports.ensures.samples;
  events = c.in_ok-events.ensures;
  faultless = c.requires.faultless;
  bodies = event_acts c.args.scope.now (pure_de c.args.block.now) c.in_ok-process_acts.field-0 c.in_ok-process_acts.ensures;
}
