use Rattle.std.proofs.Common.{rules}
use Rattle.tdf_io.proofs.Api.{front_none}
use Rattle.tdf_sim_history.specs.Cells.{run_cells}
use Rattle.tdf_sim_runs.proofs.Finishing.{writes_rest}
use Rattle.tdf_sim_runs.proofs.ending.finish.Goals as goal
use Rattle.tdf_sim_history.specs.Rules.{rules_of}

pub returns-in-Ok-clause-wrote : goal.returns-in-Ok-clause-wrote
returns-in-Ok-clause-wrote g c = λ model flat start is limits shown.
    writes_rest g.K.Sink.taken g.K.Sink.faults c.args.out.now c.finish.new.sink c.args.shown.trace.about c.args.shown.trace.rows.upto c.close.new.self.trace
    (run_cells model flat (rules_of model flat) start c.args.end) c.args.end c.finish.result c.close.ensures.about c.close.ensures.upto (c.in-Ok.ensures.shown model flat start is limits shown) c.finish.ensures.wrote

pub returns-in-Err-clause-wrote : goal.returns-in-Err-clause-wrote
returns-in-Err-clause-wrote g c = λ model flat start is limits shown. record {
  all = search rules;
  part = front_none _ _;
  counted = search rules;
}
