use Rattle.tdf_sim_history.specs.Cells.{run_cells}
use Rattle.tdf_sim_runs.proofs.Answering.{writes_err}
use Rattle.tdf_sim_runs.proofs.rest.closed.Goals as goal
use Rattle.tdf_trace.specs.Writings.{rest_text}
use Rattle.tdf_sim_history.specs.Rules.{rules_of}

pub returns-in-Err-clause-wrote : goal.returns-in-Err-clause-wrote
returns-in-Err-clause-wrote g c = λ model flat start is limits shown.
    writes_err g.O.Sink.taken g.O.Sink.faults c.args.out.now c.finish.new.out
    (rest_text c.args.run.shown.trace.about (run_cells model flat (rules_of model flat) start c.args.run.from) c.args.run.shown.trace.rows.upto c.args.run.from) c.in-Err.error
    (c.in-Err.ensures.wrote model flat start is limits shown)
