use Rattle.std.proofs.Common.{Err, List, [], ℕ, ap, subst}
use Rattle.tdf_io.specs.Bytes.{WritesText}
use Rattle.tdf_sim_runs.proofs.Answering.{writes_err}
use Rattle.tdf_sim_runs.proofs.Opening.{opens, opens_run}
use Rattle.tdf_sim_runs.proofs.run.opened.Goals as goal
use Rattle.tdf_sim_runs.specs.Runs.{model_about}
use Rattle.tdf_trace.specs.Writings.{head_of}
use Rattle.tdf_sim_history.specs.Rules.{start_world}

pub returns-in-Ok-begin-clause-can : goal.returns-in-Ok-begin-clause-can
returns-in-Ok-begin-clause-can g c = opens c.args.flat.now c.in-Ok.run' c.begin-2.new.self c.begin-2.ensures.rows c.begin-2.ensures.about c.in-Ok.ensures.can

pub returns-in-Ok-begin-clause-runs : goal.returns-in-Ok-begin-clause-runs
returns-in-Ok-begin-clause-runs g c = λ model m. opens_run c.args.flat.now c.in-Ok.run' c.begin-2.new.self c.begin-2.ensures.rows c.begin-2.ensures.about model
    (start_world model c.args.flat.now c.args.firsts.items [] c.args.turns) [] (c.in-Ok.ensures.runs model m)

pub returns-in-Err-begin-clause-wrote : goal.returns-in-Err-begin-clause-wrote
returns-in-Err-begin-clause-wrote g c = writes_err g.O.Sink.taken g.O.Sink.faults c.args.out.now c.begin-2.new.sink (head_of (model_about c.args.kind c.args.flat.now)) c.in-Err-begin.error
    (subst (λ (t : List ℕ). WritesText {T = Unit {0}} g.O.Sink.taken g.O.Sink.faults c.args.out.now c.begin-2.new.sink t (Err c.in-Err-begin.error)) (ap head_of c.in-Ok.ensures.about) c.in-Err-begin.ensures.wrote)
