use Rattle.tdf_sim.proofs.Running.{can_run}
use Rattle.tdf_sim.proofs.sim.Sim.run.Goals as goal

pub run_model-requires-clause-can : goal.run_model-requires-clause-can
run_model-requires-clause-can g c = can_run c.law_limits.ensures c.law_runnable.ensures c.requires.accepted.tree c.args.self c.requires.accepted.of

pub returns-in-Ok-clause-answered : goal.returns-in-Ok-clause-answered
returns-in-Ok-clause-answered g c = λ tree is. c.in-Ok.ensures.answered tree (can_run c.law_limits.ensures c.law_runnable.ensures tree c.args.self is).of

pub returns-in-Ok-clause-runs : goal.returns-in-Ok-clause-runs
returns-in-Ok-clause-runs g c = λ tree is ahead have.
    let runs = c.in-Ok.ensures.runs tree (can_run c.law_limits.ensures c.law_runnable.ensures tree c.args.self is).of ahead have in
    record { end = runs.end; trace = runs.trace; notes = runs.notes; trace_part = tt; notes_part = tt; left = runs.left }

pub returns-in-Err-clause-runs : goal.returns-in-Err-clause-runs
returns-in-Err-clause-runs g c = λ tree is ahead have.
    let runs = c.in-Err.ensures.runs tree (can_run c.law_limits.ensures c.law_runnable.ensures tree c.args.self is).of ahead have in
    record { end = tt; trace = tt; notes = tt; trace_part = runs.trace_part; notes_part = runs.notes_part; left = tt }
