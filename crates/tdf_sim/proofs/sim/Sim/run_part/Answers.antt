use Rattle.tdf_sim.proofs.Running.{can_run}
use Rattle.tdf_sim.proofs.sim.Sim.run_part.Goals as goal

pub run_part-requires-clause-can : goal.run_part-requires-clause-can
run_part-requires-clause-can g c = can_run c.law_limits.ensures c.law_runnable.ensures c.requires.accepted.tree c.args.self c.requires.accepted.of

pub returns-in-Ok-clause-answered : goal.returns-in-Ok-clause-answered
returns-in-Ok-clause-answered g c = λ tree is. c.in-Ok.ensures.answered tree (can_run c.law_limits.ensures c.law_runnable.ensures tree c.args.self is).of

pub returns-in-Ok-clause-parts : goal.returns-in-Ok-clause-parts
returns-in-Ok-clause-parts g c = λ tree is ahead have.
    let parts = c.in-Ok.ensures.parts tree (can_run c.law_limits.ensures c.law_runnable.ensures tree c.args.self is).of ahead have in
    record { paused = parts.paused; ended = parts.ended; refused = tt }

pub returns-in-Err-clause-parts : goal.returns-in-Err-clause-parts
returns-in-Err-clause-parts g c = λ tree is ahead have.
    let parts = c.in-Err.ensures.parts tree (can_run c.law_limits.ensures c.law_runnable.ensures tree c.args.self is).of ahead have in
    record { paused = tt; ended = tt; refused = parts.refused }
