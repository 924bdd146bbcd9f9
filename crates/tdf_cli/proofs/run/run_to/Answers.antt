use Rattle.tdf_cli.proofs.Outcomes.{ran_all, ran_part}
use Rattle.tdf_cli.proofs.run.run_to.Goals as goal

pub returns-in-Ok-clause-all : goal.returns-in-Ok-clause-all
returns-in-Ok-clause-all g c = λ tree accepted is.
    let told = c.in-Ok.ensures.answered tree accepted in
    let runs = c.in-Ok.ensures.runs tree accepted told.0 told.1 in
    ran_all c.args.asked tree c.args.sim c.args.end _ _ _ _ accepted.accepted is told.0 told.1 c.in-Ok.ran.end c.status_of-status.result
    runs.end c.status_of-status.ensures runs.trace runs.notes

pub returns-in-Err-WriteFault-clause-part : goal.returns-in-Err-WriteFault-clause-part
returns-in-Err-WriteFault-clause-part g c = λ tree accepted is.
    ran_part c.args.asked tree c.args.sim c.args.end _ _ _ _ accepted.accepted is accepted.kept c.law_one_model.ensures c.law_one_run.ensures.models
    (λ ahead have. (c.in-Err-WriteFault.ensures.runs tree accepted ahead have).trace_part) (λ ahead have. (c.in-Err-WriteFault.ensures.runs tree accepted ahead have).notes_part)

pub returns-in-Err-Memory-clause-part : goal.returns-in-Err-Memory-clause-part
returns-in-Err-Memory-clause-part g c = λ tree accepted is.
    ran_part c.args.asked tree c.args.sim c.args.end _ _ _ _ accepted.accepted is accepted.kept c.law_one_model.ensures c.law_one_run.ensures.models
    (λ ahead have. (c.in-Err-Memory.ensures.runs tree accepted ahead have).trace_part) (λ ahead have. (c.in-Err-Memory.ensures.runs tree accepted ahead have).notes_part)
