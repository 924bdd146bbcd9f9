use Rattle.std.proofs.Common.{inr, subst}
use Rattle.tdf_cli.proofs.Saving.{ended_writes, paused_writes, refused_writes}
use Rattle.tdf_cli.proofs.save.save_trace.Goals as goal
use Rattle.tdf_sim.specs.Ends.{HasEndedBefore, IfEndedBefore, IfPaused, Part, PausesAt}

pub returns-in-Ok-Paused-clause-writes : goal.returns-in-Ok-Paused-clause-writes
returns-in-Ok-Paused-clause-writes g c = λ tree accepted is.
    let told = c.in-Ok-Paused.ensures.answered tree accepted in
    let parts = c.in-Ok-Paused.ensures.parts tree accepted told.0 told.1 in
    paused_writes c.args.asked tree c.args.sim c.args.end accepted.accepted is (g.O.Sink.taken c.args.out.now) (g.O.Sink.taken c.run_part.new.out)
    (g.N.Sink.taken c.args.notes.now) (g.N.Sink.taken c.run_part.new.notes) told.0 told.1 c.in-Ok-Paused.paused
    (subst (λ (p : Part). IfPaused p (PausesAt c.args.asked.kind tree c.args.sim.flat c.args.sim.firsts.items told.0 c.args.end c.args.asked.turns
    (g.O.Sink.taken c.args.out.now) (g.O.Sink.taken c.run_part.new.out) (g.N.Sink.taken c.args.notes.now) (g.N.Sink.taken c.run_part.new.notes))) c.in-Ok-Paused.field-0-is parts.paused)

pub returns-in-Ok-Ended-clause-writes : goal.returns-in-Ok-Ended-clause-writes
returns-in-Ok-Ended-clause-writes g c = λ tree accepted is.
    let told = c.in-Ok-Ended.ensures.answered tree accepted in
    let parts = c.in-Ok-Ended.ensures.parts tree accepted told.0 told.1 in
    ended_writes c.args.asked tree c.args.sim c.args.end accepted.accepted is (g.O.Sink.taken c.args.out.now) (g.O.Sink.taken c.run_part.new.out)
    (g.N.Sink.taken c.args.notes.now) (g.N.Sink.taken c.run_part.new.notes) told.0 told.1 c.in-Ok-Ended.ran c.status_of-status.result
    (subst (λ (p : Part). IfEndedBefore p (HasEndedBefore c.args.asked.kind tree c.args.sim.flat c.args.sim.firsts.items told.0 c.args.end c.args.asked.turns
    (g.O.Sink.taken c.args.out.now) (g.O.Sink.taken c.run_part.new.out) (g.N.Sink.taken c.args.notes.now) (g.N.Sink.taken c.run_part.new.notes))) c.in-Ok-Ended.field-0-is parts.ended)
    c.status_of-status.ensures

pub returns-in-Err-WriteFault-clause-writes : goal.returns-in-Err-WriteFault-clause-writes
returns-in-Err-WriteFault-clause-writes g c = λ tree accepted is.
    inr (refused_writes c.args.asked tree c.args.sim c.args.end accepted.accepted is (g.O.Sink.taken c.args.out.now) (g.O.Sink.taken c.run_part.new.out)
    (g.N.Sink.taken c.args.notes.now) (g.N.Sink.taken c.run_part.new.notes) accepted.kept c.law_one_model.ensures c.law_one_run.ensures.models c.law_parts_alike.ensures.parts
    (λ ahead have. (c.in-Err-WriteFault.ensures.parts tree accepted ahead have).refused))

pub returns-in-Err-Memory-clause-writes : goal.returns-in-Err-Memory-clause-writes
returns-in-Err-Memory-clause-writes g c = λ tree accepted is.
    inr (refused_writes c.args.asked tree c.args.sim c.args.end accepted.accepted is (g.O.Sink.taken c.args.out.now) (g.O.Sink.taken c.run_part.new.out)
    (g.N.Sink.taken c.args.notes.now) (g.N.Sink.taken c.run_part.new.notes) accepted.kept c.law_one_model.ensures c.law_one_run.ensures.models c.law_parts_alike.ensures.parts
    (λ ahead have. (c.in-Err-Memory.ensures.parts tree accepted ahead have).refused))
