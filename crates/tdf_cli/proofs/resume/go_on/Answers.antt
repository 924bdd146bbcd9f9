use Rattle.std.proofs.Common.{[], inr}
use Rattle.tdf_cli.proofs.Resumed.{is_model, is_running, ran_on, refused_counts, refused_on}
use Rattle.tdf_cli.proofs.resume.go_on.Goals as goal
use Rattle.tdf_sim.specs.States.{saved_world}

pub returns-in-Ok-clause-writes : goal.returns-in-Ok-clause-writes
returns-in-Ok-clause-writes g c = λ bytes stop of is.
    let start = saved_world of.tree of.sim of.firsts of.snapshot in
    let model = is_model bytes c.args.paused of of.firsts of.saved.valid in
    let running = is_running bytes c.args.paused of of.firsts of.saved.valid in
    let told = c.in-Ok.ensures.answered of.tree start [] model running in
    ran_on stop bytes c.args.paused of c.args.end is c.requires.within (g.O.Sink.taken c.args.out.now) (g.O.Sink.taken c.resume.new.out) (g.N.Sink.taken c.args.notes.now)
    (g.N.Sink.taken c.resume.new.notes) told.0 told.1 c.in-Ok.ran c.status_of-status.result c.status_of-status.ensures
    (c.in-Ok.ensures.goes of.tree start [] told.0 model running told.1)

pub returns-in-Err-clause-writes : goal.returns-in-Err-clause-writes
returns-in-Err-clause-writes g c = λ bytes stop of is.
    inr (refused_on stop bytes c.args.paused of c.args.end is c.requires.within (g.O.Sink.taken c.args.out.now) (g.O.Sink.taken c.resume.new.out) (g.N.Sink.taken c.args.notes.now)
    (g.N.Sink.taken c.resume.new.notes) c.law_one_model.ensures c.law_one_state.ensures c.law_rests_alike.ensures.valid c.law_rests_alike.ensures.rests c.law_rests_alike.ensures.answers c.in-Err.error
    (λ firsts valid ahead told. c.in-Err.ensures.goes of.tree (saved_world of.tree of.sim firsts of.snapshot) [] ahead (is_model bytes c.args.paused of firsts valid)
    (is_running bytes c.args.paused of firsts valid) told))

pub returns-in-Err-clause-counts : goal.returns-in-Err-clause-counts
returns-in-Err-clause-counts g c = refused_counts (g.O.Sink.faults c.args.out.now) (g.O.Sink.faults c.resume.new.out) (g.N.Sink.faults c.args.notes.now) (g.N.Sink.faults c.resume.new.notes) c.in-Err.error c.in-Err.ensures.counts
