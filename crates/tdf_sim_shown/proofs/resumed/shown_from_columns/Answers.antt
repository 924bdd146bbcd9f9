use Rattle.std.proofs.Common.{rules, ◌≡◌, length, refl, subst}
use Rattle.tdf_sim_shown.proofs.Going.{have_values}
use Rattle.tdf_sim_shown.proofs.Restored.{leaves_since, shows_resumed}
use Rattle.tdf_sim_shown.proofs.resumed.shown_from_columns.Goals as goal
use Rattle.tdf_sim_shown.specs.machine.Resuming.{HaveTaken}
use Rattle.tdf_sim_traces.specs.Calls.{start_values}
use Rattle.tdf_sim_traces.specs.Periods.{clock_of}

pub go_on-requires-clause-signals : goal.go_on-requires-clause-signals
go_on-requires-clause-signals c = have_values c.args.flat.now (start_values c.args.flat.now.tables) c.args.values.now c.in_ok-shown.shown.events.items c.in_ok-shown.ensures.events c.requires.values

pub returns-clause-shown : goal.returns-clause-shown
returns-clause-shown c =
    let columns_are : c.deref.result.now ≡ c.args.columns.items = search rules in
    shows_resumed c.args.flat.now (clock_of c.args.clock.now) c.args.columns.items c.args.values.now c.args.rows c.args.kind c.in_ok-shown.shown (record c.in_ok-shown.shown { tracking = c.resume_all.new.tracking }) c.go_on.new.self
    c.requires.can c.in_ok-shown.ensures
    (subst (λ l. HaveTaken c.args.flat.now (clock_of c.args.clock.now) l c.args.rows (length c.args.flat.now.tables.traces) c.in_ok-shown.shown.tracking.list c.resume_all.new.tracking.list) columns_are c.in_ok-resume_all.ensures.took)
    c.resume_all.ensures.width refl refl c.in_ok-go_on.ensures.goes_on

pub returns-clause-upto : goal.returns-clause-upto
returns-clause-upto c = c.in_ok-go_on.ensures.goes_on.upto

pub returns-clause-stage : goal.returns-clause-stage
returns-clause-stage c = c.in_ok-go_on.ensures.goes_on.stage

pub returns-clause-about : goal.returns-clause-about
returns-clause-about c = c.in_ok-go_on.ensures.goes_on.about

pub returns-clause-since : goal.returns-clause-since
returns-clause-since c =
    let columns_are : c.deref.result.now ≡ c.args.columns.items = search rules in
    leaves_since c.args.flat.now (clock_of c.args.clock.now) c.args.columns.items c.args.rows c.args.kind c.in_ok-shown.shown (record c.in_ok-shown.shown { tracking = c.resume_all.new.tracking }) c.go_on.new.self
    c.requires.can c.in_ok-shown.ensures
    (subst (λ l. HaveTaken c.args.flat.now (clock_of c.args.clock.now) l c.args.rows (length c.args.flat.now.tables.traces) c.in_ok-shown.shown.tracking.list c.resume_all.new.tracking.list) columns_are c.in_ok-resume_all.ensures.took)
    c.in_ok-go_on.ensures.goes_on.tracking
