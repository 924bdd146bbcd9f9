use Rattle.std.proofs.Common.{rules, ◌≡◌, List, refl, subst}
use Rattle.std.proofs.lemmas.Result.{IfOk-weaker}
use Rattle.tdf_sim_traces.proofs.Taking.{begun_still, shows_instant}
use Rattle.tdf_sim_traces.proofs.shown.Shown.take.Goals as goal
use Rattle.tdf_sim_traces.specs.Periods.{ClockAt, clock_of}
use Rattle.tdf_sim_traces.specs.declared.shown.Shown.{Shown}
use Rattle.tdf_sim_traces.specs.declared.signals.TracedSignal.{TracedSignal}
use Rattle.tdf_sim_traces.specs.machine.Beginning.{HasBegun}

pub give-requires-clause-since : goal.give-requires-clause-since
give-requires-clause-since c =
    begun_still c.args.flat.now (clock_of c.args.clock.now) c.deref.result.now c.args.self.now.tracking c.begin_later.new.tracking c.args.self.now.trace c.begin_later.new.trace
    c.requires.upto c.in_ok-begin_later.ensures.began c.requires.since

pub returns-clause-shown : goal.returns-clause-shown
returns-clause-shown c =
    let one : c.deref.result.now ≡ c.args.self.now.signals.items = search rules in
    let clock : ClockAt = (clock_of c.args.clock.now) in
    let new : Shown = record c.args.self.now { trace = c.show_all.new.trace; tracking = c.give.new.self; events = c.show_all.new.events } in
    IfOk-weaker c.show_all.result _ _
    (λ u showed. shows_instant c.args.flat.now clock c.args.traced.now c.args.values.now c.args.self.now new c.begin_later.new.tracking c.give.new.self c.begin_later.new.trace c.give.new.trace c.show_all.new.trace c.requires
    (subst (λ (l : List TracedSignal). HasBegun c.args.flat.now.tables clock l c.args.self.now.tracking c.begin_later.new.tracking c.args.self.now.trace c.begin_later.new.trace) one c.in_ok-begin_later.ensures.began)
    c.in_ok-give.ensures.took c.give.ensures.labels c.give.ensures.sinces c.give.ensures.later c.give.ensures.width c.give.ensures.about showed refl refl refl)
    c.show_all.ensures.showed
