use Rattle.std.proofs.Common.{rules, ◌≡◌, List, length, refl, subst}
use Rattle.std.proofs.lemmas.Result.{IfOk-weaker}
use Rattle.tdf_sim_traces.proofs.Starting.{starts_showing}
use Rattle.tdf_sim_traces.proofs.shown.Shown.start.Goals as goal
use Rattle.tdf_sim_traces.specs.Periods.{clock_at}
use Rattle.tdf_sim_traces.specs.declared.signals.TracedSignal.{TracedSignal}
use Rattle.tdf_sim_traces.specs.machine.Beginning.{IsBeginning}
use Rattle.tdf_sim_traces.specs.machine.Giving.{IsGivingTo}

pub returns-clause-shown : goal.returns-clause-shown
returns-clause-shown c =
    let one : c.deref.result.now ≡ c.args.self.now.signals.items = search rules in
    let two : c.deref-2.result.now ≡ c.args.self.now.signals.items = search rules in
    IfOk-weaker c.give_all.result _ _
    (λ u gave. starts_showing c.args.flat.now (clock_at 0 c.args.since.now c.args.clusters.now) c.args.self.now c.begin_all.new.tracking c.give_all.new.tracking c.begin_all.new.trace c.give_all.new.trace refl c.requires
    (subst (λ (l : List TracedSignal). IsBeginning c.args.flat.now.tables (clock_at 0 c.args.since.now c.args.clusters.now) l (length l) c.args.self.now.tracking c.begin_all.new.tracking c.args.self.now.trace c.begin_all.new.trace) one c.in_ok-begin_all.ensures.began)
    (subst (λ (l : List TracedSignal). IsGivingTo c.args.flat.now.tables l (length l) c.begin_all.new.tracking c.give_all.new.tracking c.begin_all.new.trace c.give_all.new.trace) two gave))
    c.give_all.ensures.gave
