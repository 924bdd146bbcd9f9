use Rattle.std.proofs.Common.{◌∙◌, Ok, ◌+◌, ap, sym, subst}
use Rattle.tdf_sim_instants.specs.Engine.{IsEngineOf, IsReadyAt}
use Rattle.tdf_sim_instants.specs.declared.engine.Engine.{Engine}
use Rattle.tdf_sim_instants.specs.declared.crossing.Pass.TheVariants as pass
use Rattle.tdf_sim_runs.proofs.Answering.{same_ok}
use Rattle.tdf_sim_runs.proofs.Stepping.{can_take, step_can, step_goes}
use Rattle.tdf_sim_runs.proofs.running.Running.step.Goals as goal
use Rattle.tdf_sim_runs.specs.declared.running.Running.{Running}
use Rattle.tdf_sim_shown.specs.Below.{CanTake, ShowsInstant, clock_at}
use Rattle.tdf_trace.specs.Tracked.{AreSince}

pub show-requires-clause-going : goal.show-requires-clause-going
show-requires-clause-going c = (c.in_ok-ended.ensures.engine (ap Ok c.in-Done.is)).kernel.going

pub show-requires-clause-take : goal.show-requires-clause-take
show-requires-clause-take c = subst (λ (z : Running). CanTake c.args.flat.now (clock_at z.from c.instant.new.self.engine.since.items c.instant.new.self.engine.clusters.items) c.instant.new.self.engine.outputs.traced c.instant.new.self.engine.kernel.values z.shown) (sym c.instant.ensures.rest)
    (can_take c.law_instant.ensures.along c.law_advancing.ensures c.args.flat.now c.args.self.now c.requires.can c.requires.due c.instant.new.self.engine c.instant.new.self.left
    (c.in_ok-ended.ensures.engine (ap Ok c.in-Done.is)) (c.in_ok-ended.ensures.had (ap Ok c.in-Done.is)) c.requires.early)

pub returns-clause-can : goal.returns-clause-can
returns-clause-can c = λ same.
    (let rest = c.clear_traced.ensures.rest in
    step_can c.law_instant.ensures.along c.law_advancing.ensures c.args.flat.now c.args.self.now c.requires.can c.requires.due c.instant.new.self.engine c.instant.new.self.left
    (c.in_ok-ended.ensures.engine (ap Ok c.in-Done.is)) (c.in_ok-ended.ensures.had (ap Ok c.in-Done.is))
    c.show.new.shown c.instant.new.self.news.items (subst (λ (z : Running). ShowsInstant c.args.flat.now (clock_at z.from c.instant.new.self.engine.since.items c.instant.new.self.engine.clusters.items) c.instant.new.self.engine.outputs.traced c.instant.new.self.engine.kernel.values z.shown c.show.new.shown) c.instant.ensures.rest c.in_ok-show.ensures.shown)
    (c.show.ensures.upto ∙ ap (λ (z : Running). z.shown.trace.rows.upto) c.instant.ensures.rest) (subst (λ n. AreSince n c.show.new.shown.tracking.list) (sym c.show.ensures.upto) c.in_ok-show.ensures.since) (c.show.ensures.about ∙ ap (λ (z : Running). z.shown.trace.about) c.instant.ensures.rest)
    (record c.instant.new.self { engine = c.clear_traced.new.self; shown = c.show.new.shown; from = c.instant.new.self.from + 1 })
    (λ i. record { engine = c.clear_traced.ensures.rest i; shown = c.show.new.shown; from = (ap (λ (z : Running). z.from + 1) c.instant.ensures.rest) i; left = c.instant.new.self.left; news = c.instant.new.self.news })
    c.in_ok-ended.ensures.news
    (subst (λ (e : Engine). IsEngineOf c.args.flat.now e) rest (c.clear_traced.ensures.engine c.args.flat.now (c.in_ok-ended.ensures.engine (ap Ok c.in-Done.is))))
    (subst (λ (e : Engine). IsReadyAt (c.args.self.now.from + 1) e) rest (c.clear_traced.ensures.ready (c.args.self.now.from + 1) (c.in_ok-ended.ensures.later (ap Ok c.in-Done.is)))))

pub returns-clause-goes : goal.returns-clause-goes
returns-clause-goes c = λ same taken. step_goes c.law_instant.ensures.along c.law_advancing.ensures c.args.flat.now c.args.self.now c.requires.can c.requires.due c.instant.new.self.engine c.instant.new.self.left
    (c.in_ok-ended.ensures.engine (ap Ok c.in-Done.is)) (c.in_ok-ended.ensures.had (ap Ok c.in-Done.is))
    c.show.new.shown c.instant.new.self.news.items (subst (λ (z : Running). ShowsInstant c.args.flat.now (clock_at z.from c.instant.new.self.engine.since.items c.instant.new.self.engine.clusters.items) c.instant.new.self.engine.outputs.traced c.instant.new.self.engine.kernel.values z.shown c.show.new.shown) c.instant.ensures.rest c.in_ok-show.ensures.shown)
    (c.show.ensures.upto ∙ ap (λ (z : Running). z.shown.trace.rows.upto) c.instant.ensures.rest) (subst (λ n. AreSince n c.show.new.shown.tracking.list) (sym c.show.ensures.upto) c.in_ok-show.ensures.since) (c.show.ensures.about ∙ ap (λ (z : Running). z.shown.trace.about) c.instant.ensures.rest)
    (record c.instant.new.self { engine = c.clear_traced.new.self; shown = c.show.new.shown; from = c.instant.new.self.from + 1 })
    (λ i. record { engine = c.clear_traced.ensures.rest i; shown = c.show.new.shown; from = (ap (λ (z : Running). z.from + 1) c.instant.ensures.rest) i; left = c.instant.new.self.left; news = c.instant.new.self.news })
    c.in_ok-ended.ensures.news taken

pub returns-in_default : goal.returns-in_default
returns-in_default c = record {
  can = λ same. absurd (c.in_default.not-Done (same_ok c.in_ok-ended.ended pass.Done same));
  goes = λ same taken. absurd (c.in_default.not-Done (same_ok c.in_ok-ended.ended pass.Done same));
  after = λ same. absurd (c.in_default.not-Done (same_ok c.in_ok-ended.ended pass.Done same));
  stage = ap (λ (z : Running). z.shown.trace.stage) c.instant.ensures.rest;
  spent = λ same. c.instant.ensures.spent (c.in_ok-ended.was ∙ same);
  stopped = λ number fault same. c.instant.ensures.stopped number fault (c.in_ok-ended.was ∙ same);
  news = λ ended same other. c.in_ok-ended.ensures.news;
  still = λ ended same other. c.instant.ensures.rest;
}
