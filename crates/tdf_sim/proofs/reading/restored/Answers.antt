use Rattle.std.proofs.Common.{◌∙◌, ℕ, ◌<◌, sym, ap, refl, subst}
use Rattle.tdf_base.specs.Limits.{time_end}
use Rattle.tdf_sim_runs.specs.Runs.{model_about}
use Rattle.tdf_sim.proofs.reading.restored.Goals as goal
use Rattle.tdf_trace_rows.specs.declared.kinds.TraceKind.{TraceKind}

pub returns-in-Ok-clause-restored : goal.returns-in-Ok-clause-restored
returns-in-Ok-clause-restored c = record {
  flat_is = refl;
  time = c.in-Ok.ensures.from;
  kind = c.kind_of-kind.ensures;
  turns = c.turns_of-turns.ensures;
  valid = λ model of. let plans = c.in-Ok.ensures.plans refl in (plans.0, c.in-Ok.ensures.valid model plans.0 of plans.1 refl);
  goes_on = λ model firsts of fine. record { runs = c.in-Ok.ensures.runs model firsts of fine.clusters; rows = c.in-Ok.ensures.upto model firsts of fine.clusters };
}

pub returns-in-Ok-clause-paused : goal.returns-in-Ok-clause-paused
returns-in-Ok-clause-paused c =
    let plans = c.in-Ok.ensures.plans refl in
    let fine = c.in-Ok.ensures.valid c.requires.model.model plans.0 c.requires.model.of plans.1 refl in record {
      runnable = c.requires.model.runnable;
      can = c.in-Ok.ensures.can;
      stage = c.in-Ok.ensures.stage;
      about = c.in-Ok.ensures.about ∙ ap (λ (kind : TraceKind). model_about kind c.args.flat) (sym c.kind_of-kind.ensures);
      early = subst (λ (time : ℕ). time < time_end) (sym c.in-Ok.ensures.from) fine.times.time;
    }
