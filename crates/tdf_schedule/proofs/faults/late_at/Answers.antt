use Rattle.std.proofs.Common.{◌<◌, ◌∙◌, sym, subst}
use Rattle.tdf_schedule.proofs.Lates.{sink_row, not_sink, module_sink, sampler_sink}
use Rattle.tdf_schedule.proofs.faults.late_at.Goals as goal

pub returns-in-Sink : goal.returns-in-Sink
returns-in-Sink c = sink_row c.args.actors.now c.args.table.now.items c.args.paces.now c.args.actor _ (subst (λ n. c.args.actor < n) (sym c.requires.same) c.requires.actor) c.in-Sink.is
    c.late_in_row.result c.late_in_row.ensures

pub returns-in-Module : goal.returns-in-Module
returns-in-Module c = not_sink c.args.actors.now c.args.table.now.items c.args.paces.now c.args.actor _ (subst (λ n. c.args.actor < n) (sym c.requires.same) c.requires.actor)
    (λ e. module_sink (sym c.in-Module.is ∙ e))

pub returns-in-Sampler : goal.returns-in-Sampler
returns-in-Sampler c = not_sink c.args.actors.now c.args.table.now.items c.args.paces.now c.args.actor _ (subst (λ n. c.args.actor < n) (sym c.requires.same) c.requires.actor)
    (λ e. sampler_sink (sym c.in-Sampler.is ∙ e))
