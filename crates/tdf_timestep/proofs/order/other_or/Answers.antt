use Rattle.std.proofs.Common.{◌∙◌}
use Rattle.std.specs.Prelude.{None}
use Rattle.std.proofs.lemmas.Option.{slice_get-get_or}
use Rattle.tdf_timestep.proofs.Firsts.{found_more}
use Rattle.tdf_timestep.specs.views.Found.{IsOther}
use Rattle.tdf_timestep.proofs.order.other_or.Goals as goal

pub returns-clause-found : goal.returns-clause-found
returns-clause-found c = found_more c.args.assigned.now (IsOther c.args.net.now.ports.items c.args.counts.now c.args.period) c.args.place c.args.best c.better.result _
    (slice_get-get_or c.args.assigned.now c.args.place (record { actor = 0; port = None; step = 0 }) c.requires.place)
    (λ same. c.if-period_of-period.false (c.period_of.ensures.value ∙ same)) c.better.ensures.better c.requires.found
