use Rattle.tdf_timestep.proofs.Agreed.{has_steps, all_whole}
use Rattle.tdf_timestep.proofs.period.answer.Goals as goal

pub returns-in-Ok-actor_steps : goal.returns-in-Ok-actor_steps
returns-in-Ok-actor_steps c = has_steps _ c.args.net.now.ports.items c.args.counts.now c.args.net.now.in_range.ports_fit c.args.assigned.now
    (record { period = c.in-Ok.period; actor_steps = c.in-Ok-actor_steps.actor_steps }) c.in-Ok.ensures.0 c.in-Ok.ensures.1 c.in-None.ensures c.in-Ok-actor_steps.ensures

pub returns-in-Err-actor_steps : goal.returns-in-Err-actor_steps
returns-in-Err-actor_steps c = (
  c.in-Ok.period,
  record {
    agreed = c.in-Ok.ensures.0;
    short = c.in-Ok.ensures.1;
    whole = all_whole _ c.args.net.now.ports.items c.args.counts.now c.args.net.now.in_range.ports_fit c.in-Ok.period c.in-None.ensures;
  },
)
