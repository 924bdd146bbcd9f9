use Rattle.std.specs.Prelude.{None}
use Rattle.std.proofs.lemmas.Option.{slice_get-get_or}
use Rattle.tdf_timestep.proofs.Firsts.{found_more, found_all}
use Rattle.tdf_timestep.proofs.order.first_of.Goals as goal

pub loop-place-preserved : goal.loop-place-preserved
loop-place-preserved c = record {
  found = found_more c.args.assigned.now (λ _. Unit {0}) c.loop-place.place c.loop-place.best c.better-best.result _
      (slice_get-get_or c.args.assigned.now c.loop-place.place (record { actor = 0; port = None; step = 0 }) c.loop-place-test.true) tt c.better-best.ensures.better c.loop-place.invariant.found;
  within = c.better-best.ensures.within;
}

pub returns : goal.returns
returns c = found_all c.args.assigned.now (λ _. Unit {0}) c.loop-place.place c.loop-place.best c.loop-place-test.false c.loop-place.invariant.found
