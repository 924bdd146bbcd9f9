use Rattle.std.proofs.Common.{length}
use Rattle.tdf_convert.proofs.Linked.{link_at, place_inside}
use Rattle.tdf_convert.proofs.sampling.sample_one.Goals as goal

pub bounds-values-link : goal.bounds-values-link
bounds-values-link c =
    let at = link_at c.args.links.now c.args.actor c.in-Some.link c.in-Some.ensures in
    c.requires.signals.inside at.0 c.in-Some.link at.1

pub set-requires : goal.set-requires
set-requires c =
    let at = link_at c.args.links.now c.args.actor c.in-Some.link c.in-Some.ensures in
    place_inside c.args.links.now (length c.args.inputs.now) c.requires.links at.0 c.in-Some.link at.1 c.if-link.true
