use Rattle.std.proofs.Common.{subst, sym}
use Rattle.tdf_trace.proofs.Findings.{place_is}
use Rattle.tdf_trace.proofs.tracking.Tracking.place_of.Goals as goal
use Rattle.tdf_trace.specs.Tracked.{TrackingOf}
use Rattle.tdf_trace.specs.machine.Finding.{IsPlaceOf}

pub returns : goal.returns
returns c = subst (λ (v : TrackingOf). IsPlaceOf v.list c.args.signal c.found_in.result) c.self.view_is
    (place_is c.self.inside.places.items c.self.inside.list.items c.args.signal c.found_in.result c.self.invariant.finds (sym c.found_in.ensures))
