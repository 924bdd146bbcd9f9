use Rattle.std.proofs.Common.{rules, ◌<◌, length, arith, subst}
use Rattle.tdf_events_queue.proofs.Nodes.{root_first, stands}
use Rattle.tdf_events_queue.specs.Times.{IsNextPending}
use Rattle.tdf_events_queue.proofs.calendar.Calendar.first.Goals as goal

pub returns : goal.returns
returns c =
    let times = c.self.inside.times.items in
    let nodes = c.self.inside.nodes.items in
    let many = c.self.invariant.many in
    let some : 0 < length times = search rules in
    subst (λ xs. IsNextPending xs c.index.result.now) c.self.view_is
    (root_first times nodes many c.self.invariant.leaves c.self.invariant.earlier some c.index.result.now (stands nodes 1 c.index.result.now (omega (arith, many, some)) c.index.ensures))
