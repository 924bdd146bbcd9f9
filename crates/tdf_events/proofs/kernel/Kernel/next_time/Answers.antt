use Rattle.std.proofs.Common.{rules, ◌≡◌, subst, inr}
use Rattle.tdf_events_queue.specs.Sets.{count_on}
use Rattle.tdf_events.specs.Kernel.{IsNextOf, KernelOf, side_of}
use Rattle.tdf_events.proofs.kernel.Kernel.next_time.Goals as goal

pub returns : goal.returns
returns c =
    let none : count_on c.self.inside.parts.triggered.flags ≡ 0 = search rules in
    subst (λ (k : KernelOf). IsNextOf (side_of k) c.next_time.result) c.self.view_is (inr (none, c.next_time.ensures))
