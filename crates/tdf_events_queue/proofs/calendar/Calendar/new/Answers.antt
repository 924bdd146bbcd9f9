use Rattle.std.proofs.Common.{rules, ◌≡◌, ◌*◌, ℕ, List, Option, None, replicate, subst, sym}
use Rattle.tdf_events_queue.proofs.Nodes.{empty_earlier, empty_leaves}
use Rattle.tdf_events_queue.specs.declared.calendar.Pending.{Pending}
use Rattle.tdf_events_queue.specs.machine.Calendar.{AreEarlier, AreLeaves}
use Rattle.tdf_events_queue.proofs.calendar.Calendar.new.Goals as goal

abbrev nothing : Option Pending
nothing = None

abbrev never : Option ℕ
never = None

pub invariant_of-result : goal.invariant_of-result
invariant_of-result c =
    let nodes : c.in_ok-nodes.nodes.items ≡ replicate (2 * c.args.events) nothing = search rules in
    let times : c.in_ok-times.times.items ≡ replicate c.args.events never = search rules in
    record {
      many = search rules;
      few = search rules;
      leaves = subst (λ (xs : List (Option ℕ)). AreLeaves xs c.in_ok-nodes.nodes.items) (sym times) (subst (AreLeaves (replicate c.args.events never)) (sym nodes) (empty_leaves c.args.events (2 * c.args.events)));
      earlier = subst AreEarlier (sym nodes) (empty_earlier (2 * c.args.events));
    }
