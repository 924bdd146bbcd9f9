use Rattle.std.proofs.Common.{rules, ◌≡◌, Option, None, replicate, ℕ}
use Rattle.tdf_events_queue.proofs.Api.{flags_new}
use Rattle.tdf_expr_state.proofs.Standing.{none_listed}
use Rattle.tdf_expr_state.proofs.notified.Notified.new.Goals as goal

abbrev nothing : Option ℕ
nothing = None

pub invariant_of-result : goal.invariant_of-result
invariant_of-result c =
    let items : c.in_ok-times.times.items ≡ replicate c.args.events nothing = search rules in
    record {
      flags = flags_new c.args.events c.in_ok-events.events.flags c.in_ok-times.times.items c.in_ok-events.ensures.flags items;
      rising = none_listed c.args.events c.in_ok-events.events.flags c.in_ok-events.events.members c.in_ok-events.ensures.flags c.in_ok-events.ensures.members;
      few = search rules;
    }
