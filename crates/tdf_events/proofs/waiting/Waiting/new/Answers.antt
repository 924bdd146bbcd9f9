use Rattle.std.proofs.Common.{rules, ◌≡◌, Option, None, replicate}
use Rattle.tdf_fixed.specs.declared.raw.Raw.{Raw}
use Rattle.tdf_events_queue.proofs.Api.{flags_new}
use Rattle.tdf_events.proofs.waiting.Waiting.new.Goals as goal

abbrev nothing : Option Raw
nothing = None

pub invariant_of-result : goal.invariant_of-result
invariant_of-result c = let items : c.in_ok-values.values.items ≡ replicate c.args.signals nothing = search rules in
    flags_new c.args.signals c.in_ok-signals.signals.flags c.in_ok-values.values.items c.in_ok-signals.ensures.flags items
