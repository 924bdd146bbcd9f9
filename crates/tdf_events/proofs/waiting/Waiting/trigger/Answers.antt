use Rattle.std.proofs.Common.{arith, ◌≡◌, ◌<◌, ℕ, List, Option, length, slice_get, ap, sym, ◌∙◌, subst}
use Rattle.tdf_events.specs.machine.Updating.{AreAllReached, AreReached, does_change}
use Rattle.tdf_events.proofs.Updates.{member_inside, reached_all}
use Rattle.tdf_fixed.specs.declared.raw.Raw.{Raw}
use Rattle.tdf_events.proofs.waiting.Waiting.trigger.Goals as goal

pub trigger_changed-requires-clause-values : goal.trigger_changed-requires-clause-values
trigger_changed-requires-clause-values c = λ i s at. (let less : s < length c.self.inside.values.items = member_inside c.self.inside.signals.flags c.self.inside.signals.members c.self.inside.values.items i s c.self.invariant c.members.ensures.listed (ap (λ (xs : List ℕ). slice_get xs i) (sym c.members.ensures.value) ∙ at) in
    let same : length c.self.inside.values.items ≡ length c.args.self.now = ap length c.self.view_is in
    let long : length c.args.values.now ≡ length c.args.self.now = c.requires.values in omega (arith, less, same, long))

pub trigger_changed-requires-clause-waiting : goal.trigger_changed-requires-clause-waiting
trigger_changed-requires-clause-waiting c = λ i s at. (let less : s < length c.self.inside.values.items = member_inside c.self.inside.signals.flags c.self.inside.signals.members c.self.inside.values.items i s c.self.invariant c.members.ensures.listed (ap (λ (xs : List ℕ). slice_get xs i) (sym c.members.ensures.value) ∙ at) in
    let same : length c.self.inside.values.items ≡ length c.args.self.now = ap length c.self.view_is in
    let long : length c.deref.result.now ≡ length c.self.inside.values.items = ap length c.deref.ensures.value in omega (arith, less, long))

pub trigger_changed-requires-clause-lists : goal.trigger_changed-requires-clause-lists
trigger_changed-requires-clause-lists c = λ i s at. (let less : s < length c.self.inside.values.items = member_inside c.self.inside.signals.flags c.self.inside.signals.members c.self.inside.values.items i s c.self.invariant c.members.ensures.listed (ap (λ (xs : List ℕ). slice_get xs i) (sym c.members.ensures.value) ∙ at) in
    let same : length c.self.inside.values.items ≡ length c.args.self.now = ap length c.self.view_is in
    let long : length c.args.lists.now ≡ length c.args.self.now = c.requires.lists in omega (arith, less, same, long))

pub returns : goal.returns
returns c = subst (λ (ws : List (Option Raw)). AreAllReached c.args.lists.now (does_change c.args.values.now ws) c.args.set.now.flags c.trigger_changed.new.set.flags) c.self.view_is
    (reached_all c.args.lists.now c.args.values.now c.self.inside.values.items c.self.inside.signals.flags c.self.inside.signals.members c.args.set.now.flags c.trigger_changed.new.set.flags c.self.invariant c.members.ensures.listed
    (subst (λ (ws : List (Option Raw)). AreReached c.args.lists.now (does_change c.args.values.now ws) c.self.inside.signals.members (length c.self.inside.signals.members) c.args.set.now.flags c.trigger_changed.new.set.flags) c.deref.ensures.value
    (subst (λ (xs : List ℕ). AreReached c.args.lists.now (does_change c.args.values.now c.deref.result.now) xs (length xs) c.args.set.now.flags c.trigger_changed.new.set.flags) c.members.ensures.value c.trigger_changed.ensures)))
