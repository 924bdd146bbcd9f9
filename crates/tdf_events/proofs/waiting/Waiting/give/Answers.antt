use Rattle.std.proofs.Common.{arith, ◌≡◌, ◌<◌, ℕ, List, Option, None, is_some, false, length, map, replicate, slice_get, ap, sym, ◌∙◌, subst}
use Rattle.std.proofs.lemmas.List.{length-map}
use Rattle.tdf_events.specs.Delta.{updated}
use Rattle.tdf_events.specs.machine.Updating.{AreGiven}
use Rattle.tdf_events.proofs.Updates.{flags_gone, forgotten_all, member_inside, taken_all}
use Rattle.tdf_fixed.specs.declared.raw.Raw.{Raw}
use Rattle.tdf_events.proofs.waiting.Waiting.give.Goals as goal

pub give_values-requires-clause-values : goal.give_values-requires-clause-values
give_values-requires-clause-values c = λ i s at. (let less : s < length c.self.inside.values.items = member_inside c.self.inside.signals.flags c.self.inside.signals.members c.self.inside.values.items i s c.self.invariant c.members.ensures.listed (ap (λ (xs : List ℕ). slice_get xs i) (sym c.members.ensures.value) ∙ at) in
    let same : length c.self.inside.values.items ≡ length c.args.self.now = ap length c.self.view_is in
    let long : length c.args.values.now.items ≡ length c.args.self.now = c.requires in omega (arith, less, same, long))

pub give_values-requires-clause-waiting : goal.give_values-requires-clause-waiting
give_values-requires-clause-waiting c = λ i s at. member_inside c.self.inside.signals.flags c.self.inside.signals.members c.self.inside.values.items i s c.self.invariant c.members.ensures.listed (ap (λ (xs : List ℕ). slice_get xs i) (sym c.members.ensures.value) ∙ at)

pub invariant_of-self : goal.invariant_of-self
invariant_of-self c =
    let gone : c.give_values.new.waiting.items ≡ map (λ (value : Option Raw). None) c.self.inside.values.items = forgotten_all c.args.values.now.items c.give_values.new.values.items c.self.inside.values.items c.give_values.new.waiting.items c.self.inside.signals.flags c.self.inside.signals.members c.self.invariant c.members.ensures.listed
    (subst (λ (xs : List ℕ). AreGiven xs (length xs) c.self.inside.values.items c.give_values.new.waiting.items c.args.values.now.items c.give_values.new.values.items) c.members.ensures.value c.give_values.ensures) in
    c.clear.ensures.flags ∙ ap (λ (n : ℕ). replicate n false) (ap length c.self.invariant ∙ length-map c.self.inside.values.items is_some) ∙ sym (flags_gone c.self.inside.values.items) ∙ sym (ap (map is_some) gone)

pub returns-clause-values : goal.returns-clause-values
returns-clause-values c =
    taken_all c.args.values.now.items c.give_values.new.values.items c.self.inside.values.items c.give_values.new.waiting.items c.self.inside.signals.flags c.self.inside.signals.members c.self.invariant c.members.ensures.listed
    (subst (λ (xs : List ℕ). AreGiven xs (length xs) c.self.inside.values.items c.give_values.new.waiting.items c.args.values.now.items c.give_values.new.values.items) c.members.ensures.value c.give_values.ensures)
    ∙ ap (updated c.args.values.now.items) c.self.view_is

pub returns-clause-waiting : goal.returns-clause-waiting
returns-clause-waiting c =
    forgotten_all c.args.values.now.items c.give_values.new.values.items c.self.inside.values.items c.give_values.new.waiting.items c.self.inside.signals.flags c.self.inside.signals.members c.self.invariant c.members.ensures.listed
    (subst (λ (xs : List ℕ). AreGiven xs (length xs) c.self.inside.values.items c.give_values.new.waiting.items c.args.values.now.items c.give_values.new.values.items) c.members.ensures.value c.give_values.ensures)
    ∙ ap (map (λ (value : Option Raw). None)) c.self.view_is
