use Rattle.std.proofs.Common.{rules, ◌≡◌, ◌+◌, ◌++◌, ◌<◌, ◌∷◌, [], List, Some, false, length, slice_get, subst, sym, true, ℕ}
use Rattle.tdf_events_queue.specs.Sets.{AreListed, AreRisingFlags, is_on}
use Rattle.tdf_events_queue.proofs.Members.{set_rising}
use Rattle.tdf_events_queue.proofs.sets.NumberSet.insert_rising.Goals as goal

pub returns-else-not-is_last-clause-rising : goal.returns-else-not-is_last-clause-rising
returns-else-not-is_last-clause-rising c =
    let flags = c.args.self.now.flags in
    let members = c.args.self.now.members in
    let off : is_on flags c.args.n ≡ false = search rules in
    let last : c.ends_below-is_last.result ≡ true = search rules in
    let listed : AreListed flags members = c.members.ensures.listed in
    let below : (j last : ℕ) → slice_get members j ≡ Some last → j + 1 ≡ length members → last < c.args.n =
    subst (λ (l : List ℕ). (j last : ℕ) → slice_get l j ≡ Some last → j + 1 ≡ length l → last < c.args.n) c.members.ensures.value (c.ends_below-is_last.ensures last) in
    subst (λ (l : List ℕ). AreRisingFlags c.put.new.self.flags l) (sym c.put.ensures.members)
    (subst (λ (fs : List _). AreRisingFlags fs (members ++ c.args.n ∷ [])) (sym c.put.ensures.flags)
    (set_rising flags members c.args.n c.requires.inside off listed c.requires.rising below))
