use Rattle.std.proofs.Common.{rules, ◌≡◌, ◌<◌, List, ℕ, true, false, length, slice_set, subst, sym}
use Rattle.tdf_events_queue.specs.Sets.{is_on, AreListed}
use Rattle.tdf_events_queue.proofs.Members.{has_room, set_listed}
use Rattle.tdf_events_queue.proofs.sets.NumberSet.put.Goals as goal

pub append-requires : goal.append-requires
append-requires c = has_room c.self.inside.flags.items c.self.inside.list.items c.args.n _ _ (search rules) (search rules) c.self.invariant.listed c.self.invariant.room (search rules)

pub invariant_of-self : goal.invariant_of-self
invariant_of-self c =
    let off : is_on c.self.inside.flags.items c.args.n ≡ false = search rules in
    let inside : c.args.n < length c.self.inside.flags.items = search rules in
    record {
      listed = subst (λ (l : List ℕ). AreListed (slice_set c.self.inside.flags.items c.args.n true) l) (sym c.append.ensures.items) (set_listed _ _ c.args.n inside off c.self.invariant.listed);
      room = search rules;
      few = search rules;
    }
