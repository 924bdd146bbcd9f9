use Rattle.std.proofs.Common.{arith, ◌≡◌, ◌∙◌, ◌+◌, ◌-◌, ◌++◌, ◌∷◌, [], ap, drop, length, subst}
use Rattle.tdf_dynamic_plans.proofs.Keeping.{few_after, few_more}
use Rattle.tdf_dynamic_plans.specs.Known.{HasKept, KnownOf, PlansOf, Kept, table_key}
use Rattle.tdf_dynamic_plans.specs.contracts.known.KnownPlans.{the_view}
use Rattle.tdf_dynamic_plans.proofs.known.KnownPlans.keep.Goals as goal

pub invariant_of-self-in_err-push-in-Ok : goal.invariant_of-self-in_err-push-in-Ok
invariant_of-self-in_err-push-in-Ok c =
    few_after (the_view c.self.inside) c.make_room.new.plans.items c.push.new.self.items c.saturating_add-self-inside.result c.self.invariant c.make_room.ensures.rest c.make_room.ensures.room
    c.in_err-push-in-Ok.ensures.items

pub invariant_of-self-in-Ok : goal.invariant_of-self-in-Ok
invariant_of-self-in-Ok c =
    let count = ap length c.in-Ok.ensures.plan.entries in let few = c.if-len-gt-MOST_ENTRIES.false in let is = c.len.ensures in
    few_more (the_view c.self.inside) c.make_room.new.plans.items c.push.new.self.items c.in-Ok.known c.saturating_add-self-inside.result
    c.self.invariant c.make_room.ensures.rest c.make_room.ensures.room (omega (arith, count, few, is)) c.in_ok-push-in-Ok.ensures.items

pub returns-in_ok-push-in-Ok-clause-kept : goal.returns-in_ok-push-in-Ok-clause-kept
returns-in_ok-push-in-Ok-clause-kept c =
    let some = c.if-self-eq0.false in let few = c.if-len-gt-MOST_ENTRIES.false in let is = c.len.ensures in
    let made : KnownOf = record { key = table_key c.args.table.now; counts = c.args.timing.counts.items; steps = c.args.timing.steps; plan = c.in-Ok.known.plan } in
    let known_is : c.in-Ok.known ≡ made = λ i. record { key = c.in-Ok.ensures.known.0 i; counts = c.in-Ok.ensures.known.1 i; steps = c.in-Ok.ensures.known.2 i; plan = c.in-Ok.known.plan } in
    subst (λ (s : PlansOf). HasKept (table_key c.args.table.now) c.args.timing.counts.items c.args.timing.steps c.args.plan.now s (record { plans = c.push.new.self.items; most = c.self.inside.most; made = c.saturating_add-self-inside.result })) c.self.view_is
    (Kept c.in-Ok.known.plan c.in-Ok.ensures.plan (omega (arith, some)) (omega (arith, few, is))
    (c.in_ok-push-in-Ok.ensures.items ∙ ap (λ l. l ++ c.in-Ok.known ∷ []) c.make_room.ensures.rest
    ∙ ap (λ (k : KnownOf). drop (length c.self.inside.plans.items + 1 - c.self.inside.most) c.self.inside.plans.items ++ k ∷ []) known_is))
