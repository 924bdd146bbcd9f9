use Rattle.std.proofs.Common.{List, subst, sym}
use Rattle.tdf_dynamic_plans.specs.Attributes.{AttrsOf}
use Rattle.tdf_dynamic_plans.specs.Rates.{AreRates}
use Rattle.tdf_streams.proofs.Api.{are_rates, is_wired}
use Rattle.tdf_dynamic.proofs.next.with_table.Goals as goal

pub judged-requires-clause-wired : goal.judged-requires-clause-wired
judged-requires-clause-wired c = is_wired c.args.flat.now c.requires.limits

pub judged-requires-clause-rates : goal.judged-requires-clause-rates
judged-requires-clause-rates c = are_rates c.args.flat.now c.requires.limits c.args.table.now c.requires.attributes.allowed

pub judged-requires-clause-new_rates : goal.judged-requires-clause-new_rates
judged-requires-clause-new_rates c =
    subst (λ (l : List AttrsOf). AreRates c.args.flat.now.tables l) (sym c.deref.ensures.value)
    (are_rates c.args.flat.now c.requires.limits c.in_ok-after.after.items (c.requires.after c.in_ok-after.after.items c.in_ok-after.ensures).allowed)
