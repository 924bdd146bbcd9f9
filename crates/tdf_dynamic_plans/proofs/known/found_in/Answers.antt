use Rattle.std.proofs.Common.{◌∙◌, ap, arith, rules, sym}
use Rattle.tdf_dynamic_plans.proofs.Keeping.{at_index, one_more, within}
use Rattle.tdf_dynamic_plans.specs.Known.{KnownOf, table_key}
use Rattle.tdf_dynamic_plans.proofs.known.found_in.Goals as goal

pub returns-then-is_key_of-clause-known : goal.returns-then-is_key_of-clause-known
returns-then-is_key_of-clause-known c = (
  c.index-plans-i.result,
  at_index c.args.plans.now c.loop-i.i c.index-plans-i.result (search (rules)) c.index-plans-i.is,
  sym (c.deref.ensures.value ∙ ap (λ (k : KnownOf). k.key) c.known.view_is) ∙ c.is_key_of.ensures.same (search (rules)),
)

pub loop-i-preserved : goal.loop-i-preserved
loop-i-preserved c = one_more c.args.plans.now (table_key c.args.table.now) c.loop-i.i c.index-plans-i.result
    (at_index c.args.plans.now c.loop-i.i c.index-plans-i.result (search (rules)) c.index-plans-i.is)
    (λ has. c.is_key_of.ensures.other (search (rules)) (c.deref.ensures.value ∙ ap (λ (k : KnownOf). k.key) c.known.view_is ∙ has)) c.loop-i.invariant

pub returns-clause-none : goal.returns-clause-none
returns-clause-none c = λ _ known. let inside = within c.args.plans.now known.0 known.1.0 known.1.1 in let end = c.loop-i-test.false in
    c.loop-i.invariant known.0 known.1.0 (omega (arith, inside, end)) known.1.1 known.1.2
