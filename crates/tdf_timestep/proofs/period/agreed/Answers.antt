use Rattle.std.proofs.Common.{arith}
use Rattle.std.proofs.lemmas.List.Elements.{All-get_or}
use Rattle.tdf_timestep.proofs.Agreed.{no_first, first_within, disagreed, agreed_all}
use Rattle.tdf_timestep.specs.Period.{IsAssigned}
use Rattle.tdf_timestep.proofs.period.agreed.Goals as goal

pub returns-in-None : goal.returns-in-None
returns-in-None c = no_first c.args.assigned.now c.in-None.ensures

pub bounds-assigned-first : goal.bounds-assigned-first
bounds-assigned-first c = first_within c.args.assigned.now (λ _. Unit {0}) c.in-Some.first c.in-Some.ensures

pub period_of-period-requires-clause-assigned : goal.period_of-period-requires-clause-assigned
period_of-period-requires-clause-assigned c = All-get_or (IsAssigned c.args.net.now.ports.items c.args.counts.now) c.args.assigned.now c.in-Some.first _
    (first_within c.args.assigned.now (λ _. Unit {0}) c.in-Some.first c.in-Some.ensures) c.requires.assigned

pub returns-in-Some-first_other : goal.returns-in-Some-first_other
returns-in-Some-first_other c = disagreed c.args.net.now.ports.items c.args.counts.now c.args.assigned.now c.in-Some.first _ c.period_of-period.result c.in-Some.ensures c.period_of-period.ensures.value
    c.in-Some-first_other.other c.in-Some-first_other.ensures

pub returns-then-period-from : goal.returns-then-period-from
returns-then-period-from c = (
  agreed_all c.args.net.now.ports.items c.args.counts.now c.args.assigned.now c.in-Some.first _ c.period_of-period.result c.in-Some.ensures c.period_of-period.ensures.value
      c.in-None-first_other.ensures,
  omega (arith, c.if-period-from.true, c.from.ensures),
)

pub returns : goal.returns
returns c = record {
  period = c.period_of-period.result;
  agreed = agreed_all c.args.net.now.ports.items c.args.counts.now c.args.assigned.now c.in-Some.first _ c.period_of-period.result c.in-Some.ensures c.period_of-period.ensures.value
      c.in-None-first_other.ensures;
  long = omega (arith, c.if-period-from.false, c.from.ensures);
}
