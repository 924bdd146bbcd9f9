use Rattle.std.proofs.Common.{rules, ◌≡◌, ◌∙◌, subst, sym}
use Rattle.tdf_dynamic_plans.proofs.Placing.{rate_there}
use Rattle.tdf_dynamic_plans.specs.Rates.{times_value}
use Rattle.tdf_graph.specs.Ranges.{IsRate}
use Rattle.tdf_dynamic_plans.proofs.rates.rate_once.Goals as goal

pub times_value-requires : goal.times_value-requires
times_value-requires c =
    let own : c.deref.result.now ≡ c.index-table-place.result.rates = search rules in
    subst IsRate (sym (rate_there c.args.table.now c.args.port.now c.in-Some.place c.index-table-place.result c.deref.result.now c.requires.once c.in-Some.ensures.is c.in-Some.ensures.inside c.index-table-place.is own)) c.requires.rate

pub returns-in-Some : goal.returns-in-Some
returns-in-Some c =
    let own : c.deref.result.now ≡ c.index-table-place.result.rates = search rules in
    let value : c.times_value.result ≡ times_value c.args.port.now.rate.times c.deref.result.now c.args.port.now.rate.var = search rules in
    value ∙ rate_there c.args.table.now c.args.port.now c.in-Some.place c.index-table-place.result c.deref.result.now c.requires.once c.in-Some.ensures.is c.in-Some.ensures.inside c.index-table-place.is own
