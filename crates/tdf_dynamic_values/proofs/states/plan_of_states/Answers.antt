use Rattle.tdf_dynamic_values.proofs.Stated.{always_first, always_refused, first_of, none_true, refused_of, states_held, table_of, values_given}
use Rattle.tdf_dynamic_values.proofs.states.plan_of_states.Goals as goal

pub from_values-requires-clause-values : goal.from_values-requires-clause-values
from_values-requires-clause-values c = values_given c.args.flat.now c.args.cluster c.args.modules.now c.in_ok-accepts.accepts.items c.in_ok-rates.rates.items c.in_ok-steps.steps.items
    c.in_ok-accepts.ensures c.in_ok-rates.ensures c.in_ok-steps.ensures c.requires.values

pub plan_of-requires-clause-known : goal.plan_of-requires-clause-known
plan_of-requires-clause-known c = none_true c.args.flat.now c.args.cluster c.in_ok-attrs.attrs.rows c.in_ok-attrs.attrs.known c.in_ok-attrs.ensures.known

pub returns-clause-table : goal.returns-clause-table
returns-clause-table c = table_of c.args.flat.now c.args.cluster c.args.modules.now c.law_one_table.ensures c.in_ok-attrs.attrs.rows
    (states_held c.args.flat.now c.args.cluster c.args.modules.now c.in_ok-accepts.accepts.items c.in_ok-rates.rates.items c.in_ok-steps.steps.items c.in_ok-accepts.ensures c.in_ok-rates.ensures c.in_ok-steps.ensures
    c.in_ok-attrs.attrs.rows c.in_ok-attrs.ensures.attributes c.in_ok-attrs.ensures.values) c.plan_of.result c.plan_of.ensures.first

pub returns-clause-first : goal.returns-clause-first
returns-clause-first c = first_of c.args.flat.now c.args.cluster c.args.modules.now c.law_one_table.ensures c.in_ok-attrs.attrs.rows
    (states_held c.args.flat.now c.args.cluster c.args.modules.now c.in_ok-accepts.accepts.items c.in_ok-rates.rates.items c.in_ok-steps.steps.items c.in_ok-accepts.ensures c.in_ok-rates.ensures c.in_ok-steps.ensures
    c.in_ok-attrs.attrs.rows c.in_ok-attrs.ensures.attributes c.in_ok-attrs.ensures.values) c.plan_of.result c.plan_of.ensures.first

pub returns-clause-refused : goal.returns-clause-refused
returns-clause-refused c = refused_of c.args.flat.now c.args.cluster c.args.modules.now c.law_one_table.ensures c.in_ok-attrs.attrs.rows
    (states_held c.args.flat.now c.args.cluster c.args.modules.now c.in_ok-accepts.accepts.items c.in_ok-rates.rates.items c.in_ok-steps.steps.items c.in_ok-accepts.ensures c.in_ok-rates.ensures c.in_ok-steps.ensures
    c.in_ok-attrs.attrs.rows c.in_ok-attrs.ensures.attributes c.in_ok-attrs.ensures.values) c.plan_of.result c.plan_of.ensures.refused

pub returns-clause-refused_always : goal.returns-clause-refused_always
returns-clause-refused_always c = always_refused c.args.flat.now c.args.cluster c.args.modules.now c.law_one_table.ensures c.in_ok-attrs.attrs.rows
    (states_held c.args.flat.now c.args.cluster c.args.modules.now c.in_ok-accepts.accepts.items c.in_ok-rates.rates.items c.in_ok-steps.steps.items c.in_ok-accepts.ensures c.in_ok-rates.ensures c.in_ok-steps.ensures
    c.in_ok-attrs.attrs.rows c.in_ok-attrs.ensures.attributes c.in_ok-attrs.ensures.values) c.plan_of.result c.plan_of.ensures.refused_always

pub returns-clause-first_always : goal.returns-clause-first_always
returns-clause-first_always c = always_first c.args.flat.now c.args.cluster c.args.modules.now c.law_one_table.ensures c.in_ok-attrs.attrs.rows
    (states_held c.args.flat.now c.args.cluster c.args.modules.now c.in_ok-accepts.accepts.items c.in_ok-rates.rates.items c.in_ok-steps.steps.items c.in_ok-accepts.ensures c.in_ok-rates.ensures c.in_ok-steps.ensures
    c.in_ok-attrs.attrs.rows c.in_ok-attrs.ensures.attributes c.in_ok-attrs.ensures.values) c.plan_of.result c.plan_of.ensures.first_always
