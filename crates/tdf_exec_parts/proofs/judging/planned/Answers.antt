use Rattle.std.proofs.Common.{◌∙◌, ap, sym}
use Rattle.std.proofs.lemmas.Bool.{false≢true}
use Rattle.std.specs.Prelude.{Err}
use Rattle.tdf_dynamic_plans.proofs.Api.{rows_same}
use Rattle.tdf_exec_parts.proofs.Stated.{first_inside, none_refused, of_states, states_for, states_of}
use Rattle.tdf_exec_parts.proofs.judging.planned.Goals as goal

pub are_states_of-fit-requires-clause-inside : goal.are_states_of-fit-requires-clause-inside
are_states_of-fit-requires-clause-inside c =
    first_inside c.args.flat.now c.args.cluster c.requires.limits c.deref.result.now (c.deref.ensures.value ∙ rows_same c.text.view_is ∙ c.in_ok-text.ensures.rows)

pub returns-then-not-fit-clause-bad : goal.returns-then-not-fit-clause-bad
returns-then-not-fit-clause-bad c = λ bad are table plan own planned.
    false≢true (sym c.if-not-fit.true ∙ c.are_states_of-fit.ensures.1
    (of_states c.args.flat.now c.args.cluster c.deref.result.now c.args.modules.now (c.deref.ensures.value ∙ rows_same c.text.view_is ∙ c.in_ok-text.ensures.rows) are))

pub plan_of_states-requires-clause-values : goal.plan_of_states-requires-clause-values
plan_of_states-requires-clause-values c = states_for c.args.flat.now c.args.cluster c.args.modules.now
    (states_of c.args.flat.now c.args.cluster c.deref.result.now c.args.modules.now (c.deref.ensures.value ∙ rows_same c.text.view_is ∙ c.in_ok-text.ensures.rows) (c.are_states_of-fit.ensures.0 c.if-not-fit.false))

pub returns-in-Err-Refused-clause-bad : goal.returns-in-Err-Refused-clause-bad
returns-in-Err-Refused-clause-bad c = λ bad are table plan own planned. none_refused (Err c.in-Err-Refused.field-0) c.in-Err-Refused.fault (ap Err c.in-Err-Refused.field-0-is) (c.in-Err-Refused.ensures.first_always table plan own planned)
