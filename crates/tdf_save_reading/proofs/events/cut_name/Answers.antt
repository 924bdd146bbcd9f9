use Rattle.std.proofs.Common.{sym, ◌∙◌}
use Rattle.tdf_save_reading.proofs.EventSteps.{other_blank}
use Rattle.tdf_save_reading.proofs.events.cut_name.Goals as goal

pub returns-else-begins_with-clause-none : goal.returns-else-begins_with-clause-none
returns-else-begins_with-clause-none c = λ _. other_blank c.args.text.now c.args.name.now c.in-Some.rest.now c.in-Some.ensures (sym c.begins_with.ensures ∙ c.if-begins_with.false)
