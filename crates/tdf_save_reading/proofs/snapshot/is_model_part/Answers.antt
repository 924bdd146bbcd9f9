use Rattle.std.proofs.Common.{length, refl}
use Rattle.std.proofs.lemmas.Bool.{eqb-true, eqb-false}
use Rattle.tdf_save_reading.proofs.WholeSteps.{model_there, no_size, no_text, other_size}
use Rattle.tdf_save_reading.proofs.snapshot.is_model_part.Goals as goal

pub returns-in_default-clause-no : goal.returns-in_default-clause-no
returns-in_default-clause-no c = λ _. no_text c.args.text.now c.in_default.ensures

pub returns-in-Some-last_count-clause-yes : goal.returns-in-Some-last_count-clause-yes
returns-in-Some-last_count-clause-yes c = λ e. model_there c.args.text.now c.in-Some.rest.now c.in-Some-last_count.size c.in-Some-last_count.model.now c.in-Some.ensures c.in-Some-last_count.ensures.is (eqb-true c.in-Some-last_count.size (length c.in-Some-last_count.model.now) e)

pub returns-in-Some-last_count-clause-no : goal.returns-in-Some-last_count-clause-no
returns-in-Some-last_count-clause-no c = λ e. other_size c.args.text.now c.in-Some.rest.now c.in-Some-last_count.size c.in-Some-last_count.model.now c.in-Some.ensures c.in-Some-last_count.ensures.is (eqb-false c.in-Some-last_count.size (length c.in-Some-last_count.model.now) e)

pub returns-in-None-clause-no : goal.returns-in-None-clause-no
returns-in-None-clause-no c = λ _. no_size c.args.text.now c.in-Some.rest.now c.in-Some.ensures (c.in-None.ensures.none refl)
