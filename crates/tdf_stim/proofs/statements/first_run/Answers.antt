use Rattle.std.proofs.Common.{◌∙◌, ap}
use Rattle.std.proofs.lemmas.List.{take_rest}
use Rattle.tdf_stim.proofs.Forms.{first_is}
use Rattle.tdf_stim.specs.Driver.{is_count}
use Rattle.tdf_stim.proofs.statements.first_run.Goals as goal

pub returns : goal.returns
returns c = first_is c.args.times.now c.in_ok-test.test c.in_ok-yes.yes c.new.result (c.in_ok-test.ensures ∙ ap is_count c.in_ok-number.ensures) (simp take_rest at c.in_ok-yes.ensures) c.new.ensures.items
