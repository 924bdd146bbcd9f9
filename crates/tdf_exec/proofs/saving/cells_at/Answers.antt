use Rattle.std.proofs.Common.{◌∙◌, refl, sym}
use Rattle.std.proofs.lemmas.Option.{get_or_from_slice_get}
use Rattle.tdf_exec.proofs.Owned.{cells_are}
use Rattle.tdf_exec.specs.declared.runners.Runner.TheVariants as runner
use Rattle.tdf_exec.proofs.saving.cells_at.Goals as goal

pub returns-in-None : goal.returns-in-None
returns-in-None c = c.new-in-None.ensures.items ∙ sym (cells_are c.args.actors.now.runners c.args.actor runner.Outside (c.in-None.ensures.none refl))
