use Rattle.std.proofs.Common.{◌∙◌, sym}
use Rattle.tdf_stim.proofs.Maps.{put_adds, put_stays}
use Rattle.tdf_stim.specs.machine.Maps.{found_type}
use Rattle.tdf_stim.proofs.types.Types.put.Goals as goal

pub returns-in-Some : goal.returns-in-Some
returns-in-Some c = λ other. put_stays (found_type c.args.self.now) c.args.name.now other c.args.shape c.in-Some.field-0 (sym c.find.ensures ∙ c.in-Some.is)

pub returns-in_ok-insert-in-None : goal.returns-in_ok-insert-in-None
returns-in_ok-insert-in-None c = λ other. put_adds (found_type c.args.self.now) _ c.args.name.now other c.args.shape (sym c.find.ensures ∙ c.in-None.is)
    (c.in_ok-insert-in-None.ensures.updates.0 (record { ref_ptr = (0, 0); now = other }))
