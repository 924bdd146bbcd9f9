use Rattle.std.proofs.Common.{◌+◌, subst}
use Rattle.std.specs.Prelude.{OnOk}
use Rattle.tdf_sim_refinement.specs.Below.{KeepsLayouts}
use Rattle.tdf_sim_resumed.proofs.Onward.{goes_on, has_number, is_bad}
use Rattle.tdf_sim_resumed.proofs.making.restored_cluster.Goals as goal

pub from_state-requires-clause-has : goal.from_state-requires-clause-has
from_state-requires-clause-has c =
    has_number c.law_numbers.ensures c.args.flat.now c.args.place c.in-Ok.number (c.law_limits.ensures c.requires.sound.model c.args.flat.now c.requires.sound.sound.kept c.requires.sound.sound.types c.requires.sound.is)
    c.requires.there c.in-Ok.ensures.number

pub returns-in-Ok-clause-made : goal.returns-in-Ok-clause-made
returns-in-Ok-clause-made c =
    goes_on c.args.flat.now c.in-Ok.number (c.args.place + 1) c.args.state.now c.args.time c.from_state.result c.in-Ok.ensures.number c.from_state.ensures.of c.from_state.ensures.at c.from_state.ensures.stands

pub returns-in-Ok-clause-bad : goal.returns-in-Ok-clause-bad
returns-in-Ok-clause-bad c = is_bad c.args.flat.now c.in-Ok.number (c.args.place + 1) c.args.state.now c.args.time c.from_state.result c.in-Ok.ensures.number c.from_state.ensures.bad

pub returns-in-Ok-clause-others : goal.returns-in-Ok-clause-others
returns-in-Ok-clause-others c =
    subst (λ n. OnOk c.from_state.result (KeepsLayouts c.args.flat.now n c.args.layout.now c.from_state.new.layout)) c.in-Ok.ensures.number c.from_state.ensures.others
