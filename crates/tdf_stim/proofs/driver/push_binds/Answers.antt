use Rattle.std.proofs.Common.{◌<◌, append-nil, arith, length, map, refl, sym}
use Rattle.std.proofs.lemmas.List.{length-map}
use Rattle.tdf_stim.proofs.Building.{binds_step}
use Rattle.tdf_stim.proofs.Loops.{seen_at}
use Rattle.tdf_stim.specs.Driver.{bind_lines}
use Rattle.tdf_stim.specs.machine.Counted.{count_driving, labels_in}
use Rattle.tdf_stim.specs.machine.Maps.{seen}
use Rattle.tdf_stim.proofs.driver.push_binds.Goals as goal

pub loop-source-preserved : goal.loop-source-preserved
loop-source-preserved c =
    let sources = map seen c.args.sources.now in
    let i = c.loop-source.source-index in
    let within : i < length sources = omega (arith, length-map c.args.sources.now seen, c.loop-source-test.true) in
    let step = binds_step c.args.name.now sources i c.loop-source.number c.in_ok-number.number (seen c.source-item.result) c.args.lines.now.items c.loop-source.lines.items c.add_bind.new.lines.items
    within (seen_at c.args.sources.now i c.source-item.result c.loop-source-test.true c.source-item.is)
    c.loop-source.invariant.number c.loop-source.invariant.few c.loop-source.invariant.lines c.in_ok-number.ensures.lines c.in_ok-number.ensures.number in
    record { number = step.0; few = step.1; lines = step.2 }

pub loop-source-init : goal.loop-source-init
unfolding count_driving labels_in bind_lines
loop-source-init c = record { number = refl; few = omega arith; lines = sym (append-nil c.args.lines.now.items) }
