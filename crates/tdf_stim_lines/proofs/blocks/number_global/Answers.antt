use Rattle.std.proofs.Common.{arith, refl}
use Rattle.tdf_stim_lines.proofs.TreeWalks.{shape_walks, tdf_in, de_in, net_in}
use Rattle.tdf_stim_lines.proofs.blocks.number_global.Goals as goal

pub returns-in-Shape : goal.returns-in-Shape
returns-in-Shape c = shape_walks c.args.at c.saturating_add.result c.args.global.now c.in-Shape.shape _ c.in-Shape.is (omega arith) c.saturating_add.ensures refl

pub returns-in-Tdf : goal.returns-in-Tdf
returns-in-Tdf c = tdf_in c.args.at c.number_tdf.result c.args.global.now c.in-Tdf.block c.number_tdf.new.block c.in-Tdf.is c.number_tdf.ensures

pub returns-in-De : goal.returns-in-De
returns-in-De c = de_in c.args.at c.number_de.result c.args.global.now c.in-De.block c.number_de.new.block c.in-De.is c.number_de.ensures

pub returns-in-Net : goal.returns-in-Net
returns-in-Net c = net_in c.args.at c.number_composite.result c.args.global.now c.in-Net.block c.number_composite.new.block c.in-Net.is c.number_composite.ensures
