use Rattle.std.proofs.Common.{refl}
use Rattle.tdf_balance.proofs.Merges.{large_first, large_second, merged}
use Rattle.tdf_balance.proofs.solution.merge.Goals as goal

pub returns-then-not-scale_part : goal.returns-then-not-scale_part
returns-then-not-scale_part c edges are = large_first _ edges c.args.solution.parts c.args.solution.counts.items c.args.edge.now are c.requires.fits
    c.label-first.result c.label-second.result c.times-first_times.result c.times-second_times.result c.gcd-common.result c.args.written c.args.read c.label-first.ensures.value c.label-second.ensures.value
    c.requires.apart c.requires.written c.requires.read c.gcd-common.ensures.divisor c.times-first_times.ensures.value c.times-second_times.ensures.value c.times-first_times.ensures.some c.times-second_times.ensures.some c.gcd-common.ensures.some
    (c.if-not-scale_part.ensures.above refl)

pub returns-then-not-scale_part-2 : goal.returns-then-not-scale_part-2
returns-then-not-scale_part-2 c edges are = large_second _ edges c.args.solution.parts c.args.solution.counts.items c.args.edge.now are c.requires.fits
    c.label-first.result c.label-second.result c.times-first_times.result c.times-second_times.result c.gcd-common.result c.args.written c.args.read c.label-first.ensures.value c.label-second.ensures.value
    c.requires.apart c.requires.written c.requires.read c.gcd-common.ensures.divisor c.times-first_times.ensures.value c.times-second_times.ensures.value c.times-first_times.ensures.some c.times-second_times.ensures.some c.gcd-common.ensures.some
    c.scale_part.new.counts.items (c.if-not-scale_part.ensures.scaled refl) (c.if-not-scale_part-2.ensures.above refl)

pub returns-in-Ok : goal.returns-in-Ok
returns-in-Ok c edges are = merged _ edges c.args.solution.parts c.args.solution.counts.items c.args.edge.now are c.requires.fits
    c.label-first.result c.label-second.result c.times-first_times.result c.times-second_times.result c.gcd-common.result c.args.written c.args.read c.label-first.ensures.value c.label-second.ensures.value
    c.requires.apart c.requires.written c.requires.read c.gcd-common.ensures.divisor c.times-first_times.ensures.value c.times-second_times.ensures.value c.times-first_times.ensures.some c.times-second_times.ensures.some c.gcd-common.ensures.some
    c.scale_part.new.counts.items c.scale_part-2.new.counts.items c.in-Ok.parts (c.if-not-scale_part.ensures.scaled refl) (c.if-not-scale_part-2.ensures.scaled refl) c.in-Ok.ensures.merged
