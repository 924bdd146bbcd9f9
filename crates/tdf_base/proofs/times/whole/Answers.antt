-- Each result is a lemma over plain numbers.
use Rattle.std.proofs.Common.{◌+◌, ◌*◌, ◌/◌, ◌%◌, ◌<◌, refl, arith}
use Rattle.tdf_base.proofs.Quotients.{count_fits, count_broken, count_first, count_second, count_whole, count_large}
use Rattle.tdf_base.proofs.times.whole.Goals as goal

pub overflow_add-parts : goal.overflow_add-parts
overflow_add-parts c =
    let small = count_fits c.args.whole c.args.part c.args.d c.args.scale (omega arith) (omega arith) c.requires.scale in
    rw (c.from-scale.ensures, c.from.ensures, c.from-2.ensures) (omega (arith, small))

pub returns-then-part-d-ne0-clause-value : goal.returns-then-part-d-ne0-clause-value
returns-then-part-d-ne0-clause-value c =
    let broken : 0 < c.from.result * c.from-scale.result % c.args.d = omega (arith, c.if-part-d-ne0.true) in
    let same : 0 < c.args.part * c.args.scale % c.args.d = rw (c.from.ensures, c.from-scale.ensures) at broken in
    rw (count_broken c.args.whole c.args.part c.args.d c.args.scale c.args.per
    (count_first c.args.whole c.args.part c.args.d c.args.scale c.args.per c.requires.divides.0 c.requires.divides.1 same)) refl

pub returns-then-parts-per-ne0-clause-value : goal.returns-then-parts-per-ne0-clause-value
returns-then-parts-per-ne0-clause-value c =
    let all = c.from-2.result * c.from-scale.result + c.from.result * c.from-scale.result / c.args.d in
    let broken : 0 < all % c.from-per.result = omega (arith, c.if-parts-per-ne0.true) in
    let same : 0 < (c.args.whole * c.args.scale + c.args.part * c.args.scale / c.args.d) % c.args.per =
    rw (c.from.ensures, c.from-scale.ensures, c.from-2.ensures, c.from-per.ensures) at broken in
    rw (count_broken c.args.whole c.args.part c.args.d c.args.scale c.args.per
    (count_second c.args.whole c.args.part c.args.d c.args.scale c.args.per c.requires.divides.0 c.requires.divides.1 same)) refl

pub returns-then-count-lt-LIMIT-clause-value : goal.returns-then-count-lt-LIMIT-clause-value
returns-then-count-lt-LIMIT-clause-value c =
    rw (c.from.ensures, c.from-scale.ensures, c.from-2.ensures, c.from-per.ensures)
    (rw (count_whole c.args.whole c.args.part c.args.d c.args.scale c.args.per c.requires.divides.0 c.requires.divides.1
    (rw (c.from.ensures, c.from-scale.ensures) at c.if-part-d-ne0.false)
    (rw (c.from.ensures, c.from-scale.ensures, c.from-2.ensures, c.from-per.ensures) at c.if-parts-per-ne0.false)
    (rw (c.from.ensures, c.from-scale.ensures, c.from-2.ensures, c.from-per.ensures) at c.if-count-lt-LIMIT.true)) refl)

pub returns-else-count-lt-LIMIT-clause-value : goal.returns-else-count-lt-LIMIT-clause-value
returns-else-count-lt-LIMIT-clause-value c =
    rw (count_large c.args.whole c.args.part c.args.d c.args.scale c.args.per c.requires.divides.0 c.requires.divides.1
    (rw (c.from.ensures, c.from-scale.ensures) at c.if-part-d-ne0.false)
    (rw (c.from.ensures, c.from-scale.ensures, c.from-2.ensures, c.from-per.ensures) at c.if-parts-per-ne0.false)
    (rw (c.from.ensures, c.from-scale.ensures, c.from-2.ensures, c.from-per.ensures) at c.if-count-lt-LIMIT.false)) refl
