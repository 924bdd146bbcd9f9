use Rattle.std.proofs.Common.{take, length-take, arith}
use Rattle.tdf_io.proofs.Gives.{gives_then, gives_just}
use Rattle.tdf_io.proofs.reading.read_all.Goals as goal

pub returns-in-Err-extend_from_slice-clause-no_more : goal.returns-in-Err-extend_from_slice-clause-no_more
returns-in-Err-extend_from_slice-clause-no_more g c = λ _. gives_then _ _ _ c.loop-bytes.bytes.items (take c.in-Ok.count c.read.new.buf) c.args.limit
    c.loop-bytes.invariant.gave (c.in-Ok.ensures.bytes.0)
    (omega (arith, length-take c.in-Ok.count c.read.new.buf, c.in-Ok.ensures.bound, simp length-take at c.read.auto.buf))

pub returns-in-Ok-read-clause-too_long : goal.returns-in-Ok-read-clause-too_long
returns-in-Ok-read-clause-too_long g c = λ _. gives_just _ _ _ c.loop-bytes.bytes.items (take c.in-Ok-read.field-0 c.read-2.new.buf) _
    c.loop-bytes.invariant.gave (c.in-Ok-read.ensures.bytes.0)
    (omega (arith, length-take c.in-Ok-read.field-0 c.read-2.new.buf, c.in-Ok-read.ensures.bound, simp length-take at c.read-2.auto.buf))
