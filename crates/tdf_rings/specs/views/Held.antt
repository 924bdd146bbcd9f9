-- What a ring holds: it has no buffer where its capacity is 0.
-- Source: own.
use Rattle.std.specs.Prelude.{Option, Some, None, []}
use Rattle.circular_buffer.specs.Buffer.{Buffer}
use Rattle.tdf_fixed.specs.declared.raw.Raw.{Raw}
use Rattle.tdf_rings.specs.Rings.{RingOf, ring_of}

abbrev pub ring_in : Option (Buffer Raw) → RingOf
ring_in None = ring_of [] 0
ring_in (Some buffer) = ring_of buffer.items buffer.capacity
