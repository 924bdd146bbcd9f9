use Rattle.std.proofs.Common.{◌≡◌, ◌+◌, ◌-◌, length}
use Rattle.tdf_save.specs.machine.Start.{text_start_in, text_start_of}
use Rattle.tdf_save.proofs.start.find_start.Given as goal

abbrev pub invariant-loop-line : goal.invariant-loop-line
invariant-loop-line l = (l.place + length l.rest ≡ length l.bytes)
    × (text_start_of l.bytes ≡ text_start_in (length l.bytes - l._line) l.place l.rest)
