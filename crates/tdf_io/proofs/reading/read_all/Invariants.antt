use Rattle.std.proofs.Common.{◌≡◌, ◌+◌, ◌-◌, ◌≤◌, vec_len}
use Rattle.std.specs.Io.KnownBytes.{Consumes}
use Rattle.tdf_io.proofs.reading.read_all.Given as goal

abbrev pub invariant-loop-bytes : goal.invariant-loop-bytes
invariant-loop-bytes g l = record {
  within : vec_len l.bytes ≤ l.limit;
  gave : Consumes (g.S.Source.left l.initial.src) (g.S.Source.left l.src) l.bytes.items;
  faults : g.S.Source.faults l.src ≡ g.S.Source.faults l.initial.src;
  reads : g.S.Source.reads l.src ≤ g.S.Source.reads l.initial.src + vec_len l.bytes;
}

abbrev pub decreases-loop-bytes : goal.decreases-loop-bytes
decreases-loop-bytes g l = l.limit - vec_len l.bytes
