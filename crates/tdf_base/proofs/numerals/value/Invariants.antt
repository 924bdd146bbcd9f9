-- The digits read so far, in front of those that are left.
use Rattle.std.proofs.Common.{◌≡◌, ◌+◌, ◌*◌, ◌<◌, ◌^◌, drop, length}
use Rattle.tdf_base.specs.Digits.{number}
use Rattle.tdf_base.proofs.numerals.value.Given as goal

abbrev pub invariant-loop-byte : goal.invariant-loop-byte
invariant-loop-byte l = record {
  number : l.value * 10 ^ length (drop l.byte-index l.text) + number (drop l.byte-index l.text) ≡ number l.text;
  below : l.value < 10 ^ l.byte-index;
}
