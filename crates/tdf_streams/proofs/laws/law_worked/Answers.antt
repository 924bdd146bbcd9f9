use Rattle.std.proofs.Common.{refl}
use Rattle.tdf_streams.specs.Streams.{find, input, inputs, known, output, place, places, state_before, turn, turn_at}
use Rattle.tdf_streams.proofs.laws.law_worked.Goals as goal

pub returns : goal.returns
unfolding find input inputs known output place places state_before turn turn_at
returns c = record {
  initial = refl;
  first = refl;
  second = refl;
  changed = refl;
  sum_first = refl;
  sum_second = refl;
  sum_changed = refl;
}
