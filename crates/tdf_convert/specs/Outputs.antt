-- Lists with room for a stated number (own): samples of sinks and of traced signals, and values for
-- signals of events.
use Rattle.std.specs.Prelude.{ℕ, List}
use Rattle.tdf_convert.specs.declared.outputs.Sent.{Sent}
use Rattle.tdf_convert.specs.declared.outputs.Traced.{Traced}
use Rattle.tdf_convert.specs.declared.writes.SignalWrite.{SignalWrite}

pub record OutputsOf : Type 0 where
  pub sent : List Sent
  pub traced : List Traced
  pub sent_room : ℕ
  pub traced_room : ℕ

pub record WritesOf : Type 0 where
  pub list : List SignalWrite
  pub room : ℕ
