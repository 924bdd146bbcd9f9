-- The ports of a module as a body finds them that reads nothing.
-- Source: own.
use Rattle.std.specs.Prelude.{◌≡◌, length}
use Rattle.tdf_expr.specs.Frames.{PortsSeen}
use Rattle.tdf_exec_firing.specs.Activation.{ports_before}
use Rattle.tdf_streams.specs.Bodies.{nothing_read}

-- all samples are 0, and nothing is asked for
pub record AreBegun (old new : PortsSeen) : Type 0 where
  pub spans : new.spans ≡ old.spans
  pub state : new.state ≡ ports_before old.spans (length old.state.notified) nothing_read
