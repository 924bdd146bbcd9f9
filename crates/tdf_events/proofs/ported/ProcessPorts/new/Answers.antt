use Rattle.std.proofs.Common.{Option, ℕ, length, ap, ◌∙◌}
use Rattle.std.proofs.lemmas.List.{length-replicate}
use Rattle.tdf_events.proofs.ported.ProcessPorts.new.Goals as goal

pub returns : goal.returns
returns c = record { spans = c.in_ok-ports.ensures.spans; events = ap length c.in_ok-ports.ensures.notified ∙ length-replicate {A = Option ℕ} _ _ }
