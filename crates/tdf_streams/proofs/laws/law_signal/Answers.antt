use Rattle.tdf_streams.proofs.Api.{begin_as_read, edges_carry, outputs_are}
use Rattle.tdf_streams.proofs.laws.law_signal.Goals as goal

pub returns : goal.returns
returns c = record { outputs = outputs_are; begins = begin_as_read; carries = edges_carry }
