-- The traces of event signals show signals that there are.
use Rattle.tdf_bind_invariants.specs.Limits.{FlatIsWithinLimits}
use Rattle.tdf_cli_whole.specs.Members.{EventsAreTold}
use Rattle.tdf_sim_traces.proofs.Api.{told}

pub events_are_told : FlatIsWithinLimits → EventsAreTold
events_are_told within model flat sound is column row at event = (told model flat is (within model flat sound.kept sound.types is)).events column row at event
