-- When the entries of a plan are all before the end of its period.
-- Source: own.
use Rattle.std.specs.Prelude.{◌<◌, All}
use Rattle.tdf_sim_refinement.specs.Below.{ClusterOf}
use Rattle.tdf_schedule.specs.declared.entry.Entry.{Entry}

-- each is due before the period ends
abbrev pub LieInside : ClusterOf → Type 0
LieInside c = All (λ (x : Entry). x.offset < c.period) c.entries
