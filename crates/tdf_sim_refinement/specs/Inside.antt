-- Where the entries of a plan lie in its period.
-- Source: own.
use Rattle.std.specs.Prelude.{◌<◌, All}
use Rattle.tdf_exec.specs.Cluster.{ClusterOf}
use Rattle.tdf_exec.specs.Made.{IsClusterOf}
use Rattle.tdf_bind.specs.declared.model.Flat.{Flat}
use Rattle.tdf_bind_invariants.specs.Limits.{AreWithinLimits}
use Rattle.tdf_schedule.specs.declared.entry.Entry.{Entry}

-- all entries of a plan come before the end of its period
abbrev pub EntriesLieInside : Type 0
EntriesLieInside = (flat : Flat) (c : ClusterOf) → AreWithinLimits flat → IsClusterOf flat c
    → All (λ (x : Entry). x.offset < c.period) c.entries

-- a period takes some time
abbrev pub PeriodsTakeTime : Type 0
PeriodsTakeTime = (flat : Flat) (c : ClusterOf) → AreWithinLimits flat → IsClusterOf flat c
    → 0 < c.period
