-- The snapshot of a run is valid as a whole.
-- Source: own.
use Rattle.std.specs.Prelude.{◌≡◌, ◌<◌, ◌≤◌, ◌^◌, ℕ, Bool, List, length}
use Rattle.tdf_base.specs.Limits.{time_end}
use Rattle.tdf_bind.specs.Flat.{IsFlatOf}
use Rattle.tdf_bind.specs.declared.model.Flat.{Flat}
use Rattle.tdf_bind_invariants.specs.Formats.{IsSoundModel}
use Rattle.tdf_bind_invariants.specs.Limits.{AreWithinLimits}
use Rattle.tdf_dynamic_first.specs.declared.first.First.{First}
use Rattle.tdf_dynamic_plans.specs.Attributes.{clusters_of}
use Rattle.tdf_events.specs.Side.{SideOf}
use Rattle.tdf_expr.specs.Checked.{IsCheckedOf}
use Rattle.tdf_graph.specs.Clusters.{greatest}
use Rattle.tdf_lang_tree.specs.Kept.{IsKept}
use Rattle.tdf_lang_tree.specs.Pure.{PureTree}
use Rattle.tdf_saved.specs.State.{SnapshotOf}
use Rattle.tdf_sim_history.specs.World.{World}
use Rattle.tdf_sim_resumed.specs.Formats.{AreInFormatsTo}
use Rattle.tdf_sim_resumed.specs.Valid.{ArePlansOf, IsValid}
use Rattle.tdf_sim_split.specs.Columns.{EventsAreThere, HasSoundColumns}
use Rattle.tdf_sim_split.specs.Formats.{BeginInFormats}
use Rattle.tdf_sim_split.specs.Snapshots.{HasSnapshot}

-- the snapshot of a run from a sound start with sound columns, which begin with numbers of their
-- formats, and which was given so many turns, is valid, under plans for its clusters, where event
-- signals had values of their formats
abbrev pub SnapshotIsValid : Type 0
SnapshotIsValid = (model : PureTree) (flat : Flat) (firsts : List First) (start w : World SideOf)
    → (rows from time budget : ℕ) (vcd : Bool) (s : SnapshotOf) → IsKept model
    → IsSoundModel model → IsFlatOf model flat → IsCheckedOf model flat.checked
    → AreWithinLimits flat → EventsAreThere flat.tables
    → HasSnapshot model flat start w from time budget vcd s
    → HasSoundColumns model flat rows from start
    → length start.clusters ≡ greatest (clusters_of flat.tables) → time < time_end
    → 1 ≤ budget → budget ≤ 10 ^ 12 → ArePlansOf flat s firsts
    → BeginInFormats flat.tables start.shown → AreInFormatsTo model flat start time
    → IsValid model flat firsts s
