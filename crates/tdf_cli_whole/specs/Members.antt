-- A valid snapshot of a sound model is one that the text of a snapshot can say.
-- Source: own.
use Rattle.std.specs.Prelude.{List}
use Rattle.tdf_bind.specs.Flat.{IsFlatOf}
use Rattle.tdf_bind.specs.declared.model.Flat.{Flat}
use Rattle.tdf_bind_invariants.specs.Formats.{IsSoundModel}
use Rattle.tdf_dynamic_first.specs.declared.first.First.{First}
use Rattle.tdf_lang_tree.specs.Pure.{PureTree}
use Rattle.tdf_save.specs.Members.{IsSnapshotFor}
use Rattle.tdf_save_members.specs.OfFlat.{members_of}
use Rattle.tdf_saved.specs.State.{SnapshotOf}
use Rattle.tdf_sim_resumed.specs.Valid.{IsValid}
use Rattle.tdf_sim_split.specs.Columns.{EventsAreThere}

-- a valid snapshot has the members of its model, with numbers in the ranges that its text has
abbrev pub ValidSnapshotsFit : Type 0
ValidSnapshotsFit = (model : PureTree) (flat : Flat) (firsts : List First) (s : SnapshotOf)
    → IsSoundModel model → IsFlatOf model flat → IsValid model flat firsts s
    → IsSnapshotFor (members_of flat) s

-- the traces of event signals show signals that there are
abbrev pub EventsAreTold : Type 0
EventsAreTold = (model : PureTree) (flat : Flat) → IsSoundModel model → IsFlatOf model flat
    → EventsAreThere flat.tables
