-- What holds of the members of the flat model of a sound model.
-- Source: own.
use Rattle.tdf_bind.specs.Flat.{IsFlatOf}
use Rattle.tdf_bind.specs.declared.model.Flat.{Flat}
use Rattle.tdf_bind_invariants.specs.Formats.{IsSoundModel}
use Rattle.tdf_lang_tree.specs.Pure.{PureTree}
use Rattle.tdf_save.specs.Laws.{AreInLines}
use Rattle.tdf_save.specs.Members.{AreNamesApart}
use Rattle.tdf_save_members.specs.OfFlat.{members_of}

-- no event's name and a space begin with another's
abbrev pub MembersAreApart : Type 0
MembersAreApart = (model : PureTree) (flat : Flat) → IsSoundModel model → IsFlatOf model flat
    → AreNamesApart (members_of flat).events

-- no path, name or label has an LF
abbrev pub MembersAreInLines : Type 0
MembersAreInLines = (model : PureTree) (flat : Flat) → IsSoundModel model → IsFlatOf model flat
    → AreInLines (members_of flat)
