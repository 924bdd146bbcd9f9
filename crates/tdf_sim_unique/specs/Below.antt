-- Definitions of crates below, passed on to those above.
-- Source: the crates that say them.
pub use Rattle.tdf_save_members.specs.Laws.{MembersAreApart, MembersAreInLines}
pub use Rattle.tdf_save_members.specs.OfFlat.{members_of}
