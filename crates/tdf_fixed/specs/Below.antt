-- Definitions of crates below, passed on to those above.
-- Source: the crates that say them.
pub use Rattle.tdf_base.specs.Limits.{deepest_nesting, time_end}
pub use Rattle.tdf_base.specs.Names.{is_name}
unfoldable pub use Rattle.tdf_base.specs.Number.{is_number}
pub use Rattle.tdf_base.specs.declared.resolution.Resolution.{Resolution}
pub use Rattle.tdf_base.specs.declared.resolution.Resolution.TheVariants.{Ps}
pub use Rattle.tdf_base.specs.declared.version.Version.{Version}
pub use Rattle.tdf_base.specs.declared.version.Version.TheVariants.{V3}
