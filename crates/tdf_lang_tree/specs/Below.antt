-- Definitions of crates below, passed on to those above.
-- Source: the crates that say them.
pub use Rattle.tdf_fixed.specs.Cast.{IsLegal}
unfoldable pub use Rattle.tdf_fixed.specs.Literal.{exact_of}
pub use Rattle.tdf_fixed.specs.declared.literals.NumErr.{NumErr}
pub use Rattle.tdf_fixed.specs.declared.raw.Raw.{Raw}
