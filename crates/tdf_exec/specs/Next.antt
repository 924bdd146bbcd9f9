-- What modules that were asked for changes answer, passed on to crates above.
-- Source: the crate that says it.
pub use Rattle.tdf_dynamic.specs.Next.{IsNext}
pub use Rattle.tdf_dynamic.specs.declared.next.Next.{Next}
pub use Rattle.tdf_dynamic.specs.declared.next.Next.TheVariants.{Changed, Same}
