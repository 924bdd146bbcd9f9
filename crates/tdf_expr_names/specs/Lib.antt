pub use Rattle.tdf_base.specs.First.{first_of, verdict_of}
pub use Rattle.tdf_lang_tree.specs.Views.{pure_tree}
pub mod Law
pub mod Names
pub mod machine
