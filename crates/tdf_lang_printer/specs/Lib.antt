pub mod Exprs
pub mod Lines
pub mod Canon
pub mod machine
pub use Rattle.tdf_lang_tree.specs.Views.{pure_tree}
