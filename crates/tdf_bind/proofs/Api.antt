-- The lemmas that the crates above use.
pub use Rattle.tdf_bind.proofs.Delays.{IsShortThing, delay_of, delays_are_short, names_short}
pub use Rattle.tdf_bind.proofs.Formats.{IsFormatted, AreFormatted, formats_there}
pub use Rattle.tdf_bind.proofs.Lists.{all_append, all_at, all_map, all_mapped, weaker}
pub use Rattle.tdf_bind.proofs.OneAnswer.{blocks_are_one, paths_are_unique, flat_paths_are_unique, fault_is_one, fault_or_flat, tables_are_one}
pub use Rattle.tdf_bind.proofs.Parts.{block_paths_are_unique, events_are_apart, paths_are_plain}
pub use Rattle.tdf_bind.proofs.Paths.{HasNo, same_back, same_front}
pub use Rattle.tdf_bind.proofs.PlainNames.{name_without, path_without}
