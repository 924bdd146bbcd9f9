-- The lemmas that other crates may use.
pub use Rattle.tdf_streams.proofs.Api.{find_more, first_record, get_high, get_inside, get_low, is_wired, known_more, none_some, some_same}
pub use Rattle.tdf_dynamic.proofs.Asks.{frame_few}
pub use Rattle.tdf_dynamic.proofs.Begins.{begun_zeros, run_zeros}
pub use Rattle.tdf_dynamic.proofs.Staying.{attributes_stay}
pub use Rattle.tdf_dynamic.proofs.Steps.{steps_long}
