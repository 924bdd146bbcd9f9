-- The lemmas that the crates above use.
pub use Rattle.tdf_bind_ports.proofs.Found.{place_push}
