-- The lemmas that the crates above use.
pub use Rattle.tdf_expr_symbols.proofs.Tables.{any_bytes, place_bytes, position_map, map_push}
