-- The lemmas that other crates cite.
pub use Rattle.tdf_lang_exprs.proofs.Parts.{lit_reads, lit_says, lits_of_reads, lits_says, path_of_reads, path_says, shape_reads, shape_says, format_reads, format_says, format_ends}
pub use Rattle.tdf_lang_exprs.proofs.SpellsRuns.{index_reads, expr_reads}
pub use Rattle.tdf_lang_exprs.proofs.RunSays.{index_says, expr_says, lower}
pub use Rattle.tdf_lang_exprs.proofs.Forms.{lit_fits, fits_lit, lits_fit, fits_lits, index_fits, fits_index, shape_fits, fits_the_shape, format_fits, fits_format, path_fits, fits_path, expr_fits, fits_expr}
pub use Rattle.tdf_lang_exprs.proofs.Levels.{leb_true, leb_le, ltb_true, ltb_lt, pick_bool, left_le_five, level_lt_six}
pub use Rattle.tdf_lang_exprs.proofs.KeepLaws.{int_count, trimmed_number, lit_keeps, lits_keep, index_keeps, shape_keeps, format_keeps, path_keeps, expr_keeps}
