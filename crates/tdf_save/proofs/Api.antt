-- The lemmas that other crates may use.
pub use Rattle.tdf_save.proofs.Each.{at_map}
pub use Rattle.tdf_save.proofs.WordLists.{line_is}
pub use Rattle.tdf_save.proofs.Ones.{cut_at_stop, cancel, pre_one, pair_one, along_one, apart, items_end, each_end, each_one}
pub use Rattle.tdf_save.proofs.Numerals.{count_plain, no_dash, num_plain, count64_one, count32_one, num_one, accept_one, kind_one, carry_one}
pub use Rattle.tdf_save.proofs.LineOnes.{line_end, one_is, two_is, three_is, more_is, spaced_one, list_is, last_one, word_line_one, path_line_one, list_line_one, path_list_one, three_line_one}
pub use Rattle.tdf_save.proofs.PartOnes.{title_of, rates_of, steps_of, cells_of, module_parts_text, ModulePartsFit, module_is, module_same, module_parts_one, module_one, edge_one, start_line, cluster_parts_text, ClusterPartsFit, cluster_is, cluster_fit, cluster_one, value_is, value_one, block_is, block_one, name_one, pending_is, pending_begins, kernel_parts_text, KernelPartsFit, kernel_is, kernel_fit, kernel_one}
pub use Rattle.tdf_save.proofs.WholeOnes.{sample_is, stamp_fit, sample_one, sample_begins, later_is, later_one, later_begins, laters_no_sample, samples_one, carry_line, column_parts_text, ColumnPartsFit, column_is, column_fit, column_one, column_next, columns_next, snapshot_one, saved_is, model_next, model_is}
unfoldable pub use Rattle.tdf_save.proofs.PartOnes.{module_parts, cluster_parts, pending_parts, kernel_parts}
unfoldable pub use Rattle.tdf_save.proofs.WholeOnes.{stamp_parts, column_parts, body_parts, snapshot_text}
