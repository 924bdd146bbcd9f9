-- The lemmas that other crates may use.
pub use Rattle.tdf_tables.proofs.CellWords.{cells_back}
pub use Rattle.tdf_tables.proofs.CellLaws.{plain_complete, plain_sound}
pub use Rattle.tdf_tables.proofs.LabelLaws.{labels_marked}
pub use Rattle.tdf_tables.proofs.Marks.{IsMarked, cell_marks, cells_marked, is_mark, plain_marks, without_spaces}
pub use Rattle.tdf_tables.proofs.Only.{Rising, each_row, rising, row_one}
pub use Rattle.tdf_tables.proofs.RowLaws.{last_more, none_yet, rows_more}
pub use Rattle.tdf_tables.proofs.Wholes.{fault_is_one, table_is_one, table_or_fault}
pub use Rattle.tdf_tables.proofs.Words.{HasNoSpace, spaced_more, spaced_none, spaced_words, words_none, words_spaced, words_step}
