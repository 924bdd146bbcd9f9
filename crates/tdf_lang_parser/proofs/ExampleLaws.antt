-- The small texts spell their trees, and have their faults.
use Rattle.std.proofs.Common.{◌+◌, List, [], ◌∷◌, codes, length, refl}
use Rattle.tdf_base.specs.Version.{has_multiples}
use Rattle.tdf_base.specs.declared.version.Version.TheVariants.{V1, V2, V3}
use Rattle.tdf_base.specs.Digits.{int_of}
use Rattle.tdf_base.specs.Number.{numeral_of, is_number}
use Rattle.tdf_base.specs.Time.{time_of, time_at, count_of}
use Rattle.tdf_base.specs.declared.resolution.Resolution.TheVariants.{Ps, Fs}
use Rattle.tdf_lang_parser.proofs.FaultLaws.{found_fault}
use Rattle.tdf_lang_parser.proofs.HeadLaws.{no_resolution_says, no_version_says}
use Rattle.tdf_lang_parser.proofs.ReadSpells.{reads_spell}
use Rattle.tdf_lang_parser.specs.Examples.{smallest_text, smallest_tree, loose_text, loose_tree, net_text, net_tree, decls_text, decls_tree, attributes_text, attributes_tree, initialize_text, initialize_tree, nested_text, nested_tree, operators_text, operators_tree, change_text, change_tree, empty_text, empty_tree, de_text, de_tree, multiples_text, multiples_tree, femtoseconds_text, femtoseconds_tree, no_resolution_text, no_resolution_tree, version_text, else_text, deep_text, order_text, open_text, chain_text, early_text, second_text, late_text, unit_example}
use Rattle.tdf_lang_parser.specs.Faults.{AtGlobals, HasFault, no_version, after_version, after_resolution}
use Rattle.tdf_lang_parser.specs.Head.{head_version, head_resolution, language_1, language_2, language_3, resolution_fs}
use Rattle.tdf_lang_parser.specs.SpellsTree.{SpellsTree, whole_text}
use Rattle.tdf_lang_parser.specs.machine.Places.{PGlobals, outset, reads_row, reads_rows, fault_from}
use Rattle.tdf_lang_exprs.specs.Numbers.{trimmed}
use Rattle.tdf_lang_exprs.specs.machine.Exprs.{expr_of}
use Rattle.tdf_lang_exprs.specs.machine.Literals.{lits_of}
use Rattle.tdf_lang_exprs.specs.machine.Paths.{path_of}
use Rattle.tdf_lang_lines.specs.machine.Reads.{form_of, times_rate}
use Rattle.tdf_lang_lexer.specs.Dialect.{token_of, token_lines}
use Rattle.tdf_lang_lexer.specs.Pieces.{pieces_of, pieces_from}
use Rattle.tdf_lang_lexer.specs.Rows.{Row, rows_of, rows_from}
use Rattle.tdf_lang_lexer.specs.Text.{lines_of, lines_from}
use Rattle.tdf_lang_lexer.specs.Words.{key_of, spelling, symbol_of, sign}

-- the rows of a text after the first, by their list
abbrev after_first : List Row → List Row
after_first [] = []
after_first (r ∷ rs) = rs

pub smallest_spells : SpellsTree (rows_of smallest_text) smallest_tree
unfolding rows_of rows_from token_of lines_of lines_from pieces_of pieces_from key_of spelling symbol_of sign time_of time_at count_of numeral_of is_number int_of trimmed lits_of path_of expr_of form_of times_rate reads_row reads_rows
smallest_spells = whole_text (after_first (rows_of smallest_text)) (head_version _ language_1) (reads_spell (record { version = V1; resolution = Ps }) (token_lines (record { version = V1; resolution = Ps }) (after_first (rows_of smallest_text))) smallest_tree refl)

pub loose_spells : SpellsTree (rows_of loose_text) loose_tree
unfolding rows_of rows_from token_of lines_of lines_from pieces_of pieces_from key_of spelling symbol_of sign time_of time_at count_of numeral_of is_number int_of trimmed lits_of path_of expr_of form_of times_rate reads_row reads_rows
loose_spells = whole_text (after_first (rows_of loose_text)) (head_version _ language_1) (reads_spell (record { version = V1; resolution = Ps }) (token_lines (record { version = V1; resolution = Ps }) (after_first (rows_of loose_text))) loose_tree refl)

pub net_spells : SpellsTree (rows_of net_text) net_tree
unfolding rows_of rows_from token_of lines_of lines_from pieces_of pieces_from key_of spelling symbol_of sign time_of time_at count_of numeral_of is_number int_of trimmed lits_of path_of expr_of form_of times_rate reads_row reads_rows
net_spells = whole_text (after_first (rows_of net_text)) (head_version _ language_1) (reads_spell (record { version = V1; resolution = Ps }) (token_lines (record { version = V1; resolution = Ps }) (after_first (rows_of net_text))) net_tree refl)

pub decls_spells : SpellsTree (rows_of decls_text) decls_tree
unfolding rows_of rows_from token_of lines_of lines_from pieces_of pieces_from key_of spelling symbol_of sign time_of time_at count_of numeral_of is_number int_of trimmed lits_of path_of expr_of form_of times_rate reads_row reads_rows
decls_spells = whole_text (after_first (rows_of decls_text)) (head_version _ language_1) (reads_spell (record { version = V1; resolution = Ps }) (token_lines (record { version = V1; resolution = Ps }) (after_first (rows_of decls_text))) decls_tree refl)

pub attributes_spells : SpellsTree (rows_of attributes_text) attributes_tree
unfolding rows_of rows_from token_of lines_of lines_from pieces_of pieces_from key_of spelling symbol_of sign time_of time_at count_of numeral_of is_number int_of trimmed lits_of path_of expr_of form_of times_rate reads_row reads_rows
attributes_spells = whole_text (after_first (rows_of attributes_text)) (head_version _ language_1) (reads_spell (record { version = V1; resolution = Ps }) (token_lines (record { version = V1; resolution = Ps }) (after_first (rows_of attributes_text))) attributes_tree refl)

pub initialize_spells : SpellsTree (rows_of initialize_text) initialize_tree
unfolding rows_of rows_from token_of lines_of lines_from pieces_of pieces_from key_of spelling symbol_of sign time_of time_at count_of numeral_of is_number int_of trimmed lits_of path_of expr_of form_of times_rate reads_row reads_rows
initialize_spells = whole_text (after_first (rows_of initialize_text)) (head_version _ language_1) (reads_spell (record { version = V1; resolution = Ps }) (token_lines (record { version = V1; resolution = Ps }) (after_first (rows_of initialize_text))) initialize_tree refl)

pub nested_spells : SpellsTree (rows_of nested_text) nested_tree
unfolding rows_of rows_from token_of lines_of lines_from pieces_of pieces_from key_of spelling symbol_of sign time_of time_at count_of numeral_of is_number int_of trimmed lits_of path_of expr_of form_of times_rate reads_row reads_rows
nested_spells = whole_text (after_first (rows_of nested_text)) (head_version _ language_1) (reads_spell (record { version = V1; resolution = Ps }) (token_lines (record { version = V1; resolution = Ps }) (after_first (rows_of nested_text))) nested_tree refl)

pub operators_spells : SpellsTree (rows_of operators_text) operators_tree
unfolding rows_of rows_from token_of lines_of lines_from pieces_of pieces_from key_of spelling symbol_of sign time_of time_at count_of numeral_of is_number int_of trimmed lits_of path_of expr_of form_of times_rate reads_row reads_rows
operators_spells = whole_text (after_first (rows_of operators_text)) (head_version _ language_1) (reads_spell (record { version = V1; resolution = Ps }) (token_lines (record { version = V1; resolution = Ps }) (after_first (rows_of operators_text))) operators_tree refl)

pub change_spells : SpellsTree (rows_of change_text) change_tree
unfolding rows_of rows_from token_of lines_of lines_from pieces_of pieces_from key_of spelling symbol_of sign time_of time_at count_of numeral_of is_number int_of trimmed lits_of path_of expr_of form_of times_rate reads_row reads_rows
change_spells = whole_text (after_first (rows_of change_text)) (head_version _ language_1) (reads_spell (record { version = V1; resolution = Ps }) (token_lines (record { version = V1; resolution = Ps }) (after_first (rows_of change_text))) change_tree refl)

pub empty_spells : SpellsTree (rows_of empty_text) empty_tree
unfolding rows_of rows_from token_of lines_of lines_from pieces_of pieces_from key_of spelling symbol_of sign time_of time_at count_of numeral_of is_number int_of trimmed lits_of path_of expr_of form_of times_rate reads_row reads_rows
empty_spells = whole_text (after_first (rows_of empty_text)) (head_version _ language_1) (reads_spell (record { version = V1; resolution = Ps }) (token_lines (record { version = V1; resolution = Ps }) (after_first (rows_of empty_text))) empty_tree refl)

pub de_spells : SpellsTree (rows_of de_text) de_tree
unfolding rows_of rows_from token_of lines_of lines_from pieces_of pieces_from key_of spelling symbol_of sign time_of time_at count_of numeral_of is_number int_of trimmed lits_of path_of expr_of form_of times_rate reads_row reads_rows
de_spells = whole_text (after_first (rows_of de_text)) (head_version _ language_1) (reads_spell (record { version = V1; resolution = Ps }) (token_lines (record { version = V1; resolution = Ps }) (after_first (rows_of de_text))) de_tree refl)

pub multiples_spells : SpellsTree (rows_of multiples_text) multiples_tree
unfolding rows_of rows_from token_of lines_of lines_from pieces_of pieces_from key_of spelling symbol_of sign time_of time_at count_of numeral_of is_number int_of trimmed lits_of path_of expr_of form_of times_rate has_multiples reads_row reads_rows
multiples_spells = whole_text (after_first (rows_of multiples_text)) (head_version _ language_2) (reads_spell (record { version = V2; resolution = Ps }) (token_lines (record { version = V2; resolution = Ps }) (after_first (rows_of multiples_text))) multiples_tree refl)

pub femtoseconds_spells : SpellsTree (rows_of femtoseconds_text) femtoseconds_tree
unfolding rows_of rows_from token_of lines_of lines_from pieces_of pieces_from key_of spelling symbol_of sign time_of time_at count_of numeral_of is_number int_of trimmed lits_of path_of expr_of form_of times_rate reads_row reads_rows
femtoseconds_spells = whole_text (after_first (after_first (rows_of femtoseconds_text))) (head_resolution _ _ language_3 resolution_fs) (reads_spell (record { version = V3; resolution = Fs }) (token_lines (record { version = V3; resolution = Fs }) (after_first (after_first (rows_of femtoseconds_text)))) femtoseconds_tree refl)

pub no_resolution_spells : SpellsTree (rows_of no_resolution_text) no_resolution_tree
unfolding rows_of rows_from token_of lines_of lines_from pieces_of pieces_from key_of spelling symbol_of sign time_of time_at count_of numeral_of is_number int_of trimmed lits_of path_of expr_of form_of times_rate reads_row reads_rows
no_resolution_spells = whole_text (after_first (rows_of no_resolution_text)) (head_version _ language_3) (reads_spell (record { version = V3; resolution = Ps }) (token_lines (record { version = V3; resolution = Ps }) (after_first (rows_of no_resolution_text))) no_resolution_tree refl)

pub version_faults : HasFault (rows_of version_text) (length (lines_of version_text) + 1) 1
unfolding rows_of rows_from token_of lines_of lines_from pieces_of pieces_from key_of spelling symbol_of sign time_of time_at count_of numeral_of is_number int_of trimmed lits_of path_of expr_of form_of times_rate reads_row reads_rows fault_from
version_faults = no_version (record { number = 1; pieces = codes "language" ∷ codes "01" ∷ [] }) (no_version_says (record { number = 1; pieces = codes "language" ∷ codes "01" ∷ [] }) refl)

pub else_faults : HasFault (rows_of else_text) (length (lines_of else_text) + 1) 6
unfolding rows_of rows_from token_of lines_of lines_from pieces_of pieces_from key_of spelling symbol_of sign time_of time_at count_of numeral_of is_number int_of trimmed lits_of path_of expr_of form_of times_rate reads_row reads_rows fault_from
else_faults = after_version _ language_1 (no_resolution_says V1 (after_first (rows_of else_text)) refl) (found_fault (record { version = V1; resolution = Ps }) (token_lines (record { version = V1; resolution = Ps }) (after_first (rows_of else_text))) (PGlobals (outset (record { version = V1; resolution = Ps }))) AtGlobals (length (lines_of else_text) + 1) 6 refl refl)

pub deep_faults : HasFault (rows_of deep_text) (length (lines_of deep_text) + 1) 12
unfolding rows_of rows_from token_of lines_of lines_from pieces_of pieces_from key_of spelling symbol_of sign time_of time_at count_of numeral_of is_number int_of trimmed lits_of path_of expr_of form_of times_rate reads_row reads_rows fault_from
deep_faults = after_version _ language_1 (no_resolution_says V1 (after_first (rows_of deep_text)) refl) (found_fault (record { version = V1; resolution = Ps }) (token_lines (record { version = V1; resolution = Ps }) (after_first (rows_of deep_text))) (PGlobals (outset (record { version = V1; resolution = Ps }))) AtGlobals (length (lines_of deep_text) + 1) 12 refl refl)

pub order_faults : HasFault (rows_of order_text) (length (lines_of order_text) + 1) 5
unfolding rows_of rows_from token_of lines_of lines_from pieces_of pieces_from key_of spelling symbol_of sign time_of time_at count_of numeral_of is_number int_of trimmed lits_of path_of expr_of form_of times_rate reads_row reads_rows fault_from
order_faults = after_version _ language_1 (no_resolution_says V1 (after_first (rows_of order_text)) refl) (found_fault (record { version = V1; resolution = Ps }) (token_lines (record { version = V1; resolution = Ps }) (after_first (rows_of order_text))) (PGlobals (outset (record { version = V1; resolution = Ps }))) AtGlobals (length (lines_of order_text) + 1) 5 refl refl)

pub open_faults : HasFault (rows_of open_text) (length (lines_of open_text) + 1) 5
unfolding rows_of rows_from token_of lines_of lines_from pieces_of pieces_from key_of spelling symbol_of sign time_of time_at count_of numeral_of is_number int_of trimmed lits_of path_of expr_of form_of times_rate reads_row reads_rows fault_from
open_faults = after_version _ language_1 (no_resolution_says V1 (after_first (rows_of open_text)) refl) (found_fault (record { version = V1; resolution = Ps }) (token_lines (record { version = V1; resolution = Ps }) (after_first (rows_of open_text))) (PGlobals (outset (record { version = V1; resolution = Ps }))) AtGlobals (length (lines_of open_text) + 1) 5 refl refl)

pub chain_faults : HasFault (rows_of chain_text) (length (lines_of chain_text) + 1) 4
unfolding rows_of rows_from token_of lines_of lines_from pieces_of pieces_from key_of spelling symbol_of sign time_of time_at count_of numeral_of is_number int_of trimmed lits_of path_of expr_of form_of times_rate reads_row reads_rows fault_from
chain_faults = after_version _ language_1 (no_resolution_says V1 (after_first (rows_of chain_text)) refl) (found_fault (record { version = V1; resolution = Ps }) (token_lines (record { version = V1; resolution = Ps }) (after_first (rows_of chain_text))) (PGlobals (outset (record { version = V1; resolution = Ps }))) AtGlobals (length (lines_of chain_text) + 1) 4 refl refl)

pub early_faults : HasFault (rows_of early_text) (length (lines_of early_text) + 1) 4
unfolding rows_of rows_from token_of lines_of lines_from pieces_of pieces_from key_of spelling symbol_of sign time_of time_at count_of numeral_of is_number int_of trimmed lits_of path_of expr_of form_of times_rate has_multiples reads_row reads_rows fault_from
early_faults = after_version _ language_1 (no_resolution_says V1 (after_first (rows_of early_text)) refl) (found_fault (record { version = V1; resolution = Ps }) (token_lines (record { version = V1; resolution = Ps }) (after_first (rows_of early_text))) (PGlobals (outset (record { version = V1; resolution = Ps }))) AtGlobals (length (lines_of early_text) + 1) 4 refl refl)

pub second_faults : HasFault (rows_of second_text) (length (lines_of second_text) + 1) 3
unfolding rows_of rows_from token_of lines_of lines_from pieces_of pieces_from key_of spelling symbol_of sign time_of time_at count_of numeral_of is_number int_of trimmed lits_of path_of expr_of form_of times_rate reads_row reads_rows fault_from
second_faults = after_resolution _ _ language_3 resolution_fs (found_fault (record { version = V3; resolution = Fs }) (token_lines (record { version = V3; resolution = Fs }) (after_first (after_first (rows_of second_text)))) (PGlobals (outset (record { version = V3; resolution = Fs }))) AtGlobals (length (lines_of second_text) + 1) 3 refl refl)

pub late_faults : HasFault (rows_of late_text) (length (lines_of late_text) + 1) 3
unfolding rows_of rows_from token_of lines_of lines_from pieces_of pieces_from key_of spelling symbol_of sign time_of time_at count_of numeral_of is_number int_of trimmed lits_of path_of expr_of form_of times_rate reads_row reads_rows fault_from
late_faults = after_version _ language_3 (no_resolution_says V3 (after_first (rows_of late_text)) refl) (found_fault (record { version = V3; resolution = Ps }) (token_lines (record { version = V3; resolution = Ps }) (after_first (rows_of late_text))) (PGlobals (outset (record { version = V3; resolution = Ps }))) AtGlobals (length (lines_of late_text) + 1) 3 refl refl)

pub unit_faults : HasFault (rows_of unit_example) (length (lines_of unit_example) + 1) 4
unfolding rows_of rows_from token_of lines_of lines_from pieces_of pieces_from key_of spelling symbol_of sign time_of time_at count_of numeral_of is_number int_of trimmed lits_of path_of expr_of form_of times_rate reads_row reads_rows fault_from
unit_faults = after_version _ language_3 (no_resolution_says V3 (after_first (rows_of unit_example)) refl) (found_fault (record { version = V3; resolution = Ps }) (token_lines (record { version = V3; resolution = Ps }) (after_first (rows_of unit_example))) (PGlobals (outset (record { version = V3; resolution = Ps }))) AtGlobals (length (lines_of unit_example) + 1) 4 refl refl)
