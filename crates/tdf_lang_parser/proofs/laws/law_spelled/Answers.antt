use Rattle.tdf_lang_parser.proofs.LangLaws.{one_tree, never_both, one_of_both, one_line_at_fault}
use Rattle.tdf_lang_parser.proofs.laws.law_spelled.Goals as goal

pub returns : goal.returns
returns c = record { one_tree = one_tree; no_fault = never_both; tree_or_fault = one_of_both; one_fault = one_line_at_fault }
