use Rattle.tdf_lang_parser.proofs.ExampleLaws.{version_faults, else_faults, deep_faults, order_faults, open_faults, chain_faults, early_faults, second_faults, late_faults, unit_faults}
use Rattle.tdf_lang_parser.proofs.laws.law_fault_examples.Goals as goal

pub returns : goal.returns
returns c = record { version_line = version_faults; else_line = else_faults; deep_line = deep_faults; order_line = order_faults; open_line = open_faults; chain_line = chain_faults; early_line = early_faults; second_line = second_faults; late_line = late_faults; unit_line = unit_faults }
