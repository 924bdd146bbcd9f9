use Rattle.tdf_lang_parser.proofs.ExampleLaws.{smallest_spells, loose_spells, net_spells, decls_spells, attributes_spells, initialize_spells, nested_spells, operators_spells, change_spells, empty_spells, de_spells, multiples_spells, femtoseconds_spells, no_resolution_spells}
use Rattle.tdf_lang_parser.proofs.laws.law_examples.Goals as goal

pub returns : goal.returns
returns c = record { smallest = smallest_spells; loose = loose_spells; net = net_spells; decls = decls_spells; attributes = attributes_spells; initialize = initialize_spells; nested = nested_spells; operators = operators_spells; change = change_spells; empty = empty_spells; de = de_spells; multiples = multiples_spells; femtoseconds = femtoseconds_spells; no_resolution = no_resolution_spells }
