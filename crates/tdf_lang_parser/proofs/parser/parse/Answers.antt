use Rattle.std.proofs.Common.{refl}
use Rattle.tdf_lang_parser.proofs.FormedLaws.{read_formed}
use Rattle.tdf_lang_parser.proofs.KeptLaws.{read_keeps, read_order}
use Rattle.tdf_lang_parser.proofs.parser.parse.Goals as goal

pub returns-clause-kept : goal.returns-clause-kept
returns-clause-kept c = read_keeps c.read_rows.result _ _ c.read_rows.ensures

pub returns-clause-order : goal.returns-clause-order
returns-clause-order c = read_order c.read_rows.result c.args.text.now _ _ refl c.read_rows.ensures

pub returns-clause-formed : goal.returns-clause-formed
returns-clause-formed c = read_formed c.read_rows.result _ _ c.read_rows.ensures
