use Rattle.std.proofs.Common.{arith}
use Rattle.tdf_lang_parser.proofs.WalkLaws.{few}
use Rattle.tdf_lang_parser.proofs.parser.line_after.Goals as goal

pub overflow_add-result : goal.overflow_add-result
overflow_add-result c = omega (arith, c.line_count.ensures, few c.args.text.now)
