-- Which statements a body may have, as the code names them (own).
use Rattle.tdf_lang_parser.specs.Items.{BodyKind, Plain, OfChange, OfProcess}
use Rattle.tdf_lang_parser.specs.declared.bodies.BodyKind as body_kind
use Rattle.tdf_lang_parser.specs.declared.bodies.BodyKind.TheVariants as kind

abbrev pub pure_kind : body_kind.BodyKind → BodyKind
pure_kind kind.Plain = Plain
pure_kind kind.Change = OfChange
pure_kind kind.Process = OfProcess
