-- The code's literal, as the definitions see it (own).
use Rattle.tdf_base.specs.Sides.{spelt}
use Rattle.tdf_fixed.specs.Literal.{Literal}
use Rattle.tdf_fixed.specs.declared.literals.Signed.{Signed}

abbrev pub signed : Signed → Literal
signed l = record { minus = l.minus; numeral = spelt l.parts }
