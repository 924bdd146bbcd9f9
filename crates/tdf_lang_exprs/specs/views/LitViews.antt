-- What the code's states of lists stand for.
use Rattle.tdf_lang_exprs.specs.declared.literals.Reading.{Reading}
use Rattle.tdf_lang_exprs.specs.declared.literals.Reading.TheVariants as lits_state
use Rattle.tdf_lang_exprs.specs.declared.paths.Walk.{Walk}
use Rattle.tdf_lang_exprs.specs.declared.paths.Walk.TheVariants as path_state
use Rattle.tdf_lang_exprs.specs.machine.Literals.{LitsReading, Ready, Signed, NoLits}
use Rattle.tdf_lang_exprs.specs.machine.Paths.{PathReading, WantName, HaveName, NoPath}

abbrev pub lits : Reading → LitsReading
lits (lits_state.Ready list) = Ready list.items
lits (lits_state.Signed list) = Signed list.items
lits lits_state.Bad = NoLits

abbrev pub walked : Walk → PathReading
walked (path_state.WantName names) = WantName names.items
walked (path_state.HaveName names) = HaveName names.items
walked path_state.Bad = NoPath
