-- Laws of the parts of a line (own), for every version: tokens spell at most one tree, and they spell one exactly where
-- they have the form.
use Rattle.std.specs.Prelude.{◌≡◌, ◌↔◌, List}
use Rattle.tdf_base.specs.declared.version.Version.{Version}
use Rattle.tdf_lang_lexer.specs.Token.{Tok}
use Rattle.tdf_lang_exprs.specs.Index.{SpellsIndex}
use Rattle.tdf_lang_exprs.specs.Literals.{SpellsLit, SpellsLits}
use Rattle.tdf_lang_exprs.specs.Formats.{SpellsShape, SpellsFormat}
use Rattle.tdf_lang_exprs.specs.Paths.{SpellsPath}
use Rattle.tdf_lang_exprs.specs.SpellsExpr.{SpellsExpr}
use Rattle.tdf_lang_exprs.specs.Fits.{FitsLit, FitsLits, FitsIndex, FitsShape, FitsFormat, FitsPath, FitsExpr}

-- tokens spell at most one tree
abbrev pub SpellsAtMostOne : {T : Type 0} → (List Tok → T → Type 0) → Type 0
SpellsAtMostOne {T} spells = (ts : List Tok) (x y : T) → spells ts x → spells ts y → x ≡ y

-- tokens spell a tree exactly where they have the form
abbrev pub HasForm : {T : Type 0} → (List Tok → T → Type 0) → (List Tok → Type 0) → Type 0
HasForm {T} spells fits = (ts : List Tok) → ((x : T) × spells ts x) ↔ fits ts

pub record PartsAreUnique : Type 0 where
  pub lit : SpellsAtMostOne SpellsLit
  pub lits : SpellsAtMostOne SpellsLits
  pub index : (v : Version) → SpellsAtMostOne (SpellsIndex v)
  pub shape : SpellsAtMostOne SpellsShape
  pub format : SpellsAtMostOne SpellsFormat
  pub path : SpellsAtMostOne SpellsPath
  pub expr : (v : Version) → SpellsAtMostOne (SpellsExpr v 0)

pub record PartsHaveForms : Type 0 where
  pub lit : HasForm SpellsLit FitsLit
  pub lits : HasForm SpellsLits FitsLits
  pub index : (v : Version) → HasForm (SpellsIndex v) (FitsIndex v)
  pub shape : HasForm SpellsShape FitsShape
  pub format : HasForm SpellsFormat FitsFormat
  pub path : HasForm SpellsPath FitsPath
  pub expr : (v : Version) → HasForm (SpellsExpr v 0) (FitsExpr v 0)
