-- What the line forms promise (own).
use Rattle.std.specs.Prelude.{◌≡◌, ◌↔◌, List}
use Rattle.tdf_base.specs.declared.version.Version.{Version}
use Rattle.tdf_lang_lexer.specs.Token.{Tok}
use Rattle.tdf_lang_tree.specs.Forms.{Form}
use Rattle.tdf_lang_lines.specs.FitsLine.{FitsLine}
use Rattle.tdf_lang_lines.specs.SpellsLine.{SpellsLine}
use Rattle.tdf_lang_tree.specs.Kinds.{Kind, kind_of_form}

-- tokens are at most one line form, in each version
abbrev pub OneForm : Type 0
OneForm = (v : Version) (ts : List Tok) (f g : Form) → SpellsLine v ts f → SpellsLine v ts g → f ≡ g

-- tokens are a line of a kind exactly where they are a line form of that kind
abbrev pub LinesHaveKinds : Type 0
LinesHaveKinds = (v : Version) (ts : List Tok) (k : Kind) → ((f : Form) × SpellsLine v ts f × (kind_of_form f ≡ k)) ↔ FitsLine v ts k
