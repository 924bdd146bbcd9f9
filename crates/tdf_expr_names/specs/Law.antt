-- What makes the faults of names trustworthy (own): each stands on a line of the model, and where
-- there is none, the names of each name space are apart.
use Rattle.std.specs.Prelude.{◌≡◌, ◌⊎◌, ℕ, false, List, [], ◌∷◌, map}
use Rattle.std.specs.List.{flat_map}
use Rattle.tdf_base.specs.declared.codes.Code.TheVariants.{Duplicate, Unknown}
use Rattle.tdf_base.specs.declared.first.LineFault.{LineFault}
use Rattle.tdf_expr_names.specs.Names.{Name, has, name_faults, names_of_tdf_lines, names_of_de_lines, names_of_member, names_of_globals}
use Rattle.tdf_lang_tree.specs.Kept.{Each}
use Rattle.tdf_lang_tree.specs.LinesIn.{lines_in}
use Rattle.tdf_lang_tree.specs.Pure.{PureGlobal, GShape, GTdf, GDe, GNet, PureTree}

-- no name of a list is one of those after it
abbrev pub AreApart : List Name → Type 0
AreApart [] = Unit {0}
AreApart (name ∷ names) = (has names name ≡ false) × AreApart names

abbrev pub DeclaresOnce : PureGlobal → Type 0
DeclaresOnce (GShape shape) = Unit {0}
DeclaresOnce (GTdf block) = AreApart (names_of_tdf_lines block.decls)
DeclaresOnce (GDe block) = AreApart (names_of_de_lines block.decls)
DeclaresOnce (GNet block) = AreApart (flat_map names_of_member block.members)

pub record HasNamesOnce (tree : PureTree) : Type 0 where
  pub globals : AreApart (names_of_globals tree.globals)
  pub blocks : Each DeclaresOnce tree.globals
  pub top : AreApart (flat_map names_of_member tree.top.members)
  pub labels : AreApart (map (λ trace. trace.label) tree.traces)

abbrev pub KeepsNamesOnce : Type 0
KeepsNamesOnce = (tree : PureTree) → name_faults tree ≡ [] → HasNamesOnce tree

abbrev pub IsOneOf : List ℕ → ℕ → Type 0
IsOneOf [] n = ⊥
IsOneOf (m ∷ ms) n = (m ≡ n) ⊎ IsOneOf ms n

-- a fault on one of these lines, which is of names
pub record StandsOn (lines : List ℕ) (fault : LineFault) : Type 0 where
  pub line : IsOneOf lines fault.line
  pub code : (fault.code ≡ Duplicate) ⊎ (fault.code ≡ Unknown)

abbrev pub FaultsStand : Type 0
FaultsStand = (tree : PureTree) → Each (StandsOn (lines_in tree)) (name_faults tree)
