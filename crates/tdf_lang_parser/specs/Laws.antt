-- What the definitions of the language promise (own).
use Rattle.std.specs.Prelude.{◌≡◌, ℕ, List, ◌⊎◌}
use Rattle.tdf_lang_parser.specs.Faults.{HasFault}
use Rattle.tdf_lang_parser.specs.SpellsTree.{SpellsTree}
use Rattle.tdf_lang_lexer.specs.Rows.{Row}
use Rattle.tdf_lang_tree.specs.Pure.{PureTree}

-- rows spell at most one tree
abbrev pub OneTree : Type 0
OneTree = (rows : List Row) (x y : PureTree) → SpellsTree rows x → SpellsTree rows y → x ≡ y

-- where they spell one they have no syntax fault, whatever the line after the last
abbrev pub NoFault : Type 0
NoFault = (rows : List Row) (x : PureTree) (after n : ℕ) → SpellsTree rows x → HasFault rows after n → ⊥

-- where they have no syntax fault they spell a tree
abbrev pub TreeOrFault : Type 0
TreeOrFault = (rows : List Row) (after : ℕ) → ((x : PureTree) × SpellsTree rows x) ⊎ ((n : ℕ) × HasFault rows after n)

-- they have one syntax fault at most
abbrev pub OneFault : Type 0
OneFault = (rows : List Row) (after m n : ℕ) → HasFault rows after m → HasFault rows after n → m ≡ n
