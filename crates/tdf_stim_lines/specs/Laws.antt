-- What makes the numbers trustworthy: each is that of the line that says its part, they are all
-- that changes, and what the tree of each text keeps stays.
-- Source: own.
use Rattle.std.specs.Prelude.{◌≡◌, map}
use Rattle.tdf_lang_parser.specs.Formed.{IsFormed}
use Rattle.tdf_lang_printer.specs.Canon.{tree_lines}
use Rattle.tdf_lang_tree.specs.Alike.{Alike}
use Rattle.tdf_lang_tree.specs.Kept.{IsKept}
use Rattle.tdf_lang_tree.specs.LinesIn.{lines_in}
use Rattle.tdf_lang_tree.specs.Pure.{PureTree}
use Rattle.tdf_stim_lines.specs.Numbered.{line_after_head, numbered}
use Rattle.tdf_stim_lines.specs.NumberedForms.{NumberedForm, AreInPlace, tree_forms}

pub record NumbersAlone : Type 0 where
  pub alike : (tree : PureTree) → Alike (numbered tree) tree
  pub kept : (tree : PureTree) → IsKept tree → IsKept (numbered tree)
  pub formed : (tree : PureTree) → IsFormed tree → IsFormed (numbered tree)

-- each number of the tree is that of the line that says its part: the lines below the head, which
-- are numbered from the one after it, have these forms
pub record NumbersInPlace : Type 0 where
  pub all : (tree : PureTree)
      → map (λ (line : NumberedForm). line.number) (tree_forms tree) ≡ lines_in tree
  pub in_place : (tree : PureTree)
      → AreInPlace (line_after_head tree.version) (tree_lines tree) (tree_forms (numbered tree))
