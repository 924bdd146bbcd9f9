-- The driver that is made for some columns, before the tree is changed.
-- Source: own.
use Rattle.std.specs.Prelude.{◌≡◌, ◌<◌, ℕ, List, [], map, length, Option, Some, None, false, true}
use Rattle.tdf_lang_tree.specs.Kept.{IsName}
use Rattle.tdf_lang_tree.specs.Pure.{PureTree}
use Rattle.tdf_lang_tree.specs.Views.{pure_de}
use Rattle.tdf_stim.specs.Drivable.{first_row_line, has_long, is_off, is_too_large}
use Rattle.tdf_stim.specs.Driven.{driver_name, with_parts}
use Rattle.tdf_stim.specs.Driver.{counts, driver_block, driver_members}
use Rattle.tdf_stim.specs.Signals.{Column, SourceOf, columns_from}
use Rattle.tdf_stim.specs.declared.driver.Driver.{Driver}
use Rattle.tdf_stim.specs.declared.err.StimErr.{StimErr}
use Rattle.tdf_stim.specs.declared.err.StimErr.TheVariants as why
use Rattle.tdf_stim_lines.specs.Numbered.{numbered}
use Rattle.tdf_tables.specs.Tables.{TableRow}

-- the parts that columns give, for rows at these counts
pub record HasParts (tree : PureTree) (columns : List Column) (times : List ℕ)
    (d : Driver) : Type 0 where
  pub some : 0 < length columns
  pub named : IsName (driver_name tree)
  pub block : pure_de d.block ≡ driver_block (driver_name tree) columns times
  pub members : d.members.items ≡ driver_members (driver_name tree) columns

-- the tree with the parts, where there are some
abbrev pub finished_tree : PureTree → Option Driver → PureTree
finished_tree tree None = tree
finished_tree tree (Some d) = numbered (with_parts tree (pure_de d.block) d.members.items)

abbrev pub IsDriverFor : PureTree → List Column → (times : List ℕ) → Option Driver → Type 0
IsDriverFor tree columns times None = columns ≡ []
IsDriverFor tree columns times (Some d) = HasParts tree columns times d

abbrev pub IsDriver : PureTree → List (Option SourceOf) → List TableRow → Option Driver → Type 0
IsDriver tree sources rows driver = IsDriverFor tree (columns_from rows 0 sources)
    (map (λ row. counts tree.resolution row.time) rows) driver

pub record AreFine (tree : PureTree) (sources : List (Option SourceOf))
    (rows : List TableRow) : Type 0 where
  pub few : is_too_large (length rows) (length (columns_from rows 0 sources)) ≡ false
  pub short : first_row_line (λ row. has_long sources row.cells) rows ≡ None
  pub on : first_row_line (λ row. is_off tree.resolution row.time) rows ≡ None

abbrev pub IsRefusal : PureTree → List (Option SourceOf) → List TableRow → StimErr → Type 0
IsRefusal tree sources rows why.TooMany =
    is_too_large (length rows) (length (columns_from rows 0 sources)) ≡ true
IsRefusal tree sources rows (why.Digits line) =
    (is_too_large (length rows) (length (columns_from rows 0 sources)) ≡ false)
    × (first_row_line (λ row. has_long sources row.cells) rows ≡ Some line)
IsRefusal tree sources rows (why.Time line) =
    (is_too_large (length rows) (length (columns_from rows 0 sources)) ≡ false)
    × (first_row_line (λ row. has_long sources row.cells) rows ≡ None)
    × (first_row_line (λ row. is_off tree.resolution row.time) rows ≡ Some line)
IsRefusal tree sources rows why.Memory = Unit {0}
