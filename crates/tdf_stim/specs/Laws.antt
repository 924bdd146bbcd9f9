-- What makes the driver's name trustworthy: it is not in use, and each lesser number's name is.
-- Source: own.
use Rattle.std.specs.Prelude.{◌≡◌, ◌<◌, ◌^◌, ℕ, true, false}
use Rattle.tdf_lang_tree.specs.Pure.{PureTree}
use Rattle.tdf_stim.specs.Driven.{driver_name, free_from, is_listed, names_in_use, stim_name, tries}

abbrev pub driver_number : PureTree → ℕ
driver_number tree = free_from (is_listed (names_in_use tree)) (tries tree) 0

-- for trees as they fit in memory
pub record HasLeastName (tree : PureTree) : Type 0 where
  pub free : is_listed (names_in_use tree) (driver_name tree) ≡ false
  pub least : (k : ℕ) → k < driver_number tree → is_listed (names_in_use tree) (stim_name k) ≡ true

abbrev pub NamesAreLeast : Type 0
NamesAreLeast = (tree : PureTree) → tries tree < 2 ^ 64 → HasLeastName tree
