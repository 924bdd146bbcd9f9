-- A module with numbers in range, whatever their count.
-- Source: own.
use Rattle.std.specs.Prelude.{◌≡◌, length}
use Rattle.std.specs.List.{AllByRecursion}
use Rattle.tdf_save.specs.Members.{IsCount32, IsCount64, IsNum, ModuleMembersOf}
use Rattle.tdf_saved.specs.State.{ModuleStateOf}

pub record IsModuleInRange (s : ModuleStateOf) : Type 0 where
  pub rates : AllByRecursion IsCount32 s.rates
  pub steps : AllByRecursion IsCount64 s.steps
  pub cells : AllByRecursion IsNum s.cells

-- as many numbers as the member has
pub record HasCounts (m : ModuleMembersOf) (s : ModuleStateOf) : Type 0 where
  pub rates : length s.rates ≡ m.rates
  pub steps : length s.steps ≡ m.steps
  pub cells : length s.cells ≡ m.cells
