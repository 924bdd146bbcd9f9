-- What holds of the driven tree, and of its driver when it is bound.
-- Source: own.
use Rattle.std.specs.Prelude.{◌≡◌, ℕ, List, [], ◌∷◌, length, Some, slice_get}
use Rattle.tdf_bind.specs.Flat.{top_place}
use Rattle.tdf_bind_attributes.specs.Roles.{roles_from}
use Rattle.tdf_bind_hierarchy.specs.Blocks.{BlockOf}
use Rattle.tdf_bind_hierarchy.specs.Met.{met_in}
use Rattle.tdf_bind_hierarchy.specs.Tables.{IsTable, TablesOf}
use Rattle.tdf_bind_names.specs.Resolved.{AreResolved}
use Rattle.tdf_expr_names.specs.Names.{de_lines_faults, name_faults}
use Rattle.tdf_expr_symbols.specs.Names.{globals_of}
use Rattle.tdf_lang_tree.specs.Pure.{PureTree}
use Rattle.tdf_stim.specs.Driven.{driven_tree, driver_name, times_of}
use Rattle.tdf_stim.specs.Signals.{Column, driving}
use Rattle.tdf_stim_binding.specs.Shape.{HasDriverRole, IsDrivenTree, IsLastInstance, driver_de}
use Rattle.tdf_tables.specs.Tables.{TableOf}

abbrev pub DrivenTreeIs : Type 0
DrivenTreeIs = (tree : PureTree) (table : TableOf) (c : Column) (cs : List Column)
    → driving tree table ≡ c ∷ cs
    → IsDrivenTree (driven_tree tree table) (c ∷ cs) (times_of tree table) (driver_name tree)

-- the number and the place of its block
pub record StandsInTree (model : PureTree) (columns : List Column) (times : List ℕ)
    (name : List ℕ) (d : IsDrivenTree model columns times name) : Type 0 where
  pub number : ℕ
  pub role : HasDriverRole model columns times (driver_de d) number
      (length (roles_from (globals_of model.globals) 0 d.globals))
  -- its names are declared once
  pub names : List (List ℕ)
  pub once : de_lines_faults names [] (driver_de d).decls ≡ []

abbrev pub DriverHasRole : Type 0
DriverHasRole = (model : PureTree) (columns : List Column) (times : List ℕ) (name : List ℕ)
    → (d : IsDrivenTree model columns times name) → name_faults model ≡ []
    → ((j : ℕ) (c : Column) → slice_get columns j ≡ Some c → length c.cells ≡ length times)
    → StandsInTree model columns times name d

-- the last instance of the driven tree is that of the driver
abbrev pub DriverIsLast : Type 0
DriverIsLast = (model : PureTree) (columns : List Column) (times : List ℕ) (name : List ℕ)
    → (d : IsDrivenTree model columns times name) (blocks : List BlockOf) (tables : TablesOf)
    → name_faults model ≡ []
    → ((j : ℕ) (c : Column) → slice_get columns j ≡ Some c → length c.cells ≡ length times)
    → AreResolved model blocks → IsTable (met_in blocks (top_place blocks)) tables
    → IsLastInstance tables columns (length (roles_from (globals_of model.globals) 0 d.globals))
