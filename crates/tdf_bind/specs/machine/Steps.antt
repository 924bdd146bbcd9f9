-- How the code joins names (own).
use Rattle.std.specs.Prelude.{ℕ, zero, suc, List, ◌∷◌, ◌++◌}
use Rattle.tdf_bind_tables.specs.FlatTables.{FlatTablesOf, IsFlat}
use Rattle.tdf_bind.specs.Flat.{IsLinked, top_place, trace_lines}
use Rattle.tdf_bind_attributes.specs.Roles.{roles_of}
use Rattle.tdf_lang_tree.specs.Pure.{PureTree}
use Rattle.tdf_bind_hierarchy.specs.Blocks.{BlockOf}

-- the text of a path with the name at a place
abbrev pub dotted_after : List ℕ → ℕ → List ℕ → List ℕ
dotted_after text zero name = text ++ name
dotted_after text (suc place) name = text ++ 46 ∷ name

-- the tables of a model by its blocks
abbrev pub HasTables : PureTree → List BlockOf → FlatTablesOf → Type 0
HasTables model blocks tables =
    IsFlat blocks (top_place blocks) (roles_of model) (trace_lines model) tables

-- the tables of a model
pub record IsTabled (model : PureTree) (tables : FlatTablesOf) : Type 0 where
  pub blocks : List BlockOf
  pub linked : IsLinked model blocks
  pub has : HasTables model blocks tables
