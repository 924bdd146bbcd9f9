-- The flat model of a text, and its first fault of binding: by line, then sizes, then drivers in
-- preorder of the signals, then traces by line, then the number of clusters.
-- Source: own.
use Rattle.std.specs.Prelude.{◌≡◌, ◌-◌, ℕ, true, false, List, [], ◌∷◌, ◌++◌, length, map, Some}
use Rattle.tdf_base.specs.declared.codes.Code.TheVariants as code
use Rattle.tdf_base.specs.declared.faults.Fault.{Fault}
use Rattle.tdf_base.specs.declared.faults.Place.TheVariants as place
use Rattle.tdf_bind_tables.specs.FlatTables.{IsFlat, HasBindingFault}
use Rattle.tdf_bind_tables.specs.declared.flat.BindErr.{BindErr}
use Rattle.tdf_bind_tables.specs.declared.flat.BindErr.TheVariants.{Refused, Memory}
use Rattle.tdf_expr.specs.Checked.{IsCheckedOf}
use Rattle.tdf_bind.specs.declared.model.Flat.{Flat}
use Rattle.tdf_bind_ports.specs.Faults.{LinkFault, first_link_fault, fault_of_link}
use Rattle.tdf_bind_ports.specs.Links.{link_faults}
use Rattle.tdf_bind_names.specs.Counts.{is_too_many}
use Rattle.tdf_bind_names.specs.Resolved.{AreResolved}
use Rattle.tdf_bind_attributes.specs.Roles.{roles_of}
use Rattle.tdf_lang_tree.specs.Pure.{PureTrace, PureTree}
use Rattle.tdf_bind_hierarchy.specs.Blocks.{BlockOf}
use Rattle.tdf_bind_connections.specs.declared.traces.TraceLine.{TraceLine}

-- names joined by points
abbrev pub dotted : List (List ℕ) → List ℕ
dotted [] = []
dotted (name ∷ []) = name
dotted (name ∷ other ∷ names) = name ++ 46 ∷ dotted (other ∷ names)

-- a line that asks for a trace
abbrev pub trace_line : PureTrace → TraceLine
trace_line trace =
    record { line = trace.line; path = dotted trace.path; label = trace.label }

abbrev pub trace_lines : PureTree → List TraceLine
trace_lines model = map trace_line model.traces

-- the place of the outermost block, the last one
abbrev pub top_place : List BlockOf → ℕ
top_place blocks = length blocks - 1

-- a model whose lines are bound, and which is not too large, by its blocks
pub record IsLinked (model : PureTree) (blocks : List BlockOf) : Type 0 where
  pub resolved : AreResolved model blocks
  pub links : link_faults model ≡ []
  pub few : is_too_many model blocks ≡ false

-- the flat model
pub record IsFlatOf (model : PureTree) (flat : Flat) : Type 0 where
  pub blocks : List BlockOf
  pub linked : IsLinked model blocks
  pub tables : IsFlat blocks (top_place blocks) (roles_of model) (trace_lines model) flat.tables
  pub bodies : IsCheckedOf model flat.checked
  pub unit : flat.resolution ≡ model.resolution

abbrev pub too_many_fault : Fault
too_many_fault = record { code = code.TooMany; place = place.Nowhere }

-- the first fault
pub data IsBindFault (model : PureTree) (fault : Fault) : Type 0 where
  OfLine : (f : LinkFault) → first_link_fault (link_faults model) ≡ Some f → fault ≡ fault_of_link f
      → IsBindFault model fault
  OfSize : (blocks : List BlockOf) → link_faults model ≡ [] → AreResolved model blocks
      → is_too_many model blocks ≡ true → fault ≡ too_many_fault → IsBindFault model fault
  OfTables : (blocks : List BlockOf) → IsLinked model blocks
      → HasBindingFault blocks (top_place blocks) (roles_of model) (trace_lines model) fault
      → IsBindFault model fault

-- a refusal is the first fault; want of memory is free
abbrev pub IsBindRefusal : PureTree → BindErr → Type 0
IsBindRefusal model (Refused fault) = IsBindFault model fault
IsBindRefusal model Memory = Unit {0}
