-- What a name of a block stands for, with its numbers.
use Rattle.std.specs.Prelude.{◌≡◌, ℕ, min, List, [], Option, None, Some, pos, slice_get, ◌-◌, if◌then◌else◌}
use Rattle.tdf_expr_compiler.specs.Layouts.{IsNumbered}
use Rattle.tdf_expr_compiler.specs.declared.numbers.Numbers.{Numbers}
use Rattle.tdf_expr_compiler.specs.machine.Computed.{IsAt}
use Rattle.tdf_fixed.specs.Cast.{IsLegal}
use Rattle.tdf_expr_machine.specs.Nodes.{node_value, spot_place, IsNumberAt, IsSafe, IsSpot}
use Rattle.tdf_expr_machine.specs.declared.nodes.Node.{Node}
use Rattle.tdf_expr_machine.specs.declared.spots.Spot.{Spot}
use Rattle.tdf_expr_semantics.specs.Value.{element, index_value}
use Rattle.tdf_expr_symbols.specs.Index.{kind_faults, index_faults}
use Rattle.tdf_expr_symbols.specs.Names.{Names, Thing, Const, place_of, thing_of}
use Rattle.tdf_expr_symbols.specs.Scope.{Scope, OpenLoop}
use Rattle.tdf_expr_symbols.specs.Sound.{IsThingSound, HasFormat}
use Rattle.tdf_expr_symbols.specs.declared.kinds.Part.{Part}
use Rattle.tdf_expr_symbols.specs.declared.kinds.Place.TheVariants as place
use Rattle.tdf_expr_state.specs.State.{State, cell_at}
use Rattle.tdf_lang_tree.specs.Kept.{KeepsLit}
use Rattle.tdf_lang_tree.specs.declared.expr.Index.{Index}
use Rattle.tdf_lang_tree.specs.declared.shapes.Shape.{Shape}

pub record IsFound (own : Names) (name : List ℕ) (t : Thing) (p : Numbers) : Type 0 where
  pub place : ℕ
  pub at : place_of own name ≡ Some place
  pub is : thing_of own name ≡ Some t
  pub numbered : IsNumbered own place p
  pub sound : IsThingSound own t

-- what a constant keeps
abbrev pub IsKept : Thing → Type 0
IsKept (Const shape value) = HasFormat shape × KeepsLit value
IsKept _ = Unit {0}

-- the code of a bare name, which is the n-th of the block
pub record IsWhole (scope : Scope) (loops : List OpenLoop) (n : ℕ) (t : Thing) (node : Node)
    : Type 0 where
  pub at : (turns : List ℕ) (s : State) → IsAt scope loops turns s
      → slice_get scope.own.things n ≡ Some t
      → IsSafe node s turns × (node_value node s turns ≡ (element scope.own s n t 0).num)

-- how many bits a number in a format has at most, its sign aside
abbrev pub bits_in : Option Shape → ℕ
bits_in None = 0
bits_in (Some shape) = min (if shape.signed then shape.wl - 1 else shape.wl) 255

-- the code of a cell, and of a sample, whose number has at most so many bits
pub record IsCellAt (spot : Spot) (bits : ℕ) (node : Node) : Type 0 where
  pub num : (turns : List ℕ) (s : State)
      → node_value node s turns ≡ cell_at s.frame.cells (spot_place spot turns)
  pub safe : (turns : List ℕ) (s : State) → IsSpot spot turns
      → IsNumberAt s.frame.cells (spot_place spot turns) bits → IsSafe node s turns

pub record IsSampleAt (spot : Spot) (bits : ℕ) (node : Node) : Type 0 where
  pub num : (turns : List ℕ) (s : State)
      → node_value node s turns ≡ cell_at s.ports.samples (spot_place spot turns)
  pub safe : (turns : List ℕ) (s : State) → IsSpot spot turns
      → IsNumberAt s.ports.samples (spot_place spot turns) bits → IsSafe node s turns

-- the code of an element of the n-th name of the block
pub record IsIndexed (scope : Scope) (loops : List OpenLoop) (n : ℕ) (t : Thing) (i : Index)
    (node : Node) : Type 0 where
  pub at : (body : Part) (line : ℕ) (turns : List ℕ) (s : State) → IsAt scope loops turns s
      → slice_get scope.own.things n ≡ Some t
      → kind_faults (place.Element body) (Some t) line ≡ []
      → index_faults scope loops line (Some t) i ≡ []
      → IsSafe node s turns
      × ((k : ℕ) × (index_value loops turns i ≡ pos k)
      × (node_value node s turns ≡ (element scope.own s n t k).num))

-- a format is legal, where there is one
abbrev pub IsShaped : Option Shape → Type 0
IsShaped format = (shape : Shape) → format ≡ Some shape → IsLegal shape.wl shape.iwl
