-- What holds of names whose declarations have no fault (own): formats are legal, rates and sizes
-- within their limits.
use Rattle.std.specs.Prelude.{◌≡◌, ◌≤◌, ℕ, List, length, Option, Some, None, slice_get}
use Rattle.tdf_base.specs.Limits.{greatest_rate}
use Rattle.tdf_lang_tree.specs.Below.{IsLegal}
use Rattle.tdf_expr_symbols.specs.Names.{Names, Thing, Const, Var, Array, Port, RateVar, Event, Signal, DeSignal, Instance, Loop, TypeName, Tdf, De, Composite}
use Rattle.tdf_expr_symbols.specs.Scope.{Scope, least_of, greatest_of}
use Rattle.tdf_lang_tree.specs.Kept.{Each, KeepsLit}
use Rattle.tdf_lang_tree.specs.declared.shapes.Shape.{Shape}

-- a format that is there, and that there is
abbrev pub HasFormat : Option Shape → Type 0
HasFormat (Some s) = IsLegal s.wl s.iwl
HasFormat None = ⊥

abbrev pub IsThingSound : Names → Thing → Type 0
IsThingSound own (Const shape value) = HasFormat shape × KeepsLit value
IsThingSound own (Var shape start) = HasFormat shape × KeepsLit start
IsThingSound own (Array shape size starts) =
    HasFormat shape × Each KeepsLit starts × (length starts ≤ size)
    × (1 ≤ size) × (size ≤ greatest_rate)
IsThingSound own (Port word shape rate delay) =
    HasFormat shape × (1 ≤ least_of own rate) × (greatest_of own rate ≤ greatest_rate)
IsThingSound own (RateVar least greatest start) =
    (1 ≤ least) × (least ≤ start) × (start ≤ greatest) × (greatest ≤ greatest_rate)
IsThingSound own Event = Unit {0}
IsThingSound own (Signal shape) = HasFormat shape
IsThingSound own (DeSignal shape start) = HasFormat shape × KeepsLit start
IsThingSound own Instance = Unit {0}
IsThingSound own (Loop from end) = ⊥
IsThingSound own (TypeName s) = IsLegal s.wl s.iwl
IsThingSound own Tdf = Unit {0}
IsThingSound own De = Unit {0}
IsThingSound own Composite = Unit {0}

pub record IsSound (scope : Scope) : Type 0 where
  pub globals : (n : ℕ) (t : Thing) → slice_get scope.globals.things n ≡ Some t
      → IsThingSound scope.globals t
  pub own : (n : ℕ) (t : Thing) → slice_get scope.own.things n ≡ Some t → IsThingSound scope.own t
