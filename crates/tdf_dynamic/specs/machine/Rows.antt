-- How the rows of two lists are compared, place by place.
-- Source: own.
use Rattle.std.specs.Prelude.{◌≡◌, ◌<◌, ◌≤◌, ℕ, Bool, false, true, List, length, Option, Some, None, slice_get}
use Rattle.tdf_bind_tables.specs.FlatTables.{FlatTablesOf}
use Rattle.tdf_dynamic.specs.Asked.{HasSameRates, attrs_after, said_or}
use Rattle.tdf_dynamic.specs.Change.{HasSameSteps}
use Rattle.tdf_dynamic.specs.declared.frames.ModuleFrame.{ModuleFrame}
use Rattle.tdf_dynamic.specs.machine.Asking.{told}
use Rattle.tdf_dynamic_plans.specs.Attributes.{AttrsOf, RowsStandOnce}
use Rattle.tdf_dynamic_plans.specs.Rates.{AreRates}
use Rattle.tdf_graph.specs.declared.actors.Port.{Port}
use Rattle.tdf_timestep.specs.declared.assign.Steps.{Steps}

-- below a place something holds of the two that stand at the same place
abbrev pub HoldsBelow : {A B : Type 0} → (A → B → Type 0) → List A → List B → ℕ → Type 0
HoldsBelow {A} {B} P xs ys n = (j : ℕ) (x : A) (y : B) → j < n → slice_get xs j ≡ Some x
    → slice_get ys j ≡ Some y → P x y

-- the first place at which it holds
pub record IsFirstPlace {A B : Type 0} (P : A → B → Type 0) (xs : List A) (ys : List B) (k : ℕ)
    : Type 0 where
  pub one : A
  pub other : B
  pub one_at : slice_get xs k ≡ Some one
  pub other_at : slice_get ys k ≡ Some other
  pub holds : P one other
  pub before : HoldsBelow (λ x y. P x y → ⊥) xs ys k

abbrev pub IsFirst : {A B : Type 0} → (A → B → Type 0) → List A → List B → Option ℕ → Type 0
IsFirst P xs ys None = HoldsBelow (λ x y. P x y → ⊥) xs ys (length xs)
IsFirst P xs ys (Some k) = IsFirstPlace P xs ys k

-- the first n rows after the change bodies
pub record AreAfter (table : List AttrsOf) (frames : List ModuleFrame) (n : ℕ)
    (after : List AttrsOf) : Type 0 where
  pub long : length after ≡ n
  pub each : (j : ℕ) (attrs : AttrsOf) (f : ModuleFrame) → j < n → slice_get table j ≡ Some attrs
      → slice_get frames j ≡ Some f → slice_get after j ≡ Some (attrs_after attrs (told f))

-- the first n of as many rows as there are modules are those after the change bodies
pub record AreWritten (table : List AttrsOf) (frames : List ModuleFrame) (n : ℕ)
    (after : List AttrsOf) : Type 0 where
  pub long : length after ≡ length table
  pub each : (j : ℕ) (attrs : AttrsOf) (f : ModuleFrame) → j < n → slice_get table j ≡ Some attrs
      → slice_get frames j ≡ Some f → slice_get after j ≡ Some (attrs_after attrs (told f))

-- the first n rows have the flags that were said; the others are as before
abbrev pub flagged : AttrsOf → ModuleFrame → AttrsOf
flagged attrs f = record attrs { accepts = said_or attrs.accepts f.ports.state.accepts }

pub record AreFlagged (old : List AttrsOf) (frames : List ModuleFrame) (n : ℕ) (new : List AttrsOf)
    : Type 0 where
  pub long : length new ≡ length old
  pub each : (j : ℕ) (attrs : AttrsOf) (f : ModuleFrame) → j < n → slice_get old j ≡ Some attrs
      → slice_get frames j ≡ Some f → slice_get new j ≡ Some (flagged attrs f)
  pub left : (j : ℕ) → n ≤ j → slice_get new j ≡ slice_get old j

-- the rates of ports are read off a table: each is allowed, and it is known or not that each
-- module has one row
pub record CanRate (tables : FlatTablesOf) (table : List AttrsOf) (once : Bool) : Type 0 where
  pub rates : AreRates tables table
  pub stands : once ≡ true → RowsStandOnce table

-- a module rejects steps that are others, by the rates and steps from before and those after
pub record IsRefusing (before after : List Port) (old_steps new_steps : Steps) (attrs : AttrsOf)
    (f : ModuleFrame) : Type 0 where
  pub flag : (attrs_after attrs (told f)).accepts ≡ false
  pub same : HasSameRates attrs (attrs_after attrs (told f))
  pub moved : HasSameSteps before after old_steps new_steps attrs → ⊥

-- a module rejects no rates and steps, whichever they are
abbrev pub TakesAll : AttrsOf → ModuleFrame → Type 0
TakesAll attrs f = (before after : List Port) (old_steps new_steps : Steps)
    → IsRefusing before after old_steps new_steps attrs f → ⊥

-- no module does
abbrev pub TakeAll : List AttrsOf → List ModuleFrame → Type 0
TakeAll table frames = HoldsBelow TakesAll table frames (length table)
