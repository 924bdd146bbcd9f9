-- What the change body of a module asks for, and the attributes that come of it.
-- Source: IEEE 1666.1-2016, the callback change_attributes of a TDF module; the rest is own.
use Rattle.std.specs.Prelude.{◌≡◌, ◌+◌, ℕ, Bool, false, List, [], ◌∷◌, length, replicate, Option, Some, None, ℤ, if◌then◌else◌}
use Rattle.tdf_dynamic_plans.specs.Attributes.{AttrsOf}
use Rattle.tdf_expr.specs.Made.{port_spans_of}
use Rattle.tdf_expr.specs.declared.bodies.Body.TheVariants as body
use Rattle.tdf_bind.specs.declared.model.Flat.{Flat}
use Rattle.tdf_expr_state.specs.State.{State}
use Rattle.tdf_streams.specs.Bodies.{done_by, nothing_read}
use Rattle.tdf_streams.specs.Places.{block_at, has_changes}
use Rattle.tdf_lang_tree.specs.Pure.{PureTree}

-- the values of its variables and of its rate variables, the timesteps that were assigned to it
-- (place 0) and to its ports, the flag that was said last, and whether a rate was not allowed
pub record AskedOf : Type 0 where
  pub cells : List ℤ
  pub rates : List ℕ
  pub steps : List (Option ℕ)
  pub accepts : Option Bool
  pub out_of_range : Bool

-- what a state of a module says of it
abbrev pub asked_in : State → AskedOf
asked_in s = record {
  cells = s.frame.cells;
  rates = s.frame.rates;
  steps = s.ports.steps;
  accepts = s.ports.accepts;
  out_of_range = s.ports.out_of_range;
}

-- all stays as it is
abbrev pub nothing_asked : (ports : ℕ) → AttrsOf → List ℤ → AskedOf
nothing_asked ports attrs cells = record {
  cells = cells;
  rates = attrs.rates;
  steps = replicate (1 + ports) None;
  accepts = None;
  out_of_range = false;
}

abbrev pub port_count : Flat → ℕ → ℕ
port_count flat m = length (port_spans_of flat.checked (block_at flat.tables.modules m))

-- what a module asks for, which has these attributes and values: what its change body leaves, and
-- nothing where it has no changes
unfoldable pub asked : PureTree → Flat → AttrsOf → List ℤ → AskedOf
asked model flat attrs cells = if has_changes flat.tables.modules attrs.number
    then asked_in (done_by model flat attrs.number body.Change cells attrs.rates nothing_read)
    else nothing_asked (port_count flat attrs.number) attrs cells

-- what was said last, else what was before
abbrev pub said_or : {A : Type 0} → A → Option A → A
said_or before None = before
said_or before (Some said) = said

abbrev pub steps_after : List ℕ → List (Option ℕ) → List ℕ
steps_after [] said = []
steps_after (step ∷ steps) [] = step ∷ steps
steps_after (step ∷ steps) (given ∷ said) = said_or step given ∷ steps_after steps said

-- the attributes after a change body
abbrev pub attrs_after : AttrsOf → AskedOf → AttrsOf
attrs_after attrs asks = record {
  number = attrs.number;
  ports = attrs.ports;
  accepts = said_or attrs.accepts asks.accepts;
  rates = asks.rates;
  steps = steps_after attrs.steps asks.steps;
}

-- two rows have the same rates and the same assigned timesteps
pub record HasSameRates (old new : AttrsOf) : Type 0 where
  pub rates : new.rates ≡ old.rates
  pub steps : new.steps ≡ old.steps

-- a module differs in nothing: its rates and timesteps are as before, and all rates were allowed
pub record IsQuiet (attrs : AttrsOf) (asks : AskedOf) : Type 0 where
  pub same : HasSameRates attrs (attrs_after attrs asks)
  pub unmarked : asks.out_of_range ≡ false
