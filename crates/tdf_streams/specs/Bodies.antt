-- What the bodies of a module do to its variables, and what it writes.
-- Source: IEEE 1666.1-2016, the callbacks initialize, processing, change_attributes and
-- reinitialize of a TDF module.
use Rattle.std.specs.Prelude.{ℕ, List, [], ◌∷◌, Option, Some, None, ℤ, pos, if◌then◌else◌, slice_get}
use Rattle.tdf_dynamic_plans.specs.Attributes.{attrs_at, rates_in}
use Rattle.tdf_exec_firing.specs.Activation.{ports_before, assigned_sample}
use Rattle.tdf_fixed.specs.declared.raw.Raw.{Raw}
use Rattle.tdf_bind_invariants.specs.Below.{Body, Change, Flat, Initialize, Processing, PureBlock, Reinitialize, blocks_of, body_of, event_count, port_spans_of, scope_in, start_cells}
use Rattle.tdf_streams.specs.Net.{Turn}
use Rattle.tdf_graph.specs.declared.actors.Actor.{Actor}
use Rattle.tdf_graph.specs.declared.actors.Actor.TheVariants as actor
use Rattle.tdf_expr_semantics.specs.Bodies.{after_body}
use Rattle.tdf_expr_state.specs.State.{State, state_of}
use Rattle.tdf_streams.specs.Periods.{PeriodInfo, PeriodRecord}
use Rattle.tdf_streams.specs.Places.{block_at, has_changes, place_of_port, read_through}
use Rattle.tdf_lang_tree.specs.Pure.{PureTree}

-- the state after a body of a block
abbrev pub after_part : PureTree → Option PureBlock → Body → State → State
after_part model None part s = s
after_part model (Some block) part s = after_body (scope_in model block) (body_of block part) s

-- the state of module m after a body that begins with these values of its variables and of its rate
-- variables, and with what its ports read
unfoldable pub done_by : PureTree → Flat → ℕ → Body → (cells : List ℤ) → (rates : List ℕ)
    → (read : ℕ → List Raw) → State
done_by model flat m part cells rates read = after_part model
    (slice_get (blocks_of model.globals) (block_at flat.tables.modules m)) part
    (state_of (record { cells = cells; rates = rates })
    (ports_before (port_spans_of flat.checked (block_at flat.tables.modules m))
    (event_count flat.checked (block_at flat.tables.modules m)) read))

-- a body that reads nothing
abbrev pub nothing_read : ℕ → List Raw
nothing_read place = []

-- the values of the rate variables of module m in a period
abbrev pub module_rates : PeriodInfo → ℕ → List ℕ
module_rates info m = rates_in (attrs_at info.table m)

-- an activation: the processing body, with the samples of one list an edge; it writes by port
abbrev pub written_by : Flat → ℕ → State → Turn (List ℤ) Raw
written_by flat m done = record {
  state = done.frame.cells;
  outputs = λ port k. assigned_sample
      (port_spans_of flat.checked (block_at flat.tables.modules m)) done.ports.samples
      (place_of_port flat.tables.ports port) k;
}

abbrev pub activation : PureTree → Flat → ℕ → PeriodInfo → List ℤ → List (List Raw)
    → Turn (List ℤ) Raw
activation model flat m info cells inputs = written_by flat m (done_by model flat m Processing
    cells (module_rates info m) (read_through flat.tables.ports m flat.tables.edges inputs))

-- a sink keeps and writes nothing
abbrev pub no_output : List ℤ → Turn (List ℤ) Raw
no_output cells = record { state = cells; outputs = λ port k. record { num = pos 0; frac = 0 } }

-- an activation of an actor that isn't a sampler
abbrev pub module_acted : PureTree → Flat → ℕ → Option Actor → PeriodInfo → List ℤ → List (List Raw)
    → Turn (List ℤ) Raw
module_acted model flat m (Some actor.Module) info cells inputs =
    activation model flat m info cells inputs
module_acted model flat m _ info cells inputs = no_output cells

-- the change body of a module that has one, with the rates of the last of these periods
abbrev pub changed : PureTree → Flat → ℕ → List PeriodRecord → List ℤ → List ℤ
changed model flat m [] cells = cells
changed model flat m (p ∷ []) cells = if has_changes flat.tables.modules m
    then (done_by model flat m Change cells (module_rates p.info m) nothing_read).frame.cells
    else cells
changed model flat m (p ∷ (q ∷ ps)) cells = changed model flat m (q ∷ ps) cells

-- the reinitialize body, where the plan of the period is new
abbrev pub reinitialized : PureTree → Flat → ℕ → PeriodInfo → List ℤ → List ℤ
reinitialized model flat m info cells = if info.is_new
    then (done_by model flat m Reinitialize cells (module_rates info m)
    nothing_read).frame.cells
    else cells

-- the declared state, changed by the initialize body
abbrev pub initialized : PureTree → Flat → ℕ → (rates : List ℕ) → List ℤ
initialized model flat m rates = (done_by model flat m Initialize
    (start_cells flat.checked (block_at flat.tables.modules m)) rates nothing_read).frame.cells
