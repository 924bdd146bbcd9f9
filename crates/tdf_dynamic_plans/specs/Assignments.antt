-- The timesteps that a table of attributes assigns: by module, the module's own before its ports'.
-- Source: own.
use Rattle.std.specs.List.{enumerate_from, flat_map}
use Rattle.std.specs.Prelude.{ℕ, zero, suc, List, Option, Some, None, nat_eq, if◌then◌else◌, filter_map, slice_get}
use Rattle.tdf_dynamic_plans.specs.Attributes.{AttrsOf}
use Rattle.tdf_timestep.specs.declared.assign.Assign.{Assign}

-- the port of a place among the timesteps of a module; none for the module's own
abbrev pub port_at : List ℕ → ℕ → Option ℕ
port_at ports zero = None
port_at ports (suc i) = slice_get ports i

abbrev pub assign_at : AttrsOf → ℕ → ℕ → Option Assign
assign_at attrs place step =
    if nat_eq step 0 then None
    else Some (record { actor = attrs.number; port = port_at attrs.ports place; step = step })

abbrev pub assigned_by : AttrsOf → List Assign
assigned_by attrs =
    filter_map (λ step. assign_at attrs step.0 step.1) (enumerate_from 0 attrs.steps)

unfoldable pub assignments : List AttrsOf → List Assign
assignments table = flat_map assigned_by table
