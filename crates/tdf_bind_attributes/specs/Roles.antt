-- What each block of a model is, with the attributes of its ports that stand: `tdf` and `de` blocks
-- are numbered from 0 in the order of the text; `top` comes last.
-- Source: own.
use Rattle.std.specs.Prelude.{ℕ, ◌+◌, false, List, [], ◌∷◌, ◌++◌, map, Option, Some, None, nat_eq, filter_map, if◌then◌else◌}
use Rattle.std.specs.BTreeMap.{insert_entry}
use Rattle.std.specs.Cmp.Lexicographic.{pointwise}
use Rattle.std.specs.List.{flat_map}
use Rattle.std.specs.Ordering.{nat_cmp}
use Rattle.tdf_fixed.specs.declared.raw.Raw.{Raw}
use Rattle.tdf_bind_ports.specs.Ports.{ports_of_tdf, ports_of_de}
use Rattle.tdf_expr_compiler.specs.Below.{literal_in, rate_number}
use Rattle.tdf_bind_attributes.specs.Standing.{last_of, module_step, assigned_port_step, accepting}
use Rattle.tdf_expr_symbols.specs.Names.{Names, Thing, Port, RateVar, place_in, place_of, thing_of, globals_of}
use Rattle.tdf_expr_symbols.specs.Scope.{Scope, tdf_scope, does_change}
use Rattle.tdf_expr_symbols.specs.Sound.{IsSound}
use Rattle.tdf_lang_tree.specs.Pure.{PureDeLine, DPort, DStore, DEvent, PureTdf, PureDe, PureProcess, PureGlobal, GShape, GTdf, GDe, GNet, PureTree}
use Rattle.tdf_lang_tree.specs.declared.blocks.Attr.{Attr}
use Rattle.tdf_lang_tree.specs.declared.blocks.Initial.{Initial}
use Rattle.tdf_lang_tree.specs.declared.blocks.PortLine.{PortLine}
use Rattle.tdf_lang_tree.specs.declared.blocks.Sense.{Sense}
use Rattle.tdf_lang_tree.specs.declared.shapes.Shape.{Shape}
use Rattle.tdf_lang_tree.specs.declared.stmt.Limit.{Limit}
use Rattle.tdf_lang_tree.specs.declared.stmt.Limit.TheVariants as limit
use Rattle.tdf_bind_connections.specs.Roles.{ProcessOf, ProcessesOf, ModuleRole}
use Rattle.tdf_bind_connections.specs.declared.roles.PortData.{PortData}
use Rattle.tdf_bind_connections.specs.declared.roles.Rate.{Rate}
use Rattle.tdf_bind_connections.specs.declared.roles.Role.{Role}
use Rattle.tdf_bind_connections.specs.declared.roles.Role.TheVariants.{Module, Processes, Composite}

-- the number of a rate variable among those of its block
abbrev pub variable_at : Names → Option ℕ → Option Thing → Option ℕ
variable_at own (Some place) (Some (RateVar least greatest start)) = Some (rate_number own place)
variable_at own place thing = None

abbrev pub variable_of : Names → List ℕ → Option ℕ
variable_of own name = variable_at own (place_of own name) (thing_of own name)

-- a rate: a number, or a number times the value of a rate variable
abbrev pub rate_of_limit : Names → Limit → Rate
rate_of_limit own (limit.Int n) = record { times = n; var = None }
rate_of_limit own (limit.Var r) = record { times = 1; var = variable_of own r }
rate_of_limit own (limit.Times c r) = record { times = c; var = variable_of own r }

-- the rate, the delay and the timestep of a port, as its last lines say
abbrev pub rate_of_port : Option Thing → Limit
rate_of_port (Some (Port word shape rate delay)) = rate
rate_of_port _ = limit.Int 1

abbrev pub delay_of_port : Option Thing → ℕ
delay_of_port (Some (Port word shape rate delay)) = delay
delay_of_port _ = 0

abbrev pub step_of_port : (port : List ℕ) → Option Thing → List Attr → ℕ
step_of_port port None attrs = 0
step_of_port port (Some thing) attrs = last_of (assigned_port_step port) 0 attrs

-- the initial samples of a port by rising place: a later line takes the place of an earlier one
abbrev pub with_initial : (port : List ℕ) → Shape → Initial → List (ℕ × Raw) → List (ℕ × Raw)
with_initial port shape i entries =
    if pointwise nat_eq port i.port
    then insert_entry nat_cmp entries i.place (literal_in (Some shape) i.value) else entries

unfoldable pub with_initials : (port : List ℕ) → Shape → List Initial → List (ℕ × Raw)
    → List (ℕ × Raw)
with_initials port shape [] entries = entries
with_initials port shape (i ∷ is) entries =
    with_initials port shape is (with_initial port shape i entries)

abbrev pub initials_of_port : (port : List ℕ) → Option Thing → List Initial → List (ℕ × Raw)
initials_of_port port (Some (Port word (Some shape) rate delay)) lines =
    with_initials port shape lines []
initials_of_port port _ lines = []

-- a port of a `tdf` block, by what its name stands for
abbrev pub data_of_port : Scope → PureTdf → PortLine → Option Thing → PortData
data_of_port scope block port thing = record {
  name = port.name;
  kind = port.kind;
  rate = rate_of_limit scope.own (rate_of_port thing);
  delay = delay_of_port thing;
  step = step_of_port port.name thing block.attrs;
  initials = initials_of_port port.name thing block.initials;
}

abbrev pub port_data : Scope → PureTdf → PortLine → PortData
port_data scope block port = data_of_port scope block port (thing_of scope.own port.name)

abbrev pub module_role : Names → ℕ → PureTdf → ModuleRole
module_role globals number block = record {
  block = number;
  changes = does_change block.attrs;
  accepts = last_of accepting false block.attrs;
  step = last_of module_step 0 block.attrs;
  ports = map (port_data (tdf_scope globals block) block) (ports_of_tdf block);
}

-- the events of a `de` block
abbrev pub event_of : PureDeLine → List (List ℕ)
event_of (DEvent line name) = name ∷ []
event_of (DPort port) = []
event_of (DStore store) = []

abbrev pub names_of_events : PureDe → List (List ℕ)
names_of_events block = flat_map event_of block.decls

-- the places of the names of some lines among other names
abbrev pub places_among : List (List ℕ) → List Sense → List ℕ
places_among names lines = filter_map (λ s. place_in names s.name) lines

abbrev pub process_role : PureDe → PureProcess → ProcessOf
process_role block process = record {
  starts = process.starts;
  ports = places_among (map (λ p. p.name) (ports_of_de block)) process.sensitive;
  events = places_among (names_of_events block) process.sensitive;
}

abbrev pub processes_role : ℕ → PureDe → ProcessesOf
processes_role number block = record {
  block = number;
  ports = map (λ p. p.kind) (ports_of_de block);
  processes = map (process_role block) block.processes;
  events = names_of_events block;
}

-- the roles of some declarations, where `number` `tdf` and `de` blocks stand before them
unfoldable pub roles_from : Names → ℕ → List PureGlobal → List Role
roles_from globals number [] = []
roles_from globals number (GShape t ∷ gs) = roles_from globals number gs
roles_from globals number (GTdf block ∷ gs) =
    Module (module_role globals number block) ∷ roles_from globals (number + 1) gs
roles_from globals number (GDe block ∷ gs) =
    Processes (processes_role number block) ∷ roles_from globals (number + 1) gs
roles_from globals number (GNet block ∷ gs) = Composite ∷ roles_from globals number gs

-- the roles of all blocks of a model
abbrev pub roles_of : PureTree → List Role
roles_of model = roles_from (globals_of model.globals) 0 (model.globals ++ GNet model.top ∷ [])

-- the names of each module are sound: their formats are legal, their rates within the limits
abbrev pub AreModulesSound : Names → List PureGlobal → Type 0
AreModulesSound globals [] = Unit {0}
AreModulesSound globals (GTdf block ∷ gs) =
    IsSound (tdf_scope globals block) × AreModulesSound globals gs
AreModulesSound globals (_ ∷ gs) = AreModulesSound globals gs
