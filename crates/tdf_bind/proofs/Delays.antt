-- The delays of the ports of a model without a fault of types are within their limit.
use Rattle.std.proofs.Common.{◌≡◌, ℕ, ◌+◌, ◌≤◌, List, [], ◌∷◌, ◌++◌, Option, Some, None, map, refl, arith}
use Rattle.std.proofs.lemmas.Bool.Decides.{nat_tests}
use Rattle.std.proofs.lemmas.List.Elements.{All-from_recursion}
use Rattle.std.specs.List.{AllByRecursion, flat_map}
use Rattle.std.specs.Prelude.{nat_lt, false}
use Rattle.tdf_base.specs.Limits.{greatest_delay}
use Rattle.tdf_base.specs.declared.codes.Code.TheVariants as code
use Rattle.tdf_bind_tables.specs.FlatTables.{IsShortRole}
use Rattle.tdf_expr.specs.Below.{attr_faults, bodies_faults, composite_faults, global_faults, initial_faults, tdf_faults, tdf_line_faults, traces_faults, type_faults}
use Rattle.tdf_base.proofs.Api.{if_none, none_first, none_second}
use Rattle.tdf_base.specs.First.{fault_if}
use Rattle.tdf_expr.proofs.Api.{AllThings, all_changed, all_named, found}
use Rattle.tdf_bind.specs.Laws.{DelaysAreShort}
use Rattle.tdf_bind_ports.specs.Ports.{ports_of_tdf}
use Rattle.tdf_bind_attributes.specs.Roles.{delay_of_port, port_data, roles_from, roles_of}
use Rattle.tdf_expr_symbols.specs.Index.{kind_faults}
use Rattle.tdf_expr_symbols.specs.Names.{Names, Thing, Port, no_names, place_of, thing_of, at_delay, at_rate, globals_of, tdf_names, with_attr, with_attrs, with_store, with_tdf_line, with_tdf_lines}
use Rattle.tdf_expr_symbols.specs.Scope.{Scope, tdf_scope}
use Rattle.tdf_expr_symbols.specs.declared.kinds.Place.TheVariants as place
use Rattle.tdf_lang_tree.specs.Pure.{PureStore, SConst, SVar, SArray, PureTdfLine, TPort, TStore, TRate, PureTdf, PureComposite, PureGlobal, GShape, GTdf, GDe, GNet}
use Rattle.tdf_lang_tree.specs.declared.blocks.Attr.TheVariants as attr
use Rattle.tdf_lang_tree.specs.declared.blocks.Attr.{Attr}
use Rattle.tdf_lang_tree.specs.declared.blocks.PortLine.{PortLine}
use Rattle.tdf_lang_tree.specs.declared.stmt.Limit.{Limit}
use Rattle.tdf_bind_connections.specs.declared.roles.PortData.{PortData}

-- what a name stands for has no great delay
abbrev pub IsShortThing : Thing → Type 0
IsShortThing (Port word shape rate delay) = delay ≤ greatest_delay
IsShortThing _ = Unit {0}

no_delay : 0 ≤ greatest_delay
no_delay = omega arith

store_short : (globals : Names) (store : PureStore) (s : Names) → AllThings IsShortThing s → AllThings IsShortThing (with_store globals store s)
store_short globals (SConst line name x value) s all = all_named IsShortThing s name _ all tt
store_short globals (SVar line name x start) s all = all_named IsShortThing s name _ all tt
store_short globals (SArray line name x size starts) s all = all_named IsShortThing s name _ all tt

line_short : (globals : Names) (line : PureTdfLine) (s : Names) → AllThings IsShortThing s → AllThings IsShortThing (with_tdf_line globals line s)
line_short globals (TPort port) s all = all_named IsShortThing s port.name _ all no_delay
line_short globals (TStore store) s all = store_short globals store s all
line_short globals (TRate line name least greatest start) s all = all_named IsShortThing s name _ all tt

lines_short : (globals : Names) (lines : List PureTdfLine) (s : Names) → AllThings IsShortThing s → AllThings IsShortThing (with_tdf_lines globals lines s)
unfolding with_tdf_lines
lines_short globals [] s all = all
lines_short globals (line ∷ lines) s all = lines_short globals lines (with_tdf_line globals line s) (line_short globals line s all)

-- a line gives a port another rate, or a delay within the limit
rate_short : (rate : Limit) (t : Thing) → IsShortThing t → IsShortThing (at_rate rate t)
rate_short rate (Port word shape old delay) is = is
rate_short rate _ is = tt

delay_short : (delay : ℕ) → delay ≤ greatest_delay → (t : Thing) → IsShortThing t → IsShortThing (at_delay delay t)
delay_short delay few (Port word shape rate old) is = few
delay_short delay few _ is = tt

few_of : (count : ℕ) → nat_lt greatest_delay count ≡ false → count ≤ greatest_delay
few_of count e = grind (arith, nat_tests)

attr_short : (scope : Scope) (a : Attr) (s : Names) → attr_faults scope a ≡ [] → AllThings IsShortThing s → AllThings IsShortThing (with_attr a s)
unfolding attr_faults
attr_short scope (attr.Rate line port rate) s none all = all_changed IsShortThing s (at_rate rate) port all (rate_short rate)
attr_short scope (attr.Delay line port count) s none all =
    let limit = none_second (kind_faults place.Port (thing_of scope.own port) line) (fault_if (nat_lt greatest_delay count) code.Limit line) none in
    all_changed IsShortThing s (at_delay count) port all (delay_short count (few_of count (if_none (nat_lt greatest_delay count) code.Limit line limit)))
attr_short scope (attr.Step line port step) s none all = all
attr_short scope (attr.Does line) s none all = all
attr_short scope (attr.Accept line) s none all = all
attr_short scope (attr.Reject line) s none all = all

attrs_short : (scope : Scope) (attrs : List Attr) (s : Names) → flat_map (attr_faults scope) attrs ≡ [] → AllThings IsShortThing s → AllThings IsShortThing (with_attrs attrs s)
unfolding with_attrs
attrs_short scope [] s none all = all
attrs_short scope (a ∷ attrs) s none all =
    attrs_short scope attrs (with_attr a s) (none_second (attr_faults scope a) (flat_map (attr_faults scope) attrs) none)
    (attr_short scope a s (none_first (attr_faults scope a) (flat_map (attr_faults scope) attrs) none) all)

pub names_short : (globals : Names) (block : PureTdf) → tdf_faults globals block ≡ [] → AllThings IsShortThing (tdf_names globals block)
unfolding tdf_faults
names_short globals block none =
    let scope = tdf_scope globals block in
    let rest = none_second (flat_map (tdf_line_faults globals) block.decls) (flat_map (attr_faults scope) block.attrs ++ (flat_map (initial_faults scope) block.initials ++ bodies_faults scope block)) none in
    attrs_short scope block.attrs (with_tdf_lines globals block.decls no_names) (none_first (flat_map (attr_faults scope) block.attrs) (flat_map (initial_faults scope) block.initials ++ bodies_faults scope block) rest)
    (lines_short globals block.decls no_names (λ n t is. absurd cc))

-- the ports of a block
abbrev IsShortPort : PortData → Type 0
IsShortPort port = port.delay ≤ greatest_delay

pub delay_of : (s : Names) → AllThings IsShortThing s → (name : List ℕ) → delay_of_port (thing_of s name) ≤ greatest_delay
delay_of s all name = go (thing_of s name) refl
  where
    short : (t : Thing) → IsShortThing t → delay_of_port (Some t) ≤ greatest_delay
    short (Port word shape rate delay) is = is
    short _ is = no_delay

    go : (o : Option Thing) → thing_of s name ≡ o → delay_of_port o ≤ greatest_delay
    go None is = no_delay
    go (Some t) is = let at = found s.things (place_of s name) t is in short t (all at.0 t at.2)

ports_short : (globals : Names) (block : PureTdf) → AllThings IsShortThing (tdf_names globals block) → (ports : List PortLine) → AllByRecursion IsShortPort (map (port_data (tdf_scope globals block) block) ports)
ports_short globals block all [] = tt
ports_short globals block all (port ∷ ports) = (delay_of (tdf_names globals block) all port.name, ports_short globals block all ports)

roles_short : (globals : Names) (number : ℕ) (gs : List PureGlobal) (top : PureComposite) → flat_map (global_faults globals) gs ≡ [] → AllByRecursion IsShortRole (roles_from globals number (gs ++ GNet top ∷ []))
unfolding roles_from global_faults
roles_short globals number [] top none = (tt, tt)
roles_short globals number (GShape t ∷ gs) top none = roles_short globals number gs top (none_second (global_faults globals (GShape t)) (flat_map (global_faults globals) gs) none)
roles_short globals number (GTdf block ∷ gs) top none = (
  All-from_recursion IsShortPort (map (port_data (tdf_scope globals block) block) (ports_of_tdf block))
      (ports_short globals block (names_short globals block (none_first (tdf_faults globals block) (flat_map (global_faults globals) gs) none)) (ports_of_tdf block)),
  roles_short globals (number + 1) gs top (none_second (tdf_faults globals block) (flat_map (global_faults globals) gs) none),
)
roles_short globals number (GDe block ∷ gs) top none = (tt, roles_short globals (number + 1) gs top (none_second (global_faults globals (GDe block)) (flat_map (global_faults globals) gs) none))
roles_short globals number (GNet block ∷ gs) top none = (tt, roles_short globals number gs top (none_second (global_faults globals (GNet block)) (flat_map (global_faults globals) gs) none))

pub delays_are_short : DelaysAreShort
unfolding type_faults
delays_are_short model none =
    let globals = globals_of model.globals in
    All-from_recursion IsShortRole (roles_of model)
    (roles_short globals 0 model.globals model.top (none_first (flat_map (global_faults globals) model.globals) (composite_faults globals model.top ++ traces_faults model.traces) none))
