-- The faults of the `bind` and `instance` lines of a model: each composite by itself, used or not.
-- Source: own.
use Rattle.std.specs.Prelude.{ℕ, Bool, true, false, not, ◌&&◌, nat_eq, List, [], ◌∷◌, ◌++◌, Option, Some, None}
use Rattle.std.specs.Cmp.Lexicographic.{pointwise}
use Rattle.std.specs.List.{find, flat_map, list_any}
use Rattle.tdf_bind_ports.specs.Agree.{agrees}
use Rattle.tdf_bind_ports.specs.Faults.{LinkFault, UnknownPort, TwiceBound, Mismatch, Unbound, link_fault_if}
use Rattle.tdf_bind_ports.specs.Ports.{Known, no_blocks, known_after, known_after_all, ports_named, Instances, no_instances, with_instances, block_named, port_named}
use Rattle.tdf_expr_symbols.specs.Names.{Names, Thing, globals_of, thing_of, composite_names}
use Rattle.tdf_lang_tree.specs.Pure.{PureComposite, PureGlobal, GNet, PureTree}
use Rattle.tdf_lang_tree.specs.declared.blocks.Member.{Member}
use Rattle.tdf_lang_tree.specs.declared.blocks.Member.TheVariants as member
use Rattle.tdf_lang_tree.specs.declared.blocks.PortLine.{PortLine}

-- what the lines of a composite are held against: the global names, the composite's own names, the
-- blocks that stand before it, and its instances
pub record Around : Type 0 where
  pub globals : Names
  pub own : Names
  pub known : Known
  pub instances : Instances

-- the ports of the block of an instance
abbrev pub ports_of_block : Known → Option (List ℕ) → Option (List PortLine)
ports_of_block known None = None
ports_of_block known (Some block) = ports_named known block

abbrev pub port_in : Option (List PortLine) → List ℕ → Option PortLine
port_in None name = None
port_in (Some ports) name = port_named ports name

-- a port of an instance
abbrev pub port_around : Around → (instance port : List ℕ) → Option PortLine
port_around around instance port =
    port_in (ports_of_block around.known (block_named around.instances instance)) port

-- whether a line binds this port of this instance
abbrev pub binds : (instance port : List ℕ) → Member → Bool
binds instance port (member.Bind line i p target) =
    pointwise nat_eq instance i && pointwise nat_eq port p
binds instance port _ = false

abbrev pub is_bound : List Member → (instance port : List ℕ) → Bool
is_bound lines instance port = list_any (binds instance port) lines

-- a line that binds a port of an instance to what a name stands for, where `again` says whether an
-- earlier line binds it
abbrev pub port_link_faults : Names → ℕ → (again : Bool) → Option Thing → Option PortLine
    → List LinkFault
port_link_faults globals line again target None = link_fault_if true UnknownPort line
port_link_faults globals line again target (Some port) =
    link_fault_if again TwiceBound line
    ++ link_fault_if (not (agrees globals port target)) Mismatch line

-- a `bind` line, where `bound` says what the lines before it bind
unfoldable pub bind_faults : Around → (bound : (instance port : List ℕ) → Bool) → Member
    → List LinkFault
bind_faults around bound (member.Bind line instance port target) =
    port_link_faults around.globals line (bound instance port) (thing_of around.own target)
    (port_around around instance port)
bind_faults around bound _ = []

-- lines in order, where some stand before these
unfoldable pub binds_faults : Around → (earlier lines : List Member) → List LinkFault
binds_faults around earlier [] = []
binds_faults around earlier (m ∷ ms) =
    bind_faults around (is_bound earlier) m ++ binds_faults around (earlier ++ m ∷ []) ms

-- the first of some ports of an instance that is not bound
abbrev pub first_free : (bound : (instance port : List ℕ) → Bool) → List ℕ → List PortLine
    → Option PortLine
first_free bound instance ports = find (λ p. not (bound instance p.name)) ports

abbrev pub unbound_faults : ℕ → Option PortLine → List LinkFault
unbound_faults line None = []
unbound_faults line (Some port) = link_fault_if true (Unbound port.name) line

abbrev pub free_faults : (bound : (instance port : List ℕ) → Bool) → ℕ → List ℕ
    → Option (List PortLine) → List LinkFault
free_faults bound line instance None = []
free_faults bound line instance (Some ports) =
    unbound_faults line (first_free bound instance ports)

-- an `instance` line, where `bound` says what the lines of the composite bind
unfoldable pub instance_faults : Around → (bound : (instance port : List ℕ) → Bool) → Member
    → List LinkFault
instance_faults around bound (member.Instance line name block) =
    free_faults bound line name (ports_named around.known block)
instance_faults around bound _ = []

abbrev pub faults_around : Around → List Member → List LinkFault
faults_around around members =
    binds_faults around [] members
    ++ flat_map (instance_faults around (is_bound members)) members

abbrev pub around_of : Names → Known → PureComposite → Around
around_of globals known block = record {
  globals = globals;
  own = composite_names globals block;
  known = known;
  instances = with_instances block.members no_instances;
}

-- a `composite` block or `top`, where `known` are the blocks that stand before it
unfoldable pub composite_link_faults : Names → Known → PureComposite → List LinkFault
composite_link_faults globals known block =
    faults_around (around_of globals known block) block.members

abbrev pub global_link_faults : Names → Known → PureGlobal → List LinkFault
global_link_faults globals known (GNet block) = composite_link_faults globals known block
global_link_faults globals known _ = []

unfoldable pub globals_link_faults : Names → Known → List PureGlobal → List LinkFault
globals_link_faults globals known [] = []
globals_link_faults globals known (g ∷ gs) =
    global_link_faults globals known g ++ globals_link_faults globals (known_after g known) gs

abbrev pub link_faults_in : Names → PureTree → List LinkFault
link_faults_in globals model =
    globals_link_faults globals no_blocks model.globals
    ++ composite_link_faults globals (known_after_all model.globals no_blocks) model.top

-- all faults of a model's `bind` and `instance` lines, in no order that matters
unfoldable pub link_faults : PureTree → List LinkFault
link_faults model = link_faults_in (globals_of model.globals) model
