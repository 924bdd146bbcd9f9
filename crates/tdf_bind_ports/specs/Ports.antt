-- The ports of blocks, and the blocks that stand before a line.
-- Source: own.
use Rattle.std.specs.Prelude.{ℕ, List, [], ◌∷◌, ◌++◌, Option, map}
use Rattle.std.specs.List.{flat_map}
use Rattle.tdf_expr_symbols.specs.Names.{found_at, place_in}
use Rattle.tdf_lang_tree.specs.Pure.{PureTdfLine, TPort, TStore, TRate, PureDeLine, DPort, DStore, DEvent, PureTdf, PureDe, PureComposite, PureGlobal, GShape, GTdf, GDe, GNet}
use Rattle.tdf_lang_tree.specs.declared.blocks.Member.{Member}
use Rattle.tdf_lang_tree.specs.declared.blocks.Member.TheVariants as member
use Rattle.tdf_lang_tree.specs.declared.blocks.PortLine.{PortLine}

abbrev pub port_of_tdf_line : PureTdfLine → List PortLine
port_of_tdf_line (TPort port) = port ∷ []
port_of_tdf_line (TStore store) = []
port_of_tdf_line (TRate line name least greatest start) = []

abbrev pub port_of_de_line : PureDeLine → List PortLine
port_of_de_line (DPort port) = port ∷ []
port_of_de_line (DStore store) = []
port_of_de_line (DEvent line name) = []

abbrev pub port_of_member : Member → List PortLine
port_of_member (member.Port port) = port ∷ []
port_of_member _ = []

-- the ports of a block, in order
abbrev pub ports_of_tdf : PureTdf → List PortLine
ports_of_tdf block = flat_map port_of_tdf_line block.decls

abbrev pub ports_of_de : PureDe → List PortLine
ports_of_de block = flat_map port_of_de_line block.decls

abbrev pub ports_of_composite : PureComposite → List PortLine
ports_of_composite block = flat_map port_of_member block.members

-- the first of some ports that has this name
abbrev pub port_named : List PortLine → List ℕ → Option PortLine
port_named ports name = found_at ports (place_in (map (λ p. p.name) ports) name)

-- blocks in order: the name and the ports of each
pub record Known : Type 0 where
  pub names : List (List ℕ)
  pub ports : List (List PortLine)

abbrev pub no_blocks : Known
no_blocks = record { names = []; ports = [] }

abbrev pub with_block : List ℕ → List PortLine → Known → Known
with_block name ports known =
    record { names = known.names ++ name ∷ []; ports = known.ports ++ ports ∷ [] }

-- the blocks that are known after a declaration
abbrev pub known_after : PureGlobal → Known → Known
known_after (GShape t) known = known
known_after (GTdf block) known = with_block block.name (ports_of_tdf block) known
known_after (GDe block) known = with_block block.name (ports_of_de block) known
known_after (GNet block) known = with_block block.name (ports_of_composite block) known

unfoldable pub known_after_all : List PureGlobal → Known → Known
known_after_all [] known = known
known_after_all (g ∷ gs) known = known_after_all gs (known_after g known)

-- the ports of the block of a name
abbrev pub ports_named : Known → List ℕ → Option (List PortLine)
ports_named known name = found_at known.ports (place_in known.names name)

-- the instances of a composite: the name of each, and the name of its block
pub record Instances : Type 0 where
  pub names : List (List ℕ)
  pub blocks : List (List ℕ)

abbrev pub no_instances : Instances
no_instances = record { names = []; blocks = [] }

abbrev pub with_instance : Member → Instances → Instances
with_instance (member.Instance line name block) i =
    record { names = i.names ++ name ∷ []; blocks = i.blocks ++ block ∷ [] }
with_instance _ i = i

unfoldable pub with_instances : List Member → Instances → Instances
with_instances [] i = i
with_instances (m ∷ ms) i = with_instances ms (with_instance m i)

-- the name of the block of an instance
abbrev pub block_named : Instances → List ℕ → Option (List ℕ)
block_named i name = found_at i.blocks (place_in i.names name)
