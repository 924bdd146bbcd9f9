-- The blocks of a model with their names resolved to numbers: one for each block in the order of
-- the text, and `top` last.
-- Source: own.
use Rattle.std.specs.Prelude.{◌≡◌, ℕ, List, [], ◌∷◌, ◌++◌, length, map, Option, Some}
use Rattle.std.specs.List.{flat_map, AllZip}
use Rattle.tdf_bind_ports.specs.Ports.{Known, no_blocks, with_block, ports_named, ports_of_tdf, ports_of_de, ports_of_composite}
use Rattle.tdf_bind_names.specs.Signals.{declared_by, IsSignal}
use Rattle.tdf_bind_names.specs.Targets.{inside_of, or_first, target_of}
use Rattle.tdf_expr_symbols.specs.Names.{Names, globals_of, place_in}
use Rattle.tdf_lang_tree.specs.Pure.{PureComposite, PureGlobal, GShape, GTdf, GDe, GNet, PureTree}
use Rattle.tdf_lang_tree.specs.declared.blocks.Member.{Member}
use Rattle.tdf_lang_tree.specs.declared.blocks.Member.TheVariants as member
use Rattle.tdf_lang_tree.specs.declared.blocks.PortLine.{PortLine}
use Rattle.tdf_bind_hierarchy.specs.Blocks.{InstanceOf, BlockOf}
use Rattle.tdf_bind_hierarchy.specs.declared.blocks.Target.{Target}

-- a module or a block of processes: neither signals nor instances
abbrev pub leaf : List PortLine → BlockOf
leaf ports = record { ports = length ports; signals = []; instances = [] }

-- a target for each port of an instance
abbrev pub targets_of : (target : (instance port : List ℕ) → Option Target) → List ℕ
    → List PortLine → List Target
targets_of target instance ports = map (λ p. or_first (target instance p.name)) ports

-- an instance of a block that is known
abbrev pub instance_with : (target : (instance port : List ℕ) → Option Target) → List ℕ
    → Option ℕ → Option (List PortLine) → List InstanceOf
instance_with target name (Some block) (Some ports) =
    record { name = name; block = block; targets = targets_of target name ports } ∷ []
instance_with target name _ _ = []

-- the instance that a line declares, where `known` are the blocks that stand before it
unfoldable pub instance_of : Known → (target : (instance port : List ℕ) → Option Target)
    → Member → List InstanceOf
instance_of known target (member.Instance line name block) =
    instance_with target name (place_in known.names block) (ports_named known block)
instance_of known target _ = []

abbrev pub instances_of : Known → List Member → List InstanceOf
instances_of known members =
    flat_map (instance_of known (target_of (inside_of members) members)) members

pub record IsComposite (globals : Names) (known : Known) (block : PureComposite) (b : BlockOf)
    : Type 0 where
  pub ports : b.ports ≡ length (ports_of_composite block)
  pub signals : AllZip (IsSignal globals) (flat_map declared_by block.members) b.signals
  pub instances : b.instances ≡ instances_of known block.members

-- a list with a first item, and the rest
abbrev pub Begins : (BlockOf → Type 0) → (List BlockOf → Type 0) → List BlockOf → Type 0
Begins Holds Rest [] = ⊥
Begins Holds Rest (b ∷ bs) = Holds b × Rest bs

-- the blocks of some declarations, where `known` are the blocks that stand before them
abbrev pub AreBlocks : Names → Known → List PureGlobal → List BlockOf → Type 0
AreBlocks globals known [] bs = bs ≡ []
AreBlocks globals known (GShape t ∷ gs) bs = AreBlocks globals known gs bs
AreBlocks globals known (GTdf block ∷ gs) bs =
    Begins (λ b. b ≡ leaf (ports_of_tdf block))
    (λ more. AreBlocks globals (with_block block.name (ports_of_tdf block) known) gs more) bs
AreBlocks globals known (GDe block ∷ gs) bs =
    Begins (λ b. b ≡ leaf (ports_of_de block))
    (λ more. AreBlocks globals (with_block block.name (ports_of_de block) known) gs more) bs
AreBlocks globals known (GNet block ∷ gs) bs =
    Begins (IsComposite globals known block)
    (λ more. AreBlocks globals (with_block block.name (ports_of_composite block) known) gs more)
    bs

-- all declarations of a model, `top` last
abbrev pub whole : PureTree → List PureGlobal
whole model = model.globals ++ GNet model.top ∷ []

abbrev pub AreResolved : PureTree → List BlockOf → Type 0
AreResolved model blocks =
    AreBlocks (globals_of model.globals) no_blocks (whole model) blocks
