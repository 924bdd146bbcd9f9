-- The blocks of a model without a fault of names declare no name twice.
use Rattle.std.proofs.Common.{◌≡◌, ◌≢◌, ◌∙◌, ℕ, Bool, true, false, List, [], ◌∷◌, ◌++◌, Option, Some, None, map, refl, sym, ap, subst, ◌||◌, true≢false}
use Rattle.std.proofs.lemmas.Cmp.{nat_list_eq_equiv}
use Rattle.std.specs.Cmp.Lexicographic.{pointwise}
use Rattle.std.specs.List.{AllByRecursion, AllZip, flat_map}
use Rattle.std.specs.Prelude.{nat_eq}
use Rattle.tdf_bind.proofs.Lists.{Differ, all_both, weaker}
use Rattle.tdf_bind.proofs.OwnPaths.{HasOwnNames}
use Rattle.tdf_bind_ports.specs.Ports.{Known, no_blocks, ports_named, ports_of_composite, ports_of_de, ports_of_tdf, with_block}
use Rattle.tdf_expr_names.specs.Law.{AreApart, DeclaresOnce, HasNamesOnce}
use Rattle.tdf_expr_names.specs.Names.{Name, has, names_of_member}
use Rattle.tdf_bind_names.specs.Resolved.{AreBlocks, AreResolved, IsComposite, instance_of, instance_with, leaf, whole}
use Rattle.tdf_bind_names.specs.Signals.{Declared, IsSignal, declared_by}
use Rattle.tdf_bind_names.specs.Targets.{inside_of, target_of}
use Rattle.tdf_expr_symbols.specs.Names.{Names, globals_of, place_in}
use Rattle.tdf_lang_tree.specs.Kept.{Each, IsKept, IsName, KeepsGlobal, KeepsMember}
use Rattle.tdf_lang_tree.specs.Pure.{PureComposite, PureGlobal, GShape, GTdf, GDe, GNet, PureTree}
use Rattle.tdf_lang_tree.specs.declared.blocks.Member.{Member}
use Rattle.tdf_lang_tree.specs.declared.blocks.Member.TheVariants as member
use Rattle.tdf_lang_tree.specs.declared.blocks.PortLine.{PortLine}
use Rattle.tdf_bind_hierarchy.specs.Blocks.{InstanceOf, BlockOf}
use Rattle.tdf_bind_hierarchy.specs.declared.blocks.SignalLine.{SignalLine}
use Rattle.tdf_bind_hierarchy.specs.declared.blocks.Target.{Target}

-- names that are apart differ
or_first : (a b : Bool) → a || b ≡ false → a ≡ false
or_first false b e = refl
or_first true b e = absurd (true≢false e)

or_second : (a b : Bool) → a || b ≡ false → b ≡ false
or_second false b e = e
or_second true b e = absurd (true≢false e)

not_has : (x : Name) (names : List Name) → has names x ≡ false → AllByRecursion (λ y. x ≢ y) names
not_has x [] e = tt
not_has x (y ∷ names) e = (
  λ same. true≢false (sym (nat_list_eq_equiv.refl x) ∙ ap (pointwise nat_eq x) same ∙ or_first (pointwise nat_eq x y) (has names x) e),
  not_has x names (or_second (pointwise nat_eq x y) (has names x) e),
)

pub apart_differ : (names : List Name) → AreApart names → Differ names
apart_differ [] apart = tt
apart_differ (x ∷ names) apart = (not_has x names apart.0, apart_differ names apart.1)

-- the names of members
names_kept : (ms : List Member) → Each KeepsMember ms → AllByRecursion IsName (flat_map names_of_member ms)
names_kept [] kept = tt
names_kept (member.Port port ∷ ms) kept = (kept.0.0, names_kept ms kept.1)
names_kept (member.Signal line name x ∷ ms) kept = (kept.0.0, names_kept ms kept.1)
names_kept (member.DeSignal line name x start ∷ ms) kept = (kept.0.0, names_kept ms kept.1)
names_kept (member.Instance line name block ∷ ms) kept = (kept.0.0, names_kept ms kept.1)
names_kept (member.Bind line instance port target ∷ ms) kept = names_kept ms kept.1

-- the names of signals are among those of all members
abbrev declared_names : List Member → List Name
declared_names ms = map (λ (d : Declared). d.name) (flat_map declared_by ms)

all_declared : (P : Name → Type 0) (ms : List Member) → AllByRecursion P (flat_map names_of_member ms) → AllByRecursion P (declared_names ms)
all_declared P [] all = tt
all_declared P (member.Port port ∷ ms) all = all_declared P ms all.1
all_declared P (member.Signal line name x ∷ ms) all = (all.0, all_declared P ms all.1)
all_declared P (member.DeSignal line name x start ∷ ms) all = (all.0, all_declared P ms all.1)
all_declared P (member.Instance line name block ∷ ms) all = all_declared P ms all.1
all_declared P (member.Bind line instance port target ∷ ms) all = all_declared P ms all

differ_declared : (ms : List Member) → Differ (flat_map names_of_member ms) → Differ (declared_names ms)
differ_declared [] differ = tt
differ_declared (member.Port port ∷ ms) differ = differ_declared ms differ.1
differ_declared (member.Signal line name x ∷ ms) differ = (all_declared (λ y. name ≢ y) ms differ.0, differ_declared ms differ.1)
differ_declared (member.DeSignal line name x start ∷ ms) differ = (all_declared (λ y. name ≢ y) ms differ.0, differ_declared ms differ.1)
differ_declared (member.Instance line name block ∷ ms) differ = differ_declared ms differ.1
differ_declared (member.Bind line instance port target ∷ ms) differ = differ_declared ms differ

signal_names : (globals : Names) (ds : List Declared) (ss : List SignalLine) → AllZip (IsSignal globals) ds ss → map (λ (d : Declared). d.name) ds ≡ map (λ (s : SignalLine). s.name) ss
signal_names globals [] [] are = refl
signal_names globals [] (s ∷ ss) are = absurd are
signal_names globals (d ∷ ds) [] are = absurd are
signal_names globals (d ∷ ds) (s ∷ ss) are = ap (λ h. h ∷ map (λ (d : Declared). d.name) ds) (sym are.0.name) ∙ ap (λ l. s.name ∷ l) (signal_names globals ds ss are.1)

-- so are the names of instances
module _ (known : Known) (target : List ℕ → List ℕ → Option Target) where
  abbrev names_of : List InstanceOf → List Name
  names_of instances = map (λ (i : InstanceOf). i.name) instances

  all_with : (P : Name → Type 0) (name : Name) (block : Option ℕ) (ports : Option (List PortLine)) (later : List InstanceOf) → P name → AllByRecursion P (names_of later)
      → AllByRecursion P (names_of (instance_with target name block ports ++ later))
  all_with P name (Some block) (Some ports) later here all = (here, all)
  all_with P name (Some block) None later here all = all
  all_with P name None ports later here all = all

  differ_with : (name : Name) (block : Option ℕ) (ports : Option (List PortLine)) (later : List InstanceOf) → AllByRecursion (λ y. name ≢ y) (names_of later) → Differ (names_of later)
      → Differ (names_of (instance_with target name block ports ++ later))
  differ_with name (Some block) (Some ports) later all differ = (all, differ)
  differ_with name (Some block) None later all differ = differ
  differ_with name None ports later all differ = differ

  all_instances : (P : Name → Type 0) (ms : List Member) → AllByRecursion P (flat_map names_of_member ms) → AllByRecursion P (names_of (flat_map (instance_of known target) ms))
  unfolding instance_of
  all_instances P [] all = tt
  all_instances P (member.Port port ∷ ms) all = all_instances P ms all.1
  all_instances P (member.Signal line name x ∷ ms) all = all_instances P ms all.1
  all_instances P (member.DeSignal line name x start ∷ ms) all = all_instances P ms all.1
  all_instances P (member.Instance line name block ∷ ms) all =
      all_with P name (place_in known.names block) (ports_named known block) (flat_map (instance_of known target) ms) all.0 (all_instances P ms all.1)
  all_instances P (member.Bind line instance port to ∷ ms) all = all_instances P ms all

  differ_instances : (ms : List Member) → Differ (flat_map names_of_member ms) → Differ (names_of (flat_map (instance_of known target) ms))
  unfolding instance_of
  differ_instances [] differ = tt
  differ_instances (member.Port port ∷ ms) differ = differ_instances ms differ.1
  differ_instances (member.Signal line name x ∷ ms) differ = differ_instances ms differ.1
  differ_instances (member.DeSignal line name x start ∷ ms) differ = differ_instances ms differ.1
  differ_instances (member.Instance line name block ∷ ms) differ =
      differ_with name (place_in known.names block) (ports_named known block) (flat_map (instance_of known target) ms) (all_instances (λ y. name ≢ y) ms differ.0) (differ_instances ms differ.1)
  differ_instances (member.Bind line instance port to ∷ ms) differ = differ_instances ms differ

  -- and no signal has the name of an instance
  abbrev AreAcross : List Name → List Name → Type 0
  AreAcross names inner = AllByRecursion (λ one. AllByRecursion (λ other. one ≢ other) inner) names

  across_with : (name : Name) (block : Option ℕ) (ports : Option (List PortLine)) (later : List InstanceOf) (names : List Name) → AllByRecursion (λ y. name ≢ y) names → AreAcross names (names_of later)
      → AreAcross names (names_of (instance_with target name block ports ++ later))
  across_with name (Some block) (Some ports) later names all across =
      all_both (λ one. one ≢ name) (λ one. AllByRecursion (λ other. one ≢ other) (names_of later)) names (weaker (λ y. name ≢ y) (λ y. y ≢ name) (λ y apart same. apart (sym same)) names all) across
  across_with name (Some block) None later names all across = across
  across_with name None ports later names all across = across

  across_instances : (ms : List Member) → Differ (flat_map names_of_member ms) → AreAcross (declared_names ms) (names_of (flat_map (instance_of known target) ms))
  unfolding instance_of
  across_instances [] differ = tt
  across_instances (member.Port port ∷ ms) differ = across_instances ms differ.1
  across_instances (member.Signal line name x ∷ ms) differ = (all_instances (λ y. name ≢ y) ms differ.0, across_instances ms differ.1)
  across_instances (member.DeSignal line name x start ∷ ms) differ = (all_instances (λ y. name ≢ y) ms differ.0, across_instances ms differ.1)
  across_instances (member.Instance line name block ∷ ms) differ =
      across_with name (place_in known.names block) (ports_named known block) (flat_map (instance_of known target) ms) (declared_names ms) (all_declared (λ y. name ≢ y) ms differ.0) (across_instances ms differ.1)
  across_instances (member.Bind line instance port to ∷ ms) differ = across_instances ms differ

composite_own : (globals : Names) (known : Known) (block : PureComposite) (b : BlockOf) → IsComposite globals known block b → AreApart (flat_map names_of_member block.members) → Each KeepsMember block.members
    → HasOwnNames b
composite_own globals known block b is apart kept = record {
  signals = subst Differ same (differ_declared block.members differ);
  instances = subst (λ (l : List InstanceOf). Differ (map (λ (i : InstanceOf). i.name) l)) (sym is.instances) (differ_instances known (target_of (inside_of block.members) block.members) block.members differ);
  apart = subst (λ names. AreAcross known (target_of (inside_of block.members) block.members) names (map (λ (i : InstanceOf). i.name) b.instances)) same
      (subst (λ (l : List InstanceOf). AreAcross known (target_of (inside_of block.members) block.members) (declared_names block.members) (map (λ (i : InstanceOf). i.name) l)) (sym is.instances)
      (across_instances known (target_of (inside_of block.members) block.members) block.members differ));
  named_signals = subst (AllByRecursion IsName) same (all_declared IsName block.members plain);
  named_instances = subst (λ (l : List InstanceOf). AllByRecursion IsName (map (λ (i : InstanceOf). i.name) l)) (sym is.instances) (all_instances known (target_of (inside_of block.members) block.members) IsName block.members plain);
}
  where
    differ : Differ (flat_map names_of_member block.members)
    differ = apart_differ (flat_map names_of_member block.members) apart

    plain : AllByRecursion IsName (flat_map names_of_member block.members)
    plain = names_kept block.members kept

    same : declared_names block.members ≡ map (λ (s : SignalLine). s.name) b.signals
    same = signal_names globals (flat_map declared_by block.members) b.signals is.signals

leaf_own : (ports : List PortLine) (b : BlockOf) → b ≡ leaf ports → HasOwnNames b
leaf_own ports b is = subst HasOwnNames (sym is) (record { signals = tt; instances = tt; apart = tt; named_signals = tt; named_instances = tt })

blocks_own : (globals : Names) (known : Known) (gs : List PureGlobal) (bs : List BlockOf) → AreBlocks globals known gs bs → Each DeclaresOnce gs → Each KeepsGlobal gs → AllByRecursion HasOwnNames bs
blocks_own globals known [] bs are once kept = subst (AllByRecursion HasOwnNames) (sym are) tt
blocks_own globals known (GShape t ∷ gs) bs are once kept = blocks_own globals known gs bs are once.1 kept.1
blocks_own globals known (GTdf block ∷ gs) [] are once kept = absurd are
blocks_own globals known (GTdf block ∷ gs) (b ∷ bs) are once kept =
    (leaf_own (ports_of_tdf block) b are.0, blocks_own globals (with_block block.name (ports_of_tdf block) known) gs bs are.1 once.1 kept.1)
blocks_own globals known (GDe block ∷ gs) [] are once kept = absurd are
blocks_own globals known (GDe block ∷ gs) (b ∷ bs) are once kept =
    (leaf_own (ports_of_de block) b are.0, blocks_own globals (with_block block.name (ports_of_de block) known) gs bs are.1 once.1 kept.1)
blocks_own globals known (GNet block ∷ gs) [] are once kept = absurd are
blocks_own globals known (GNet block ∷ gs) (b ∷ bs) are once kept =
    (composite_own globals known block b are.0 once.0 kept.0.1, blocks_own globals (with_block block.name (ports_of_composite block) known) gs bs are.1 once.1 kept.1)

pub each_push : (P : PureGlobal → Type 0) (gs : List PureGlobal) (g : PureGlobal) → Each P gs → P g → Each P (gs ++ g ∷ [])
each_push P [] g each last = (last, tt)
each_push P (h ∷ gs) g each last = (each.0, each_push P gs g each.1 last)

pub own_names : (model : PureTree) (blocks : List BlockOf) → IsKept model → HasNamesOnce model → AreResolved model blocks → AllByRecursion HasOwnNames blocks
own_names model blocks kept once are =
    blocks_own (globals_of model.globals) no_blocks (whole model) blocks are
    (each_push DeclaresOnce model.globals (GNet model.top) once.blocks once.top)
    (each_push KeepsGlobal model.globals (GNet model.top) kept.globals kept.top)
