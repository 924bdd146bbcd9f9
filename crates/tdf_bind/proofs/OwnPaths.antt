-- What a model holds has different paths, where its composites declare no name twice.
use Rattle.std.proofs.Common.{◌≡◌, ◌≢◌, ◌∙◌, ℕ, zero, suc, List, [], ◌∷◌, ◌++◌, Option, Some, None, length, sym, ap, map, refl, subst}
use Rattle.std.proofs.lemmas.List.{map-append}
use Rattle.std.proofs.lemmas.Option.{none-some, same_Some}
use Rattle.std.specs.List.{AllByRecursion, flat_map}
use Rattle.std.specs.Prelude.{filter_map, slice_get}
use Rattle.tdf_bind.proofs.Lists.{Differ, weaker, all_append, all_at, differ_append, differ_by, picked_all, picked_differ}
use Rattle.tdf_bind.proofs.Paths.{HasNo, IsAway, IsUnder, away_differs, ended_in, inside_name, inside_under, not_inside, same_name}
use Rattle.tdf_bind.proofs.PlainNames.{joined_is_plain, name_is_plain, name_without}
use Rattle.tdf_bind.specs.Flat.{top_place}
use Rattle.tdf_bind.specs.Laws.{IsPlainPath, paths_in}
use Rattle.tdf_bind_hierarchy.specs.Blocks.{InstanceOf, BlockOf}
use Rattle.tdf_bind_hierarchy.specs.Met.{Met, MetSignal, MetInstance, PlacedInstance, placed_signal, placed, InsideOf, with_inside, in_block, inside, met_in}
use Rattle.tdf_bind_hierarchy.specs.Paths.{path_in}
use Rattle.tdf_bind_hierarchy.specs.Tables.{met_signal, met_instance}
use Rattle.tdf_bind_hierarchy.specs.declared.blocks.SignalLine.{SignalLine}
use Rattle.tdf_bind_hierarchy.specs.declared.tables.Signal.{Signal}
use Rattle.tdf_lang_tree.specs.Kept.{IsName}

abbrev signal_names : BlockOf → List (List ℕ)
signal_names block = map (λ (line : SignalLine). line.name) block.signals

abbrev names_of : List InstanceOf → List (List ℕ)
names_of instances = map (λ (instance : InstanceOf). instance.name) instances

-- a block declares no name of a signal or an instance twice
pub record HasOwnNames (block : BlockOf) : Type 0 where
  pub signals : Differ (signal_names block)
  pub instances : Differ (names_of block.instances)
  pub apart : AllByRecursion (λ one. AllByRecursion (λ other. one ≢ other) (names_of block.instances)) (signal_names block)
  pub named_signals : AllByRecursion IsName (signal_names block)
  pub named_instances : AllByRecursion IsName (names_of block.instances)

-- the paths of what was met
abbrev pub path_of : Met → List ℕ
path_of (MetSignal signal) = signal.path
path_of (MetInstance instance) = instance.path

abbrev pub paths_of : List Met → List (List ℕ)
paths_of met = map path_of met

paths_append : (one other : List Met) → paths_of (one ++ other) ≡ paths_of one ++ paths_of other
paths_append one other = map-append path_of one other

paths_own : (front : Option (List ℕ)) (lines : List SignalLine) → paths_of (map (λ line. MetSignal (placed_signal front line)) lines) ≡ map (λ (line : SignalLine). path_in front line.name) lines
paths_own front [] = refl
paths_own front (line ∷ lines) = ap (λ l. path_in front line.name ∷ l) (paths_own front lines)

-- a plain path with a front
abbrev IsBelow : Option (List ℕ) → List ℕ → Type 0
IsBelow front path = (rest : List ℕ) × (path ≡ path_in front rest) × IsPlainPath rest

own_below : (front : Option (List ℕ)) (lines : List SignalLine) → AllByRecursion IsName (map (λ (line : SignalLine). line.name) lines) → AllByRecursion (IsBelow front) (map (λ (line : SignalLine). path_in front line.name) lines)
own_below front [] names = tt
own_below front (line ∷ lines) names = ((line.name, refl, name_is_plain line.name names.0), own_below front lines names.1)

no_point : (name : List ℕ) → IsName name → HasNo 46 name
no_point name is = name_without 46 refl name is

-- what is met inside a block has different paths, all of which begin with the block's own
pub record AreOwn (met : InsideOf) : Type 0 where
  pub below : (block : ℕ) (front : Option (List ℕ)) (outer : List (Option Signal)) → AllByRecursion (IsBelow front) (paths_of (met block front outer))
  pub differ : (block : ℕ) (front : Option (List ℕ)) (outer : List (Option Signal)) → Differ (paths_of (met block front outer))

module _ (met : InsideOf) (own : AreOwn met) (front : Option (List ℕ)) (block : BlockOf) (outer : List (Option Signal)) where
  abbrev one_inner : InstanceOf → List Met
  one_inner instance = with_inside met (placed front block outer instance)

  abbrev inner : List InstanceOf → List Met
  inner instances = flat_map one_inner instances

  abbrev deeper_paths : InstanceOf → List (List ℕ)
  deeper_paths instance = paths_of (met instance.block (Some (path_in front instance.name)) (placed front block outer instance).reached)

  abbrev IsDeeper : InstanceOf → List ℕ → Type 0
  IsDeeper instance = IsBelow (Some (path_in front instance.name))

  deeper_below : (instance : InstanceOf) → AllByRecursion (IsDeeper instance) (deeper_paths instance)
  deeper_below instance = own.below instance.block (Some (path_in front instance.name)) (placed front block outer instance).reached

  below_one : (instance : InstanceOf) → IsName instance.name → AllByRecursion (IsBelow front) (paths_of (one_inner instance))
  below_one instance is =
      let plain = name_is_plain instance.name is in (
        (instance.name, refl, plain),
        weaker (IsDeeper instance) (IsBelow front)
            (λ path deeper. (instance.name ++ 46 ∷ deeper.0, deeper.1 ∙ inside_name front instance.name deeper.0, joined_is_plain instance.name deeper.0 plain deeper.2))
            (deeper_paths instance) (deeper_below instance),
      )

  below_all : (instances : List InstanceOf) → AllByRecursion IsName (names_of instances) → AllByRecursion (IsBelow front) (paths_of (inner instances))
  below_all [] names = tt
  below_all (instance ∷ instances) names =
      subst (AllByRecursion (IsBelow front)) (sym (paths_append (one_inner instance) (inner instances)))
      (all_append (IsBelow front) (paths_of (one_inner instance)) (paths_of (inner instances)) (below_one instance names.0) (below_all instances names.1))

  under_one : (instance : InstanceOf) → AllByRecursion (IsUnder front instance.name) (paths_of (one_inner instance))
  under_one instance = (
    ([], ended_in front instance.name),
    weaker (IsDeeper instance) (IsUnder front instance.name) (λ path deeper. inside_under front instance.name path deeper.0 deeper.1) (deeper_paths instance) (deeper_below instance),
  )

  away_all : (name : List ℕ) (instances : List InstanceOf) → AllByRecursion (λ other. name ≢ other) (names_of instances) → AllByRecursion IsName (names_of instances)
      → AllByRecursion (IsAway front name) (paths_of (inner instances))
  away_all name [] differ names = tt
  away_all name (instance ∷ instances) differ names =
      subst (AllByRecursion (IsAway front name)) (sym (paths_append (one_inner instance) (inner instances)))
      (all_append (IsAway front name) (paths_of (one_inner instance)) (paths_of (inner instances))
      (weaker (IsUnder front instance.name) (IsAway front name) (λ path under. (instance.name, under, no_point instance.name names.0, differ.0)) (paths_of (one_inner instance)) (under_one instance))
      (away_all name instances differ.1 names.1))

  -- what is under a name differs from all that is away from it
  from_away : (name : List ℕ) → IsName name → (instances : List InstanceOf) → AllByRecursion (IsAway front name) (paths_of (inner instances)) → (one : List ℕ) → IsUnder front name one
      → AllByRecursion (λ other. one ≢ other) (paths_of (inner instances))
  from_away name is instances away one under = weaker (IsAway front name) (λ other. one ≢ other) (λ other far. away_differs front name (no_point name is) one other under far) (paths_of (inner instances)) away

  differ_one : (instance : InstanceOf) → Differ (paths_of (one_inner instance))
  differ_one instance = (
    weaker (IsDeeper instance) (λ path. path_in front instance.name ≢ path) (λ path deeper same. not_inside (path_in front instance.name) deeper.0 (same ∙ deeper.1)) (deeper_paths instance) (deeper_below instance),
    own.differ instance.block (Some (path_in front instance.name)) (placed front block outer instance).reached,
  )

  differ_all : (instances : List InstanceOf) → Differ (names_of instances) → AllByRecursion IsName (names_of instances) → Differ (paths_of (inner instances))
  differ_all [] differ names = tt
  differ_all (instance ∷ instances) differ names =
      subst Differ (sym (paths_append (one_inner instance) (inner instances)))
      (differ_append (paths_of (one_inner instance)) (paths_of (inner instances)) (differ_one instance) (differ_all instances differ.1 names.1)
      (weaker (IsUnder front instance.name) (λ one. AllByRecursion (λ other. one ≢ other) (paths_of (inner instances)))
      (from_away instance.name names.0 instances (away_all instance.name instances differ.0 names.1))
      (paths_of (one_inner instance)) (under_one instance)))

  abbrev whole : List Met
  whole = map (λ line. MetSignal (placed_signal front line)) block.signals ++ inner block.instances

  abbrev declared : List SignalLine → List (List ℕ)
  declared lines = map (λ (line : SignalLine). path_in front line.name) lines

  whole_paths : paths_of whole ≡ declared block.signals ++ paths_of (inner block.instances)
  whole_paths = paths_append (map (λ line. MetSignal (placed_signal front line)) block.signals) (inner block.instances) ∙ ap (λ l. l ++ paths_of (inner block.instances)) (paths_own front block.signals)

  pub block_below : HasOwnNames block → AllByRecursion (IsBelow front) (paths_of whole)
  block_below has =
      subst (AllByRecursion (IsBelow front)) (sym whole_paths)
      (all_append (IsBelow front) (declared block.signals) (paths_of (inner block.instances)) (own_below front block.signals has.named_signals) (below_all block.instances has.named_instances))

  across : AllByRecursion IsName (names_of block.instances) → (lines : List SignalLine) → AllByRecursion IsName (map (λ (line : SignalLine). line.name) lines)
      → AllByRecursion (λ one. AllByRecursion (λ other. one ≢ other) (names_of block.instances)) (map (λ (line : SignalLine). line.name) lines)
      → AllByRecursion (λ one. AllByRecursion (λ other. one ≢ other) (paths_of (inner block.instances))) (declared lines)
  across inside [] names apart = tt
  across inside (line ∷ lines) names apart = (
    from_away line.name names.0 block.instances (away_all line.name block.instances apart.0 inside) (path_in front line.name) ([], ended_in front line.name),
    across inside lines names.1 apart.1,
  )

  pub block_differs : HasOwnNames block → Differ (paths_of whole)
  block_differs has =
      subst Differ (sym whole_paths)
      (differ_append (declared block.signals) (paths_of (inner block.instances))
      (differ_by (λ (line : SignalLine). line.name) (λ (line : SignalLine). path_in front line.name) (λ one other same. same_name front one.name other.name same) block.signals has.signals)
      (differ_all block.instances has.instances has.named_instances)
      (across has.named_instances block.signals has.named_signals has.apart))

module _ (blocks : List BlockOf) (have : AllByRecursion HasOwnNames blocks) (depth : ℕ) (before : AreOwn (inside blocks depth)) where
  below_at : (o : Option BlockOf) → ((b : BlockOf) → o ≡ Some b → HasOwnNames b) → (front : Option (List ℕ)) (outer : List (Option Signal))
      → AllByRecursion (IsBelow front) (paths_of (in_block (λ inner. inside blocks depth inner) o front outer))
  below_at None has front outer = tt
  below_at (Some b) has front outer = block_below (inside blocks depth) before front b outer (has b refl)

  differ_at : (o : Option BlockOf) → ((b : BlockOf) → o ≡ Some b → HasOwnNames b) → (front : Option (List ℕ)) (outer : List (Option Signal))
      → Differ (paths_of (in_block (λ inner. inside blocks depth inner) o front outer))
  differ_at None has front outer = tt
  differ_at (Some b) has front outer = block_differs (inside blocks depth) before front b outer (has b refl)

  deeper : AreOwn (inside blocks (suc depth))
  deeper = record {
    below = λ block front outer. below_at (slice_get blocks block) (λ b there. all_at HasOwnNames blocks block b have there) front outer;
    differ = λ block front outer. differ_at (slice_get blocks block) (λ b there. all_at HasOwnNames blocks block b have there) front outer;
  }

all_own : (blocks : List BlockOf) → AllByRecursion HasOwnNames blocks → (depth : ℕ) → AreOwn (inside blocks depth)
all_own blocks have zero = record { below = λ block front outer. tt; differ = λ block front outer. tt }
all_own blocks have (suc depth) = deeper blocks have depth (all_own blocks have depth)

-- the signals and the instances among what was met
signal_there : (met : Met) (signal : Signal) → met_signal met ≡ Some signal → path_of met ≡ signal.path
signal_there (MetSignal own) signal is = ap (λ (s : Signal). s.path) (same_Some own signal is)
signal_there (MetInstance instance) signal is = absurd (none-some signal is)

instance_there : (met : Met) (instance : PlacedInstance) → met_instance met ≡ Some instance → path_of met ≡ instance.path
instance_there (MetSignal signal) instance is = absurd (none-some instance is)
instance_there (MetInstance own) instance is = ap (λ (i : PlacedInstance). i.path) (same_Some own instance is)

abbrev pub instance_paths : List BlockOf → List (List ℕ)
instance_paths blocks = map (λ (instance : PlacedInstance). instance.path) (filter_map met_instance (met_in blocks (top_place blocks)))

module _ (blocks : List BlockOf) (have : AllByRecursion HasOwnNames blocks) where
  abbrev all_met : List Met
  all_met = met_in blocks (top_place blocks)

  met_differ : Differ (paths_of all_met)
  met_differ = (all_own blocks have (length blocks)).differ (top_place blocks) None []

  met_plain : AllByRecursion IsPlainPath (paths_of all_met)
  met_plain = weaker (IsBelow None) IsPlainPath (λ path below. subst IsPlainPath (sym below.1) below.2) (paths_of all_met) ((all_own blocks have (length blocks)).below (top_place blocks) None [])

  pub signals_differ : Differ (paths_in blocks)
  signals_differ = picked_differ path_of (λ (signal : Signal). signal.path) met_signal signal_there all_met met_differ

  pub instances_differ : Differ (instance_paths blocks)
  instances_differ = picked_differ path_of (λ (instance : PlacedInstance). instance.path) met_instance instance_there all_met met_differ

  pub signals_plain : AllByRecursion IsPlainPath (paths_in blocks)
  signals_plain = picked_all path_of (λ (signal : Signal). signal.path) met_signal signal_there IsPlainPath all_met met_plain

  pub instances_plain : AllByRecursion IsPlainPath (instance_paths blocks)
  instances_plain = picked_all path_of (λ (instance : PlacedInstance). instance.path) met_instance instance_there IsPlainPath all_met met_plain
