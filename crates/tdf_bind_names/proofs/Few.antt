-- A model that is not too large has few signals and instances.
use Rattle.std.proofs.Common.{◌≡◌, ℕ, zero, suc, ◌-◌, ◌<◌, ◌≤◌, Bool, true, false, List, [], ◌∷◌, ◌++◌, Option, Some, None, length, refl, ap, arith}
use Rattle.std.proofs.Math.ListN.{get_or}
use Rattle.std.proofs.lemmas.Bool.Decides.{nat_tests}
use Rattle.std.proofs.lemmas.List.Elements.{recursion_from_All}
use Rattle.std.proofs.lemmas.List.Sums.{sum_by-cons}
use Rattle.std.proofs.lemmas.Option.{slice_get_within}
use Rattle.std.specs.List.{flat_map, sum_by, AllByRecursion}
use Rattle.std.specs.Prelude.{map, filter_map, slice_get, slice_index, nat_lt, ◌||◌}
use Rattle.tdf_bind_ports.specs.Ports.{Known, no_blocks, ports_of_composite, ports_of_de, ports_of_tdf, with_block}
use Rattle.tdf_bind_names.proofs.Bounds.{refers_back}
use Rattle.tdf_bind_names.specs.Counts.{is_past, met_weight, weight_of, weights_of}
use Rattle.tdf_bind_names.specs.Laws.{CountsAll}
use Rattle.tdf_bind_names.specs.Resolved.{AreBlocks, whole}
use Rattle.tdf_bind_names.specs.declared.measures.Measure.TheVariants as measure
use Rattle.tdf_expr_symbols.specs.Names.{Names, globals_of}
use Rattle.tdf_lang_tree.specs.Pure.{PureGlobal, GShape, GTdf, GDe, GNet}
use Rattle.tdf_bind_hierarchy.specs.Blocks.{InstanceOf, BlockOf}
use Rattle.tdf_bind_hierarchy.specs.Laws.{AreEarlier}
use Rattle.tdf_bind_hierarchy.specs.Met.{Met, MetSignal, MetInstance, in_block, inside, met_in, placed, placed_signal, with_inside}
use Rattle.tdf_bind_hierarchy.specs.Tables.{met_instance, met_signal}
use Rattle.tdf_bind_hierarchy.specs.declared.blocks.SignalLine.{SignalLine}
use Rattle.tdf_bind_hierarchy.specs.declared.tables.Signal.{Signal}

few_signals : (weights : List ℕ) (met : List Met) → length (filter_map met_signal met) ≤ sum_by (met_weight true weights) met
few_signals weights [] = omega arith
few_signals weights (MetSignal s ∷ met) =
    let e = sum_by-cons (met_weight true weights) (MetSignal s) met in
    let f = few_signals weights met in
    omega (arith, e, f)
few_signals weights (MetInstance i ∷ met) =
    let e = sum_by-cons (met_weight true weights) (MetInstance i) met in
    let f = few_signals weights met in
    omega (arith, e, f)

abbrev Weighs : List ℕ → Met → Type 0
Weighs weights (MetSignal s) = Unit {0}
Weighs weights (MetInstance i) = 1 ≤ slice_index weights i.block

few_instances : (weights : List ℕ) (met : List Met) → AllByRecursion (Weighs weights) met → length (filter_map met_instance met) ≤ sum_by (met_weight false weights) met
few_instances weights [] all = omega arith
few_instances weights (MetSignal s ∷ met) all =
    let e = sum_by-cons (met_weight false weights) (MetSignal s) met in
    let f = few_instances weights met all.1 in
    omega (arith, e, f)
few_instances weights (MetInstance i ∷ met) all =
    let e = sum_by-cons (met_weight false weights) (MetInstance i) met in
    let f = few_instances weights met all.1 in
    let g = all.0 in
    omega (arith, e, f, g)

all_append : (P : Met → Type 0) (xs ys : List Met) → AllByRecursion P xs → AllByRecursion P ys → AllByRecursion P (xs ++ ys)
all_append P [] ys h k = k
all_append P (x ∷ xs) ys h k = (h.0, all_append P xs ys h.1 k)

signals_weigh : (weights : List ℕ) (path : Option (List ℕ)) (lines : List SignalLine) → AllByRecursion (Weighs weights) (map (λ line. MetSignal (placed_signal path line)) lines)
signals_weigh weights path [] = tt
signals_weigh weights path (l ∷ ls) = (tt, signals_weigh weights path ls)

-- what is met inside a block is of blocks that weigh
pub record AllWeigh (weights : List ℕ) (met : ℕ → Option (List ℕ) → List (Option Signal) → List Met) : Type 0 where
  pub at : (k : ℕ) (path : Option (List ℕ)) (outer : List (Option Signal)) → AllByRecursion (Weighs weights) (met k path outer)

instances_weigh : (weights : List ℕ) (met : ℕ → Option (List ℕ) → List (Option Signal) → List Met) → AllWeigh weights met
    → (path : Option (List ℕ)) (b : BlockOf) (outer : List (Option Signal)) (is : List InstanceOf) → AllByRecursion (λ i. 1 ≤ slice_index weights i.block) is
    → AllByRecursion (Weighs weights) (flat_map (λ i. with_inside met (placed path b outer i)) is)
instances_weigh weights met weigh path b outer [] each = tt
instances_weigh weights met weigh path b outer (i ∷ is) each =
    let p = placed path b outer i in
    all_append (Weighs weights) (with_inside met p) _ (each.0, weigh.at i.block (Some p.path) p.reached) (instances_weigh weights met weigh path b outer is each.1)

block_weighs : (weights : List ℕ) (met : ℕ → Option (List ℕ) → List (Option Signal) → List Met) → AllWeigh weights met → (o : Option BlockOf)
    → ((b : BlockOf) → o ≡ Some b → AllByRecursion (λ i. 1 ≤ slice_index weights i.block) b.instances)
    → (path : Option (List ℕ)) (outer : List (Option Signal)) → AllByRecursion (Weighs weights) (in_block met o path outer)
block_weighs weights met weigh None each path outer = tt
block_weighs weights met weigh (Some b) each path outer =
    all_append (Weighs weights) (map (λ line. MetSignal (placed_signal path line)) b.signals) _ (signals_weigh weights path b.signals) (instances_weigh weights met weigh path b outer b.instances (each b refl))

heavier : (weights : List ℕ) (n m : ℕ) → n < m → ((k : ℕ) → k < m → 1 ≤ slice_index weights k) → (is : List InstanceOf) → AllByRecursion (λ i. i.block < n) is
    → AllByRecursion (λ i. 1 ≤ slice_index weights i.block) is
heavier weights n m within weigh [] each = tt
heavier weights n m within weigh (i ∷ is) each = (let less = each.0 in weigh i.block (omega (arith, within, less)), heavier weights n m within weigh is each.1)

all_weigh : (weights : List ℕ) (blocks : List BlockOf) → AreEarlier blocks → ((k : ℕ) → k < length blocks → 1 ≤ slice_index weights k) → (depth : ℕ) → AllWeigh weights (inside blocks depth)
all_weigh weights blocks early weigh zero = record { at = λ k path outer. tt }
all_weigh weights blocks early weigh (suc depth) = record {
  at = λ k path outer.
      block_weighs weights (inside blocks depth) (all_weigh weights blocks early weigh depth) (slice_get blocks k)
      (λ b e. heavier weights k (length blocks) (slice_get_within blocks k b e) weigh b.instances (recursion_from_All (λ i. i.block < k) b.instances (early k b e))) path outer;
}

-- each block weighs as an instance
blocks_weigh : (globals : Names) (gs : List PureGlobal) (known : Known) (bs : List BlockOf) → AreBlocks globals known gs bs → (k : ℕ) → k < length bs → 1 ≤ get_or (flat_map (weight_of measure.Instances) gs) k 0
blocks_weigh globals [] known bs are k within = let e = ap length are in absurd (omega (arith, e, within))
blocks_weigh globals (GShape t ∷ gs) known bs are k within = blocks_weigh globals gs known bs are k within
blocks_weigh globals (GTdf block ∷ gs) known [] are k within = absurd are
blocks_weigh globals (GTdf block ∷ gs) known (b ∷ bs) are zero within = omega arith
blocks_weigh globals (GTdf block ∷ gs) known (b ∷ bs) are (suc k) within = blocks_weigh globals gs (with_block block.name (ports_of_tdf block) known) bs are.1 k (omega (arith, within))
blocks_weigh globals (GDe block ∷ gs) known [] are k within = absurd are
blocks_weigh globals (GDe block ∷ gs) known (b ∷ bs) are zero within = omega arith
blocks_weigh globals (GDe block ∷ gs) known (b ∷ bs) are (suc k) within = blocks_weigh globals gs (with_block block.name (ports_of_de block) known) bs are.1 k (omega (arith, within))
blocks_weigh globals (GNet block ∷ gs) known [] are k within = absurd are
blocks_weigh globals (GNet block ∷ gs) known (b ∷ bs) are zero within = omega arith
blocks_weigh globals (GNet block ∷ gs) known (b ∷ bs) are (suc k) within = blocks_weigh globals gs (with_block block.name (ports_of_composite block) known) bs are.1 k (omega (arith, within))

-- not past a limit
or_first : (a b : Bool) → a || b ≡ false → a ≡ false
or_first false b e = refl
or_first true b e = cc

or_second : (a b : Bool) → a || b ≡ false → b ≡ false
or_second false b e = e
or_second true b e = cc

at_most : (l n : ℕ) → nat_lt l n ≡ false → n ≤ l
at_most l n e = grind (arith, nat_tests)

pub counts_all : CountsAll
counts_all model blocks are few = record {
  signals = signals;
  instances = instances;
}
  where
    met : List Met
    met = met_in blocks (length blocks - 1)

    two : is_past measure.Instances model blocks || is_past measure.Ports model blocks || is_past measure.Signals model blocks ≡ false
    two = or_first _ (is_past measure.Cells model blocks) (or_first _ (is_past measure.Processes model blocks) (or_first _ (is_past measure.Events model blocks) few))

    signals : length (filter_map met_signal met) ≤ 8192
    signals =
        let a = at_most 8192 _ (or_second (is_past measure.Instances model blocks || is_past measure.Ports model blocks) (is_past measure.Signals model blocks) two) in
        let b = few_signals (weights_of measure.Signals model) met in
        omega (arith, a, b)

    instances : length (filter_map met_instance met) ≤ 1024
    instances =
        let a = at_most 1024 _ (or_first (is_past measure.Instances model blocks) (is_past measure.Ports model blocks) (or_first _ (is_past measure.Signals model blocks) two)) in
        let weigh = all_weigh (weights_of measure.Instances model) blocks (refers_back model blocks are) (blocks_weigh (globals_of model.globals) (whole model) no_blocks blocks are) (length blocks) in
        let b = few_instances (weights_of measure.Instances model) met (weigh.at (length blocks - 1) None []) in
        omega (arith, a, b)
