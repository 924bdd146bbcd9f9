-- The counts of the code are those of what the model holds.
use Rattle.std.proofs.Common.{◌≡◌, ◌∙◌, ◌⊎◌, inl, inr, ℕ, zero, suc, ◌+◌, ◌-◌, ◌<◌, ◌≤◌, Bool, true, false, List, [], ◌∷◌, ◌++◌, Option, Some, None, length, drop, refl, sym, ap, subst, arith}
use Rattle.std.proofs.Math.ListN.{get_or}
use Rattle.std.proofs.lemmas.Bool.{cases_eq}
use Rattle.std.proofs.lemmas.Bool.Decides.{nat_tests}
use Rattle.std.proofs.lemmas.List.{drop_more, drop_all, length_push, get_or_push, get_or_append_left}
use Rattle.std.proofs.lemmas.List.Elements.{recursion_from_All}
use Rattle.std.proofs.lemmas.List.Sums.{sum_by-append, sum_by-cons}
use Rattle.std.proofs.lemmas.Option.{slice_get-get_or}
use Rattle.std.specs.List.{flat_map, sum_by, AllByRecursion}
use Rattle.std.specs.Prelude.{map, slice_get, nat_lt}
use Rattle.tdf_bind_names.proofs.Sums.{cap_twice, cap_zero}
use Rattle.tdf_bind_names.specs.Counts.{counts_signals, is_past, limit_of, met_weight, total_of, weights_of}
use Rattle.tdf_bind_names.specs.declared.measures.Measure.{Measure}
use Rattle.tdf_bind_names.specs.declared.measures.Measure.TheVariants as measure
use Rattle.tdf_bind_names.specs.machine.Counts.{capped, counted, own_signals, size, size_all, size_in, AreCounts}
use Rattle.tdf_lang_tree.specs.Pure.{PureTree}
use Rattle.tdf_bind_hierarchy.specs.Blocks.{InstanceOf, BlockOf}
use Rattle.tdf_bind_hierarchy.specs.Laws.{AreEarlier}
use Rattle.tdf_bind_hierarchy.specs.Met.{Met, MetSignal, MetInstance, in_block, inside, met_in, placed, placed_signal, with_inside}
use Rattle.tdf_bind_hierarchy.specs.declared.blocks.SignalLine.{SignalLine}
use Rattle.tdf_bind_hierarchy.specs.declared.tables.Signal.{Signal}

-- what is met, by the size
pub record Sizes (signals : Bool) (weights : List ℕ) (go : ℕ → ℕ) (met : ℕ → Option (List ℕ) → List (Option Signal) → List Met) : Type 0 where
  pub at : (k : ℕ) (path : Option (List ℕ)) (outer : List (Option Signal)) → sum_by (met_weight signals weights) (met k path outer) ≡ go k

signals_size : (signals : Bool) (weights : List ℕ) (path : Option (List ℕ)) (lines : List SignalLine) → sum_by (met_weight signals weights) (map (λ line. MetSignal (placed_signal path line)) lines) ≡ own_signals signals (length lines)
signals_size true weights path [] = refl
signals_size true weights path (l ∷ ls) =
    let e = sum_by-cons (met_weight true weights) (MetSignal (placed_signal path l)) (map (λ line. MetSignal (placed_signal path line)) ls) in
    let f = signals_size true weights path ls in
    omega (arith, e, f)
signals_size false weights path [] = refl
signals_size false weights path (l ∷ ls) =
    let e = sum_by-cons (met_weight false weights) (MetSignal (placed_signal path l)) (map (λ line. MetSignal (placed_signal path line)) ls) in
    let f = signals_size false weights path ls in
    omega (arith, e, f)

instances_size : (signals : Bool) (weights : List ℕ) (go : ℕ → ℕ) (met : ℕ → Option (List ℕ) → List (Option Signal) → List Met) → Sizes signals weights go met
    → (path : Option (List ℕ)) (b : BlockOf) (outer : List (Option Signal)) (is : List InstanceOf)
    → sum_by (met_weight signals weights) (flat_map (λ i. with_inside met (placed path b outer i)) is) ≡ size_all weights go is
instances_size signals weights go met sizes path b outer [] = refl
instances_size signals weights go met sizes path b outer (i ∷ is) =
    let p = placed path b outer i in
    let whole = sum_by-append (met_weight signals weights) (with_inside met p) (flat_map (λ i. with_inside met (placed path b outer i)) is) in
    let first = sum_by-cons (met_weight signals weights) (MetInstance p) (met i.block (Some p.path) p.reached) in
    let inner = sizes.at i.block (Some p.path) p.reached in
    let more = instances_size signals weights go met sizes path b outer is in
    omega (arith, whole, first, inner, more)

block_size : (signals : Bool) (weights : List ℕ) (go : ℕ → ℕ) (met : ℕ → Option (List ℕ) → List (Option Signal) → List Met) → Sizes signals weights go met
    → (o : Option BlockOf) (path : Option (List ℕ)) (outer : List (Option Signal)) → sum_by (met_weight signals weights) (in_block met o path outer) ≡ size_in signals weights go o
block_size signals weights go met sizes None path outer = refl
block_size signals weights go met sizes (Some b) path outer =
    sum_by-append (met_weight signals weights) (map (λ line. MetSignal (placed_signal path line)) b.signals) (flat_map (λ i. with_inside met (placed path b outer i)) b.instances)
    ∙ ap (λ n. n + sum_by (met_weight signals weights) (flat_map (λ i. with_inside met (placed path b outer i)) b.instances)) (signals_size signals weights path b.signals)
    ∙ ap (λ n. own_signals signals (length b.signals) + n) (instances_size signals weights go met sizes path b outer b.instances)

sizes : (signals : Bool) (weights : List ℕ) (blocks : List BlockOf) (depth : ℕ) → Sizes signals weights (size signals weights blocks depth) (inside blocks depth)
sizes signals weights blocks zero = record { at = λ k path outer. refl }
sizes signals weights blocks (suc depth) = record {
  at = λ k path outer. block_size signals weights (size signals weights blocks depth) (inside blocks depth) (sizes signals weights blocks depth) (slice_get blocks k) path outer;
}

-- any depth above the number of a block is enough
enough_all : (n : ℕ) (weights : List ℕ) (f g : ℕ → ℕ) → ((k : ℕ) → k < n → f k ≡ g k) → (is : List InstanceOf) → AllByRecursion (λ i. i.block < n) is → size_all weights f is ≡ size_all weights g is
enough_all n weights f g same [] each = refl
enough_all n weights f g same (i ∷ is) each = let a = same i.block each.0 in let b = enough_all n weights f g same is each.1 in omega (arith, a, b)

enough_in : (n : ℕ) (signals : Bool) (weights : List ℕ) (f g : ℕ → ℕ) → ((k : ℕ) → k < n → f k ≡ g k) → (o : Option BlockOf)
    → ((b : BlockOf) → o ≡ Some b → AllByRecursion (λ i. i.block < n) b.instances) → size_in signals weights f o ≡ size_in signals weights g o
enough_in n signals weights f g same None each = refl
enough_in n signals weights f g same (Some b) each = ap (λ k. own_signals signals (length b.signals) + k) (enough_all n weights f g same b.instances (each b refl))

each_earlier : (blocks : List BlockOf) → AreEarlier blocks → (k : ℕ) (b : BlockOf) → slice_get blocks k ≡ Some b → AllByRecursion (λ i. i.block < k) b.instances
each_earlier blocks early k b e = recursion_from_All (λ i. i.block < k) b.instances (early k b e)

enough : (signals : Bool) (weights : List ℕ) (blocks : List BlockOf) → AreEarlier blocks → (d e k : ℕ) → k < d → k < e → size signals weights blocks d k ≡ size signals weights blocks e k
enough signals weights blocks early zero e k a b = absurd (omega (arith, a))
enough signals weights blocks early (suc d) zero k a b = absurd (omega (arith, b))
enough signals weights blocks early (suc d) (suc e) k a b =
    enough_in k signals weights (size signals weights blocks d) (size signals weights blocks e)
    (λ j less. enough signals weights blocks early d e j (omega (arith, a, less)) (omega (arith, b, less))) (slice_get blocks k) (each_earlier blocks early k)

-- sums that stop at the greatest number
capped_sum : (x w y z : ℕ) → capped (capped (x + capped (w + capped y)) + z) ≡ capped (x + ((w + y) + z))
unfolding capped
capped_sum x w y z = omega arith

counted_is : (counts weights : List ℕ) (go : ℕ → ℕ) (n : ℕ) → ((k : ℕ) → k < n → get_or counts k 0 ≡ capped (go k)) → (total : ℕ) (is : List InstanceOf)
    → AllByRecursion (λ i. i.block < n) is → capped (counted counts weights total is) ≡ capped (total + size_all weights go is)
counted_is counts weights go n known total [] each = ap capped (omega arith)
counted_is counts weights go n known total (i ∷ is) each =
    counted_is counts weights go n known (capped (total + capped (get_or weights i.block 0 + get_or counts i.block 0))) is each.1
    ∙ ap (λ m. capped (capped (total + capped (get_or weights i.block 0 + m)) + size_all weights go is)) (known i.block each.0)
    ∙ capped_sum total (get_or weights i.block 0) (go i.block) (size_all weights go is)

counted_twice : (counts weights : List ℕ) (total : ℕ) (is : List InstanceOf) → capped total ≡ total → capped (counted counts weights total is) ≡ counted counts weights total is
counted_twice counts weights total [] small = small
counted_twice counts weights total (i ∷ is) small = counted_twice counts weights (capped (total + capped (get_or weights i.block 0 + get_or counts i.block 0))) is (cap_twice _)

-- one block more
pub counts_more : (n : ℕ) (signals : Bool) (weights : List ℕ) (blocks : List BlockOf) (counts next : List ℕ) (d : BlockOf) (start : ℕ) → AreEarlier blocks → AreCounts n signals weights blocks counts
    → n < length blocks → start ≡ own_signals signals (length (get_or blocks n d).signals) → capped start ≡ start
    → next ≡ counts ++ counted counts weights start (get_or blocks n d).instances ∷ [] → AreCounts (n + 1) signals weights blocks next
counts_more n signals weights blocks counts next d start early fine more start_is small next_is = record {
  long = ap length next_is ∙ length_push counts x ∙ ap (λ m. m + 1) fine.long;
  each = λ k within. each k within (cases_eq k n);
}
  where
    b : BlockOf
    b = get_or blocks n d

    x : ℕ
    x = counted counts weights start b.instances

    full : ℕ → ℕ
    full = size signals weights blocks (length blocks)

    at_n : slice_get blocks n ≡ Some b
    at_n = slice_get-get_or blocks n d more

    old_size : (k : ℕ) → k < n → get_or counts k 0 ≡ capped (size signals weights blocks n k)
    old_size k less = fine.each k less ∙ ap capped (enough signals weights blocks early (length blocks) n k (omega (arith, less, more)) less)

    new_size : x ≡ capped (full n)
    new_size =
        sym (counted_twice counts weights start b.instances small)
        ∙ counted_is counts weights (size signals weights blocks n) n old_size start b.instances (each_earlier blocks early n b at_n)
        ∙ ap (λ s. capped (s + size_all weights (size signals weights blocks n) b.instances)) start_is
        ∙ ap (λ o. capped (size_in signals weights (size signals weights blocks n) o)) (sym at_n)
        ∙ ap capped (enough signals weights blocks early (suc n) (length blocks) n (omega arith) more)

    each : (k : ℕ) → k < n + 1 → (k ≡ n) ⊎ (k ≡ n → ⊥) → get_or next k 0 ≡ capped (full k)
    each k within (inl e) = subst (λ (l : List ℕ). get_or l k 0 ≡ capped (full k)) (sym next_is)
        (get_or_push counts x 0 k (fine.long ∙ sym e) ∙ new_size ∙ ap (λ m. capped (full m)) (sym e))
    each k within (inr other) =
        let less : k < n = omega (arith, within, other) in
        subst (λ (l : List ℕ). get_or l k 0 ≡ capped (full k)) (sym next_is) (get_or_append_left counts (x ∷ []) 0 k (subst (λ m. k < m) (sym fine.long) less) ∙ fine.each k less)

pub counted_more : (counts weights : List ℕ) (list : List InstanceOf) (i total : ℕ) (d : InstanceOf) → i < length list
    → counted counts weights total (drop i list) ≡ counted counts weights (capped (total + capped (get_or weights (get_or list i d).block 0 + get_or counts (get_or list i d).block 0))) (drop (i + 1) list)
counted_more counts weights list i total d within = ap (λ (l : List InstanceOf). counted counts weights total l) (drop_more list i d within)

pub counted_all : (counts weights : List ℕ) (list : List InstanceOf) (i total : ℕ) → length list ≤ i → counted counts weights total (drop i list) ≡ total
counted_all counts weights list i total past = ap (λ (l : List InstanceOf). counted counts weights total l) (drop_all i list past)

pub ruleset count_laws = (counted_more, counted_all)

-- weights that stop at the greatest number count the same
get_capped : (ws : List ℕ) (k : ℕ) → get_or (map capped ws) k 0 ≡ capped (get_or ws k 0)
unfolding capped
get_capped [] k = refl
get_capped (w ∷ ws) zero = refl
get_capped (w ∷ ws) (suc k) = get_capped ws k

cap_both : (a b c d : ℕ) → capped a ≡ capped c → capped b ≡ capped d → capped (a + b) ≡ capped (c + d)
unfolding capped
cap_both a b c d e f = omega (arith, e, f)

capped_all : (ws : List ℕ) (f g : ℕ → ℕ) → ((k : ℕ) → capped (f k) ≡ capped (g k)) → (is : List InstanceOf) → capped (size_all (map capped ws) f is) ≡ capped (size_all ws g is)
capped_all ws f g same [] = refl
capped_all ws f g same (i ∷ is) =
    cap_both _ _ (get_or ws i.block 0 + g i.block) (size_all ws g is)
    (cap_both (get_or (map capped ws) i.block 0) (f i.block) (get_or ws i.block 0) (g i.block) (ap capped (get_capped ws i.block) ∙ cap_twice (get_or ws i.block 0)) (same i.block))
    (capped_all ws f g same is)

capped_in : (signals : Bool) (ws : List ℕ) (f g : ℕ → ℕ) → ((k : ℕ) → capped (f k) ≡ capped (g k)) → (o : Option BlockOf) → capped (size_in signals (map capped ws) f o) ≡ capped (size_in signals ws g o)
capped_in signals ws f g same None = refl
capped_in signals ws f g same (Some b) = cap_both (own_signals signals (length b.signals)) _ (own_signals signals (length b.signals)) _ refl (capped_all ws f g same b.instances)

same_size : (signals : Bool) (ws : List ℕ) (blocks : List BlockOf) (depth k : ℕ) → capped (size signals (map capped ws) blocks depth k) ≡ capped (size signals ws blocks depth k)
same_size signals ws blocks zero k = refl
same_size signals ws blocks (suc depth) k = capped_in signals ws (size signals (map capped ws) blocks depth) (size signals ws blocks depth) (same_size signals ws blocks depth) (slice_get blocks k)

-- the test against a limit
limit_small : (m : Measure) → limit_of m ≤ 1048576
limit_small measure.Instances = omega arith
limit_small measure.Ports = omega arith
limit_small measure.Signals = omega arith
limit_small measure.Cells = omega arith
limit_small measure.Processes = omega arith
limit_small measure.Events = omega arith

past_capped : (l n : ℕ) → l ≤ 1048576 → nat_lt l (capped n) ≡ nat_lt l n
unfolding capped
past_capped l n small = grind (arith, nat_tests)

empty_get : (counts : List ℕ) → length counts ≡ 0 → get_or counts 0 0 ≡ 0
empty_get [] e = refl
empty_get (c ∷ counts) e = absurd (omega (arith, e))

last_count : (signals : Bool) (ws : List ℕ) (blocks : List BlockOf) (counts : List ℕ) → AreCounts (length blocks) signals (map capped ws) blocks counts
    → get_or counts (length blocks - 1) 0 ≡ capped (sum_by (met_weight signals ws) (met_in blocks (length blocks - 1)))
last_count signals ws [] counts are = empty_get counts are.long ∙ sym cap_zero
last_count signals ws (b ∷ bs) counts are =
    let blocks = b ∷ bs in
    are.each (length blocks - 1) (omega arith)
    ∙ same_size signals ws blocks (length blocks) (length blocks - 1)
    ∙ ap capped (sym ((sizes signals ws blocks (length blocks)).at (length blocks - 1) None []))

pub past_is : (m : Measure) (model : PureTree) (blocks : List BlockOf) (weights counts : List ℕ) (top : ℕ) → weights ≡ map capped (weights_of m model) → top ≡ length blocks - 1
    → AreCounts (length blocks) (counts_signals m) weights blocks counts → nat_lt (limit_of m) (get_or counts top 0) ≡ is_past m model blocks
past_is m model blocks weights counts top ws_are top_is are =
    ap (λ k. nat_lt (limit_of m) (get_or counts k 0)) top_is
    ∙ ap (nat_lt (limit_of m)) (last_count (counts_signals m) (weights_of m model) blocks counts (subst (λ (ws : List ℕ). AreCounts (length blocks) (counts_signals m) ws blocks counts) ws_are are))
    ∙ past_capped (limit_of m) (total_of m model blocks) (limit_small m)
