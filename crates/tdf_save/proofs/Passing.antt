-- The parts before the text of the model are passed on the way to it.
use Rattle.std.proofs.Common.{◌≡◌, ℕ, zero, suc, ◌+◌, ◌<◌, ◌^◌, ℤ, pos, negsuc, Bool, true, false, List, [], ◌∷◌, ◌++◌, length, drop, map, refl, ◌∙◌, sym, ap, append_assoc, arith, decimal, codes, Option, Some, None}
use Rattle.std.proofs.lemmas.Bool.Decides.{nat_tests}
use Rattle.std.specs.Prelude.{slice_index_or}
use Rattle.std.specs.Fmt.{signed_decimal}
use Rattle.std.specs.List.{AllByRecursion, flat_map}
use Rattle.tdf_save.proofs.Lines.{Passes, found, found_line, passes_both, passes_each, passes_items, passes_line}
use Rattle.tdf_save.proofs.LineOnes.{one_is}
use Rattle.tdf_save.proofs.Numerals.{IsCarry, none_in}
use Rattle.tdf_save.proofs.Starts.{start_whole}
use Rattle.tdf_save.proofs.TextStarts.{found_start}
use Rattle.tdf_save.specs.Laws.{AreInLines, FindsText, IsClusterInLine}
use Rattle.tdf_save.specs.Members.{AreNums, BlockMembersOf, ClusterMembersOf, IsClusterFor, IsColumnInRange, IsCount32, IsCount64, IsKernelFor, IsModuleFor, IsNum, IsPendingFor, IsSnapshotFor, IsStampInRange, MembersOf, ModuleMembersOf}
use Rattle.tdf_save.specs.Start.{IsInLine, ends_a_line}
use Rattle.tdf_save.specs.Text.{accept_word, saved_block, carry_word, saved_cluster, saved_column, each_text, saved_edge, saved_kernel, kind_word, saved_later, saved_model, saved_module, saved_pending, saved_sample, saved_head, saved_line, saved_text, saved_value}
use Rattle.tdf_save.specs.machine.Start.{text_start_of}
use Rattle.tdf_saved.specs.State.{ModuleStateOf, ClusterStateOf, KernelStateOf, ColumnStateOf, SnapshotOf}
use Rattle.tdf_saved.specs.declared.state.Pending.{Pending}
use Rattle.tdf_saved.specs.declared.state.Stamp.{Stamp}

-- ---- words

digit_goes_on : (d : ℕ) → d < 10 → ends_a_line (48 + d) ≡ false
digit_goes_on d h = grind (arith, nat_tests)

count_in_line : (n : ℕ) → IsCount64 n → IsInLine (decimal n)
count_in_line n h = none_in ends_a_line digit_goes_on n h

num_in_line : (n : ℤ) → IsNum n → IsInLine (signed_decimal n)
num_in_line (pos n) h = count_in_line n h
num_in_line (negsuc n) h = count_in_line (suc n) (omega (arith, h))

mapped : {V : Type 0} (word : V → List ℕ) (fits : V → Type 0) → ((v : V) → fits v → IsInLine (word v)) → (vs : List V) → AllByRecursion fits vs → AllByRecursion IsInLine (map word vs)
mapped word fits goes [] all = tt
mapped word fits goes (v ∷ vs) all = (goes v all.0, mapped word fits goes vs all.1)

rate_in_line : (n : ℕ) → IsCount32 n → IsInLine (decimal n)
rate_in_line n h = count_in_line n (omega (arith, h))

accept_in_line : (flag : Bool) → IsInLine (accept_word flag)
accept_in_line true = refl
accept_in_line false = refl

kind_in_line : (flag : Bool) → IsInLine (kind_word flag)
kind_in_line true = refl
kind_in_line false = refl

carry_in_line : (c : Option ℤ) → IsCarry c → IsInLine (carry_word c)
carry_in_line None h = refl
carry_in_line (Some n) h = num_in_line n h

-- ---- clusters

module_passes : (m : ModuleMembersOf) (s : ModuleStateOf) → IsInLine m.path → IsModuleFor m s → Passes (saved_module m s)
unfolding saved_module
module_passes m s path h =
    let title = saved_line (codes "module") (m.path ∷ (accept_word s.accept ∷ [])) in
    let rates = saved_line (codes "rates") (map decimal s.rates) in
    let steps = saved_line (codes "steps") (map decimal s.steps) in
    let cells = saved_line (codes "cells") (map signed_decimal s.cells) in
    passes_both title (rates ++ (steps ++ cells)) (passes_line (codes "module") (m.path ∷ (accept_word s.accept ∷ [])) (λ r. refl) refl (path, (accept_in_line s.accept, tt)))
    (passes_both rates (steps ++ cells) (passes_line (codes "rates") (map decimal s.rates) (λ r. refl) refl (mapped decimal IsCount32 rate_in_line s.rates h.rates_fit))
    (passes_both steps cells (passes_line (codes "steps") (map decimal s.steps) (λ r. refl) refl (mapped decimal IsCount64 count_in_line s.steps h.steps_fit))
    (passes_line (codes "cells") (map signed_decimal s.cells) (λ r. refl) refl (mapped signed_decimal IsNum num_in_line s.cells h.cells.each))))

edge_passes : (path : List ℕ) (nums : List ℤ) → IsInLine path → AllByRecursion IsNum nums → Passes (saved_edge path nums)
unfolding saved_edge
edge_passes path nums p h = passes_line (codes "edge") (path ∷ map signed_decimal nums) (λ r. refl) refl (p, mapped signed_decimal IsNum num_in_line nums h)

cluster_passes : (m : ClusterMembersOf) (s : ClusterStateOf) → IsClusterInLine m → IsClusterFor m s → Passes (saved_cluster m s)
unfolding saved_cluster
cluster_passes m s g h =
    let title = saved_line (codes "cluster") (decimal m.number ∷ (decimal s.start ∷ [])) in
    passes_both title (each_text saved_module m.modules s.modules ++ each_text saved_edge m.edges s.edges)
    (passes_line (codes "cluster") (decimal m.number ∷ (decimal s.start ∷ [])) (λ r. refl) refl (count_in_line m.number g.small, (count_in_line s.start h.start, tt)))
    (passes_both (each_text saved_module m.modules s.modules) (each_text saved_edge m.edges s.edges)
    (passes_each saved_module (λ a. IsInLine a.path) IsModuleFor module_passes m.modules s.modules g.modules h.modules)
    (passes_each saved_edge IsInLine (λ path nums. AllByRecursion IsNum nums) edge_passes m.edges s.edges g.edges h.edges))

-- ---- events

value_passes : (path : List ℕ) (num : ℤ) → IsInLine path → IsNum num → Passes (saved_value path num)
unfolding saved_value
value_passes path num p h = passes_line (codes "value") (path ∷ (signed_decimal num ∷ [])) (λ r. refl) refl (p, (num_in_line num h, tt))

block_passes : (m : BlockMembersOf) (nums : List ℤ) → IsInLine m.path → AreNums m.cells nums → Passes (saved_block m nums)
unfolding saved_block
block_passes m nums p h = passes_line (codes "block") (m.path ∷ map signed_decimal nums) (λ r. refl) refl (p, mapped signed_decimal IsNum num_in_line nums h.each)

name_in_line : (names : List (List ℕ)) (k : ℕ) → AllByRecursion IsInLine names → k < length names → IsInLine (slice_index_or names k [])
name_in_line [] k all less = absurd (omega (arith, less))
name_in_line (n ∷ names) zero all less = all.0
name_in_line (n ∷ names) (suc k) all less = name_in_line names k all.1 (omega (arith, less))

pending_passes : (m : MembersOf) → AreInLines m → (p : Pending) → IsPendingFor m p → Passes (saved_pending m.events p)
unfolding saved_pending
pending_passes m g p h = passes_line (codes "pending") (slice_index_or m.events p.event [] ∷ (decimal p.time ∷ [])) (λ r. refl) refl
    (name_in_line m.events p.event g.events h.event, (count_in_line p.time h.time, tt))

kernel_passes : (m : MembersOf) (s : KernelStateOf) → AreInLines m → IsKernelFor m s → Passes (saved_kernel m s)
unfolding saved_kernel
kernel_passes m s g h =
    passes_both (each_text saved_value m.values s.values) (each_text saved_block m.blocks s.blocks ++ flat_map (saved_pending m.events) s.pending)
    (passes_each saved_value IsInLine (λ path num. IsNum num) value_passes m.values s.values g.values h.values)
    (passes_both (each_text saved_block m.blocks s.blocks) (flat_map (saved_pending m.events) s.pending)
    (passes_each saved_block (λ b. IsInLine b.path) (λ b nums. AreNums b.cells nums) block_passes m.blocks s.blocks g.blocks h.blocks)
    (passes_items (saved_pending m.events) (IsPendingFor m) (pending_passes m g) s.pending h.pending))

-- ---- columns

sample_passes : (s : Stamp) → IsStampInRange s → Passes (saved_sample s)
unfolding saved_sample
sample_passes s h = passes_line (codes "sample") (decimal s.time ∷ (signed_decimal s.num ∷ [])) (λ r. refl) refl (count_in_line s.time h.time, (num_in_line s.num h.num, tt))

later_passes : (n : ℤ) → IsNum n → Passes (saved_later n)
unfolding saved_later
later_passes n h = passes_line (codes "later") (signed_decimal n ∷ []) (λ r. refl) refl (num_in_line n h, tt)

column_passes : (label : List ℕ) (s : ColumnStateOf) → IsInLine label → IsColumnInRange s → Passes (saved_column label s)
unfolding saved_column
column_passes label s p h =
    passes_both (saved_line (codes "column") (label ∷ (carry_word s.carry ∷ []))) (flat_map saved_sample s.samples ++ flat_map saved_later s.later)
    (passes_line (codes "column") (label ∷ (carry_word s.carry ∷ [])) (λ r. refl) refl (p, (carry_in_line s.carry h.carry, tt)))
    (passes_both (flat_map saved_sample s.samples) (flat_map saved_later s.later)
    (passes_items saved_sample IsStampInRange sample_passes s.samples h.samples)
    (passes_items saved_later IsNum later_passes s.later h.later))

-- ---- the head, and all of them

head_passes : (m : MembersOf) (s : SnapshotOf) → IsSnapshotFor m s → Passes (saved_head s)
unfolding saved_head
head_passes m s h =
    let kind = saved_line (codes "kind") (kind_word s.vcd ∷ []) in
    let run = saved_line (codes "run") (decimal s.time ∷ (decimal s.used ∷ (decimal s.budget ∷ []))) in
    passes_both (saved_line (codes "saved") (codes "1" ∷ [])) (kind ++ run) (passes_line (codes "saved") (codes "1" ∷ []) (λ r. refl) refl (refl, tt))
    (passes_both kind run (passes_line (codes "kind") (kind_word s.vcd ∷ []) (λ r. refl) refl (kind_in_line s.vcd, tt))
    (passes_line (codes "run") (decimal s.time ∷ (decimal s.used ∷ (decimal s.budget ∷ []))) (λ r. refl) refl
    (count_in_line s.time h.time, (count_in_line s.used h.used, (count_in_line s.budget h.budget, tt)))))

abbrev front_text : MembersOf → SnapshotOf → List ℕ
front_text m s = saved_head s ++ (each_text saved_cluster m.clusters s.clusters ++ (saved_kernel m s.kernel ++ each_text saved_column m.columns s.columns))

front_passes : (m : MembersOf) (s : SnapshotOf) → AreInLines m → IsSnapshotFor m s → Passes (front_text m s)
front_passes m s g h =
    passes_both (saved_head s) (each_text saved_cluster m.clusters s.clusters ++ (saved_kernel m s.kernel ++ each_text saved_column m.columns s.columns)) (head_passes m s h)
    (passes_both (each_text saved_cluster m.clusters s.clusters) (saved_kernel m s.kernel ++ each_text saved_column m.columns s.columns)
    (passes_each saved_cluster IsClusterInLine IsClusterFor cluster_passes m.clusters s.clusters g.clusters h.clusters)
    (passes_both (saved_kernel m s.kernel) (each_text saved_column m.columns s.columns) (kernel_passes m s.kernel g h.kernel)
    (passes_each saved_column IsInLine (λ label c. IsColumnInRange c) column_passes m.columns s.columns g.columns h.columns)))

-- ---- the line of the text

abbrev text_words : ℕ → List ℕ
text_words n = codes "text" ++ (32 ∷ decimal n)

text_in_line : (n : ℕ) → n < 2 ^ 64 → IsInLine (text_words n)
text_in_line n h = count_in_line n h

model_is : (model : List ℕ) → saved_model model ≡ text_words (length model) ++ (10 ∷ model)
unfolding saved_model
model_is model = ap (λ x. x ++ model) (one_is (codes "text") (decimal (length model)))
    ∙ ap (λ x. x ++ model) (sym (append_assoc (codes "text") (32 ∷ decimal (length model)) (10 ∷ [])))
    ∙ append_assoc (text_words (length model)) (10 ∷ []) model

model_found : (place : ℕ) (model : List ℕ) → length model < 2 ^ 64 → found place (saved_model model) ≡ Some (place + (length (text_words (length model)) + 1))
model_found place model small =
    let line = text_words (length model) in
    ap (found place) (model_is model) ∙ found_line place line model (text_in_line (length model) small)

drop_front : (front rest : List ℕ) (n : ℕ) → drop (length front + n) (front ++ rest) ≡ drop n rest
drop_front [] rest n = let e : 0 + n ≡ n = omega arith in rw e refl
drop_front (c ∷ front) rest n = let e : suc (length front) + n ≡ suc (length front + n) = omega arith in rw e (drop_front front rest n)

drop_line : (line rest : List ℕ) → drop (length line + 1) (line ++ (10 ∷ rest)) ≡ rest
drop_line line rest = drop_front line (10 ∷ rest) 1

whole_is : (m : MembersOf) (model : List ℕ) (s : SnapshotOf) → saved_text m model s ≡ front_text m s ++ saved_model model
unfolding saved_text
whole_is m model s =
    let a = saved_head s in
    let b = each_text saved_cluster m.clusters s.clusters in
    let c = saved_kernel m s.kernel in
    let d = each_text saved_column m.columns s.columns in
    let e = saved_model model in
    sym (append_assoc a (b ++ (c ++ d)) e ∙ ap (λ x. a ++ x) (append_assoc b (c ++ d) e ∙ ap (λ x. b ++ x) (append_assoc c d e)))

pub finds_text : FindsText
finds_text m model s g h small =
    let front = front_text m s in
    let line = text_words (length model) in
    let place = length front + (length line + 1) in
    let whole = whole_is m model s in
    let none : 0 + length front ≡ length front = omega arith in
    let at : text_start_of (saved_text m model s) ≡ Some place =
    start_whole (saved_text m model s) ∙ ap (found 0) whole ∙ front_passes m s g h 0 (saved_model model) ∙ ap (λ n. found n (saved_model model)) none ∙ model_found (length front) model small in
    let rest : drop place (saved_text m model s) ≡ model =
    ap (drop place) whole ∙ drop_front front (saved_model model) (length line + 1) ∙ ap (drop (length line + 1)) (model_is model) ∙ drop_line line model in
    (place, found_start (saved_text m model s) place at, rest)
