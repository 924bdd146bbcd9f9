-- The parts of a snapshot's text are cut in one way.
use Rattle.std.proofs.Common.{◌≡◌, ℕ, ◌<◌, ℤ, Bool, true, false, List, [], ◌∷◌, ◌++◌, length, map, refl, ◌∙◌, sym, ap, decimal, codes}
use Rattle.std.proofs.lemmas.Bool.{eqb-true}
use Rattle.std.specs.Prelude.{slice_index_or}
use Rattle.std.specs.Fmt.{signed_decimal}
use Rattle.std.specs.List.{AllByRecursion, AllZip, flat_map}
use Rattle.tdf_save.proofs.LineOnes.{line_end, last_one, list_line_one, path_line_one, path_list_one, two_is}
use Rattle.tdf_save.proofs.Numerals.{accept_one, count32_one, count64_one, num_one}
use Rattle.tdf_save.proofs.Ones.{along_one, cancel, each_one, fewer_one, items_one, pair_one, pre_one}
use Rattle.tdf_save.specs.Members.{AreNamesApart, AreNums, BlockMembersOf, ClusterMembersOf, IsClusterFor, IsCount32, IsCount64, IsKernelFor, IsModuleFor, IsNum, IsPendingFor, MembersOf, ModuleMembersOf}
use Rattle.tdf_save.specs.Text.{accept_word, saved_block, saved_cluster, each_text, saved_edge, saved_kernel, saved_module, saved_pending, saved_line, saved_value}
use Rattle.tdf_save.specs.machine.Pieces.{AnyFlag, Any, IsNext, IsOne, begins_with_byte}
use Rattle.tdf_saved.specs.State.{ModuleStateOf, ClusterStateOf, KernelStateOf}
use Rattle.tdf_saved.specs.declared.state.Pending.{Pending}

-- ---- modules and edges

abbrev pub title_of : ModuleMembersOf → Bool → List ℕ
title_of m flag = saved_line (codes "module") (m.path ∷ (accept_word flag ∷ []))

abbrev pub rates_of : List ℕ → List ℕ
rates_of ns = saved_line (codes "rates") (map decimal ns)

abbrev pub steps_of : List ℕ → List ℕ
steps_of ns = saved_line (codes "steps") (map decimal ns)

abbrev pub cells_of : List ℤ → List ℕ
cells_of ns = saved_line (codes "cells") (map signed_decimal ns)

abbrev ModuleParts : Type 0
ModuleParts = Bool × (List ℕ × (List ℕ × List ℤ))

unfoldable pub module_parts : ModuleStateOf → ModuleParts
module_parts s = (s.accept, (s.rates, (s.steps, s.cells)))

module_from : ModuleParts → ModuleStateOf
module_from p = record { accept = p.0; rates = p.1.0; steps = p.1.1.0; cells = p.1.1.1 }

abbrev pub module_parts_text : ModuleMembersOf → ModuleParts → List ℕ
module_parts_text m p = title_of m p.0 ++ (rates_of p.1.0 ++ (steps_of p.1.1.0 ++ cells_of p.1.1.1))

abbrev pub ModulePartsFit : ModuleParts → Type 0
ModulePartsFit p = AnyFlag p.0 × (AllByRecursion IsCount32 p.1.0 × (AllByRecursion IsCount64 p.1.1.0 × AllByRecursion IsNum p.1.1.1))

pub module_is : (m : ModuleMembersOf) (s : ModuleStateOf) → saved_module m s ≡ module_parts_text m (module_parts s)
unfolding saved_module module_parts
module_is m s = refl

pub module_same : (v w : ModuleStateOf) → module_parts v ≡ module_parts w → v ≡ w
unfolding module_parts module_from
module_same v w e = ap module_from e

module_fit : (m : ModuleMembersOf) (s : ModuleStateOf) → IsModuleFor m s → ModulePartsFit (module_parts s)
unfolding module_parts
module_fit m s h = (tt, (h.rates_fit, (h.steps_fit, h.cells.each)))

pub module_parts_one : (m : ModuleMembersOf) → IsOne (module_parts_text m) ModulePartsFit Any
module_parts_one m =
    pair_one (title_of m) (λ (q : List ℕ × (List ℕ × List ℤ)). rates_of q.0 ++ (steps_of q.1.0 ++ cells_of q.1.1)) AnyFlag
    (λ (q : List ℕ × (List ℕ × List ℤ)). AllByRecursion IsCount32 q.0 × (AllByRecursion IsCount64 q.1.0 × AllByRecursion IsNum q.1.1)) Any Any
    (path_line_one (codes "module") m.path accept_word AnyFlag accept_one)
    (pair_one rates_of (λ (q : List ℕ × List ℤ). steps_of q.0 ++ cells_of q.1) (AllByRecursion IsCount32)
    (λ (q : List ℕ × List ℤ). AllByRecursion IsCount64 q.0 × AllByRecursion IsNum q.1) Any Any
    (list_line_one (codes "rates") decimal IsCount32 count32_one)
    (pair_one steps_of cells_of (AllByRecursion IsCount64) (AllByRecursion IsNum) Any Any
    (list_line_one (codes "steps") decimal IsCount64 count64_one)
    (list_line_one (codes "cells") signed_decimal IsNum num_one) (λ b r f e. tt)) (λ b r f e. tt)) (λ b r f e. tt)

pub module_one : (m : ModuleMembersOf) → IsOne (saved_module m) (IsModuleFor m) Any
module_one m = along_one module_parts (saved_module m) (module_parts_text m) (IsModuleFor m) ModulePartsFit Any
    module_same (module_is m) (module_fit m) (module_parts_one m)

edge_is : (path : List ℕ) (nums : List ℤ) → saved_edge path nums ≡ saved_line (codes "edge") (path ∷ map signed_decimal nums)
unfolding saved_edge
edge_is path nums = refl

pub edge_one : (path : List ℕ) → IsOne (saved_edge path) (λ nums. AllByRecursion IsNum nums) Any
edge_one path = along_one (λ v. v) (saved_edge path) (λ nums. saved_line (codes "edge") (path ∷ map signed_decimal nums)) (λ nums. AllByRecursion IsNum nums) (AllByRecursion IsNum) Any
    (λ v w e. e) (edge_is path) (λ v f. f) (path_list_one (codes "edge") path signed_decimal IsNum num_one)

-- ---- clusters

abbrev pub start_line : ClusterMembersOf → ℕ → List ℕ
start_line m start = saved_line (codes "cluster") (decimal m.number ∷ (decimal start ∷ []))

abbrev ClusterParts : Type 0
ClusterParts = ℕ × (List ModuleStateOf × List (List ℤ))

unfoldable pub cluster_parts : ClusterStateOf → ClusterParts
cluster_parts s = (s.start, (s.modules, s.edges))

cluster_from : ClusterParts → ClusterStateOf
cluster_from p = record { start = p.0; modules = p.1.0; edges = p.1.1 }

abbrev pub cluster_parts_text : ClusterMembersOf → ClusterParts → List ℕ
cluster_parts_text m p = start_line m p.0 ++ (each_text saved_module m.modules p.1.0 ++ each_text saved_edge m.edges p.1.1)

abbrev pub ClusterPartsFit : ClusterMembersOf → ClusterParts → Type 0
ClusterPartsFit m p = IsCount64 p.0 × (AllZip IsModuleFor m.modules p.1.0 × AllZip (λ path nums. AllByRecursion IsNum nums) m.edges p.1.1)

pub cluster_is : (m : ClusterMembersOf) (s : ClusterStateOf) → saved_cluster m s ≡ cluster_parts_text m (cluster_parts s)
unfolding saved_cluster cluster_parts
cluster_is m s = refl

cluster_same : (v w : ClusterStateOf) → cluster_parts v ≡ cluster_parts w → v ≡ w
unfolding cluster_parts cluster_from
cluster_same v w e = ap cluster_from e

pub cluster_fit : (m : ClusterMembersOf) (s : ClusterStateOf) → IsClusterFor m s → ClusterPartsFit m (cluster_parts s)
unfolding cluster_parts
cluster_fit m s h = (h.start, (h.modules, h.edges))

pub cluster_one : (m : ClusterMembersOf) → IsOne (saved_cluster m) (IsClusterFor m) Any
cluster_one m = along_one cluster_parts (saved_cluster m) (cluster_parts_text m) (IsClusterFor m) (ClusterPartsFit m) Any
    cluster_same (cluster_is m) (cluster_fit m)
    (pair_one (start_line m) (λ (q : List ModuleStateOf × List (List ℤ)). each_text saved_module m.modules q.0 ++ each_text saved_edge m.edges q.1) IsCount64
    (λ (q : List ModuleStateOf × List (List ℤ)). AllZip IsModuleFor m.modules q.0 × AllZip (λ path nums. AllByRecursion IsNum nums) m.edges q.1) Any Any
    (path_line_one (codes "cluster") (decimal m.number) decimal IsCount64 count64_one)
    (pair_one (each_text saved_module m.modules) (each_text saved_edge m.edges) (AllZip IsModuleFor m.modules) (AllZip (λ path nums. AllByRecursion IsNum nums) m.edges) Any Any
    (each_one saved_module IsModuleFor Any module_one (λ a v r f. tt) m.modules)
    (each_one saved_edge (λ path nums. AllByRecursion IsNum nums) Any edge_one (λ a v r f. tt) m.edges) (λ b r f e. tt)) (λ b r f e. tt))

-- ---- events

pub value_is : (path : List ℕ) (num : ℤ) → saved_value path num ≡ saved_line (codes "value") (path ∷ (signed_decimal num ∷ []))
unfolding saved_value
value_is path num = refl

pub value_one : (path : List ℕ) → IsOne (saved_value path) (λ num. IsNum num) Any
value_one path = along_one (λ v. v) (saved_value path) (λ num. saved_line (codes "value") (path ∷ (signed_decimal num ∷ []))) (λ num. IsNum num) IsNum Any
    (λ v w e. e) (value_is path) (λ v f. f) (path_line_one (codes "value") path signed_decimal IsNum num_one)

pub block_is : (m : BlockMembersOf) (nums : List ℤ) → saved_block m nums ≡ saved_line (codes "block") (m.path ∷ map signed_decimal nums)
unfolding saved_block
block_is m nums = refl

pub block_one : (m : BlockMembersOf) → IsOne (saved_block m) (λ nums. AreNums m.cells nums) Any
block_one m = along_one (λ v. v) (saved_block m) (λ nums. saved_line (codes "block") (m.path ∷ map signed_decimal nums)) (λ nums. AreNums m.cells nums) (AllByRecursion IsNum) Any
    (λ v w e. e) (block_is m) (λ v f. f.each) (path_list_one (codes "block") m.path signed_decimal IsNum num_one)

abbrev Blank : List ℕ → Type 0
Blank r = begins_with_byte 32 r ≡ true

abbrev name_at : List (List ℕ) → ℕ → List ℕ
name_at events i = slice_index_or events i []

abbrev IsPlace : List (List ℕ) → ℕ → Type 0
IsPlace events i = i < length events

name_by : (events : List (List ℕ)) → AreNamesApart events → (i j : ℕ) (r s : List ℕ) → i < length events → j < length events → Blank r → Blank s
    → name_at events i ++ r ≡ name_at events j ++ s → (i ≡ j) × (r ≡ s)
name_by events far i j [] s f g er es e = absurd (let h : true ≡ false = sym er in cc)
name_by events far i j (x ∷ r) [] f g er es e = absurd (let h : true ≡ false = sym es in cc)
name_by events far i j (x ∷ r) (y ∷ s) f g er es e =
    let a : x ≡ 32 = eqb-true x 32 er in
    let b : y ≡ 32 = eqb-true y 32 es in
    let whole : name_at events i ++ (32 ∷ r) ≡ name_at events j ++ (32 ∷ s) = ap (λ z. name_at events i ++ (z ∷ r)) (sym a) ∙ e ∙ ap (λ z. name_at events j ++ (z ∷ s)) b in
    let same = far i j r s f g whole in
    (same, cancel (name_at events j) (x ∷ r) (y ∷ s) (ap (λ k. name_at events k ++ (x ∷ r)) (sym same) ∙ e))

pub name_one : (events : List (List ℕ)) → AreNamesApart events → IsOne (name_at events) (IsPlace events) Blank
name_one events far = record { only = λ v w r s f g er es e. name_by events far v w r s f g er es e }

abbrev PendingParts : Type 0
PendingParts = ℕ × ℕ

unfoldable pub pending_parts : Pending → PendingParts
pending_parts p = (p.event, p.time)

pending_from : PendingParts → Pending
pending_from p = record { event = p.0; time = p.1 }

abbrev pending_parts_text : List (List ℕ) → PendingParts → List ℕ
pending_parts_text events p = codes "pending" ++ ((32 ∷ name_at events p.0) ++ ((32 ∷ decimal p.1) ++ line_end))

pub pending_is : (events : List (List ℕ)) (p : Pending) → saved_pending events p ≡ pending_parts_text events (pending_parts p)
unfolding saved_pending pending_parts
pending_is events p = two_is (codes "pending") (name_at events p.event) (decimal p.time)

pending_same : (v w : Pending) → pending_parts v ≡ pending_parts w → v ≡ w
unfolding pending_parts pending_from
pending_same v w e = ap pending_from e

pending_fit : (m : MembersOf) (p : Pending) → IsPendingFor m p → IsPlace m.events (pending_parts p).0 × IsCount64 (pending_parts p).1
unfolding pending_parts
pending_fit m p h = (h.event, h.time)

pub pending_one : (m : MembersOf) → AreNamesApart m.events → IsOne (saved_pending m.events) (IsPendingFor m) Any
pending_one m far = along_one pending_parts (saved_pending m.events) (pending_parts_text m.events) (IsPendingFor m) (λ (q : PendingParts). IsPlace m.events q.0 × IsCount64 q.1) Any
    pending_same (pending_is m.events) (pending_fit m)
    (pre_one (codes "pending") (λ (q : PendingParts). (32 ∷ name_at m.events q.0) ++ ((32 ∷ decimal q.1) ++ line_end)) (λ (q : PendingParts). IsPlace m.events q.0 × IsCount64 q.1) Any
    (pair_one (λ i. 32 ∷ name_at m.events i) (λ t. (32 ∷ decimal t) ++ line_end) (IsPlace m.events) IsCount64 Blank Any
    (pre_one (32 ∷ []) (name_at m.events) (IsPlace m.events) Blank (name_one m.events far))
    (last_one decimal IsCount64 count64_one) (λ b r f e. refl)))

pub pending_begins : (events : List (List ℕ)) (p : Pending) (r : List ℕ) → begins_with_byte 112 (saved_pending events p ++ r) ≡ true
unfolding saved_pending saved_line
pending_begins events p r = refl

abbrev KernelParts : Type 0
KernelParts = List ℤ × (List (List ℤ) × List Pending)

unfoldable pub kernel_parts : KernelStateOf → KernelParts
kernel_parts s = (s.values, (s.blocks, s.pending))

kernel_from : KernelParts → KernelStateOf
kernel_from p = record { values = p.0; blocks = p.1.0; pending = p.1.1 }

abbrev pub kernel_parts_text : MembersOf → KernelParts → List ℕ
kernel_parts_text m p = each_text saved_value m.values p.0 ++ (each_text saved_block m.blocks p.1.0 ++ flat_map (saved_pending m.events) p.1.1)

abbrev pub KernelPartsFit : MembersOf → KernelParts → Type 0
KernelPartsFit m p = AllZip (λ path num. IsNum num) m.values p.0 × (AllZip (λ b nums. AreNums b.cells nums) m.blocks p.1.0 × AllByRecursion (IsPendingFor m) p.1.1)

pub kernel_is : (m : MembersOf) (s : KernelStateOf) → saved_kernel m s ≡ kernel_parts_text m (kernel_parts s)
unfolding saved_kernel kernel_parts
kernel_is m s = refl

kernel_same : (v w : KernelStateOf) → kernel_parts v ≡ kernel_parts w → v ≡ w
unfolding kernel_parts kernel_from
kernel_same v w e = ap kernel_from e

pub kernel_fit : (m : MembersOf) (s : KernelStateOf) → IsKernelFor m s → KernelPartsFit m (kernel_parts s)
unfolding kernel_parts
kernel_fit m s h = (h.values, (h.blocks, h.pending))

pub notices_one : (m : MembersOf) → AreNamesApart m.events → IsOne (flat_map (saved_pending m.events)) (AllByRecursion (IsPendingFor m)) IsNext
notices_one m far = fewer_one (flat_map (saved_pending m.events)) (AllByRecursion (IsPendingFor m)) (λ r. Any r × (begins_with_byte 112 r ≡ false)) IsNext (λ r e. (tt, e.pending))
    (items_one (saved_pending m.events) (IsPendingFor m) Any 112 (pending_one m far) (pending_begins m.events) (λ v r f. tt))

pub kernel_one : (m : MembersOf) → AreNamesApart m.events → IsOne (saved_kernel m) (IsKernelFor m) IsNext
kernel_one m far = along_one kernel_parts (saved_kernel m) (kernel_parts_text m) (IsKernelFor m) (KernelPartsFit m) IsNext
    kernel_same (kernel_is m) (kernel_fit m)
    (pair_one (each_text saved_value m.values) (λ (q : List (List ℤ) × List Pending). each_text saved_block m.blocks q.0 ++ flat_map (saved_pending m.events) q.1)
    (AllZip (λ path num. IsNum num) m.values) (λ (q : List (List ℤ) × List Pending). AllZip (λ b nums. AreNums b.cells nums) m.blocks q.0 × AllByRecursion (IsPendingFor m) q.1) Any IsNext
    (each_one saved_value (λ path num. IsNum num) Any value_one (λ a v r f. tt) m.values)
    (pair_one (each_text saved_block m.blocks) (flat_map (saved_pending m.events)) (AllZip (λ b nums. AreNums b.cells nums) m.blocks) (AllByRecursion (IsPendingFor m)) Any IsNext
    (each_one saved_block (λ b nums. AreNums b.cells nums) Any block_one (λ a v r f. tt) m.blocks)
    (notices_one m far) (λ b r f e. tt)) (λ b r f e. tt))
