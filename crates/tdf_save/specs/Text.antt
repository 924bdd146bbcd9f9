-- The text of a snapshot: lines of a keyword and words, each after one space, and then the text of
-- the model.
-- Source: own.
use Rattle.std.specs.Prelude.{ℕ, ℤ, Bool, List, [], ◌∷◌, ◌++◌, length, map, codes, if◌then◌else◌}
use Rattle.std.specs.Prelude.{Option, Some, None, decimal, slice_index_or}
use Rattle.std.specs.Fmt.{signed_decimal}
use Rattle.std.specs.List.{flat_map}
use Rattle.tdf_save.specs.Members.{ModuleMembersOf, ClusterMembersOf, BlockMembersOf, MembersOf}
use Rattle.tdf_saved.specs.State.{ModuleStateOf, ClusterStateOf, KernelStateOf, ColumnStateOf}
use Rattle.tdf_saved.specs.State.{SnapshotOf}
use Rattle.tdf_saved.specs.declared.state.Pending.{Pending}
use Rattle.tdf_saved.specs.declared.state.Stamp.{Stamp}

-- words, each after one space
unfoldable pub after_spaces : List (List ℕ) → List ℕ
after_spaces words = flat_map (λ word. 32 ∷ word) words

-- a keyword, words, and LF
unfoldable pub saved_line : (keyword : List ℕ) → (words : List (List ℕ)) → List ℕ
saved_line keyword words = keyword ++ (after_spaces words ++ 10 ∷ [])

-- the texts of members with their states, one after the other
unfoldable pub each_text : {A B : Type 0} → (A → B → List ℕ) → List A → List B → List ℕ
each_text text [] ys = []
each_text text (x ∷ xs) [] = []
each_text text (x ∷ xs) (y ∷ ys) = text x y ++ each_text text xs ys

-- ---- clusters

abbrev pub accept_word : Bool → List ℕ
accept_word accept = if accept then codes "1" else codes "0"

-- `module PATH ACCEPT`, `rates ..`, `steps ..`, `cells ..`
unfoldable pub saved_module : ModuleMembersOf → ModuleStateOf → List ℕ
saved_module m s = saved_line (codes "module") (m.path ∷ (accept_word s.accept ∷ []))
    ++ (saved_line (codes "rates") (map decimal s.rates)
    ++ (saved_line (codes "steps") (map decimal s.steps)
    ++ saved_line (codes "cells") (map signed_decimal s.cells)))

-- `edge PATH ..`
unfoldable pub saved_edge : (path : List ℕ) → (nums : List ℤ) → List ℕ
saved_edge path nums = saved_line (codes "edge") (path ∷ map signed_decimal nums)

-- `cluster NUMBER START`, its modules, and its edges
unfoldable pub saved_cluster : ClusterMembersOf → ClusterStateOf → List ℕ
saved_cluster m s = saved_line (codes "cluster") (decimal m.number ∷ (decimal s.start ∷ []))
    ++ (each_text saved_module m.modules s.modules ++ each_text saved_edge m.edges s.edges)

-- ---- events

-- `value PATH NUM`
unfoldable pub saved_value : (path : List ℕ) → (num : ℤ) → List ℕ
saved_value path num = saved_line (codes "value") (path ∷ (signed_decimal num ∷ []))

-- `block PATH ..`
unfoldable pub saved_block : BlockMembersOf → (nums : List ℤ) → List ℕ
saved_block m nums = saved_line (codes "block") (m.path ∷ map signed_decimal nums)

-- `pending PATH EVENT TIME`
unfoldable pub saved_pending : (events : List (List ℕ)) → Pending → List ℕ
saved_pending events p =
    saved_line (codes "pending") (slice_index_or events p.event [] ∷ (decimal p.time ∷ []))

unfoldable pub saved_kernel : MembersOf → KernelStateOf → List ℕ
saved_kernel m s = each_text saved_value m.values s.values
    ++ (each_text saved_block m.blocks s.blocks ++ flat_map (saved_pending m.events) s.pending)

-- ---- columns

abbrev pub carry_word : Option ℤ → List ℕ
carry_word None = codes "-"
carry_word (Some num) = signed_decimal num

-- `sample TIME NUM`
unfoldable pub saved_sample : Stamp → List ℕ
saved_sample s = saved_line (codes "sample") (decimal s.time ∷ (signed_decimal s.num ∷ []))

-- `later NUM`
unfoldable pub saved_later : ℤ → List ℕ
saved_later num = saved_line (codes "later") (signed_decimal num ∷ [])

-- `column LABEL NUM`, or `-` for the number; its samples, and the later ones
unfoldable pub saved_column : (label : List ℕ) → ColumnStateOf → List ℕ
saved_column label s = saved_line (codes "column") (label ∷ (carry_word s.carry ∷ []))
    ++ (flat_map saved_sample s.samples ++ flat_map saved_later s.later)

-- ---- the whole

abbrev pub kind_word : (vcd : Bool) → List ℕ
kind_word vcd = if vcd then codes "vcd" else codes "table"

-- `saved 1`, `kind KIND`, `run TIME USED BUDGET`
unfoldable pub saved_head : SnapshotOf → List ℕ
saved_head s = saved_line (codes "saved") (codes "1" ∷ [])
    ++ (saved_line (codes "kind") (kind_word s.vcd ∷ [])
    ++ saved_line (codes "run") (decimal s.time ∷ (decimal s.used ∷ (decimal s.budget ∷ []))))

-- `text BYTES`, and the text of the model
unfoldable pub saved_model : (model : List ℕ) → List ℕ
saved_model model = saved_line (codes "text") (decimal (length model) ∷ []) ++ model

-- a snapshot of a model with these members and this text
unfoldable pub saved_text : MembersOf → (model : List ℕ) → SnapshotOf → List ℕ
saved_text m model s = saved_head s ++ (each_text saved_cluster m.clusters s.clusters
    ++ (saved_kernel m s.kernel
    ++ (each_text saved_column m.columns s.columns ++ saved_model model)))
