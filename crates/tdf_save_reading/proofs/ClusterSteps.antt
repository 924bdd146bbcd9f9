-- A cluster is read part after part.
use Rattle.std.proofs.Common.{◌≡◌, ℕ, ℤ, List, [], ◌∷◌, ◌++◌, ◌∙◌, ap, refl, codes, decimal}
use Rattle.std.specs.List.{AllByRecursion, AllZip}
use Rattle.tdf_save.proofs.Api.{ClusterPartsFit, cluster_fit, cluster_is, cluster_parts, cluster_parts_text, count64_one, each_one, module_one, path_line_one, start_line}
use Rattle.tdf_save_reading.proofs.ModuleReads.{last_text, path_front, path_line_is}
use Rattle.tdf_save_reading.proofs.ReadSteps.{along_none, along_piece, no_first, no_second, pair_piece}
use Rattle.tdf_save.specs.Members.{ClusterMembersOf, IsClusterFor, IsCount64, IsModuleFor, IsNum}
use Rattle.tdf_save.specs.Text.{saved_cluster, each_text, saved_edge, saved_module, saved_line}
use Rattle.tdf_save.specs.machine.Pieces.{Any, IsOne}
use Rattle.tdf_save_reading.specs.machine.Pieces.{IsPiece, NoPiece}
use Rattle.tdf_saved.specs.State.{ClusterStateOf, ModuleStateOf}

abbrev pub start_text : ℕ → ℕ → List ℕ
start_text number v = saved_line (codes "cluster") (decimal number ∷ (decimal v ∷ []))

pub start_is : (number v : ℕ) → start_text number v ≡ path_front (codes "cluster") (decimal number) ++ last_text decimal v
start_is number v = path_line_is (codes "cluster") (decimal number) decimal v

abbrev pub EdgesFit : ClusterMembersOf → List (List ℤ) → Type 0
EdgesFit m es = AllZip (λ path nums. AllByRecursion IsNum nums) m.edges es

abbrev pub ModulesFit : ClusterMembersOf → List ModuleStateOf → Type 0
ModulesFit m ms = AllZip IsModuleFor m.modules ms

abbrev pub modules_text : ClusterMembersOf → List ModuleStateOf → List ℕ
modules_text m ms = each_text saved_module m.modules ms

abbrev pub edges_text : ClusterMembersOf → List (List ℤ) → List ℕ
edges_text m es = each_text saved_edge m.edges es

abbrev Rest : Type 0
Rest = List ModuleStateOf × List (List ℤ)

abbrev rest_text : ClusterMembersOf → Rest → List ℕ
rest_text m q = modules_text m q.0 ++ edges_text m q.1

abbrev RestFit : ClusterMembersOf → Rest → Type 0
RestFit m q = ModulesFit m q.0 × EdgesFit m q.1

from_parts : (m : ClusterMembersOf) (whole : List ℕ) → NoPiece (cluster_parts_text m) (ClusterPartsFit m) Any whole → NoPiece (saved_cluster m) (IsClusterFor m) Any whole
from_parts m whole none = along_none cluster_parts (saved_cluster m) (cluster_parts_text m) (IsClusterFor m) (ClusterPartsFit m) Any whole (cluster_is m) (cluster_fit m) none

pub no_start : (m : ClusterMembersOf) (whole : List ℕ) → NoPiece (start_line m) IsCount64 Any whole → NoPiece (saved_cluster m) (IsClusterFor m) Any whole
no_start m whole none = from_parts m whole (no_first (start_line m) (rest_text m) IsCount64 (RestFit m) Any Any whole (λ b r f e. tt) none)

after_start : (m : ClusterMembersOf) (whole a : List ℕ) (start : ℕ) → IsPiece (start_line m) IsCount64 Any whole start a → NoPiece (rest_text m) (RestFit m) Any a → NoPiece (saved_cluster m) (IsClusterFor m) Any whole
after_start m whole a start p none = from_parts m whole
    (no_second (start_line m) (rest_text m) IsCount64 (RestFit m) Any Any whole a start (λ b r f e. tt) (path_line_one (codes "cluster") (decimal m.number) decimal IsCount64 count64_one) p none)

pub no_modules : (m : ClusterMembersOf) (whole a : List ℕ) (start : ℕ) → IsPiece (start_line m) IsCount64 Any whole start a → NoPiece (modules_text m) (ModulesFit m) Any a → NoPiece (saved_cluster m) (IsClusterFor m) Any whole
no_modules m whole a start p none = after_start m whole a start p (no_first (modules_text m) (edges_text m) (ModulesFit m) (EdgesFit m) Any Any a (λ b r f e. tt) none)

modules_one : (m : ClusterMembersOf) → IsOne (modules_text m) (ModulesFit m) Any
modules_one m = each_one saved_module IsModuleFor Any module_one (λ a v r f. tt) m.modules

pub no_edges : (m : ClusterMembersOf) (whole a b : List ℕ) (start : ℕ) (ms : List ModuleStateOf) → IsPiece (start_line m) IsCount64 Any whole start a → IsPiece (modules_text m) (ModulesFit m) Any a ms b
    → NoPiece (edges_text m) (EdgesFit m) Any b → NoPiece (saved_cluster m) (IsClusterFor m) Any whole
no_edges m whole a b start ms p q none = after_start m whole a start p (no_second (modules_text m) (edges_text m) (ModulesFit m) (EdgesFit m) Any Any a b ms (λ b r f e. tt) (modules_one m) q none)

abbrev pub cluster_at : ℕ → List ModuleStateOf → List (List ℤ) → ClusterStateOf
cluster_at start ms es = record { start = start; modules = ms; edges = es }

parts_at : (start : ℕ) (ms : List ModuleStateOf) (es : List (List ℤ)) → cluster_parts (cluster_at start ms es) ≡ (start, (ms, es))
unfolding cluster_parts
parts_at start ms es = refl

pub all_parts : (m : ClusterMembersOf) (whole a b rest : List ℕ) (start : ℕ) (ms : List ModuleStateOf) (es : List (List ℤ)) → IsPiece (start_line m) IsCount64 Any whole start a
    → IsPiece (modules_text m) (ModulesFit m) Any a ms b → IsPiece (edges_text m) (EdgesFit m) Any b es rest → IsPiece (saved_cluster m) (IsClusterFor m) Any whole (cluster_at start ms es) rest
all_parts m whole a b rest start ms es p q w =
    let two = pair_piece (modules_text m) (edges_text m) (ModulesFit m) (EdgesFit m) Any Any a b ms es rest q w in
    let one = pair_piece (start_line m) (rest_text m) IsCount64 (RestFit m) Any Any whole a start (ms, es) rest p two in
    along_piece (saved_cluster m) (cluster_parts_text m) (IsClusterFor m) (ClusterPartsFit m) Any whole (cluster_at start ms es) (start, (ms, es)) rest
    (cluster_is m (cluster_at start ms es) ∙ ap (cluster_parts_text m) (parts_at start ms es))
    (record { start = p.fit; modules = q.fit; edges = w.fit }) one
