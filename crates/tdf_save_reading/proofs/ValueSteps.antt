-- Values of event signals and cells of instances are read exactly.
use Rattle.std.proofs.Common.{◌≡◌, ℤ, ℕ, List, ◌∷◌, ◌++◌, length, map, ◌∙◌, sym, ap, codes, subst}
use Rattle.std.specs.Fmt.{signed_decimal}
use Rattle.std.specs.List.{AllByRecursion}
use Rattle.tdf_save.proofs.Api.{block_is, block_one, cluster_one, num_one, path_list_one, value_is, value_one}
use Rattle.tdf_save.specs.Members.{AreNums, BlockMembersOf, IsClusterFor, IsNum}
use Rattle.tdf_save.specs.Text.{saved_block, saved_cluster, saved_line, saved_value}
use Rattle.tdf_save.specs.machine.Pieces.{Any, IsOne}
use Rattle.tdf_save_reading.proofs.ModuleReads.{last_text, path_front, path_line_is, path_list_is}
use Rattle.tdf_save_reading.proofs.ReadSteps.{AreEach, along_none, along_piece}
use Rattle.tdf_save_reading.specs.machine.Lists.{list_text}
use Rattle.tdf_save_reading.specs.machine.Pieces.{IsPiece, NoPiece}

-- a piece for one member is one for the same member
pub piece_at : {A V : Type 0} (f : A → V → List ℕ) (fits : A → V → Type 0) (ends : List ℕ → Type 0) (a b : A) (whole : List ℕ) (v : V) (rest : List ℕ)
    → a ≡ b → IsPiece (f a) (fits a) ends whole v rest → IsPiece (f b) (fits b) ends whole v rest
piece_at f fits ends a b whole v rest e p = subst (λ x. IsPiece (f x) (fits x) ends whole v rest) e p

pub no_piece_at : {A V : Type 0} (f : A → V → List ℕ) (fits : A → V → Type 0) (ends : List ℕ → Type 0) (a b : A) (whole : List ℕ)
    → a ≡ b → NoPiece (f a) (fits a) ends whole → NoPiece (f b) (fits b) ends whole
no_piece_at f fits ends a b whole e none = subst (λ x. NoPiece (f x) (fits x) ends whole) e none

pub clusters_each : AreEach saved_cluster IsClusterFor Any
clusters_each = record { one = cluster_one; goes = λ a v r f. tt }

-- ---- values

abbrev pub ValueFits : List ℕ → ℤ → Type 0
ValueFits path num = IsNum num

pub value_front : (path : List ℕ) (num : ℤ) → saved_value path num ≡ path_front (codes "value") path ++ last_text signed_decimal num
value_front path num = value_is path num ∙ path_line_is (codes "value") path signed_decimal num

pub values_each : AreEach saved_value ValueFits Any
values_each = record { one = value_one; goes = λ a v r f. tt }

-- ---- cells

abbrev pub block_line : List ℕ → List ℤ → List ℕ
block_line path nums = saved_line (codes "block") (path ∷ map signed_decimal nums)

pub block_front : (path : List ℕ) (nums : List ℤ) → block_line path nums ≡ path_front (codes "block") path ++ list_text signed_decimal nums
block_front path nums = path_list_is (codes "block") path signed_decimal nums

abbrev pub BlockFits : BlockMembersOf → List ℤ → Type 0
BlockFits m nums = AreNums m.cells nums

pub block_counted : (m : BlockMembersOf) (path whole : List ℕ) (nums : List ℤ) (rest : List ℕ) → path ≡ m.path → IsPiece (block_line path) (AllByRecursion IsNum) Any whole nums rest
    → length nums ≡ m.cells → IsPiece (saved_block m) (BlockFits m) Any whole nums rest
block_counted m path whole nums rest e p many =
    let q = subst (λ (x : List ℕ). IsPiece (block_line x) (AllByRecursion IsNum) Any whole nums rest) e p in
    along_piece (saved_block m) (block_line m.path) (BlockFits m) (AllByRecursion IsNum) Any whole nums nums rest (block_is m nums) (record { many = many; each = q.fit }) q

pub no_block : (m : BlockMembersOf) (path whole : List ℕ) → path ≡ m.path → NoPiece (block_line path) (AllByRecursion IsNum) Any whole → NoPiece (saved_block m) (BlockFits m) Any whole
no_block m path whole e none =
    along_none (λ v. v) (saved_block m) (block_line m.path) (BlockFits m) (AllByRecursion IsNum) Any whole (block_is m) (λ v f. f.each)
    (subst (λ (x : List ℕ). NoPiece (block_line x) (AllByRecursion IsNum) Any whole) e none)

pub block_miscounted : (m : BlockMembersOf) (path whole : List ℕ) (nums : List ℤ) (rest : List ℕ) → path ≡ m.path → IsPiece (block_line path) (AllByRecursion IsNum) Any whole nums rest
    → (length nums ≡ m.cells → ⊥) → NoPiece (saved_block m) (BlockFits m) Any whole
block_miscounted m path whole nums rest e p other ns r q =
    let h = subst (λ (x : List ℕ). IsPiece (block_line x) (AllByRecursion IsNum) Any whole nums rest) e p in
    let one : IsOne (block_line m.path) (AllByRecursion IsNum) Any = path_list_one (codes "block") m.path signed_decimal IsNum num_one in
    let same = one.only nums ns rest r h.fit q.fit.each tt tt (sym h.is ∙ q.is ∙ ap (λ x. x ++ r) (block_is m ns)) in
    other (ap length same.0 ∙ q.fit.many)

pub blocks_each : AreEach saved_block BlockFits Any
blocks_each = record { one = block_one; goes = λ a v r f. tt }
