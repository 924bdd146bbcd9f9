-- The text of a snapshot is that of one snapshot and one model.
use Rattle.std.proofs.Common.{◌≡◌, ℕ, ◌<◌, ◌^◌, ℤ, Bool, true, false, List, [], ◌∷◌, ◌++◌, length, refl, ◌∙◌, sym, ap, append_assoc, decimal, codes, Option}
use Rattle.std.specs.Fmt.{signed_decimal}
use Rattle.std.specs.List.{AllByRecursion, AllZip, flat_map}
use Rattle.tdf_save.proofs.LineOnes.{path_line_one, three_line_one, two_line_one, word_line_one}
use Rattle.tdf_save.proofs.Numerals.{IsCarry, carry_one, count64_one, kind_one, num_one}
use Rattle.tdf_save.proofs.Ones.{along_one, each_end, each_one, fewer_one, items_one, pair_one, pre_one}
use Rattle.tdf_save.proofs.PartOnes.{cluster_one, kernel_one}
use Rattle.tdf_save.specs.Laws.{SavedIsOne}
use Rattle.tdf_save.specs.Members.{AreNamesApart, IsClusterFor, IsColumnInRange, IsCount64, IsKernelFor, IsNum, IsSnapshotFor, IsStampInRange, MembersOf}
use Rattle.tdf_save.specs.Text.{carry_word, saved_cluster, saved_column, each_text, saved_kernel, kind_word, saved_later, saved_model, saved_sample, saved_head, saved_line, saved_text}
use Rattle.tdf_save.specs.machine.Pieces.{AnyFlag, Any, IsNext, IsOne, begins_with_byte}
use Rattle.tdf_saved.specs.State.{ClusterStateOf, KernelStateOf, ColumnStateOf, SnapshotOf}
use Rattle.tdf_saved.specs.declared.state.Stamp.{Stamp}

-- ---- columns

abbrev StampParts : Type 0
StampParts = ℕ × ℤ

unfoldable pub stamp_parts : Stamp → StampParts
stamp_parts s = (s.time, s.num)

stamp_from : StampParts → Stamp
stamp_from p = record { time = p.0; num = p.1 }

pub sample_is : (s : Stamp) → saved_sample s ≡ saved_line (codes "sample") (decimal (stamp_parts s).0 ∷ (signed_decimal (stamp_parts s).1 ∷ []))
unfolding saved_sample stamp_parts
sample_is s = refl

stamp_same : (v w : Stamp) → stamp_parts v ≡ stamp_parts w → v ≡ w
unfolding stamp_parts stamp_from
stamp_same v w e = ap stamp_from e

pub stamp_fit : (s : Stamp) → IsStampInRange s → IsCount64 (stamp_parts s).0 × IsNum (stamp_parts s).1
unfolding stamp_parts
stamp_fit s h = (h.time, h.num)

pub sample_one : IsOne saved_sample IsStampInRange Any
sample_one = along_one stamp_parts saved_sample (λ (p : StampParts). saved_line (codes "sample") (decimal p.0 ∷ (signed_decimal p.1 ∷ []))) IsStampInRange (λ (p : StampParts). IsCount64 p.0 × IsNum p.1) Any
    stamp_same sample_is stamp_fit (two_line_one (codes "sample") decimal signed_decimal IsCount64 IsNum count64_one num_one)

pub sample_begins : (s : Stamp) (r : List ℕ) → begins_with_byte 115 (saved_sample s ++ r) ≡ true
unfolding saved_sample saved_line
sample_begins s r = refl

pub later_is : (n : ℤ) → saved_later n ≡ saved_line (codes "later") (signed_decimal n ∷ [])
unfolding saved_later
later_is n = refl

pub later_one : IsOne saved_later IsNum Any
later_one = along_one (λ v. v) saved_later (λ n. saved_line (codes "later") (signed_decimal n ∷ [])) IsNum IsNum Any
    (λ v w e. e) later_is (λ v f. f) (word_line_one (codes "later") signed_decimal IsNum num_one)

pub later_begins : (n : ℤ) (r : List ℕ) → begins_with_byte 108 (saved_later n ++ r) ≡ true
unfolding saved_later saved_line
later_begins n r = refl

later_no_sample : (n : ℤ) (r : List ℕ) → begins_with_byte 115 (saved_later n ++ r) ≡ false
unfolding saved_later saved_line
later_no_sample n r = refl

abbrev NoSample : List ℕ → Type 0
NoSample r = Any r × (begins_with_byte 115 r ≡ false)

pub laters_no_sample : (ns : List ℤ) (r : List ℕ) → AllByRecursion IsNum ns → IsNext r → NoSample (flat_map saved_later ns ++ r)
laters_no_sample [] r f e = (tt, e.sample)
laters_no_sample (n ∷ ns) r f e = (tt, ap (begins_with_byte 115) (append_assoc (saved_later n) (flat_map saved_later ns) r) ∙ later_no_sample n (flat_map saved_later ns ++ r))

pub samples_one : IsOne (flat_map saved_sample) (AllByRecursion IsStampInRange) NoSample
samples_one = items_one saved_sample IsStampInRange Any 115 sample_one sample_begins (λ v r f. tt)

pub laters_one : IsOne (flat_map saved_later) (AllByRecursion IsNum) IsNext
laters_one = fewer_one (flat_map saved_later) (AllByRecursion IsNum) (λ r. Any r × (begins_with_byte 108 r ≡ false)) IsNext (λ r e. (tt, e.later))
    (items_one saved_later IsNum Any 108 later_one later_begins (λ v r f. tt))

abbrev ColumnParts : Type 0
ColumnParts = Option ℤ × (List Stamp × List ℤ)

unfoldable pub column_parts : ColumnStateOf → ColumnParts
column_parts s = (s.carry, (s.samples, s.later))

column_from : ColumnParts → ColumnStateOf
column_from p = record { carry = p.0; samples = p.1.0; later = p.1.1 }

abbrev pub carry_line : List ℕ → Option ℤ → List ℕ
carry_line label carry = saved_line (codes "column") (label ∷ (carry_word carry ∷ []))

abbrev pub column_parts_text : List ℕ → ColumnParts → List ℕ
column_parts_text label p = carry_line label p.0 ++ (flat_map saved_sample p.1.0 ++ flat_map saved_later p.1.1)

abbrev pub ColumnPartsFit : ColumnParts → Type 0
ColumnPartsFit p = IsCarry p.0 × (AllByRecursion IsStampInRange p.1.0 × AllByRecursion IsNum p.1.1)

pub column_is : (label : List ℕ) (s : ColumnStateOf) → saved_column label s ≡ column_parts_text label (column_parts s)
unfolding saved_column column_parts
column_is label s = refl

column_same : (v w : ColumnStateOf) → column_parts v ≡ column_parts w → v ≡ w
unfolding column_parts column_from
column_same v w e = ap column_from e

pub column_fit : (s : ColumnStateOf) → IsColumnInRange s → ColumnPartsFit (column_parts s)
unfolding column_parts
column_fit s h = (h.carry, (h.samples, h.later))

pub column_one : (label : List ℕ) → IsOne (saved_column label) (λ s. IsColumnInRange s) IsNext
column_one label = along_one column_parts (saved_column label) (column_parts_text label) (λ s. IsColumnInRange s) ColumnPartsFit IsNext
    column_same (column_is label) column_fit
    (pair_one (carry_line label) (λ (q : List Stamp × List ℤ). flat_map saved_sample q.0 ++ flat_map saved_later q.1) IsCarry
    (λ (q : List Stamp × List ℤ). AllByRecursion IsStampInRange q.0 × AllByRecursion IsNum q.1) Any IsNext
    (path_line_one (codes "column") label carry_word IsCarry carry_one)
    (pair_one (flat_map saved_sample) (flat_map saved_later) (AllByRecursion IsStampInRange) (AllByRecursion IsNum) NoSample IsNext samples_one laters_one laters_no_sample)
    (λ b r f e. tt))

pub column_next : (label : List ℕ) (s : ColumnStateOf) (r : List ℕ) → IsColumnInRange s → IsNext (saved_column label s ++ r)
unfolding saved_column saved_line
column_next label s r f = record { sample = refl; later = refl; pending = refl }

pub columns_one : (labels : List (List ℕ)) → IsOne (each_text saved_column labels) (AllZip (λ label s. IsColumnInRange s) labels) IsNext
columns_one labels = each_one saved_column (λ label s. IsColumnInRange s) IsNext column_one column_next labels

pub columns_next : (labels : List (List ℕ)) (ss : List ColumnStateOf) (r : List ℕ) → AllZip (λ label s. IsColumnInRange s) labels ss → IsNext r → IsNext (each_text saved_column labels ss ++ r)
columns_next labels ss r f e = each_end saved_column (λ label s. IsColumnInRange s) IsNext column_next labels ss r f e

-- ---- the head

abbrev HeadParts : Type 0
HeadParts = Bool × (ℕ × (ℕ × ℕ))

abbrev kind_line : Bool → List ℕ
kind_line vcd = saved_line (codes "kind") (kind_word vcd ∷ [])

abbrev run_line : ℕ × (ℕ × ℕ) → List ℕ
run_line q = saved_line (codes "run") (decimal q.0 ∷ (decimal q.1.0 ∷ (decimal q.1.1 ∷ [])))

abbrev head_text : HeadParts → List ℕ
head_text p = saved_line (codes "saved") (codes "1" ∷ []) ++ (kind_line p.0 ++ run_line p.1)

abbrev AreCounts : ℕ × (ℕ × ℕ) → Type 0
AreCounts q = IsCount64 q.0 × (IsCount64 q.1.0 × IsCount64 q.1.1)

abbrev HeadFit : HeadParts → Type 0
HeadFit p = AnyFlag p.0 × AreCounts p.1

pub head_one : IsOne head_text HeadFit Any
head_one = pre_one (saved_line (codes "saved") (codes "1" ∷ [])) (λ (p : HeadParts). kind_line p.0 ++ run_line p.1) HeadFit Any
    (pair_one kind_line run_line AnyFlag AreCounts Any Any
    (word_line_one (codes "kind") kind_word AnyFlag kind_one)
    (three_line_one (codes "run") decimal decimal decimal IsCount64 IsCount64 IsCount64 count64_one count64_one count64_one) (λ b r f e. tt))

-- ---- the whole

abbrev BodyParts : Type 0
BodyParts = HeadParts × (List ClusterStateOf × (KernelStateOf × List ColumnStateOf))

unfoldable pub body_parts : SnapshotOf → BodyParts
body_parts s = ((s.vcd, (s.time, (s.used, s.budget))), (s.clusters, (s.kernel, s.columns)))

body_from : BodyParts → SnapshotOf
body_from p = record { vcd = p.0.0; time = p.0.1.0; used = p.0.1.1.0; budget = p.0.1.1.1; clusters = p.1.0; kernel = p.1.1.0; columns = p.1.1.1 }

abbrev body_text : MembersOf → BodyParts → List ℕ
body_text m p = head_text p.0 ++ (each_text saved_cluster m.clusters p.1.0 ++ (saved_kernel m p.1.1.0 ++ each_text saved_column m.columns p.1.1.1))

abbrev BodyFit : MembersOf → BodyParts → Type 0
BodyFit m p = HeadFit p.0 × (AllZip IsClusterFor m.clusters p.1.0 × (IsKernelFor m p.1.1.0 × AllZip (λ label s. IsColumnInRange s) m.columns p.1.1.1))

body_one : (m : MembersOf) → AreNamesApart m.events → IsOne (body_text m) (BodyFit m) IsNext
body_one m far =
    pair_one head_text (λ (q : List ClusterStateOf × (KernelStateOf × List ColumnStateOf)). each_text saved_cluster m.clusters q.0 ++ (saved_kernel m q.1.0 ++ each_text saved_column m.columns q.1.1)) HeadFit
    (λ (q : List ClusterStateOf × (KernelStateOf × List ColumnStateOf)). AllZip IsClusterFor m.clusters q.0 × (IsKernelFor m q.1.0 × AllZip (λ label s. IsColumnInRange s) m.columns q.1.1)) Any IsNext
    head_one
    (pair_one (each_text saved_cluster m.clusters) (λ (q : KernelStateOf × List ColumnStateOf). saved_kernel m q.0 ++ each_text saved_column m.columns q.1) (AllZip IsClusterFor m.clusters)
    (λ (q : KernelStateOf × List ColumnStateOf). IsKernelFor m q.0 × AllZip (λ label s. IsColumnInRange s) m.columns q.1) Any IsNext
    (each_one saved_cluster IsClusterFor Any cluster_one (λ a v r f. tt) m.clusters)
    (pair_one (saved_kernel m) (each_text saved_column m.columns) (IsKernelFor m) (AllZip (λ label s. IsColumnInRange s) m.columns) IsNext IsNext
    (kernel_one m far) (columns_one m.columns) (columns_next m.columns)) (λ b r f e. tt)) (λ b r f e. tt)

-- the text up to that of the model
unfoldable pub snapshot_text : MembersOf → SnapshotOf → List ℕ
snapshot_text m s = body_text m (body_parts s)

snapshot_same : (v w : SnapshotOf) → body_parts v ≡ body_parts w → v ≡ w
unfolding body_parts body_from
snapshot_same v w e = ap body_from e

snapshot_fit : (m : MembersOf) (s : SnapshotOf) → IsSnapshotFor m s → BodyFit m (body_parts s)
unfolding body_parts
snapshot_fit m s h = ((tt, (h.time, (h.used, h.budget))), (h.clusters, (h.kernel, h.columns)))

snapshot_is : (m : MembersOf) (s : SnapshotOf) → snapshot_text m s ≡ body_text m (body_parts s)
unfolding snapshot_text
snapshot_is m s = refl

pub snapshot_one : (m : MembersOf) → AreNamesApart m.events → IsOne (snapshot_text m) (IsSnapshotFor m) IsNext
snapshot_one m far = along_one body_parts (snapshot_text m) (body_text m) (IsSnapshotFor m) (BodyFit m) IsNext
    snapshot_same (snapshot_is m) (snapshot_fit m) (body_one m far)

-- ---- and the text of the model

four : (a b c d e : List ℕ) → a ++ (b ++ (c ++ (d ++ e))) ≡ (a ++ (b ++ (c ++ d))) ++ e
four a b c d e = sym (append_assoc a (b ++ (c ++ d)) e ∙ ap (λ x. a ++ x) (append_assoc b (c ++ d) e ∙ ap (λ x. b ++ x) (append_assoc c d e)))

pub saved_is : (m : MembersOf) (model : List ℕ) (s : SnapshotOf) → saved_text m model s ≡ snapshot_text m s ++ saved_model model
unfolding saved_text saved_head snapshot_text body_parts
saved_is m model s = four (saved_head s) (each_text saved_cluster m.clusters s.clusters) (saved_kernel m s.kernel) (each_text saved_column m.columns s.columns) (saved_model model)

pub model_next : (model : List ℕ) → IsNext (saved_model model)
unfolding saved_model saved_line
model_next model = record { sample = refl; later = refl; pending = refl }

pub model_is : (model : List ℕ) → saved_model model ≡ saved_line (codes "text") (decimal (length model) ∷ []) ++ model
unfolding saved_model
model_is model = refl

abbrev text_line : ℕ → List ℕ
text_line n = saved_line (codes "text") (decimal n ∷ [])

pub model_same : (x y : List ℕ) → length x < 2 ^ 64 → length y < 2 ^ 64 → saved_model x ≡ saved_model y → x ≡ y
model_same x y p q e =
    let one = word_line_one (codes "text") decimal IsCount64 count64_one in
    let cut = one.only (length x) (length y) x y p q tt tt (sym (model_is x) ∙ e ∙ model_is y) in
    cut.1

pub saved_is_one : SavedIsOne
saved_is_one m x y s t far f g p q e =
    let one = snapshot_one m far in
    let cut = one.only s t (saved_model x) (saved_model y) f g (model_next x) (model_next y) (sym (saved_is m x s) ∙ e ∙ saved_is m y t) in
    (cut.0, model_same x y p q cut.1)
