-- A snapshot is read part after part, up to the text of the model.
use Rattle.std.proofs.Common.{◌≡◌, ℕ, ◌<◌, ◌^◌, Bool, List, [], ◌∷◌, ◌++◌, length, ◌∙◌, sym, ap, refl, codes, decimal, append_assoc, subst, Result, Ok, Err, ◌⊎◌, inr}
use Rattle.std.specs.List.{AllZip}
use Rattle.tdf_save.proofs.Api.{along_one, body_parts, cancel, cluster_one, columns_next, count64_one, each_one, kernel_one, last_one, model_is, model_next, one_is, saved_is, snapshot_one, snapshot_text}
use Rattle.tdf_save.specs.Members.{AreNamesApart, IsClusterFor, IsCount64, IsKernelFor, IsSnapshotFor, MembersOf}
use Rattle.tdf_save.specs.Text.{each_text, kind_word, saved_line, saved_cluster, saved_column, saved_head, saved_kernel, saved_model, saved_text}
use Rattle.tdf_save.specs.machine.Pieces.{Any, AnyFlag, IsNext, IsOne}
use Rattle.tdf_save_reading.proofs.ColumnSteps.{ColumnFits}
use Rattle.tdf_save_reading.proofs.HeadSteps.{kind_text_one, run_text_one}
use Rattle.tdf_save_reading.proofs.ModuleReads.{last_text}
use Rattle.tdf_save_reading.proofs.ReadSteps.{along_none, along_piece, no_first, no_second, pair_piece}
use Rattle.tdf_save_reading.specs.Reading.{IsSavedText}
use Rattle.tdf_saved.specs.declared.err.StateErr.{StateErr}
use Rattle.tdf_saved.specs.declared.err.StateErr.TheVariants.{Bad, Memory}
use Rattle.tdf_save_reading.specs.declared.head.Run.{Run}
use Rattle.tdf_save_reading.specs.machine.Heads.{IsModelPart, IsRunInRange, front_text, kind_text, run_text}
use Rattle.tdf_save_reading.specs.machine.Pieces.{IsPiece, IsStateRefusal, NoPiece}
use Rattle.tdf_saved.specs.State.{ClusterStateOf, ColumnStateOf, KernelStateOf, SnapshotOf}

-- ---- the parts

abbrev pub clusters_text : MembersOf → List ClusterStateOf → List ℕ
clusters_text m cs = each_text saved_cluster m.clusters cs

abbrev pub ClustersFit : MembersOf → List ClusterStateOf → Type 0
ClustersFit m cs = AllZip IsClusterFor m.clusters cs

abbrev pub columns_text : MembersOf → List ColumnStateOf → List ℕ
columns_text m ss = each_text saved_column m.columns ss

abbrev pub ColumnsFit : MembersOf → List ColumnStateOf → Type 0
ColumnsFit m ss = AllZip ColumnFits m.columns ss

abbrev Last : Type 0
Last = KernelStateOf × List ColumnStateOf

abbrev last_parts : MembersOf → Last → List ℕ
last_parts m q = saved_kernel m q.0 ++ columns_text m q.1

abbrev LastFit : MembersOf → Last → Type 0
LastFit m q = IsKernelFor m q.0 × ColumnsFit m q.1

abbrev States : Type 0
States = List ClusterStateOf × Last

abbrev states_text : MembersOf → States → List ℕ
states_text m q = clusters_text m q.0 ++ last_parts m q.1

abbrev StatesFit : MembersOf → States → Type 0
StatesFit m q = ClustersFit m q.0 × LastFit m q.1

abbrev Later : Type 0
Later = Run × States

abbrev later_text : MembersOf → Later → List ℕ
later_text m q = run_text q.0 ++ states_text m q.1

abbrev LaterFit : MembersOf → Later → Type 0
LaterFit m q = IsRunInRange q.0 × StatesFit m q.1

abbrev Parts : Type 0
Parts = Bool × Later

abbrev parts_text : MembersOf → Parts → List ℕ
parts_text m q = kind_text q.0 ++ later_text m q.1

abbrev PartsFit : MembersOf → Parts → Type 0
PartsFit m q = AnyFlag q.0 × LaterFit m q.1

run_of : SnapshotOf → Run
run_of s = record { time = s.time; used = s.used; budget = s.budget }

parts_of : SnapshotOf → Parts
parts_of s = (s.vcd, (run_of s, (s.clusters, (s.kernel, s.columns))))

four : (a b c x : List ℕ) → (a ++ (b ++ c)) ++ x ≡ (a ++ b) ++ (c ++ x)
four a b c x = append_assoc a (b ++ c) x ∙ ap (λ y. a ++ y) (append_assoc b c x) ∙ sym (append_assoc a b (c ++ x))

front_is : (m : MembersOf) (s : SnapshotOf) → front_text m s ≡ parts_text m (parts_of s)
unfolding front_text saved_head kind_text run_text parts_of run_of
front_is m s = four (saved_line (codes "saved") (codes "1" ∷ [])) (saved_line (codes "kind") (kind_word s.vcd ∷ []))
    (saved_line (codes "run") (decimal s.time ∷ (decimal s.used ∷ (decimal s.budget ∷ [])))) (states_text m (s.clusters, (s.kernel, s.columns)))

front_fit : (m : MembersOf) (s : SnapshotOf) → IsSnapshotFor m s → PartsFit m (parts_of s)
unfolding parts_of run_of
front_fit m s h = (tt, (record { time = h.time; used = h.used; budget = h.budget }, (h.clusters, (h.kernel, h.columns))))

from_parts : (m : MembersOf) (whole : List ℕ) → NoPiece (parts_text m) (PartsFit m) IsNext whole → NoPiece (front_text m) (IsSnapshotFor m) IsNext whole
from_parts m whole none = along_none parts_of (front_text m) (parts_text m) (IsSnapshotFor m) (PartsFit m) IsNext whole (front_is m) (front_fit m) none

-- ---- a part is missing

pub no_kind_there : (m : MembersOf) (whole : List ℕ) → NoPiece kind_text AnyFlag Any whole → NoPiece (front_text m) (IsSnapshotFor m) IsNext whole
no_kind_there m whole none = from_parts m whole (no_first kind_text (later_text m) AnyFlag (LaterFit m) Any IsNext whole (λ b r f e. tt) none)

after_kind : (m : MembersOf) (whole a : List ℕ) (vcd : Bool) → IsPiece kind_text AnyFlag Any whole vcd a → NoPiece (later_text m) (LaterFit m) IsNext a → NoPiece (front_text m) (IsSnapshotFor m) IsNext whole
after_kind m whole a vcd p none = from_parts m whole (no_second kind_text (later_text m) AnyFlag (LaterFit m) Any IsNext whole a vcd (λ b r f e. tt) kind_text_one p none)

pub no_run : (m : MembersOf) (whole a : List ℕ) (vcd : Bool) → IsPiece kind_text AnyFlag Any whole vcd a → NoPiece run_text IsRunInRange Any a → NoPiece (front_text m) (IsSnapshotFor m) IsNext whole
no_run m whole a vcd p none = after_kind m whole a vcd p (no_first run_text (states_text m) IsRunInRange (StatesFit m) Any IsNext a (λ b r f e. tt) none)

after_run : (m : MembersOf) (whole a b : List ℕ) (vcd : Bool) (run : Run) → IsPiece kind_text AnyFlag Any whole vcd a → IsPiece run_text IsRunInRange Any a run b
    → NoPiece (states_text m) (StatesFit m) IsNext b → NoPiece (front_text m) (IsSnapshotFor m) IsNext whole
after_run m whole a b vcd run p q none = after_kind m whole a vcd p (no_second run_text (states_text m) IsRunInRange (StatesFit m) Any IsNext a b run (λ b r f e. tt) run_text_one q none)

pub no_clusters : (m : MembersOf) (whole a b : List ℕ) (vcd : Bool) (run : Run) → IsPiece kind_text AnyFlag Any whole vcd a → IsPiece run_text IsRunInRange Any a run b
    → NoPiece (clusters_text m) (ClustersFit m) Any b → NoPiece (front_text m) (IsSnapshotFor m) IsNext whole
no_clusters m whole a b vcd run p q none = after_run m whole a b vcd run p q (no_first (clusters_text m) (last_parts m) (ClustersFit m) (LastFit m) Any IsNext b (λ b r f e. tt) none)

clusters_one : (m : MembersOf) → IsOne (clusters_text m) (ClustersFit m) Any
clusters_one m = each_one saved_cluster IsClusterFor Any cluster_one (λ a v r f. tt) m.clusters

after_clusters : (m : MembersOf) (whole a b d : List ℕ) (vcd : Bool) (run : Run) (cs : List ClusterStateOf) → IsPiece kind_text AnyFlag Any whole vcd a → IsPiece run_text IsRunInRange Any a run b
    → IsPiece (clusters_text m) (ClustersFit m) Any b cs d → NoPiece (last_parts m) (LastFit m) IsNext d → NoPiece (front_text m) (IsSnapshotFor m) IsNext whole
after_clusters m whole a b d vcd run cs p q w none = after_run m whole a b vcd run p q
    (no_second (clusters_text m) (last_parts m) (ClustersFit m) (LastFit m) Any IsNext b d cs (λ b r f e. tt) (clusters_one m) w none)

pub no_kernel : (m : MembersOf) (whole a b d : List ℕ) (vcd : Bool) (run : Run) (cs : List ClusterStateOf) → IsPiece kind_text AnyFlag Any whole vcd a → IsPiece run_text IsRunInRange Any a run b
    → IsPiece (clusters_text m) (ClustersFit m) Any b cs d → NoPiece (saved_kernel m) (IsKernelFor m) IsNext d → NoPiece (front_text m) (IsSnapshotFor m) IsNext whole
no_kernel m whole a b d vcd run cs p q w none = after_clusters m whole a b d vcd run cs p q w
    (no_first (saved_kernel m) (columns_text m) (IsKernelFor m) (ColumnsFit m) IsNext IsNext d (columns_next m.columns) none)

pub no_columns : (m : MembersOf) → AreNamesApart m.events → (whole a b d e : List ℕ) (vcd : Bool) (run : Run) (cs : List ClusterStateOf) (k : KernelStateOf) → IsPiece kind_text AnyFlag Any whole vcd a
    → IsPiece run_text IsRunInRange Any a run b → IsPiece (clusters_text m) (ClustersFit m) Any b cs d → IsPiece (saved_kernel m) (IsKernelFor m) IsNext d k e
    → NoPiece (columns_text m) (ColumnsFit m) IsNext e → NoPiece (front_text m) (IsSnapshotFor m) IsNext whole
no_columns m far whole a b d e vcd run cs k p q w z none = after_clusters m whole a b d vcd run cs p q w
    (no_second (saved_kernel m) (columns_text m) (IsKernelFor m) (ColumnsFit m) IsNext IsNext d e k (columns_next m.columns) (kernel_one m far) z none)

-- ---- all parts are there

abbrev pub snapshot_at : Bool → Run → List ClusterStateOf → KernelStateOf → List ColumnStateOf → SnapshotOf
snapshot_at vcd run cs k ss = record { vcd = vcd; time = run.time; used = run.used; budget = run.budget; clusters = cs; kernel = k; columns = ss }

parts_at : (vcd : Bool) (run : Run) (cs : List ClusterStateOf) (k : KernelStateOf) (ss : List ColumnStateOf) → parts_of (snapshot_at vcd run cs k ss) ≡ (vcd, (run, (cs, (k, ss))))
unfolding parts_of run_of
parts_at vcd run cs k ss = refl

pub all_parts : (m : MembersOf) (whole a b d e rest : List ℕ) (vcd : Bool) (run : Run) (cs : List ClusterStateOf) (k : KernelStateOf) (ss : List ColumnStateOf) → IsPiece kind_text AnyFlag Any whole vcd a
    → IsPiece run_text IsRunInRange Any a run b → IsPiece (clusters_text m) (ClustersFit m) Any b cs d → IsPiece (saved_kernel m) (IsKernelFor m) IsNext d k e
    → IsPiece (columns_text m) (ColumnsFit m) IsNext e ss rest → IsPiece (front_text m) (IsSnapshotFor m) IsNext whole (snapshot_at vcd run cs k ss) rest
all_parts m whole a b d e rest vcd run cs k ss p q w z y =
    let four = pair_piece (saved_kernel m) (columns_text m) (IsKernelFor m) (ColumnsFit m) IsNext IsNext d e k ss rest z y in
    let three = pair_piece (clusters_text m) (last_parts m) (ClustersFit m) (LastFit m) Any IsNext b d cs (k, ss) rest w four in
    let two = pair_piece run_text (states_text m) IsRunInRange (StatesFit m) Any IsNext a b run (cs, (k, ss)) rest q three in
    let one = pair_piece kind_text (later_text m) AnyFlag (LaterFit m) Any IsNext whole a vcd (run, (cs, (k, ss))) rest p two in
    along_piece (front_text m) (parts_text m) (IsSnapshotFor m) (PartsFit m) IsNext whole (snapshot_at vcd run cs k ss) (vcd, (run, (cs, (k, ss)))) rest
    (front_is m (snapshot_at vcd run cs k ss) ∙ ap (parts_text m) (parts_at vcd run cs k ss))
    (record { time = q.fit.time; used = q.fit.used; budget = q.fit.budget; clusters = w.fit; kernel = z.fit; columns = y.fit }) one

-- ---- the text of the model

model_front : (model : List ℕ) → saved_model model ≡ codes "text" ++ (last_text decimal (length model) ++ model)
model_front model = model_is model ∙ ap (λ x. x ++ model) (one_is (codes "text") (decimal (length model))) ∙ append_assoc (codes "text") (last_text decimal (length model)) model

pub model_there : (text rest : List ℕ) (size : ℕ) (model : List ℕ) → text ≡ codes "text" ++ rest → IsPiece (last_text decimal) IsCount64 Any rest size model → size ≡ length model → IsModelPart text
model_there text rest size model is p same = record {
  model = model;
  small = subst (λ (n : ℕ). n < 2 ^ 64) same p.fit;
  is = is ∙ ap (λ x. codes "text" ++ x) (p.is ∙ ap (λ n. last_text decimal n ++ model) same) ∙ sym (model_front model);
}

pub no_text : (text : List ℕ) → ((r : List ℕ) → text ≡ codes "text" ++ r → ⊥) → IsModelPart text → ⊥
no_text text none h = none (last_text decimal (length h.model) ++ h.model) (h.is ∙ model_front h.model)

after_text : (text rest : List ℕ) → text ≡ codes "text" ++ rest → (h : IsModelPart text) → IsPiece (last_text decimal) IsCount64 Any rest (length h.model) h.model
after_text text rest is h = record {
  fit = h.small;
  end = tt;
  is = cancel (codes "text") rest (last_text decimal (length h.model) ++ h.model) (sym is ∙ h.is ∙ model_front h.model);
}

pub no_size : (text rest : List ℕ) → text ≡ codes "text" ++ rest → NoPiece (last_text decimal) IsCount64 Any rest → IsModelPart text → ⊥
no_size text rest is none h = none (length h.model) h.model (after_text text rest is h)

pub other_size : (text rest : List ℕ) (size : ℕ) (model : List ℕ) → text ≡ codes "text" ++ rest → IsPiece (last_text decimal) IsCount64 Any rest size model → (size ≡ length model → ⊥) → IsModelPart text → ⊥
other_size text rest size model is p other h =
    let q = after_text text rest is h in
    let same = (last_one decimal IsCount64 count64_one).only size (length h.model) model h.model p.fit q.fit tt tt (sym p.is ∙ q.is) in
    other (same.0 ∙ ap length (sym same.1))

-- ---- the whole

front_is_snapshot : (m : MembersOf) (s : SnapshotOf) → front_text m s ≡ snapshot_text m s
unfolding front_text saved_head snapshot_text body_parts
front_is_snapshot m s = refl

front_one : (m : MembersOf) → AreNamesApart m.events → IsOne (front_text m) (IsSnapshotFor m) IsNext
front_one m far = along_one (λ s. s) (front_text m) (snapshot_text m) (IsSnapshotFor m) (IsSnapshotFor m) IsNext (λ v w e. e) (front_is_snapshot m) (λ v f. f) (snapshot_one m far)

text_is : (m : MembersOf) (model : List ℕ) (s : SnapshotOf) → saved_text m model s ≡ front_text m s ++ saved_model model
text_is m model s = saved_is m model s ∙ ap (λ x. x ++ saved_model model) (sym (front_is_snapshot m s))

pub whole_is : (m : MembersOf) (bytes : List ℕ) (s : SnapshotOf) (rest : List ℕ) → IsPiece (front_text m) (IsSnapshotFor m) IsNext bytes s rest → IsModelPart rest → IsSavedText m bytes s
whole_is m bytes s rest p h = record { model = h.model; small = h.small; is = p.is ∙ ap (λ x. front_text m s ++ x) h.is ∙ sym (text_is m h.model s) }

front_of : (m : MembersOf) (bytes : List ℕ) (s : SnapshotOf) → IsSnapshotFor m s → (h : IsSavedText m bytes s) → IsPiece (front_text m) (IsSnapshotFor m) IsNext bytes s (saved_model h.model)
front_of m bytes s f h = record { fit = f; end = model_next h.model; is = h.is ∙ text_is m h.model s }

-- no snapshot has these bytes
abbrev pub IsNoText : MembersOf → List ℕ → Type 0
IsNoText m bytes = (s : SnapshotOf) → IsSnapshotFor m s → IsSavedText m bytes s → ⊥

pub no_front_there : (m : MembersOf) (bytes : List ℕ) → NoPiece (front_text m) (IsSnapshotFor m) IsNext bytes → IsNoText m bytes
no_front_there m bytes none s f h = none s (saved_model h.model) (front_of m bytes s f h)

pub no_model_there : (m : MembersOf) → AreNamesApart m.events → (bytes : List ℕ) (s : SnapshotOf) (rest : List ℕ) → IsPiece (front_text m) (IsSnapshotFor m) IsNext bytes s rest → (IsModelPart rest → ⊥) → IsNoText m bytes
no_model_there m far bytes s rest p none t f h =
    let q = front_of m bytes t f h in
    let same = (front_one m far).only s t rest (saved_model h.model) p.fit f p.end q.end (sym p.is ∙ q.is) in
    none (record { model = h.model; small = h.small; is = same.1 })

pub only_one : (m : MembersOf) → AreNamesApart m.events → (bytes : List ℕ) (s : SnapshotOf) (rest : List ℕ) → IsPiece (front_text m) (IsSnapshotFor m) IsNext bytes s rest
    → (t : SnapshotOf) → IsSnapshotFor m t → IsSavedText m bytes t → s ≡ t
only_one m far bytes s rest p t f h =
    let q = front_of m bytes t f h in
    ((front_one m far).only s t rest (saved_model h.model) p.fit f p.end q.end (sym p.is ∙ q.is)).0

pub bad_front : (m : MembersOf) (bytes : List ℕ) (e : StateErr) → IsStateRefusal (NoPiece (front_text m) (IsSnapshotFor m) IsNext bytes) e → (r : Result SnapshotOf StateErr) → r ≡ Err e → r ≡ Err Bad → IsNoText m bytes
bad_front m bytes Bad none r a b = no_front_there m bytes none
bad_front m bytes Memory none r a b = absurd (let f : Err Memory ≡ Err Bad = sym a ∙ b in cc)

pub memory_or_none : (m : MembersOf) (bytes : List ℕ) (e : StateErr) → IsStateRefusal (NoPiece (front_text m) (IsSnapshotFor m) IsNext bytes) e → (r : Result SnapshotOf StateErr) → r ≡ Err e
    → (t : SnapshotOf) → IsSnapshotFor m t → IsSavedText m bytes t → (r ≡ Ok t) ⊎ (r ≡ Err Memory)
memory_or_none m bytes Bad none r is t f h = absurd (no_front_there m bytes none t f h)
memory_or_none m bytes Memory none r is t f h = inr is
