-- Nothing is due in the world that a valid snapshot says before its time.
use Rattle.std.proofs.Common.{◌≡◌, ◌∙◌, ℕ, zero, suc, ◌+◌, ◌<◌, ◌≤◌, Bool, true, false, ◌&&◌, not, nat_eq, nat_lt, if◌then◌else◌, List, [], ◌∷◌, Option, Some, None, length, map, slice_get, inl, inr, refl, sym, ap, arith}
use Rattle.std.proofs.lemmas.Bool.{and_right, cases_lt, le-ltb, lt-ltb, ltb-false, ne_eqb, or_from, or_left}
use Rattle.std.proofs.lemmas.List.Sums.{sum_by-cons}
use Rattle.std.specs.List.{count_by, list_any, range_with_len}
use Rattle.std.specs.Prelude.{cond, slice_index_or}
use Rattle.tdf_bind.specs.declared.model.Flat.{Flat}
use Rattle.tdf_bind_connections.specs.ProcessBlocks.{ProcessRowOf}
use Rattle.tdf_dynamic_first.specs.declared.first.First.{First}
use Rattle.tdf_events.specs.Delta.{is_due, is_idle}
use Rattle.tdf_events.specs.Side.{SideOf}
use Rattle.tdf_events.specs.State.{IsKernelState, resumed_side, time_pending}
use Rattle.tdf_events_queue.specs.Sets.{count_on}
use Rattle.tdf_sim_refinement.specs.Below.{IsStateUnder, due_before}
use Rattle.tdf_lang_tree.specs.Pure.{PureTree}
use Rattle.tdf_saved.specs.State.{ClusterStateOf, KernelStateOf, SnapshotOf}
use Rattle.tdf_saved.specs.declared.state.Pending.{Pending}
use Rattle.tdf_schedule.specs.Plan.{is_earlier}
use Rattle.tdf_schedule.specs.declared.entry.Entry.{Entry}
use Rattle.tdf_sim_history.proofs.Api.{skipped, starts}
use Rattle.tdf_sim_history.specs.History.{history}
use Rattle.tdf_sim_history.specs.Instant.{is_cluster_due, is_entry_due, is_over, next_entry}
use Rattle.tdf_sim_history.specs.Rules.{is_side_due, world_engine}
use Rattle.tdf_sim_history.specs.World.{Change, ClusterAt, World}
use Rattle.tdf_sim_resumed.proofs.Members.{resumed_at}
use Rattle.tdf_sim_resumed.specs.Laws.{NoneIsDueBefore, StandsStill}
use Rattle.tdf_sim_resumed.specs.Resuming.{resumed_cluster, resumed_clusters}
use Rattle.tdf_sim_resumed.specs.Starting.{resumed_world}
use Rattle.tdf_sim_resumed.specs.Valid.{ArePlansOf}
use Rattle.tdf_streams.proofs.Api.{none_some, some_same}

abbrev weight : Bool → ℕ
weight b = cond b 1 0

apart : (b : Bool) → b ≡ true → b ≡ false → ⊥
apart b on off = absurd cc

-- ---- what is due is at the front of a plan

-- where those that pass come before those that don't, the one after as many as pass doesn't
module _ {X : Type 0} (p : X → Bool) where
  head_passes : (x : X) (xs : List X) → ((i j : ℕ) (a b : X) → i < j → slice_get (x ∷ xs) i ≡ Some a → slice_get (x ∷ xs) j ≡ Some b → p b ≡ true → p a ≡ true)
      → (k : ℕ) (y : X) → slice_get (x ∷ xs) k ≡ Some y → p y ≡ true → p x ≡ true
  head_passes x xs mono zero y at passes = ap p (some_same x y at) ∙ passes
  head_passes x xs mono (suc k) y at passes = mono 0 (suc k) x y (omega arith) refl at passes

  pub front_ends : (xs : List X) (y : X) → ((i j : ℕ) (a b : X) → i < j → slice_get xs i ≡ Some a → slice_get xs j ≡ Some b → p b ≡ true → p a ≡ true)
      → slice_get xs (count_by p xs) ≡ Some y → p y ≡ false
  front_ends [] y mono at = none_some y at
  front_ends (x ∷ xs) y mono at =
      go (λ rest. front_ends xs y (λ i j a b less a_at b_at passes. mono (suc i) (suc j) a b (omega (arith, less)) a_at b_at passes) rest) (p x) refl
    where
      total : count_by p (x ∷ xs) ≡ weight (p x) + count_by p xs
      total = sum_by-cons (λ z. cond (p z) 1 0) x xs

      last : p x ≡ false → (b : Bool) → p y ≡ b → p y ≡ false
      last is true passes = absurd (apart (p x) (head_passes x xs mono (count_by p (x ∷ xs)) y at passes) is)
      last is false fails = fails

      go : (slice_get xs (count_by p xs) ≡ Some y → p y ≡ false) → (b : Bool) → p x ≡ b → p y ≡ false
      go later true is =
          let one : weight (p x) ≡ 1 = ap weight is in
          let n : count_by p (x ∷ xs) ≡ suc (count_by p xs) = omega (arith, total, one) in
          later (sym (ap (slice_get (x ∷ xs)) n) ∙ at)
      go later false is = last is (p y) refl

-- ---- clusters

module _ (flat : Flat) (number time : ℕ) (first : First) (s : ClusterStateOf) (state : IsStateUnder flat number s time first.attrs.rows first.plan) where
  abbrev is_before : Entry → Bool
  is_before x = nat_lt (s.start + x.offset) time

  offsets_rise : (i j : ℕ) (x y : Entry) → i < j → slice_get first.plan.entries.items i ≡ Some x → slice_get first.plan.entries.items j ≡ Some y → x.offset ≤ y.offset
  offsets_rise i j x y less x_at y_at = go (nat_lt y.offset x.offset) refl
    where
      go : (b : Bool) → nat_lt y.offset x.offset ≡ b → x.offset ≤ y.offset
      go true below = absurd (apart (is_earlier y x) (or_left (nat_lt y.offset x.offset) _ below) (state.planned.plan_is.planned.planned.sorted i j x y less x_at y_at))
      go false above = ltb-false y.offset x.offset above

  before_rise : (i j : ℕ) (x y : Entry) → i < j → slice_get first.plan.entries.items i ≡ Some x → slice_get first.plan.entries.items j ≡ Some y → is_before y ≡ true → is_before x ≡ true
  before_rise i j x y less x_at y_at before = elim (cases_lt (s.start + y.offset) time) [
    | inl below ↦ (let rise = offsets_rise i j x y less x_at y_at in lt-ltb (s.start + x.offset) time (omega (arith, rise, below)))
    | inr past ↦ absurd (apart (is_before y) before (le-ltb (s.start + y.offset) time past))
  ]

  -- the entry at the place isn't due before the time
  entry_later : (t : ℕ) → t < time → (o : Option Entry) → slice_get first.plan.entries.items (due_before s.start time first.plan.entries.items) ≡ o → (c : ClusterAt) → c.since ≡ s.start → is_entry_due t c o ≡ false
  entry_later t low None at c since = refl
  entry_later t low (Some x) at c since =
      let ends = front_ends is_before first.plan.entries.items x before_rise at in
      elim (cases_lt (s.start + x.offset) time) [
        | inl below ↦ absurd (apart (is_before x) (lt-ltb (s.start + x.offset) time below) ends)
        | inr past ↦ ne_eqb t (c.since + x.offset) (λ e. omega (arith, e, since, past, low))
      ]

  period_later : (t : ℕ) → t < time → nat_eq t (s.start + first.plan.period) ≡ false
  period_later t low = elim state.inside [
    | inl begin ↦ absurd (let z = begin.1 in omega (arith, z, low))
    | inr inside ↦ ne_eqb t (s.start + first.plan.period) (λ e. let up = inside.1 in omega (arith, e, up, low))
  ]

  pub cluster_later : (model : PureTree) (ahead : List Change) (t : ℕ) → t < time → is_cluster_due t (resumed_cluster model flat number time first s ahead) ≡ false
  cluster_later model ahead t low = or_from (is_over t here) (is_entry_due t here (next_entry here))
      (and_right (nat_eq here.place (length here.entries)) (nat_eq t (s.start + first.plan.period)) (period_later t low)) (entry_later t low (next_entry here) refl here refl)
    where
      here : ClusterAt
      here = resumed_cluster model flat number time first s ahead

-- ---- the event side

-- no event is to come before the notifications of a list
one_off : (t : ℕ) (list : List Pending) → ((i : ℕ) (p : Pending) → slice_get list i ≡ Some p → t < p.time) → (event : ℕ) → is_due t (time_pending list event) ≡ false
unfolding time_pending
one_off t [] later event = refl
one_off t (p ∷ ps) later event = go (nat_eq p.event event) (one_off t ps (λ i q at. later (suc i) q at) event)
  where
    go : (b : Bool) → is_due t (time_pending ps event) ≡ false → is_due t (if b then Some p.time else time_pending ps event) ≡ false
    go true rest = ne_eqb p.time t (λ e. let l = later 0 p refl in omega (arith, e, l))
    go false rest = rest

pending_off : (t : ℕ) (list : List Pending) → ((i : ℕ) (p : Pending) → slice_get list i ≡ Some p → t < p.time) → (events : List ℕ) → list_any (is_due t) (map (time_pending list) events) ≡ false
pending_off t list later [] = refl
pending_off t list later (e ∷ es) = or_from (is_due t (time_pending list e)) (list_any (is_due t) (map (time_pending list) es)) (one_off t list later e) (pending_off t list later es)

idle_off : (time : ℕ) (rows : List ProcessRowOf) → 0 < time → count_on (map (λ (row : ProcessRowOf). nat_eq time 0 && row.starts) rows) ≡ 0
idle_off time [] some = refl
idle_off time (row ∷ rows) some =
    let s : count_on (map (λ (r : ProcessRowOf). nat_eq time 0 && r.starts) (row ∷ rows)) ≡ weight (nat_eq time 0 && row.starts) + count_on (map (λ (r : ProcessRowOf). nat_eq time 0 && r.starts) rows)
    = sum_by-cons (λ z. cond z 1 0) (nat_eq time 0 && row.starts) (map (λ (r : ProcessRowOf). nat_eq time 0 && r.starts) rows) in
    let z : weight (nat_eq time 0 && row.starts) ≡ 0 = ap (λ b. weight (b && row.starts)) (ne_eqb time 0 (λ e. omega (arith, e, some))) in
    let r = idle_off time rows some in omega (arith, s, z, r)

pub side_later : (flat : Flat) (time : ℕ) (s : KernelStateOf) → IsKernelState flat time s → (t : ℕ) → t < time → is_side_due (resumed_side flat time s) t ≡ false
side_later flat time s state t low = or_from (not (is_idle (resumed_side flat time s))) (list_any (is_due t) (resumed_side flat time s).notices.times)
    (ap (λ n. not (nat_eq n 0)) (idle_off time flat.tables.processes (omega (arith, low))))
    (pending_off t s.pending (λ i p at. (let e = (state.pending.each i p at).from in omega (arith, e, low))) (range_with_len 0 (length flat.tables.events)))

-- ---- the world

none_of : (t : ℕ) (cs : List ClusterAt) → ((n : ℕ) (c : ClusterAt) → slice_get cs n ≡ Some c → is_cluster_due t c ≡ false) → list_any (is_cluster_due t) cs ≡ false
none_of t [] each = refl
none_of t (c ∷ cs) each = or_from (is_cluster_due t c) (list_any (is_cluster_due t) cs) (each 0 c refl) (none_of t cs (λ n d at. each (suc n) d at))

-- where its clusters have plans, and on its event side nothing is
pub none_due : (model : PureTree) (flat : Flat) (firsts : List First) (s : SnapshotOf) (ahead : List (List Change)) (t : ℕ) → ArePlansOf flat s firsts → is_side_due (resumed_side flat s.time s.kernel) t ≡ false → t < s.time
    → (world_engine model flat).is_due (resumed_world model flat firsts s ahead) t ≡ false
none_due model flat firsts s ahead t are side low = or_from (list_any (is_cluster_due t) (resumed_clusters model flat firsts s ahead)) (is_side_due (resumed_side flat s.time s.kernel) t)
    (none_of t (resumed_clusters model flat firsts s ahead) (λ n c at. (
    let r = resumed_at model flat firsts s ahead n c at in
    ap (is_cluster_due t) r.is ∙ cluster_later flat (n + 1) s.time r.first r.state (are.each n r.first r.state r.first_at r.state_at) model (slice_index_or ahead n []) t low))) side

pub none_due_before : NoneIsDueBefore
none_due_before model flat firsts s ahead t valid low = none_due model flat firsts s ahead t valid.clusters (side_later flat s.time s.kernel valid.kernel t low) low

pub still : StandsStill
still model flat firsts s ahead time valid low =
    let e : time + 0 ≡ time = omega arith in
    let w : World SideOf = resumed_world model flat firsts s ahead in
    ap (history (world_engine model flat) 0 w) (sym e) ∙ skipped (world_engine model flat) 0 w 0 w time (starts (world_engine model flat) 0 w)
    (λ t from high. none_due_before model flat firsts s ahead t valid (omega (arith, high, low)))
