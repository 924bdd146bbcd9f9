-- The firings of one cluster at a time, entry by entry.
use Rattle.std.proofs.Common.{◌≡◌, ◌∙◌, ℕ, zero, suc, ◌+◌, ◌-◌, ◌<◌, ◌≤◌, Bool, true, false, List, [], ◌∷◌, ◌++◌, Option, Some, None, set, length, nat_eq, if◌then◌else◌, refl, sym, ap, arith, add-one, append-nil}
use Rattle.std.proofs.lemmas.Bool.{ne_eqb, eq-eqb}
use Rattle.std.proofs.lemmas.List.{append_assoc}
use Rattle.std.proofs.lemmas.Option.{slice_get_within}
use Rattle.std.specs.Prelude.{slice_get}
use Rattle.tdf_bind_tables.specs.declared.actors.ActorRow.{ActorRow}
use Rattle.tdf_bind_tables.specs.FlatTables.{FlatTablesOf}
use Rattle.tdf_fixed.specs.declared.raw.Raw.{Raw}
use Rattle.tdf_bind.specs.declared.model.Flat.{Flat}
use Rattle.tdf_streams.proofs.Api.{some_same}
use Rattle.tdf_graph.specs.declared.actors.Actor.{Actor}
use Rattle.tdf_graph.specs.declared.actors.Actor.TheVariants as actor
use Rattle.tdf_sim_history.specs.Instant.{RunFault, all_firings, fired, fired_as, firing, firing_of, is_entry_due, next_entry, plan_length}
use Rattle.tdf_sim_history.specs.World.{ClusterAt, Rules, SinkWrite, World}
use Rattle.tdf_sim_history.proofs.Api.{turns_more, turns_none, turns_past}
use Rattle.tdf_sim_history.specs.History.{Step, Going, Past, turns_to}
use Rattle.tdf_sim_refinement.specs.Firings.{AreDueNext, actor_at_place, after_firings, read_by, reads_after, settled_values, world_after, write_by, writes_after}
use Rattle.tdf_schedule.specs.declared.entry.Entry.{Entry}
use Rattle.tdf_streams.specs.Places.{actor_kind, kind_of_row}
use Rattle.tdf_lang_tree.specs.Pure.{PureTree}

pub get_set_same : {A : Type 0} (xs : List A) (i : ℕ) (x : A) → i < length xs → slice_get (set xs i x) i ≡ Some x
get_set_same [] i x inside = absurd (omega (arith, inside))
get_set_same (y ∷ ys) zero x inside = refl
get_set_same (y ∷ ys) (suc i) x inside = get_set_same ys i x (omega (arith, inside))

set_twice : {A : Type 0} (xs : List A) (i : ℕ) (x y : A) → set (set xs i x) i y ≡ set xs i y
set_twice [] i x y = refl
set_twice (z ∷ zs) zero x y = refl
set_twice (z ∷ zs) (suc i) x y = ap (λ t. z ∷ t) (set_twice zs i x y)

pub set_own : {A : Type 0} (xs : List A) (i : ℕ) (x : A) → slice_get xs i ≡ Some x → set xs i x ≡ xs
set_own [] i x at = refl
set_own (z ∷ zs) zero x at = ap (λ t. t ∷ zs) (sym (some_same z x at))
set_own (z ∷ zs) (suc i) x at = ap (λ t. z ∷ t) (set_own zs i x at)

module _ {K : Type 0} (w : World K) where
  -- a world with these clusters, turns and writes
  abbrev pub with_parts : List ClusterAt → ℕ → List SinkWrite → World K
  with_parts clusters left written = record w { clusters = clusters; left = left; written = written }

  pub parts_same : (a b : List ClusterAt) (l m : ℕ) (x y : List SinkWrite) → a ≡ b → l ≡ m → x ≡ y → with_parts a l x ≡ with_parts b m y
  parts_same a b l m x y p q r = ap (λ t. with_parts t l x) p ∙ ap (λ t. with_parts b t x) q ∙ ap (with_parts b m) r

module _ (tables : FlatTablesOf) (values : List Raw) (time : ℕ) (h : ClusterAt) where
  -- what is due depends on the plan and the place alone
  pub due_same : (o : Option Entry) (k : ℕ) → is_entry_due time (after_firings tables values h k) o ≡ is_entry_due time h o
  due_same None k = refl
  due_same (Some x) k = refl

module _ {K : Type 0} (model : PureTree) (flat : Flat) (rules : Rules K) (time n : ℕ) (h : ClusterAt) (w : World K) (here : slice_get w.clusters n ≡ Some h) where
  abbrev at : (k : ℕ) → ClusterAt
  at k = after_firings flat.tables (settled_values rules w) h k

  abbrev now : (k : ℕ) → World K
  now k = world_after model flat rules n h w k

  is_there : (k : ℕ) → slice_get (now k).clusters n ≡ Some (at k)
  is_there k = get_set_same w.clusters n (at k) (slice_get_within w.clusters n h here)

  -- what a firing leads to
  abbrev fired_world : (m : ℕ) (kind : Option Actor) (k : ℕ) → World K
  fired_world m kind k = with_parts w (set (now k).clusters n (record h { place = h.place + k + 1; reads = read_by flat.tables (settled_values rules w) m kind (at k).reads })) (w.left - k - 1)
      ((now k).written ++ write_by model flat (n + 1) (at k) m kind)

  none_more : (m : ℕ) (reads : List (List Raw)) (k : ℕ) → with_parts w (set (now k).clusters n (record h { place = h.place + k + 1; reads = reads })) (w.left - k - 1) (now k).written
      ≡ with_parts w (set (now k).clusters n (record h { place = h.place + k + 1; reads = reads })) (w.left - k - 1) ((now k).written ++ [])
  none_more m reads k = parts_same w _ _ _ _ _ _ refl refl (sym (append-nil (now k).written))

  fired_kind : (m : ℕ) (kind : Actor) (k : ℕ) → fired_as model flat rules n m kind (at k) (now k) ≡ fired_world m (Some kind) k
  fired_kind m actor.Module k = none_more m (at k).reads k
  fired_kind m actor.Sampler k = none_more m (read_by flat.tables (settled_values rules w) m (Some actor.Sampler) (at k).reads) k
  fired_kind m actor.Sink k = refl

  fired_row : (m : ℕ) (o : Option ActorRow) (k : ℕ) → fired model flat rules n m o (at k) (now k) ≡ fired_world m (kind_of_row o) k
  fired_row m None k = none_more m (at k).reads k
  fired_row m (Some row) k = fired_kind m row.kind k

  -- that is the next world
  cluster_more : (k : ℕ) → record h { place = h.place + k + 1; reads = read_by flat.tables (settled_values rules w) (actor_at_place h k) (actor_kind flat.tables (actor_at_place h k)) (at k).reads } ≡ at (suc k)
  unfolding reads_after
  cluster_more k = let e : h.place + k + 1 ≡ h.place + suc k = omega arith in
      ap (λ (p : ℕ). record h { place = p; reads = reads_after flat.tables (settled_values rules w) h (suc k) }) e

  written_more : (k : ℕ) → (now k).written ++ write_by model flat (n + 1) (at k) (actor_at_place h k) (actor_kind flat.tables (actor_at_place h k)) ≡ (now (suc k)).written
  unfolding writes_after
  written_more k = append_assoc w.written (writes_after model flat (settled_values rules w) (n + 1) h k) (write_by model flat (n + 1) (at k) (actor_at_place h k) (actor_kind flat.tables (actor_at_place h k)))

  world_more : (k : ℕ) → fired_world (actor_at_place h k) (actor_kind flat.tables (actor_at_place h k)) k ≡ now (suc k)
  world_more k = let e : w.left - k - 1 ≡ w.left - suc k = omega arith in
      parts_same w _ _ _ _ _ _ (set_twice w.clusters n (at k) _ ∙ ap (set w.clusters n) (cluster_more k)) e (written_more k)

  world_none : now 0 ≡ w
  unfolding reads_after writes_after
  world_none = let e : h.place + 0 ≡ h.place = omega arith in let l : w.left - 0 ≡ w.left = omega arith in
      parts_same w _ _ _ _ _ _ (ap (λ (p : ℕ). set w.clusters n (record h { place = p })) e ∙ set_own w.clusters n h here) l (append-nil w.written)

  -- one turn
  turn : (k : ℕ) (b c : Bool) → is_entry_due time h (slice_get h.entries (h.place + k)) ≡ b → nat_eq (w.left - k) 0 ≡ c
      → firing model flat rules time n (now k) ≡ (if b then (if c then Past (now k) else Going (now (suc k))) else Going (now k))
  turn k b c due none =
      ap (λ o. firing_of model flat rules time n o (now k)) (is_there k)
      ∙ ap (λ d. if d then (if nat_eq (w.left - k) 0 then Past (now k) else Going (fired model flat rules n (actor_at_place h k) (slice_get flat.tables.actors (actor_at_place h k)) (at k) (now k))) else Going (now k))
      (due_same flat.tables (settled_values rules w) time h (slice_get h.entries (h.place + k)) k ∙ due)
      ∙ ap (λ d. if b then (if d then Past (now k) else Going (fired model flat rules n (actor_at_place h k) (slice_get flat.tables.actors (actor_at_place h k)) (at k) (now k))) else Going (now k)) none
      ∙ ap (λ (v : World K). if b then (if c then Past (now k) else Going v) else Going (now k)) (fired_row (actor_at_place h k) (slice_get flat.tables.actors (actor_at_place h k)) k ∙ world_more k)

  abbrev each : ℕ → World K → Step (World K) RunFault
  each j v = firing model flat rules time n v

  -- as long as entries are due and turns are left
  goes : (j : ℕ) → j ≤ w.left → ((i : ℕ) → i < j → is_entry_due time h (slice_get h.entries (h.place + i)) ≡ true) → turns_to each j w ≡ Going (now j)
  goes zero enough due = turns_none each w ∙ ap Going (sym world_none)
  goes (suc j) enough due =
      ap (λ i. turns_to each i w) (sym (add-one j))
      ∙ turns_more each j w (now j) (Going (now (suc j))) (goes j (omega (arith, enough)) (λ i less. due i (omega (arith, less))))
      (turn j true false (due j (omega arith)) (ne_eqb (w.left - j) 0 (λ e. omega (arith, enough, e))))

  -- and no more where none is due
  stays : (k d : ℕ) → turns_to each k w ≡ Going (now k) → is_entry_due time h (slice_get h.entries (h.place + k)) ≡ false → turns_to each (d + k) w ≡ Going (now k)
  stays k zero before none = let e : 0 + k ≡ k = omega arith in ap (λ i. turns_to each i w) e ∙ before
  stays k (suc d) before none = let e : suc d + k ≡ d + k + 1 = omega arith in
      ap (λ i. turns_to each i w) e ∙ turns_more each (d + k) w (now k) (Going (now k)) (stays k d before none) (turn k false (nat_eq (w.left - k) 0) none refl)

  long : all_firings model flat rules time n w ≡ turns_to each (length h.entries) w
  long = ap (λ o. turns_to each (plan_length o) w) here

  pub due_fire : (k : ℕ) → AreDueNext time k h → k ≤ w.left → all_firings model flat rules time n w ≡ Going (now k)
  due_fire k due enough = let inside = due.within in let e : length h.entries ≡ length h.entries - k + k = omega (arith, inside) in
      long ∙ ap (λ i. turns_to each i w) e ∙ stays k (length h.entries - k) (goes k enough due.due) due.last

  pub few_end : (k : ℕ) → AreDueNext time k h → w.left < k → all_firings model flat rules time n w ≡ Past (now w.left)
  few_end k due few = let inside = due.within in
      long ∙ turns_past each w.left (length h.entries) w (now w.left) (now w.left) (omega (arith, inside, few))
      (goes w.left (omega arith) (λ i less. due.due i (omega (arith, less, few))))
      (let z : w.left - w.left ≡ 0 = omega arith in turn w.left true true (due.due w.left few) (eq-eqb (w.left - w.left) 0 z))

  pub none_fire : is_entry_due time h (next_entry h) ≡ false → all_firings model flat rules time n w ≡ Going w
  none_fire none = let e : h.place + 0 ≡ h.place = omega arith in
      long ∙ ap (λ i. turns_to each i w) (let z : length h.entries ≡ length h.entries + 0 = omega arith in z)
      ∙ stays 0 (length h.entries) (goes 0 (omega arith) (λ i less. absurd (omega (arith, less)))) (ap (λ p. is_entry_due time h (slice_get h.entries p)) e ∙ none)
      ∙ ap Going world_none
