-- The boundaries of all clusters at one time, one after the other, and what the history is told of each.
use Rattle.std.proofs.Common.{◌≡◌, ◌≢◌, ◌⊎◌, ◌∙◌, ◌&&◌, ℕ, zero, suc, ◌+◌, ◌-◌, ◌<◌, ◌≤◌, Bool, true, false, List, [], ◌∷◌, ◌++◌, Option, Some, option_map, None, set, length, length-set, nat_eq, if◌then◌else◌, slice_get, inl, inr, refl, sym, ap, subst, arith, add-one}
use Rattle.std.specs.List.{All}
use Rattle.std.specs.Prelude.{drop, is_none, slice_index_or}
use Rattle.std.proofs.lemmas.Bool.{cases_lt, eq-eqb, ne_eqb}
use Rattle.std.proofs.lemmas.List.{append-nil}
use Rattle.std.proofs.lemmas.List.Elements.{All-append, All-cons, All-head, All-nil, All-tail}
use Rattle.std.proofs.lemmas.Option.{slice_get_past, slice_get_within}
use Rattle.tdf_sim_instants.proofs.ToldAt.{nothing_told, set_told, told_at, told_get, told_here, told_long}
use Rattle.tdf_sim_instants.specs.Crossing.{CrossingOf, EndingAt, HasCrossedBoundary, HasEnding, HasGoneOn, HasNoTurn, HasStopped, HaveCrossed, IsEndingOf, is_ending, is_new, planned_if}
use Rattle.tdf_sim_instants.specs.CrossingLaws.{AreToldAt, Becomes, CrossesAlong, CrossingEndsSpent, CrossingEndsStopped, CrossingGoesAlong, CrossingIsSpent, CrossingStops, HavePlansOf, rows_in, world_crossed}
use Rattle.tdf_base.specs.declared.faults.Fault.{Fault}
use Rattle.tdf_bind_tables.specs.FlatTables.{FlatTablesOf}
use Rattle.tdf_dynamic.specs.Change.{asks_of}
use Rattle.tdf_dynamic.specs.declared.next.Next.{Next}
use Rattle.tdf_dynamic.specs.declared.next.Next.TheVariants as answer
use Rattle.tdf_dynamic_plans.specs.Attributes.{AttrsOf}
use Rattle.tdf_sim_refinement.specs.Below.{AreCellsOf, ClusterOf, next_offset, offset_in, values_at}
use Rattle.tdf_expr.specs.Checked.{IsCheckedOf}
use Rattle.tdf_bind.specs.declared.model.Flat.{Flat}
use Rattle.tdf_bind_invariants.specs.Limits.{AreWithinLimits}
use Rattle.tdf_streams.proofs.Api.{get_inside, some_same}
use Rattle.tdf_sim_refinement.proofs.Api.{true_false, boundary_at, get_set_other, get_set_same, new_record, same_or_not, set_is, set_own, answers_are_told}
use Rattle.tdf_sim_history.specs.Answers.{AreFirstAnswers, HasTurn, IsAnswer, OfClusters, OfFirst}
use Rattle.tdf_sim_history.specs.Instant.{RunFault, at_begin, boundary, boundary_of, changed_by, is_over, with_cluster, with_same}
use Rattle.tdf_sim_history.specs.Telling.{IsTold, all_told, step_as, told_more, world_told}
use Rattle.tdf_sim_history.specs.Texts.{left_by, plan_of}
use Rattle.tdf_sim_history.specs.World.{Change, ClusterAt, New, Refused, Rules, Same, World, next_change}
use Rattle.tdf_sim_history.proofs.Api.{boundaries_by, turns_by, first_answers, first_told, turns_told, told_twice, turns_more, turns_none, turns_past, turns_fault}
use Rattle.tdf_sim_history.specs.History.{Step, Fault as Faulted, Going, Past, turns_to}
use Rattle.tdf_sim_refinement.specs.At.{IsAt}
use Rattle.tdf_sim_refinement.specs.Boundary.{HasAnswered, after_change, change_of}
use Rattle.tdf_sim_refinement.specs.Pass.{AreAt}
use Rattle.tdf_streams.specs.Periods.{AreAttributes}
use Rattle.tdf_lang_tree.specs.Pure.{PureTree}
use Rattle.tdf_sim_history.specs.Continuing.{HasToldCounts}

-- a cluster has no next entry where its place is the end of its plan
none_at_end : (c : ClusterOf) → c.place ≤ length c.entries → is_none (next_offset c) ≡ nat_eq c.place (length c.entries)
none_at_end c within = elim (cases_lt c.place (length c.entries)) [
  | inl inside ↦ (let x = get_inside c.entries c.place inside in ap (λ o. is_none (offset_in o)) x.1 ∙ sym (ne_eqb c.place (length c.entries) (λ e. omega (arith, inside, e))))
  | inr past ↦ ap (λ o. is_none (offset_in o)) (slice_get_past c.entries c.place past) ∙ sym (eq-eqb c.place (length c.entries) (omega (arith, within, past)))
]

-- the period of a cluster ends when the history says so
pub ending_over : (model : PureTree) (flat : Flat) (number time s : ℕ) (h : ClusterAt) (c : ClusterOf) → IsAt model flat number h c → s ≡ h.since → is_ending time s c ≡ is_over time h
ending_over model flat number time s h c at since =
    ap (λ b. b && nat_eq time (s + c.period)) (none_at_end c at.of.within)
    ∙ ap (λ p. nat_eq p (length c.entries) && nat_eq time (s + c.period)) at.place_is
    ∙ ap (λ l. nat_eq h.place (length l) && nat_eq time (s + c.period)) at.entries_are
    ∙ ap (λ p. nat_eq h.place (length h.entries) && nat_eq time (s + p)) at.time_is
    ∙ ap (λ p. nat_eq h.place (length h.entries) && nat_eq time (p + h.now.info.period)) since

-- the boundary of one cluster in the history
module _ {K : Type 0} (flat : Flat) (time n : ℕ) (h : ClusterAt) (v : World K) (here : slice_get v.clusters n ≡ Some h) where
  abbrev if_over : Bool → Step (World K) RunFault
  if_over b = if b then (if nat_eq v.left 0 then Past v else changed_by flat.tables time n h (next_change h) v) else Going v

  abbrev if_none : Bool → Step (World K) RunFault
  if_none b = if b then Past v else changed_by flat.tables time n h (next_change h) v

  at_it : (b : Bool) → is_over time h ≡ b → boundary flat.tables time n v ≡ if_over b
  at_it b over = ap (λ o. boundary_of flat.tables time n o v) here ∙ ap if_over over

  pub goes_on : is_over time h ≡ false → boundary flat.tables time n v ≡ Going v
  goes_on going = at_it false going

  pub changes : (change : Change) → next_change h ≡ change → is_over time h ≡ true → 0 < v.left → boundary flat.tables time n v ≡ changed_by flat.tables time n h change v
  changes change told over some = at_it true over ∙ ap if_none (ne_eqb v.left 0 (λ e. omega (arith, some, e)))
      ∙ ap (λ x. changed_by flat.tables time n h x v) told

  pub without_turn : is_over time h ≡ true → v.left ≡ 0 → boundary flat.tables time n v ≡ Past v
  without_turn over none = at_it true over ∙ ap if_none (eq-eqb v.left 0 none)

pub turn_in : (flat : Flat) (time n : ℕ) (x y : CrossingOf) → HasEnding flat time n x y → (turn : EndingAt) × IsEndingOf n x y turn
turn_in flat time n x y (HasEnding.Open turn is going planned) = (turn, is)
turn_in flat time n x y (HasEnding.Over turn new is over planned) = (turn, is)

module _ (flat : Flat) (time : ℕ) (x : CrossingOf) where
  -- the clusters to come are as they were, and so are their starts
  pub still_to_come : (n : ℕ) (y : CrossingOf) → HaveCrossed flat time n x y → (m : ℕ) → n ≤ m → (slice_get y.clusters m ≡ slice_get x.clusters m) × (slice_get y.since m ≡ slice_get x.since m)
  unfolding HaveCrossed
  still_to_come zero y passed m low = (ap (λ (z : CrossingOf). slice_get z.clusters m) passed, ap (λ (z : CrossingOf). slice_get z.since m) passed)
  still_to_come (suc n) y passed m low =
      let t = turn_in flat time n passed.0 y passed.2 in
      let before = still_to_come n passed.0 passed.1 m (omega (arith, low)) in (
        ap (λ l. slice_get l m) t.1.after ∙ get_set_other passed.0.clusters n m t.0.after (λ e. omega (arith, low, e)) ∙ before.0,
        ap (λ l. slice_get l m) t.1.begun ∙ get_set_other passed.0.since n m t.0.begun (λ e. omega (arith, low, e)) ∙ before.1,
      )

-- a change that modules ask for is told with its counts
counts_told : (model : PureTree) (flat : Flat) (c : ClusterOf) (change : Change) → IsCheckedOf model flat.checked → HasAnswered flat c change → HasToldCounts change
counts_told model flat c (Same table) checked answered = tt
counts_told model flat c (Refused fault) checked answered = tt
counts_told model flat c (New table counts period entries bounds) checked answered =
    let own : AreCellsOf c (values_at c.runners) = record { each = λ i attrs at. refl } in
    let leads = answered.leads model (values_at c.runners) checked own in
    let after = answered.after model (values_at c.runners) checked own in
    (new_record flat c.number (asks_of model flat (values_at c.runners)) c.table table counts period entries bounds
    (subst (AreAttributes flat c.number) (sym leads.table_is) after) leads).counts_are

counts_at : (n : ℕ) (change : Change) → HasToldCounts change → All (All HasToldCounts) (told_at n change)
counts_at zero change counts = All-cons (All HasToldCounts) (change ∷ []) [] (All-cons HasToldCounts change [] counts (All-nil HasToldCounts)) (All-nil (All HasToldCounts))
counts_at (suc n) change counts = All-cons (All HasToldCounts) [] (told_at n change) (All-nil HasToldCounts) (counts_at n change counts)

pub counts_all : (one other : List (List Change)) → All (All HasToldCounts) one → All (All HasToldCounts) other → All (All HasToldCounts) (all_told one other)
counts_all [] other these those = those
counts_all (a ∷ one) [] these those = these
counts_all (a ∷ one) (b ∷ other) these those =
    All-cons (All HasToldCounts) (a ++ b) (all_told one other)
    (All-append HasToldCounts a b (All-head (All HasToldCounts) a one these) (All-head (All HasToldCounts) b other those))
    (counts_all one other (All-tail (All HasToldCounts) a one these) (All-tail (All HasToldCounts) b other those))

-- one of them has changed, and the start of its period
module _ (model : PureTree) (flat : Flat) (since : List ℕ) (hs : List ClusterAt) (cs : List ClusterOf) (all : AreAt model flat since hs cs) (n : ℕ) (h after : ClusterAt) (c d : ClusterOf) (s t : ℕ)
    (h_at : slice_get hs n ≡ Some h) (c_at : slice_get cs n ≡ Some c) (s_at : slice_get since n ≡ Some s) (at : IsAt model flat (n + 1) after d) (begins : t ≡ after.since) where
  each_at : (m : ℕ) (g : ClusterAt) (b : ClusterOf) → (m ≡ n) ⊎ (m ≢ n) → slice_get (set hs n after) m ≡ Some g → slice_get (set cs n d) m ≡ Some b → IsAt model flat (m + 1) g b
  each_at m g b (inl same) g_at b_at =
      subst (λ k. IsAt model flat (k + 1) g b) (sym same)
      (subst (λ z. IsAt model flat (n + 1) z b) (set_is hs n m after g (slice_get_within hs n h h_at) same g_at)
      (subst (λ z. IsAt model flat (n + 1) after z) (set_is cs n m d b (slice_get_within cs n c c_at) same b_at) at))
  each_at m g b (inr apart) g_at b_at = all.each m g b (sym (get_set_other hs n m after apart) ∙ g_at) (sym (get_set_other cs n m d apart) ∙ b_at)

  begun_at : (m r : ℕ) (g : ClusterAt) → (m ≡ n) ⊎ (m ≢ n) → slice_get (set hs n after) m ≡ Some g → slice_get (set since n t) m ≡ Some r → r ≡ g.since
  begun_at m r g (inl same) g_at r_at = sym (set_is since n m t r (slice_get_within since n s s_at) same r_at) ∙ begins
      ∙ ap (λ (z : ClusterAt). z.since) (set_is hs n m after g (slice_get_within hs n h h_at) same g_at)
  begun_at m r g (inr apart) g_at r_at = all.begun m r g (sym (get_set_other hs n m after apart) ∙ g_at) (sym (get_set_other since n m t apart) ∙ r_at)

  are_at_begun : AreAt model flat (set since n t) (set hs n after) (set cs n d)
  are_at_begun = record {
    same = length-set hs n after ∙ all.same ∙ sym (length-set cs n d);
    each = λ m g b. each_at m g b (same_or_not m n);
    begun = λ m r g. begun_at m r g (same_or_not m n);
  }

-- a step that goes on, and where it goes
goes_to : {K : Type 0} → Step (World K) RunFault → World K → World K
goes_to (Going v) w = v
goes_to (Faulted fault v) w = w
goes_to (Past v) w = w

module _ {K : Type 0} where
  abbrev going : World K → Step (World K) RunFault
  going w = Going w

  abbrev past : World K → Step (World K) RunFault
  past w = Past w

  abbrev faulted : RunFault → World K → Step (World K) RunFault
  faulted fault w = Faulted fault w

  same_world : (s t : World K) → going s ≡ going t → s ≡ t
  unfolding goes_to
  same_world s t same = ap (λ (x : Step (World K) RunFault). goes_to x s) same

  past_goes : (s t : World K) → past s ≡ going t → ⊥
  past_goes s t same = absurd cc

  fault_goes : (fault : RunFault) (s t : World K) → faulted fault s ≡ going t → ⊥
  fault_goes fault s t same = absurd cc

-- what holds of the turns before cluster n and of its own holds of one turn more
first_more : {K : Type 0} (tables : FlatTablesOf) (time n : ℕ) (w : World K) (P : OfClusters) → OfFirst tables time n w P
    → ((v : World K) (c : ClusterAt) → HasTurn tables time n w v c → P (n + 1) c) → OfFirst tables time (suc n) w P
first_more tables time n w P before own k v c below turn = elim (same_or_not k n) [
  | inl same ↦ subst (λ j. P (j + 1) c) (sym same) (own v c (subst (λ j. HasTurn tables time j w v c) same turn))
  | inr apart ↦ before k v c (omega (arith, below, apart)) turn
]

-- and where none comes from cluster n on, of all
first_all : {K : Type 0} (tables : FlatTablesOf) (time n : ℕ) (w : World K) (P : OfClusters) → OfFirst tables time n w P
    → ((k : ℕ) (v : World K) (c : ClusterAt) → n ≤ k → HasTurn tables time k w v c → ⊥) → (m : ℕ) → OfFirst tables time m w P
first_all tables time n w P before none m k v c below turn = elim (cases_lt k n) [
  | inl less ↦ before k v c less turn
  | inr past ↦ absurd (none k v c past turn)
]

-- a change that is told, and what it makes of the cluster
module _ {K : Type 0} (tables : FlatTablesOf) (time n : ℕ) (w : World K) (hs : List ClusterAt) (left : ℕ) (planned : List ℕ) (h : ClusterAt) (none : h.ahead ≡ []) where
  abbrev before : World K
  before = world_crossed w hs left planned

  abbrev told : Change → World K
  told change = world_told (told_at n change) before

  abbrev with_told : Change → ClusterAt
  with_told change = told_more (change ∷ []) h

  pub there : (change : Change) → slice_get hs n ≡ Some h → slice_get (told change).clusters n ≡ Some (with_told change)
  there change at = told_get (told_at n change) n before ∙ ap (λ l. option_map (told_more l) (slice_get hs n)) (told_here n change) ∙ ap (option_map (told_more (change ∷ []))) at

  pub next_is : (change : Change) → next_change (with_told change) ≡ change
  next_is change = ap (λ (l : List Change). slice_index_or (l ++ change ∷ []) 0 (Same h.now.info.table)) none

  used : (change : Change) → drop 1 (h.ahead ++ change ∷ []) ≡ drop 1 h.ahead
  used change = ap (λ (l : List Change). drop 1 (l ++ change ∷ [])) none ∙ sym (ap (λ (l : List Change). drop 1 l) none)

  pub changed_to : (next : Next) (table : List AttrsOf) (new : Bool) → is_new next ≡ new
      → changed_by tables time n (with_told (change_of tables table next)) (change_of tables table next) (told (change_of tables table next))
      ≡ Going (world_crossed w (set hs n (after_change tables time (change_of tables table next) h)) (left - 1) (planned ++ planned_if new n))
  changed_to answer.Same table new is =
      let set_is = λ (d : ClusterAt). set_told n (Same table) before d in
      ap (λ d. Going (with_cluster n d (told (Same table)))) (λ i. record (with_same time table h) { ahead = used (Same table) i })
      ∙ ap (λ l. Going (world_crossed w l (left - 1) planned)) (set_is (with_same time table h))
      ∙ ap (λ p. Going (world_crossed w (set hs n (with_same time table h)) (left - 1) p)) (sym (append-nil planned) ∙ ap (λ b. planned ++ planned_if b n) is)
  changed_to (answer.Changed attrs plan) table new is =
      let change = change_of tables table (answer.Changed attrs plan) in
      let d = after_change tables time change h in
      ap (λ d. Going (record (with_cluster n d (told change)) { planned = planned ++ n ∷ [] })) (λ i. record d { ahead = used change i })
      ∙ ap (λ l. Going (world_crossed w l (left - 1) (planned ++ n ∷ []))) (set_told n change before d)
      ∙ ap (λ b. Going (world_crossed w (set hs n d) (left - 1) (planned ++ planned_if b n))) is

  pub becomes : (next : Next) (table : List AttrsOf) → is_over time h ≡ true → Becomes tables time h (after_change tables time (change_of tables table next) h)
  becomes answer.Same table over = Becomes.Began table over refl
  becomes (answer.Changed attrs plan) table over = Becomes.Changed _ _ _ _ _ over refl

  pub since_is : (next : Next) (table : List AttrsOf) → (after_change tables time (change_of tables table next) h).since ≡ time
  since_is answer.Same table = refl
  since_is (answer.Changed attrs plan) table = refl

-- the plans that clusters in progress have are those of the history
pub have_plans : (model : PureTree) (flat : Flat) (since : List ℕ) (hs : List ClusterAt) (cs : List ClusterOf) → AreAt model flat since hs cs → HavePlansOf hs cs
have_plans model flat since hs cs at n = elim (cases_lt n (length hs)) [
  | inl inside ↦
      (let h = get_inside hs n inside in
      let c = get_inside cs n (let s = at.same in omega (arith, inside, s)) in
      let is = at.each n h.0 c.0 h.1 c.1 in
      ap (option_map plan_of) h.1
      ∙ (λ i. Some (record { entries = sym is.entries_are i; bounds = sym is.bounds_are i; period = sym is.time_is i }))
      ∙ sym (ap (option_map rows_in) c.1))
  | inr past ↦ ap (option_map plan_of) (slice_get_past hs n past) ∙ sym (ap (option_map rows_in) (slice_get_past cs n (let s = at.same in omega (arith, past, s))))
]

module _ {K : Type 0} (model : PureTree) (flat : Flat) (time : ℕ) (w : World K) (x : CrossingOf) (checked : IsCheckedOf model flat.checked) (limits : AreWithinLimits flat)
    (start : AreAt model flat x.since w.clusters x.clusters) (left : w.left ≡ x.left) (unplanned : x.planned ≡ []) where
  abbrev each : ℕ → World K → Step (World K) RunFault
  each = boundary flat.tables time

  abbrev first : List (List Change) → World K
  first told = at_begin (world_told told w)

  module _ (n : ℕ) (mid : CrossingOf) (p : CrossesAlong model flat time n w mid) where
    abbrev v : World K
    v = world_crossed w p.clusters mid.left mid.planned

    abbrev told_now : World K
    told_now = world_told p.told w

    untouched : slice_get p.clusters n ≡ slice_get w.clusters n
    untouched = p.rest n (omega arith)

    here : (c : ClusterOf) → slice_get mid.clusters n ≡ Some c → (h : ClusterAt) × (slice_get p.clusters n ≡ Some h)
    here c c_at = let l = p.at.same in let i = slice_get_within mid.clusters n c c_at in get_inside p.clusters n (omega (arith, l, i))

    more : (m : ℕ) (h g : ClusterAt) (after : ClusterAt) (old : ClusterAt) → slice_get p.clusters n ≡ Some old → Becomes flat.tables time old after → slice_get w.clusters m ≡ Some h
        → slice_get (set p.clusters n after) m ≡ Some g → m < suc n → (m ≡ n) ⊎ (m ≢ n) → Becomes flat.tables time h g
    more m h g after old old_at becomes h_at g_at below (inl same) =
        let o = some_same h old (sym h_at ∙ ap (slice_get w.clusters) same ∙ sym untouched ∙ old_at) in
        subst (λ z. Becomes flat.tables time z g) (sym o) (subst (λ z. Becomes flat.tables time old z) (set_is p.clusters n m after g (slice_get_within p.clusters n old old_at) same g_at) becomes)
    more m h g after old old_at becomes h_at g_at below (inr apart) =
        p.became m h g h_at (sym (get_set_other p.clusters n m after apart) ∙ g_at) (omega (arith, below, apart))

    -- the turn of cluster n comes as it is there
    own_turn : (u : World K) (c h : ClusterAt) → HasTurn flat.tables time n told_now u c → slice_get p.clusters n ≡ Some h → (c ≡ h) × (u.left ≡ mid.left)
    own_turn u c h turn h_at =
        let same : v ≡ u = same_world v u (sym p.goes ∙ turn.before) in
        (some_same c h (sym turn.there ∙ ap (λ (z : World K). slice_get z.clusters n) (sym same) ∙ h_at), ap (λ (z : World K). z.left) (sym same))

    open_turn : (y : CrossingOf) (turn : EndingAt) → IsEndingOf n mid y turn → HasGoneOn time turn mid.left y.left → y.planned ≡ mid.planned → CrossesAlong model flat time (suc n) w y
    open_turn y turn is gone planned =
        let h = here turn.before is.before in
        let at = p.at.each n h.0 turn.before h.1 is.before in
        let over = sym (ending_over model flat (n + 1) time turn.since h.0 turn.before at (p.at.begun n turn.since h.0 h.1 is.since)) ∙ gone.going in
        let same = set_own p.clusters n h.0 h.1 in
        let none = λ (u : World K) (c : ClusterAt) (own : HasTurn flat.tables time n told_now u c). true_false (sym own.over ∙ ap (is_over time) (own_turn u c h.0 own h.1).0 ∙ over) in
        record {
          told = p.told;
          are_told = record {
            some = first_more flat.tables time n told_now (λ number c. IsTold c) p.are_told.some (λ u c own. absurd (none u c own));
            answers = first_more flat.tables time n told_now (λ number c. IsAnswer model flat number c (next_change c)) p.are_told.answers (λ u c own. absurd (none u c own));
            counts = p.are_told.counts;
          };
          clusters = p.clusters;
          at = subst (λ l. AreAt model flat l p.clusters y.clusters) (sym (is.begun ∙ ap (set mid.since n) gone.kept ∙ set_own mid.since n turn.since is.since))
              (subst (AreAt model flat mid.since p.clusters) (sym (is.after ∙ ap (set mid.clusters n) gone.same ∙ set_own mid.clusters n turn.before is.before)) p.at);
          became = λ m g b g_at b_at below. more m g b h.0 h.0 h.1 (Becomes.Stayed over refl) g_at (ap (λ l. slice_get l m) same ∙ b_at) below (same_or_not m n);
          rest = λ m low. p.rest m (omega (arith, low));
          goes = ap (λ k. turns_to each k (first p.told)) (sym (add-one n)) ∙ turns_more each n (first p.told) v (Going v) p.goes (goes_on flat time n h.0 v h.1 over)
              ∙ (λ i. Going (world_crossed w p.clusters (sym gone.turns i) (sym planned i)));
        }

    -- a boundary that leads to a change, which is told now
    module _ (turn_before : ClusterOf) (since : ℕ) (before_at : slice_get mid.clusters n ≡ Some turn_before) (since_at : slice_get mid.since n ≡ Some since) (ending : is_ending time since turn_before ≡ true)
        (some : 0 < mid.left) (change : Change) (answered : HasAnswered flat turn_before change) where
      abbrev h : ClusterAt
      h = (here turn_before before_at).0

      h_at : slice_get p.clusters n ≡ Some h
      h_at = (here turn_before before_at).1

      at : IsAt model flat (n + 1) h turn_before
      at = p.at.each n h turn_before h_at before_at

      over : is_over time h ≡ true
      over = sym (ending_over model flat (n + 1) time since h turn_before at (p.at.begun n since h h_at since_at)) ∙ ending

      abbrev told_next : List (List Change)
      told_next = all_told p.told (told_at n change)

      abbrev told_new : World K
      told_new = world_told (told_at n change) v

      abbrev with_change : ClusterAt
      with_change = told_more (change ∷ []) h

      twice : world_told (told_at n change) told_now ≡ world_told told_next w
      twice = told_twice p.told (told_at n change) w

      to_here : turns_to each n (at_begin (world_told (told_at n change) told_now)) ≡ Going told_new
      to_here = turns_told (told_at n change) flat.tables time n told_now p.are_told.some
          ∙ ap (λ (s : Step (World K) RunFault). step_as (world_told (told_at n change)) s) p.goes

      change_there : slice_get told_new.clusters n ≡ Some with_change
      change_there = there flat.tables time n w p.clusters mid.left mid.planned h at.none_ahead change h_at

      change_is : next_change with_change ≡ change
      change_is = next_is flat.tables time n w p.clusters mid.left mid.planned h at.none_ahead change

      now_changes : boundary flat.tables time n told_new ≡ changed_by flat.tables time n with_change change told_new
      now_changes = changes flat time n with_change told_new change_there change change_is over some

      answer_is : IsAnswer model flat (n + 1) with_change (next_change with_change)
      answer_is =
          let a = (answers_are_told model flat (n + 1) h turn_before change checked limits at answered).answer in
          subst (IsAnswer model flat (n + 1) with_change) (sym change_is) (record { known = a.known; leads = a.leads })

      own_told : (u : World K) (c : ClusterAt) → HasTurn flat.tables time n (world_told (told_at n change) told_now) u c → c ≡ with_change
      own_told u c own =
          let same : told_new ≡ u = same_world told_new u (sym to_here ∙ own.before) in
          some_same c with_change (sym own.there ∙ ap (λ (z : World K). slice_get z.clusters n) (sym same) ∙ change_there)

      told_length : 0 < length (h.ahead ++ change ∷ [])
      told_length = let l = ap (λ (l : List Change). length (l ++ change ∷ [])) at.none_ahead in let o : length (change ∷ []) ≡ 1 = refl in omega (arith, l, o)

      told_some : OfFirst flat.tables time (suc n) (world_told told_next w) (λ number c. IsTold c)
      told_some = subst (λ (u : World K). OfFirst flat.tables time (suc n) u (λ number c. IsTold c)) twice
          (first_more flat.tables time n (world_told (told_at n change) told_now) (λ number c. IsTold c)
          (first_told (told_at n change) flat.tables time n told_now p.are_told.some)
          (λ u c own. subst IsTold (sym (own_told u c own)) told_length))

      told_answers : AreFirstAnswers model flat time (suc n) (world_told told_next w)
      told_answers = subst (λ (u : World K). OfFirst flat.tables time (suc n) u (λ number c. IsAnswer model flat number c (next_change c))) twice
          (first_more flat.tables time n (world_told (told_at n change) told_now) (λ number c. IsAnswer model flat number c (next_change c))
          (first_answers (told_at n change) model flat time n told_now p.are_told.some p.are_told.answers)
          (λ u c own. subst (λ d. IsAnswer model flat (n + 1) d (next_change d)) (sym (own_told u c own)) answer_is))

      told_counts : All (All HasToldCounts) told_next
      told_counts = counts_all p.told (told_at n change) p.are_told.counts (counts_at n change (counts_told model flat turn_before change checked answered))

      to_next : turns_to each n (first told_next) ≡ Going told_new
      to_next = ap (λ (u : World K). turns_to each n (at_begin u)) (sym twice) ∙ to_here

    over_turn : (y : CrossingOf) (turn : EndingAt) (new : Bool) → IsEndingOf n mid y turn → HasCrossedBoundary flat time new turn mid.left y.left → y.planned ≡ mid.planned ++ planned_if new n
        → CrossesAlong model flat time (suc n) w y
    over_turn y turn new is crossed planned =
        let table = crossed.between.table in
        let change = change_of flat.tables table crossed.next in
        let g = h turn.before turn.since is.before is.since crossed.over crossed.some change crossed.passed.answered in
        let g_at = h_at turn.before turn.since is.before is.since crossed.over crossed.some change crossed.passed.answered in
        let at_g = at turn.before turn.since is.before is.since crossed.over crossed.some change crossed.passed.answered in
        let over_g = over turn.before turn.since is.before is.since crossed.over crossed.some change crossed.passed.answered in
        let after = after_change flat.tables time change g in
        let next = boundary_at model flat (n + 1) time g crossed.next turn.before crossed.between turn.after checked at_g crossed.passed in
        record {
          told = told_next turn.before turn.since is.before is.since crossed.over crossed.some change crossed.passed.answered;
          are_told = record {
            some = told_some turn.before turn.since is.before is.since crossed.over crossed.some change crossed.passed.answered;
            answers = told_answers turn.before turn.since is.before is.since crossed.over crossed.some change crossed.passed.answered;
            counts = told_counts turn.before turn.since is.before is.since crossed.over crossed.some change crossed.passed.answered;
          };
          clusters = set p.clusters n after;
          at = subst (λ l. AreAt model flat l (set p.clusters n after) y.clusters) (sym is.begun)
              (subst (AreAt model flat (set mid.since n turn.begun) (set p.clusters n after)) (sym is.after)
              (are_at_begun model flat mid.since p.clusters mid.clusters p.at n g after turn.before turn.after turn.since turn.begun g_at is.before is.since next
              (crossed.now ∙ sym (since_is flat.tables time n w p.clusters mid.left mid.planned g at_g.none_ahead crossed.next table))));
          became = λ m k b k_at b_at below. more m k b after g g_at (becomes flat.tables time n w p.clusters mid.left mid.planned g at_g.none_ahead crossed.next table over_g) k_at b_at below (same_or_not m n);
          rest = λ m low. get_set_other p.clusters n m after (λ e. omega (arith, low, e)) ∙ p.rest m (omega (arith, low));
          goes = ap (λ k. turns_to each k (first (told_next turn.before turn.since is.before is.since crossed.over crossed.some change crossed.passed.answered))) (sym (add-one n))
              ∙ turns_more each n _ _ _ (to_next turn.before turn.since is.before is.since crossed.over crossed.some change crossed.passed.answered)
              (now_changes turn.before turn.since is.before is.since crossed.over crossed.some change crossed.passed.answered
              ∙ changed_to flat.tables time n w p.clusters mid.left mid.planned g at_g.none_ahead crossed.next table new crossed.new_is)
              ∙ (λ i. Going (world_crossed w (set p.clusters n after) (sym crossed.turns i) (sym planned i)));
        }

    one_turn : (y : CrossingOf) → HasEnding flat time n mid y → CrossesAlong model flat time (suc n) w y
    one_turn y (HasEnding.Open turn is gone planned) = open_turn y turn is gone planned
    one_turn y (HasEnding.Over turn new is crossed planned) = over_turn y turn new is crossed planned

    -- no turn is left for cluster n
    spent_turn : (c : ClusterOf) (s : ℕ) → slice_get mid.clusters n ≡ Some c → slice_get mid.since n ≡ Some s → is_ending time s c ≡ true → mid.left ≡ 0 → n < length w.clusters
        → CrossingIsSpent model flat time w mid
    spent_turn c s c_at s_at ending none inside =
        let g = here c c_at in
        let at_g = p.at.each n g.0 c g.1 c_at in
        let over_g = sym (ending_over model flat (n + 1) time s g.0 c at_g (p.at.begun n s g.0 g.1 s_at)) ∙ ending in
        let then_past = λ (m : ℕ) (less : n < m). turns_past each n m (first p.told) v v less p.goes (without_turn flat time n g.0 v g.1 over_g none) in
        let no_turn : (k : ℕ) (u : World K) (d : ClusterAt) → n ≤ k → HasTurn flat.tables time k told_now u d → ⊥ = λ k u d low own. elim (same_or_not k n) [
          | inl same ↦
              (let l = (own_turn u d g.0 (subst (λ j. HasTurn flat.tables time j told_now u d) same own) g.1).1 in
              let s = own.left in omega (arith, l, s, none))
          | inr apart ↦ past_goes v u (sym (then_past k (omega (arith, low, apart))) ∙ own.before)
        ] in
        record {
          told = p.told;
          are_told = λ m. record {
            some = first_all flat.tables time n told_now (λ number d. IsTold d) p.are_told.some no_turn m;
            answers = first_all flat.tables time n told_now (λ number d. IsAnswer model flat number d (next_change d)) p.are_told.answers no_turn m;
            counts = p.are_told.counts;
          };
          last = v;
          has = record { plans = have_plans model flat mid.since p.clusters mid.clusters p.at; planned = refl };
          goes = then_past (length w.clusters) inside;
        }

    -- cluster n leads to a fault
    stopped_turn : (number : ℕ) (fault : Fault) (y : CrossingOf) (c d : ClusterOf) (s : ℕ) → number ≡ n + 1 → slice_get mid.clusters n ≡ Some c → slice_get mid.since n ≡ Some s → is_ending time s c ≡ true → 0 < mid.left
        → HasAnswered flat c (Refused fault) → rows_in d ≡ rows_in c → y.clusters ≡ set mid.clusters n d → y.planned ≡ mid.planned → n < length w.clusters
        → CrossingStops model flat time number fault w y
    stopped_turn number fault y c d s number_is c_at s_at ending some answered rows clusters planned inside =
        let change = Refused fault in
        let first_world = first (told_next c s c_at s_at ending some change answered) in
        let last = told_new c s c_at s_at ending some change answered in
        let stops : (m : ℕ) → n < m → turns_to each m first_world ≡ Faulted (record { cluster = n + 1; fault = fault }) last
        = λ m less. turns_fault each n m first_world last (record { cluster = n + 1; fault = fault }) last less
        (to_next c s c_at s_at ending some change answered) (now_changes c s c_at s_at ending some change answered) in
        let none = λ (k : ℕ) (u : World K) (e : ClusterAt) (low : suc n ≤ k) (own : HasTurn flat.tables time k (world_told (told_next c s c_at s_at ending some change answered) w) u e).
        fault_goes (record { cluster = n + 1; fault = fault }) last u (sym (stops k (omega (arith, low))) ∙ own.before) in
        record {
          told = told_next c s c_at s_at ending some change answered;
          are_told = λ m. record {
            some = first_all flat.tables time (suc n) _ (λ number e. IsTold e) (told_some c s c_at s_at ending some change answered) none m;
            answers = first_all flat.tables time (suc n) _ (λ number e. IsAnswer model flat number e (next_change e)) (told_answers c s c_at s_at ending some change answered) none m;
            counts = told_counts c s c_at s_at ending some change answered;
          };
          last = last;
          has = record {
            plans = λ m. (ap (option_map plan_of) (told_get (told_at n change) m v) ∙ plan_told (slice_index_or (told_at n change) m []) (slice_get p.clusters m)
                ∙ have_plans model flat mid.since p.clusters mid.clusters p.at m ∙ rows_set m (same_or_not m n));
            planned = sym planned;
          };
          goes = stops (length w.clusters) inside ∙ ap (λ k. Faulted (record { cluster = k; fault = fault }) last) (sym number_is);
        }
      where
        plan_told : (l : List Change) (o : Option ClusterAt) → option_map plan_of (option_map (told_more l) o) ≡ option_map plan_of o
        plan_told l None = refl
        plan_told l (Some g) = refl

        rows_set : (m : ℕ) → (m ≡ n) ⊎ (m ≢ n) → option_map rows_in (slice_get mid.clusters m) ≡ option_map rows_in (slice_get y.clusters m)
        rows_set m (inl same) = ap (λ j. option_map rows_in (slice_get mid.clusters j)) same ∙ ap (option_map rows_in) c_at ∙ ap Some (sym rows)
            ∙ sym (ap (option_map rows_in) (get_set_same mid.clusters n d (slice_get_within mid.clusters n c c_at))) ∙ ap (λ l. option_map rows_in (slice_get l n)) (sym clusters) ∙ ap (λ j. option_map rows_in (slice_get y.clusters j)) (sym same)
        rows_set m (inr apart) = sym (ap (λ l. option_map rows_in (slice_get l m)) clusters ∙ ap (option_map rows_in) (get_set_other mid.clusters n m d apart))

  pub crosses_along : (n : ℕ) (y : CrossingOf) → HaveCrossed flat time n x y → CrossesAlong model flat time n w y
  unfolding HaveCrossed
  crosses_along zero y passed = record {
    told = [];
    are_told = record { some = λ k v c below turn. absurd (omega (arith, below)); answers = λ k v c below turn. absurd (omega (arith, below)); counts = All-nil (All HasToldCounts) };
    clusters = w.clusters;
    at = subst (λ (z : CrossingOf). AreAt model flat z.since w.clusters z.clusters) (sym passed) start;
    became = λ m h g h_at g_at below. absurd (omega (arith, below));
    rest = λ m low. refl;
    goes = turns_none each (first []) ∙ (λ i. Going (world_crossed w (nothing_told w i) ((left ∙ ap (λ (z : CrossingOf). z.left) (sym passed)) i) ((sym unplanned ∙ ap (λ (z : CrossingOf). z.planned) (sym passed)) i)));
  }
  crosses_along (suc n) y passed = one_turn n passed.0 (crosses_along n passed.0 passed.1) y passed.2

  -- the boundaries of all clusters, as the history counts them
  pub all_cross : (y : CrossingOf) → HaveCrossed flat time (length x.clusters) x y → CrossesAlong model flat time (length w.clusters) w y
  all_cross y all = subst (λ n. CrossesAlong model flat time n w y) (sym start.same) (crosses_along (length x.clusters) y all)

  -- what is told then is told of all boundaries of the instant
  pub told_of_all : (rules : Rules K) (y : CrossingOf) (p : CrossesAlong model flat time (length w.clusters) w y) → (m : ℕ) → AreToldAt model flat time m w p.told
  told_of_all rules y p m = record {
    some = first_all flat.tables time (length w.clusters) (world_told p.told w) (λ number d. IsTold d) p.are_told.some none m;
    answers = first_all flat.tables time (length w.clusters) (world_told p.told w) (λ number d. IsAnswer model flat number d (next_change d)) p.are_told.answers none m;
    counts = p.are_told.counts;
  }
    where
      long : (k : ℕ) (u : World K) → turns_to each k (first p.told) ≡ Going u → length u.clusters ≡ length w.clusters
      long k u goes = ap (λ (s : Step (World K) RunFault). length (left_by s).clusters) (sym goes)
          ∙ (turns_by (λ c d. Unit {0}) (λ c. tt) (λ b c d l r. tt) each (boundaries_by (λ c d. Unit {0}) (λ c. tt) (λ b c d l r. tt) model flat rules (λ c. tt) (λ m value c. tt) (λ time table c. tt) (λ time table counts period entries bounds c told. tt) time) k (first p.told)).same
          ∙ told_long p.told w

      none : (k : ℕ) (u : World K) (d : ClusterAt) → length w.clusters ≤ k → HasTurn flat.tables time k (world_told p.told w) u d → ⊥
      none k u d low own = let i = slice_get_within u.clusters k d own.there in let l = long k u own.before in omega (arith, i, l, low)

  inside : (place : ℕ) (mid : CrossingOf) (c : ClusterOf) → HaveCrossed flat time place x mid → slice_get mid.clusters place ≡ Some c → place < length w.clusters
  inside place mid c passed c_at =
      let i = slice_get_within x.clusters place c (sym (still_to_come flat time x place mid passed place (omega arith)).0 ∙ c_at) in
      let l = start.same in omega (arith, l, i)

  pub crossing_is_spent : (y : CrossingOf) → HasNoTurn flat time x y → CrossingIsSpent model flat time w y
  crossing_is_spent y part = spent_turn part.number y (crosses_along part.number y part.passed) part.cluster part.since part.here part.begun part.over part.none
      (inside part.number y part.cluster part.passed part.here)

  pub crossing_stops : (number : ℕ) (fault : Fault) (y : CrossingOf) → HasStopped flat time number fault x y → CrossingStops model flat time number fault w y
  crossing_stops number fault y part =
      let rest = part.refused.crossed.rest in
      stopped_turn part.place part.mid (crosses_along part.place part.mid part.passed) number fault y part.cluster part.after part.since part.number_is part.here part.begun part.refused.over part.refused.some part.refused.answered
      (ap rows_in rest) part.clusters part.planned (inside part.place part.mid part.cluster part.passed part.here)

pub crossing_goes_along : CrossingGoesAlong
crossing_goes_along model flat time w x y is passed = all_cross model flat time w x is.checked is.limits is.at is.left is.none y passed

pub crossing_ends_spent : CrossingEndsSpent
crossing_ends_spent model flat time w x y is part = crossing_is_spent model flat time w x is.checked is.limits is.at is.left is.none y part

pub crossing_ends_stopped : CrossingEndsStopped
crossing_ends_stopped model flat time number fault w x y is part = crossing_stops model flat time w x is.checked is.limits is.at is.left is.none number fault y part
