-- The pass over all clusters at one time, turn after turn.
use Rattle.std.proofs.Common.{◌≡◌, ◌≢◌, ◌⊎◌, ◌∙◌, ℕ, zero, suc, ◌+◌, ◌-◌, ◌<◌, ◌≤◌, true, false, List, [], ◌∷◌, ◌++◌, Option, Some, None, set, map, length, length-set, slice_get, inl, inr, refl, sym, ap, subst, arith, add-one, append-nil}
use Rattle.std.proofs.lemmas.Bool.{cases_lt, eq-eqb, eqb-true, ne_eqb}
use Rattle.std.proofs.lemmas.List.{append_assoc, map-append}
use Rattle.std.proofs.lemmas.Option.{slice_get_within}
use Rattle.tdf_convert.specs.declared.outputs.Sent.{Sent}
use Rattle.tdf_exec.specs.Cluster.{ClusterOf, is_next_due, is_offset, next_offset, offset_in}
use Rattle.tdf_expr.specs.Checked.{IsCheckedOf}
use Rattle.tdf_bind.specs.Flat.{IsFlatOf}
use Rattle.tdf_bind.specs.declared.model.Flat.{Flat}
use Rattle.tdf_streams.proofs.Api.{get_inside, some_same}
use Rattle.tdf_sim_history.specs.Instant.{RunFault, all_firings, is_entry_due, next_entry}
use Rattle.tdf_sim_history.specs.World.{ClusterAt, Rules, SinkWrite, World}
use Rattle.tdf_sim_history.proofs.Api.{turns_more, turns_none, turns_past}
use Rattle.tdf_sim_history.specs.History.{Step, Going, Past, turns_to}
use Rattle.tdf_bind_invariants.specs.Limits.{AreWithinLimits}
use Rattle.tdf_sim_refinement.proofs.Along.{goes_along, is_spent}
use Rattle.tdf_sim_refinement.proofs.Due.{true_false}
use Rattle.tdf_sim_refinement.proofs.Firings.{get_set_same, none_fire, parts_same, set_own}
use Rattle.tdf_sim_refinement.specs.At.{AreSettled, IsAt}
use Rattle.tdf_sim_refinement.specs.Firings.{settled_values, world_after, write_of}
use Rattle.tdf_sim_refinement.specs.Pass.{AreAt, AreReady, HasDoneTurn, HasEnded, HasIdled, HasPassedAll, HasPassedPart, HasPassedTo, PassHasTurn, HavePassed, IsTurnOf, PassAt, PassEndsSpent, PassGoesAlong, PassIsSpent, PassesAlong, RunOf, TurnAt, world_with}
use Rattle.tdf_schedule.specs.declared.entry.Entry.{Entry}
use Rattle.tdf_lang_tree.specs.Pure.{PureTree}

pub same_or_not : (m n : ℕ) → (m ≡ n) ⊎ (m ≢ n)
same_or_not m n = elim (cases_lt m n) [
  | inl less ↦ inr (λ e. omega (arith, less, e))
  | inr over ↦ elim (cases_lt n m) [ inl more ↦ inr (λ e. omega (arith, more, e)) | inr rest ↦ inl (omega (arith, over, rest)) ]
]

pub get_set_other : {A : Type 0} (xs : List A) (i j : ℕ) (x : A) → j ≢ i → slice_get (set xs i x) j ≡ slice_get xs j
get_set_other [] i j x apart = refl
get_set_other (y ∷ ys) zero zero x apart = absurd (apart refl)
get_set_other (y ∷ ys) zero (suc j) x apart = refl
get_set_other (y ∷ ys) (suc i) zero x apart = refl
get_set_other (y ∷ ys) (suc i) (suc j) x apart = get_set_other ys i j x (λ e. apart (ap suc e))

-- what was set is there
pub set_is : {A : Type 0} (xs : List A) (i j : ℕ) (x y : A) → i < length xs → j ≡ i → slice_get (set xs i x) j ≡ Some y → x ≡ y
set_is xs i j x y inside same at = some_same x y (sym (get_set_same xs i x inside) ∙ ap (slice_get (set xs i x)) (sym same) ∙ at)

-- the next offset, of a cluster that is due
pub due_offset : (o : Option ℕ) (offset : ℕ) → is_offset o offset ≡ true → o ≡ Some offset
due_offset None offset due = absurd (true_false (sym due))
due_offset (Some k) offset due = ap Some (eqb-true k offset due)

not_due : (time : ℕ) (h : ClusterAt) (o : Option Entry) → h.since ≤ time → is_offset (offset_in o) (time - h.since) ≡ false → is_entry_due time h o ≡ false
not_due time h None begun none = refl
not_due time h (Some x) begun none = ne_eqb time (h.since + x.offset) (λ e. (
    let z : x.offset ≡ time - h.since = omega (arith, e, begun) in true_false (sym (eq-eqb x.offset (time - h.since) z) ∙ none)))

pub none_due : (model : PureTree) (flat : Flat) (number time : ℕ) (h : ClusterAt) (c : ClusterOf) → IsAt model flat number h c → h.since ≤ time → is_next_due c (time - h.since) ≡ false
    → is_entry_due time h (next_entry h) ≡ false
none_due model flat number time h c at begun none = not_due time h (next_entry h) begun
    (ap (λ l. is_offset (offset_in (slice_get l h.place)) (time - h.since)) (sym at.entries_are) ∙ ap (λ p. is_offset (offset_in (slice_get c.entries p)) (time - h.since)) (sym at.place_is) ∙ none)

-- one of them has changed
module _ (model : PureTree) (flat : Flat) (since : List ℕ) (hs : List ClusterAt) (cs : List ClusterOf) (all : AreAt model flat since hs cs) (n : ℕ) (h after : ClusterAt) (c d : ClusterOf)
    (h_at : slice_get hs n ≡ Some h) (c_at : slice_get cs n ≡ Some c) (at : IsAt model flat (n + 1) after d) (kept : after.since ≡ h.since) where
  each_at : (m : ℕ) (g : ClusterAt) (b : ClusterOf) → (m ≡ n) ⊎ (m ≢ n) → slice_get (set hs n after) m ≡ Some g → slice_get (set cs n d) m ≡ Some b → IsAt model flat (m + 1) g b
  each_at m g b (inl same) g_at b_at =
      subst (λ k. IsAt model flat (k + 1) g b) (sym same)
      (subst (λ z. IsAt model flat (n + 1) z b) (set_is hs n m after g (slice_get_within hs n h h_at) same g_at)
      (subst (λ z. IsAt model flat (n + 1) after z) (set_is cs n m d b (slice_get_within cs n c c_at) same b_at) at))
  each_at m g b (inr apart) g_at b_at = all.each m g b (sym (get_set_other hs n m after apart) ∙ g_at) (sym (get_set_other cs n m d apart) ∙ b_at)

  begun_at : (m s : ℕ) (g : ClusterAt) → (m ≡ n) ⊎ (m ≢ n) → slice_get (set hs n after) m ≡ Some g → slice_get since m ≡ Some s → s ≡ g.since
  begun_at m s g (inl same) g_at s_at = all.begun n s h h_at (ap (slice_get since) (sym same) ∙ s_at) ∙ sym kept
      ∙ ap (λ (z : ClusterAt). z.since) (set_is hs n m after g (slice_get_within hs n h h_at) same g_at)
  begun_at m s g (inr apart) g_at s_at = all.begun m s g (sym (get_set_other hs n m after apart) ∙ g_at) s_at

  are_at_next : AreAt model flat since (set hs n after) (set cs n d)
  are_at_next = record {
    same = length-set hs n after ∙ all.same ∙ sym (length-set cs n d);
    each = λ m g b. each_at m g b (same_or_not m n);
    begun = λ m s g. begun_at m s g (same_or_not m n);
  }

turn_of : (flat : Flat) (pass : PassAt) (n : ℕ) (x y : RunOf) (sent : List Sent) → PassHasTurn flat pass n x y sent → (turn : TurnAt) × IsTurnOf pass n x y turn
turn_of flat pass n x y sent (PassHasTurn.Idle turn is idled) = (turn, is)
turn_of flat pass n x y sent (PassHasTurn.Done turn is did) = (turn, is)

module _ (flat : Flat) (pass : PassAt) (x : RunOf) where
  -- the clusters to come are as they were
  pub later : (n : ℕ) (y : RunOf) (sent : List Sent) → HavePassed flat pass n x y sent → (m : ℕ) → n ≤ m → slice_get y.clusters m ≡ slice_get x.clusters m
  unfolding HavePassed
  later zero y sent passed m low = ap (λ (z : RunOf). slice_get z.clusters m) passed.0
  later (suc n) y sent passed m low =
      let turn = turn_of flat pass n passed.0 y passed.2 passed.4 in
      ap (λ l. slice_get l m) turn.1.after ∙ get_set_other passed.0.clusters n m turn.0.after (λ e. omega (arith, low, e)) ∙ later n passed.0 passed.1 passed.3 m (omega (arith, low))

module _ {K : Type 0} (model : PureTree) (flat : Flat) (rules : Rules K) (pass : PassAt) (w : World K) (x : RunOf) (checked : IsCheckedOf model flat.checked) (is_flat : IsFlatOf model flat) (limits : AreWithinLimits flat)
    (start : AreAt model flat pass.since w.clusters x.clusters) (left : w.left ≡ x.left) (ready : AreReady flat.tables pass (settled_values rules w) x.clusters) where
  abbrev each : ℕ → World K → Step (World K) RunFault
  each = all_firings model flat rules pass.time

  abbrev writes : List Sent → List SinkWrite
  writes sent = w.written ++ map (write_of flat.tables) sent

  -- cluster n has a turn
  module _ (n : ℕ) (mid y : RunOf) (s : List Sent) (p : PassesAlong model flat rules pass n w mid s) (turn : TurnAt) (is : IsTurnOf pass n mid y turn)
      (untouched : slice_get mid.clusters n ≡ slice_get x.clusters n) where
    abbrev v : World K
    v = world_with flat.tables w p.clusters mid.left s

    there : (h : ClusterAt) × (slice_get p.clusters n ≡ Some h)
    there = let l = p.at.same in let i = slice_get_within mid.clusters n turn.before is.before in get_inside p.clusters n (omega (arith, l, i))

    abbrev h : ClusterAt
    h = there.0

    at : IsAt model flat (n + 1) h turn.before
    at = p.at.each n h turn.before there.1 is.before

    same_since : turn.since ≡ h.since
    same_since = p.at.begun n turn.since h there.1 is.since

    begun : h.since ≤ pass.time
    begun = let b = ready.begun n turn.since is.since in let e = same_since in omega (arith, b, e)

    idle : (t : List Sent) → HasIdled pass.time turn mid y t → PassesAlong model flat rules pass (suc n) w y (s ++ t)
    idle t idled = record {
      clusters = p.clusters;
      at = subst (AreAt model flat pass.since p.clusters) (sym (is.after ∙ ap (set mid.clusters n) idled.same ∙ set_own mid.clusters n turn.before is.before)) p.at;
      goes = ap (λ i. turns_to each i w) (sym (add-one n))
          ∙ turns_more each n w v (Going v) p.goes
          (none_fire model flat rules pass.time n h v there.1 (none_due model flat (n + 1) pass.time h turn.before at begun (ap (λ k. is_next_due turn.before (pass.time - k)) (sym same_since) ∙ idled.none)))
          ∙ ap Going (parts_same w p.clusters p.clusters mid.left y.left (writes s) (writes (s ++ t)) refl (sym idled.left) (ap writes (sym (append-nil s) ∙ ap (λ u. s ++ u) (sym idled.nothing))));
    }

    -- the turn, by the start that the history says
    abbrev turn_at : (k : ℕ) → TurnAt
    turn_at k = record turn { since = k }

    sorted_is : slice_get x.clusters n ≡ Some turn.before
    sorted_is = sym untouched ∙ is.before

    does : (t : List Sent) → is_next_due turn.before (pass.time - turn.since) ≡ true → HasDoneTurn flat pass.time (turn_at h.since) mid y t → PassesAlong model flat rules pass (suc n) w y (s ++ t)
    does t due did =
        let settled = ready.settled n turn.since turn.before turn.inputs sorted_is is.since is.inputs due in
        let g = goes_along model flat rules pass.time n h v turn.before turn.after mid.outputs y.outputs y.left there.1 at (ready.sorted n turn.before sorted_is) begun
        (due_offset (next_offset turn.before) (pass.time - h.since) did.due) turn.inputs checked is_flat limits
        (subst (λ k. AreSettled flat.tables (settled_values rules w) (pass.time - k) turn.before turn.inputs) same_since settled) did.fired in
        record {
          clusters = set p.clusters n g.after;
          at = subst (AreAt model flat pass.since (set p.clusters n g.after)) (sym is.after)
              (are_at_next model flat pass.since p.clusters mid.clusters p.at n h g.after turn.before turn.after there.1 is.before g.at g.since_is);
          goes = ap (λ i. turns_to each i w) (sym (add-one n))
              ∙ turns_more each n w v _ p.goes g.goes
              ∙ ap Going (parts_same w (set p.clusters n g.after) (set p.clusters n g.after) y.left y.left (writes s ++ map (write_of flat.tables) did.fired.gained.sent) (writes (s ++ t)) refl refl
              (append_assoc w.written (map (write_of flat.tables) s) (map (write_of flat.tables) did.fired.gained.sent)
              ∙ ap (λ l. w.written ++ l) (sym (map-append (write_of flat.tables) s did.fired.gained.sent))
              ∙ ap (λ u. writes (s ++ u)) (sym did.sent_is)));
        }

    done_turn : (t : List Sent) → HasDoneTurn flat pass.time turn mid y t → PassesAlong model flat rules pass (suc n) w y (s ++ t)
    done_turn t did = does t did.due (subst (λ k. HasDoneTurn flat pass.time (turn_at k) mid y t) same_since did)

    spends : HasEnded pass.time (turn_at h.since) mid y → all_firings model flat rules pass.time n v ≡ Past (world_after model flat rules n h v mid.left)
    spends ended = is_spent model flat rules pass.time n h v turn.before turn.after mid.outputs y.outputs y.left there.1 at (ready.sorted n turn.before sorted_is) begun
        (due_offset (next_offset turn.before) (pass.time - h.since) ended.due) ended.few

    pub spent_in : n < length w.clusters → HasEnded pass.time turn mid y → PassIsSpent model flat rules pass n (length w.clusters) w mid s
    spent_in inside ended = record {
      before = p;
      h = h;
      here = there.1;
      ends = turns_past each n (length w.clusters) w v _ inside p.goes (spends (subst (λ k. HasEnded pass.time (turn_at k) mid y) same_since ended));
    }

  step : (n : ℕ) (mid y : RunOf) (s t : List Sent) → PassesAlong model flat rules pass n w mid s → PassHasTurn flat pass n mid y t → slice_get mid.clusters n ≡ slice_get x.clusters n
      → PassesAlong model flat rules pass (suc n) w y (s ++ t)
  step n mid y s t p (PassHasTurn.Idle turn is idled) untouched = idle n mid y s p turn is untouched t idled
  step n mid y s t p (PassHasTurn.Done turn is did) untouched = done_turn n mid y s p turn is untouched t did

  pub passes_along : (n : ℕ) (y : RunOf) (sent : List Sent) → HavePassed flat pass n x y sent → PassesAlong model flat rules pass n w y sent
  unfolding HavePassed
  passes_along zero y sent passed = record {
    clusters = w.clusters;
    at = subst (λ (z : RunOf). AreAt model flat pass.since w.clusters z.clusters) (sym passed.0) start;
    goes = turns_none each w
        ∙ ap Going (parts_same w w.clusters w.clusters w.left y.left w.written (writes sent) refl (left ∙ ap (λ (z : RunOf). z.left) (sym passed.0)) (sym (append-nil w.written) ∙ ap writes (sym passed.1)));
  }
  passes_along (suc n) y sent passed =
      subst (PassesAlong model flat rules pass (suc n) w y) (sym passed.5)
      (step n passed.0 y passed.1 passed.2 (passes_along n passed.0 passed.1 passed.3) passed.4 (later flat pass x n passed.0 passed.1 passed.3 n (omega arith)))

  pub pass_is_spent : (n : ℕ) (y : RunOf) → (ended : HasPassedTo flat pass n x y) → PassIsSpent model flat rules pass n (length w.clusters) w ended.mid ended.sent
  pass_is_spent n y ended =
      let untouched = later flat pass x n ended.mid ended.sent ended.passed n (omega arith) in
      let inside = slice_get_within x.clusters n ended.turn.before (sym untouched ∙ ended.is.before) in
      spent_in n ended.mid y ended.sent (passes_along n ended.mid ended.sent ended.passed) ended.turn ended.is
      untouched (let l = start.same in omega (arith, l, inside)) ended.ended

  -- the pass over all of them, as the history counts its clusters
  pub all_along : (y : RunOf) (all : HasPassedAll flat pass x y) → PassesAlong model flat rules pass (length w.clusters) w y all.sent
  all_along y all = subst (λ n. PassesAlong model flat rules pass n w y all.sent) (sym start.same) (passes_along (length x.clusters) y all.sent all.passed)

  pub part_is_spent : (y : RunOf) (part : HasPassedPart flat pass x y) → PassIsSpent model flat rules pass part.number (length w.clusters) w part.to.mid part.to.sent
  part_is_spent y part = pass_is_spent part.number y part.to

pub pass_goes_along : PassGoesAlong
pass_goes_along model flat rules pass n w x y sent checked is limits start left ready passed = passes_along model flat rules pass w x checked is limits start left ready n y sent passed

pub pass_ends_spent : PassEndsSpent
pass_ends_spent model flat rules pass n w x y checked is limits start left ready ended = pass_is_spent model flat rules pass w x checked is limits start left ready n y ended
