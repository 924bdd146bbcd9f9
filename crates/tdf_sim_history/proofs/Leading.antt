-- Where an instant goes on, each cluster is to what it was as its steps are, whatever that relation is.
use Rattle.std.proofs.Common.{◌≡◌, ◌≢◌, ◌⊎◌, ◌∙◌, ℕ, zero, suc, ◌<◌, Bool, true, false, Option, Some, None, List, [], ◌∷◌, if◌then◌else◌, length, nat_eq, refl, sym, ap, subst, inl, inr, arith}
use Rattle.std.proofs.lemmas.List.{length-set}
use Rattle.std.proofs.lemmas.Option.{slice_get_within}
use Rattle.std.specs.Prelude.{◌||◌, slice_get, slice_set}
use Rattle.tdf_bind_tables.specs.declared.actors.ActorRow.{ActorRow}
use Rattle.tdf_dynamic_plans.specs.Attributes.{AttrsOf}
use Rattle.tdf_fixed.specs.declared.raw.Raw.{Raw}
use Rattle.tdf_dynamic.specs.Below.{Flat}
use Rattle.tdf_dynamic.proofs.Api.{get_inside, some_same}
use Rattle.tdf_graph.specs.declared.actors.Actor.{Actor}
use Rattle.tdf_graph.specs.declared.actors.Actor.TheVariants as actor
use Rattle.tdf_sim_history.specs.Instant.{RunFault, actor_of_entry, all_firings, at_begin, boundary, boundary_of, changed_by, events_of, fired, fired_as, firing, firing_of, instant, is_entry_due, is_over, has_write, next_entry, plan_length, settled_as, stepped, with_cluster, with_new, with_read, with_same}
use Rattle.tdf_sim_history.specs.Texts.{left_by}
use Rattle.tdf_sim_history.specs.World.{Change, ClusterAt, New, Refused, Rules, Same, Settled, World, next_change}
use Rattle.tdf_sim_history.specs.History.{Fault, Going, Past, Step, and_then, turns_to}
use Rattle.tdf_schedule.specs.declared.entry.Entry.{Entry}
use Rattle.tdf_lang_tree.specs.Pure.{PureTree}

-- a list with one item set has at that place the item, and elsewhere what it had
set_found : {A : Type 0} (xs : List A) (i j : ℕ) (x y : A) → i < length xs → slice_get (slice_set xs i y) j ≡ Some x → ((j ≡ i) × (y ≡ x)) ⊎ ((j ≢ i) × (slice_get xs j ≡ Some x))
set_found [] i j x y inside at = absurd (omega (arith, inside))
set_found (z ∷ xs) zero zero x y inside at = inl (refl, some_same y x at)
set_found (z ∷ xs) zero (suc j) x y inside at = inr (λ e. omega (arith, e), at)
set_found (z ∷ xs) (suc i) zero x y inside at = inr (λ e. omega (arith, e), at)
set_found (z ∷ xs) (suc i) (suc j) x y inside at = elim (set_found xs i j x y (omega (arith, inside)) at) [
  | inl here ↦ inl (ap suc here.0, here.1)
  | inr there ↦ inr (λ e. there.0 (omega (arith, e)), there.1)
]

-- as many clusters as before, each in a relation to what it was
pub record AllBy {K : Type 0} (R : ClusterAt → ClusterAt → Type 0) (w v : World K) : Type 0 where
  pub same : length v.clusters ≡ length w.clusters
  pub each : (n : ℕ) (c d : ClusterAt) → slice_get w.clusters n ≡ Some c → slice_get v.clusters n ≡ Some d → R c d

module _ {K : Type 0} (R : ClusterAt → ClusterAt → Type 0) (itself : (c : ClusterAt) → R c c) (through : (b c d : ClusterAt) → R b c → R c d → R b d) where
  pub all_itself : (w : World K) → AllBy R w w
  all_itself w = record { same = refl; each = λ n c d at to. subst (R c) (some_same c d (sym at ∙ to)) (itself c) }

  pub all_through : (u w v : World K) → AllBy R u w → AllBy R w v → AllBy R u v
  all_through u w v x y = record {
    same = y.same ∙ x.same;
    each = λ n b d at to. (
        let c = get_inside w.clusters n (let i = slice_get_within u.clusters n b at in let s = x.same in omega (arith, i, s)) in
        through b c.0 d (x.each n b c.0 at c.1) (y.each n c.0 d c.1 to));
  }

  -- one cluster goes on
  one_goes : (w v : World K) (n : ℕ) (c d : ClusterAt) → slice_get w.clusters n ≡ Some c → v.clusters ≡ slice_set w.clusters n d → R c d → AllBy R w v
  one_goes w v n c d at is goes = record {
    same = ap length is ∙ length-set w.clusters n d;
    each = λ k b e at_b at_e. elim (set_found w.clusters n k e d (slice_get_within w.clusters n c at) (ap (λ l. slice_get l k) (sym is) ∙ at_e)) [
      | inl here ↦ subst (λ x. R x e) (some_same c b (sym at ∙ ap (slice_get w.clusters) (sym here.0) ∙ at_b)) (subst (R c) here.1 goes)
      | inr there ↦ subst (R b) (some_same b e (sym at_b ∙ there.1)) (itself b)
    ];
  }

  -- a step leads to a world whose clusters go on, also where it ends the run
  abbrev pub LeadsBy : World K → Step (World K) RunFault → Type 0
  LeadsBy w s = AllBy R w (left_by s)

  leads_on : (u w : World K) (s : Step (World K) RunFault) → AllBy R u w → LeadsBy w s → LeadsBy u s
  leads_on u w s x y = all_through u w (left_by s) x y

  pub then_by : (w : World K) (s : Step (World K) RunFault) (next : World K → Step (World K) RunFault) → LeadsBy w s → ((v : World K) → LeadsBy v (next v)) → LeadsBy w (and_then s next)
  then_by w (Going v) next x y = leads_on w v (next v) x (y v)
  then_by w (Fault fault v) next x y = x
  then_by w (Past v) next x y = x

  pub turns_by : (turn : ℕ → World K → Step (World K) RunFault) → ((n : ℕ) (v : World K) → LeadsBy v (turn n v)) → (n : ℕ) (w : World K) → LeadsBy w (turns_to turn n w)
  unfolding turns_to
  turns_by turn each zero w = all_itself w
  turns_by turn each (suc n) w = then_by w (turns_to turn n w) (turn n) (turns_by turn each n w) (each n)

  if_leads : (w : World K) (b : Bool) (s t : Step (World K) RunFault) → LeadsBy w s → LeadsBy w t → LeadsBy w (if b then s else t)
  if_leads w true s t x y = x
  if_leads w false s t x y = y

  module _ (model : PureTree) (flat : Flat) (rules : Rules K) (step_is : (c : ClusterAt) → R c (stepped c)) (read_is : (m : ℕ) (value : Raw) (c : ClusterAt) → R c (with_read m value c)) where
    fired_leads : (n m : ℕ) (o : Option ActorRow) (c : ClusterAt) (w : World K) → slice_get w.clusters n ≡ Some c → AllBy R w (fired model flat rules n m o c w)
    fired_leads n m None c w at = one_goes w _ n c (stepped c) at refl (step_is c)
    fired_leads n m (Some row) c w at = of_kind row.kind
      where
        of_kind : (kind : Actor) → AllBy R w (fired_as model flat rules n m kind c w)
        of_kind actor.Module = one_goes w _ n c (stepped c) at refl (step_is c)
        of_kind actor.Sampler = one_goes w _ n c _ at refl (through c (with_read m _ c) (stepped (with_read m _ c)) (read_is m _ c) (step_is (with_read m _ c)))
        of_kind actor.Sink = one_goes w _ n c (stepped c) at refl (step_is c)

    firing_leads : (time n : ℕ) (w : World K) (o : Option ClusterAt) → slice_get w.clusters n ≡ o → LeadsBy w (firing_of model flat rules time n o w)
    firing_leads time n w None at = all_itself w
    firing_leads time n w (Some c) at = if_leads w (is_entry_due time c (next_entry c)) _ _
        (if_leads w (nat_eq w.left 0) _ _ (all_itself w) (fired_leads n (actor_of_entry (next_entry c)) (slice_get flat.tables.actors (actor_of_entry (next_entry c))) c w at)) (all_itself w)

    pub firing_by : (time n : ℕ) (w : World K) → LeadsBy w (firing model flat rules time n w)
    firing_by time n w = firing_leads time n w (slice_get w.clusters n) refl

    pub firings_by : (time n : ℕ) (w : World K) → LeadsBy w (all_firings model flat rules time n w)
    firings_by time n w = turns_by (λ k v. firing model flat rules time n v) (λ k v. firing_by time n v) (plan_length (slice_get w.clusters n)) w

    -- and its boundaries
    module _ (same_is : (time : ℕ) (table : List AttrsOf) (c : ClusterAt) → R c (with_same time table c))
        (new_is : (time : ℕ) (table : List AttrsOf) (counts : List ℕ) (period : ℕ) (entries : List Entry) (bounds : List ℕ) (c : ClusterAt)
        → next_change c ≡ New table counts period entries bounds → R c (with_new flat.tables time table counts period entries bounds c)) where
      changed_leads : (time n : ℕ) (w : World K) (c : ClusterAt) → slice_get w.clusters n ≡ Some c → (x : Change) → next_change c ≡ x → LeadsBy w (changed_by flat.tables time n c x w)
      changed_leads time n w c at (Same table) told = one_goes w (with_cluster n (with_same time table c) w) n c (with_same time table c) at refl (same_is time table c)
      changed_leads time n w c at (New table counts period entries bounds) told =
          one_goes w _ n c (with_new flat.tables time table counts period entries bounds c) at refl (new_is time table counts period entries bounds c told)
      changed_leads time n w c at (Refused fault) told = all_itself w

      boundary_leads : (time n : ℕ) (w : World K) (o : Option ClusterAt) → slice_get w.clusters n ≡ o → LeadsBy w (boundary_of flat.tables time n o w)
      boundary_leads time n w None at = all_itself w
      boundary_leads time n w (Some c) at = if_leads w (is_over time c) _ _ (if_leads w (nat_eq w.left 0) _ _ (all_itself w) (changed_leads time n w c at (next_change c) refl)) (all_itself w)

      pub boundaries_by : (time n : ℕ) (w : World K) → LeadsBy w (boundary flat.tables time n w)
      boundaries_by time n w = boundary_leads time n w (slice_get w.clusters n) refl

      settled_leads : (w : World K) (o : Option (Settled K)) → LeadsBy w (settled_as o w)
      settled_leads w None = all_itself w
      settled_leads w (Some s) = record { same = refl; each = (all_itself w).each }

      events_lead : (time : ℕ) (w : World K) → LeadsBy w (events_of rules time w)
      events_lead time w = if_leads w (has_write w.written || rules.event_side.is_due w.events time) (settled_as (rules.event_side.settle time w.written w.left w.events) w) (Going w)
          (settled_leads w (rules.event_side.settle time w.written w.left w.events)) (all_itself w)

      begin_goes : (w : World K) → AllBy R w (at_begin w)
      begin_goes w = record { same = refl; each = (all_itself w).each }

      pub instant_by : (time : ℕ) (w : World K) → LeadsBy w (instant model flat rules time w)
      instant_by time w =
          then_by w (and_then (turns_to (boundary flat.tables time) (length w.clusters) (at_begin w)) (λ v. turns_to (all_firings model flat rules time) (length w.clusters) v)) (events_of rules time)
          (then_by w (turns_to (boundary flat.tables time) (length w.clusters) (at_begin w)) (λ v. turns_to (all_firings model flat rules time) (length w.clusters) v)
          (leads_on w (at_begin w) (turns_to (boundary flat.tables time) (length w.clusters) (at_begin w)) (begin_goes w)
          (turns_by (boundary flat.tables time) (boundaries_by time) (length w.clusters) (at_begin w)))
          (λ v. turns_by (all_firings model flat rules time) (λ n u. firings_by time n u) (length w.clusters) v))
          (λ v. events_lead time v)
