-- What modules ask for leads to the same where the modules of the table ask for the same.
use Rattle.std.proofs.Common.{◌≡◌, ◌∙◌, ℕ, suc, false, Some, List, [], ◌∷◌, map, slice_get, refl, sym, ap, subst}
use Rattle.std.proofs.lemmas.Option.{get_or_from_slice_get}
use Rattle.std.specs.Prelude.{All}
use Rattle.tdf_base.specs.declared.faults.Fault.{Fault}
use Rattle.tdf_bind_tables.specs.FlatTables.{FlatTablesOf}
use Rattle.tdf_dynamic.specs.Asked.{AskedOf, HasSameRates, IsQuiet, attrs_after}
use Rattle.tdf_dynamic.specs.Change.{AreUnmarked, Asks, HasSameSteps, IsFirstChangeFault, IsFirstRow, IsMarked, IsNewPlan, IsSame, OfPlan, OfRange, OfRejected, OfSteps, Rejects, TimingsOf, table_after}
use Rattle.tdf_dynamic_plans.specs.Attributes.{AttrsOf}
use Rattle.tdf_dynamic_plans.specs.Faults.{HasTiming, IsPlanFault, IsPlanOf, IsStepsFault}
use Rattle.tdf_dynamic_plans.specs.Rates.{net_of, net_ports}
use Rattle.tdf_schedule.specs.declared.entry.Plan.{Plan}
use Rattle.tdf_sim_history.specs.Answers.{Leads}
use Rattle.tdf_sim_history.specs.World.{Change, New, Refused, Same}
use Rattle.tdf_streams.proofs.Api.{get_inside}

map_at : {A B : Type 0} (f g : A → B) (xs : List A) → ((j : ℕ) (x : A) → slice_get xs j ≡ Some x → f x ≡ g x) → map f xs ≡ map g xs
map_at f g [] same = refl
map_at f g (x ∷ xs) same = rw (same 0 x refl, map_at f g xs (λ j y at. same (suc j) y at)) refl

module _ (tables : FlatTablesOf) (number : ℕ) (table : List AttrsOf) where
  -- the rows of the table ask for the same
  abbrev pub AskAlike : (one two : Asks) → Type 0
  AskAlike one two = (j : ℕ) (a : AttrsOf) → slice_get table j ≡ Some a → two a ≡ one a

  pub alike_back : (one two : Asks) → AskAlike one two → AskAlike two one
  alike_back one two same j a at = sym (same j a at)

  module _ (one two : Asks) (same : AskAlike one two) where
    after_same : table_after one table ≡ table_after two table
    after_same = map_at (λ a. attrs_after a (one a)) (λ a. attrs_after a (two a)) table (λ j a at. ap (attrs_after a) (sym (same j a at)))

    all_same : (P : AttrsOf → AskedOf → Type 0) → All (λ a. P a (one a)) table → All (λ a. P a (two a)) table
    all_same P all j d below =
        let x = get_inside table j below in
        let is = get_or_from_slice_get table j x.0 d x.1 in
        subst (λ a. P a (two a)) (sym is) (subst (P x.0) (sym (same j x.0 x.1)) (subst (λ a. P a (one a)) is (all j d below)))

    quiet_same : IsSame one table → IsSame two table
    quiet_same all = all_same IsQuiet all

    unmarked_same : AreUnmarked one table → AreUnmarked two table
    unmarked_same all = all_same (λ a asks. asks.out_of_range ≡ false) all

    times_of : TimingsOf tables number one table → TimingsOf tables number two table
    times_of times = record {
      before = times.before;
      after = record {
        counts = times.after.counts;
        steps = times.after.steps;
        timing = subst (λ (t : List AttrsOf). HasTiming tables (net_of tables t) number t times.after.counts times.after.steps) after_same times.after.timing;
      };
    }

    rejects_same : (times : TimingsOf tables number one table) (j : ℕ) (a : AttrsOf) → slice_get table j ≡ Some a → Rejects tables number one table times a → Rejects tables number two table (times_of times) a
    unfolding times_of
    rejects_same times j a at is = record {
      flag = ap (λ x. (attrs_after a x).accepts) (same j a at) ∙ is.flag;
      same = subst (λ x. HasSameRates a (attrs_after a x)) (sym (same j a at)) is.same;
      moved = λ steps. is.moved (subst (λ (t : List AttrsOf). HasSameSteps (net_ports tables table) (net_ports tables t) times.before.steps times.after.steps a) (sym after_same) steps);
    }

  -- the same in both ways
  module _ (one two : Asks) (same : AskAlike one two) where
    first_as : (P Q : AttrsOf → Type 0) → ((j : ℕ) (a : AttrsOf) → slice_get table j ≡ Some a → P a → Q a) → ((j : ℕ) (a : AttrsOf) → slice_get table j ≡ Some a → Q a → P a) → (a : AttrsOf) → IsFirstRow table P a → IsFirstRow table Q a
    first_as P Q to back a is = record {
      place = is.place;
      at = is.at;
      holds = to is.place a is.at is.holds;
      before = λ j other below at holds. is.before j other below at (back j other at holds);
    }

    differs_same : (IsSame one table → ⊥) → IsSame two table → ⊥
    differs_same differs quiet = differs (quiet_same two one (alike_back one two same) quiet)

    marked_to : (j : ℕ) (a : AttrsOf) → slice_get table j ≡ Some a → IsMarked one a → IsMarked two a
    marked_to j a at is = ap (λ (x : AskedOf). x.out_of_range) (same j a at) ∙ is

    marked_back : (j : ℕ) (a : AttrsOf) → slice_get table j ≡ Some a → IsMarked two a → IsMarked one a
    marked_back j a at is = ap (λ (x : AskedOf). x.out_of_range) (sym (same j a at)) ∙ is

    -- rejecting, by the same timings
    rejects_back : (times : TimingsOf tables number one table) (j : ℕ) (a : AttrsOf) → slice_get table j ≡ Some a → Rejects tables number two table (times_of one two same times) a → Rejects tables number one table times a
    unfolding times_of
    rejects_back times j a at is = record {
      flag = ap (λ x. (attrs_after a x).accepts) (sym (same j a at)) ∙ is.flag;
      same = subst (λ x. HasSameRates a (attrs_after a x)) (same j a at) is.same;
      moved = λ steps. is.moved (subst (λ (t : List AttrsOf). HasSameSteps (net_ports tables table) (net_ports tables t) times.before.steps times.after.steps a) (after_same one two same) steps);
    }

    accepted_same : (times : TimingsOf tables number one table) → All (λ a. Rejects tables number one table times a → ⊥) table → All (λ a. Rejects tables number two table (times_of one two same times) a → ⊥) table
    accepted_same times all j d below is =
        let x = get_inside table j below in
        let item = get_or_from_slice_get table j x.0 d x.1 in
        all j d below (subst (λ a. Rejects tables number one table times a) (sym item) (rejects_back times j x.0 x.1 (subst (λ a. Rejects tables number two table (times_of one two same times) a) item is)))

    fault_same : (fault : Fault) → IsFirstChangeFault tables number one table fault → IsFirstChangeFault tables number two table fault
    unfolding times_of
    fault_same fault (OfRange a first why) = OfRange a (first_as (IsMarked one) (IsMarked two) marked_to marked_back a first) why
    fault_same fault (OfSteps unmarked steps) = OfSteps (unmarked_same one two same unmarked)
        (subst (λ (t : List AttrsOf). IsStepsFault tables (net_of tables t) number t fault) (after_same one two same) steps)
    fault_same fault (OfRejected unmarked times a first why) = OfRejected (unmarked_same one two same unmarked) (times_of one two same times) a
        (first_as (Rejects tables number one table times) (Rejects tables number two table (times_of one two same times)) (rejects_same one two same times) (rejects_back times) a first) why
    fault_same fault (OfPlan unmarked times accepted plan) = OfPlan (unmarked_same one two same unmarked) (times_of one two same times) (accepted_same times accepted)
        (subst (λ (t : List AttrsOf). IsPlanFault tables (net_of tables t) t times.after.counts times.after.steps fault) (after_same one two same) plan)

    plan_same : (plan : Plan) → IsNewPlan tables number one table plan → IsNewPlan tables number two table plan
    unfolding times_of
    plan_same plan is = record {
      differs = differs_same is.differs;
      unmarked = unmarked_same one two same is.unmarked;
      times = times_of one two same is.times;
      accepted = accepted_same is.times is.accepted;
      plan_is = subst (λ (t : List AttrsOf). IsPlanOf (net_of tables t) is.times.after.counts is.times.after.steps plan) (after_same one two same) is.plan_is;
    }

    pub leads_same : (x : Change) → Leads tables number one table x → Leads tables number two table x
    leads_same (Same new) leads = (quiet_same one two same leads.0, leads.1 ∙ after_same one two same)
    leads_same (New new counts period entries bounds) leads = record {
      table_is = leads.table_is ∙ after_same one two same;
      plan = leads.plan;
      plan_is = plan_same leads.plan leads.plan_is;
      counts_are = leads.counts_are;
      period_is = leads.period_is;
      entries_are = leads.entries_are;
      bounds_are = leads.bounds_are;
    }
    leads_same (Refused fault) leads = record { differs = differs_same leads.differs; first = fault_same fault leads.first }
