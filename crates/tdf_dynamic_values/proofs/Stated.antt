-- The table of states, its plan and its faults.
use Rattle.std.proofs.Common.{◌≡◌, ℕ, Bool, List, sym, subst, ◌⊎◌}
use Rattle.std.proofs.lemmas.List.Elements.{All-nil}
use Rattle.std.specs.Prelude.{Result, Ok, Err, IsOk, IfOk, IfErr}
use Rattle.tdf_base.specs.declared.faults.Fault.{Fault}
use Rattle.tdf_bind.specs.declared.model.Flat.{Flat}
use Rattle.tdf_dynamic_first.specs.Text.{none_known}
use Rattle.tdf_dynamic_first.specs.declared.first.First.{First}
use Rattle.tdf_dynamic_plans.specs.Attributes.{AttrsOf}
use Rattle.tdf_dynamic_plans.specs.Faults.{IsRefusal, IsTableFault, IsTablePlan}
use Rattle.tdf_dynamic_plans.specs.Known.{AreTrueFor, IsTrueFor, PlansOf}
use Rattle.tdf_dynamic_plans.specs.declared.err.ChangeErr.{ChangeErr}
use Rattle.tdf_dynamic_plans.specs.declared.err.ChangeErr.TheVariants.{Memory, Refused}
use Rattle.tdf_dynamic_values.specs.Laws.{ValuesAreOfOne}
use Rattle.tdf_dynamic_values.specs.Planned.{IsTableFirst}
use Rattle.tdf_dynamic_values.specs.States.{AreStatesFor, IsStatesFault, IsTableOfStates, state_flags, state_rates, state_steps}
use Rattle.tdf_dynamic_values.specs.Values.{AreValuesFor, HoldsValues}
use Rattle.tdf_saved.specs.State.{ModuleStateOf}
use Rattle.tdf_schedule.specs.declared.entry.Plan.{Plan}
use Rattle.tdf_streams.specs.Periods.{AreAttributes}

-- no plan is known at first
pub none_true : (flat : Flat) (cluster : ℕ) (rows : List AttrsOf) (known : PlansOf) → known ≡ none_known flat.tables rows → AreTrueFor flat.tables cluster known.plans
none_true flat cluster rows known is = subst (λ (s : PlansOf). AreTrueFor flat.tables cluster s.plans) (sym is) (All-nil (IsTrueFor flat.tables cluster))

module _ (flat : Flat) (cluster : ℕ) (modules : List ModuleStateOf) where
  module _ (flags : List Bool) (rates steps : List ℕ) (flags_are : flags ≡ state_flags modules) (rates_are : rates ≡ state_rates modules) (steps_are : steps ≡ state_steps modules) where
    pub values_given : AreStatesFor flat cluster modules → AreValuesFor flat cluster flags rates steps
    values_given are = subst (λ (f : List Bool). AreValuesFor flat cluster f rates steps) (sym flags_are)
        (subst (λ (r : List ℕ). AreValuesFor flat cluster (state_flags modules) r steps) (sym rates_are)
        (subst (λ (s : List ℕ). AreValuesFor flat cluster (state_flags modules) (state_rates modules) s) (sym steps_are) are))

    pub states_held : (table : List AttrsOf) → AreAttributes flat cluster table → HoldsValues flat cluster flags rates steps table → IsTableOfStates flat cluster modules table
    states_held table attributes holds = record {
      attributes = attributes;
      holds = subst (λ (f : List Bool). HoldsValues flat cluster f (state_rates modules) (state_steps modules) table) flags_are
          (subst (λ (r : List ℕ). HoldsValues flat cluster flags r (state_steps modules) table) rates_are
          (subst (λ (s : List ℕ). HoldsValues flat cluster flags rates s table) steps_are holds));
    }

  module _ (law : ValuesAreOfOne) (table : List AttrsOf) (own : IsTableOfStates flat cluster modules table) where
    one : (other : List AttrsOf) → IsTableOfStates flat cluster modules other → other ≡ table
    one other is = law flat cluster (state_flags modules) (state_rates modules) (state_steps modules) other table is.attributes is.holds own.attributes own.holds

    -- what is found for the table is found for the states
    module _ (result : Result First ChangeErr) where
      pub table_of : IfOk result (IsTableFirst flat cluster table) → IfOk result (λ first. IsTableOfStates flat cluster modules first.attrs.rows)
      table_of = go result
        where
          go : (r : Result First ChangeErr) → IfOk r (IsTableFirst flat cluster table) → IfOk r (λ first. IsTableOfStates flat cluster modules first.attrs.rows)
          go (Ok first) is = subst (IsTableOfStates flat cluster modules) (sym is.attrs_are) own
          go (Err why) is = tt

      pub first_of : IfOk result (IsTableFirst flat cluster table) → IfOk result (λ first. IsTableFirst flat cluster first.attrs.rows first)
      first_of = go result
        where
          go : (r : Result First ChangeErr) → IfOk r (IsTableFirst flat cluster table) → IfOk r (λ first. IsTableFirst flat cluster first.attrs.rows first)
          go (Ok first) is = subst (λ (t : List AttrsOf). IsTableFirst flat cluster t first) (sym is.attrs_are) is
          go (Err why) is = tt

      pub refused_of : IfErr result (IsRefusal (IsTableFault flat.tables cluster table)) → IfErr result (IsRefusal (IsStatesFault flat cluster modules))
      refused_of = go result
        where
          go : (r : Result First ChangeErr) → IfErr r (IsRefusal (IsTableFault flat.tables cluster table)) → IfErr r (IsRefusal (IsStatesFault flat cluster modules))
          go (Ok first) is = tt
          go (Err (Refused fault)) is = record { table = table; is = own; has = is }
          go (Err Memory) is = tt

      pub always_refused : ((fault : Fault) → IsTableFault flat.tables cluster table fault → (result ≡ Err (Refused fault)) ⊎ (result ≡ Err Memory))
          → (fault : Fault) → IsStatesFault flat cluster modules fault → (result ≡ Err (Refused fault)) ⊎ (result ≡ Err Memory)
      always_refused always fault is = always fault (subst (λ (t : List AttrsOf). IsTableFault flat.tables cluster t fault) (one is.table is.is) is.has)

      pub always_first : ((plan : Plan) → IsTablePlan flat.tables cluster table plan → IsOk result ⊎ (result ≡ Err Memory))
          → (other : List AttrsOf) (plan : Plan) → IsTableOfStates flat cluster modules other → IsTablePlan flat.tables cluster other plan → IsOk result ⊎ (result ≡ Err Memory)
      always_first always other plan is planned = always plan (subst (λ (t : List AttrsOf). IsTablePlan flat.tables cluster t plan) (one other is) planned)
