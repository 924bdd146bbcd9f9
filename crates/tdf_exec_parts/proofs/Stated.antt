-- States by module give values, one after the other, as a table has them.
use Rattle.std.proofs.Common.{◌⊎◌, ◌≡◌, ◌∙◌, ◌<◌, ◌+◌, ◌-◌, ◌++◌, ◌∷◌, [], ℕ, suc, List, length, refl, sym, ap, subst, inl, inr, arith}
use Rattle.std.proofs.lemmas.Bool.{cases_lt, false≢true}
use Rattle.std.proofs.lemmas.List.{get_or-append_right, get_or_append_left, length-append, length-map}
use Rattle.std.proofs.lemmas.List.Elements.{All-append, All-nil}
use Rattle.std.proofs.lemmas.List.Sums.{sum_by-cons}
use Rattle.std.specs.List.{All}
use Rattle.std.specs.Prelude.{Err, IsOk, Result, slice_index}
use Rattle.tdf_base.specs.Limits.{time_end}
use Rattle.tdf_bind.specs.declared.model.Flat.{Flat}
use Rattle.tdf_base.specs.declared.faults.Fault.{Fault}
use Rattle.tdf_dynamic_first.specs.Text.{first_table}
use Rattle.tdf_dynamic_first.specs.declared.first.First.{First}
use Rattle.tdf_dynamic_plans.specs.declared.err.ChangeErr.{ChangeErr}
use Rattle.tdf_dynamic_plans.specs.declared.err.ChangeErr.TheVariants.{Memory, Refused}
use Rattle.tdf_exec_layout.specs.Below.{AreWithinLimits}
use Rattle.tdf_dynamic_plans.specs.Attributes.{AttrsOf, IsOfCluster}
use Rattle.tdf_dynamic_values.specs.States.{AreStatesFor, state_rates, state_steps}
use Rattle.tdf_dynamic_values.specs.Values.{limits_of_table, step_count}
use Rattle.tdf_exec_parts.specs.States.{AreStatesOfRows, IsStateOfRow}
use Rattle.tdf_expr_semantics.specs.Fits.{RatesFit}
use Rattle.tdf_expr_semantics.specs.Places.{RateLimits}
use Rattle.tdf_saved.specs.State.{ModuleStateOf}
use Rattle.tdf_exec_layout.proofs.Api.{get_high, get_low, text_attributes}

-- rates that fit, one after the other
fits_both : (front back : List RateLimits) (rates more : List ℕ) → RatesFit front rates → RatesFit back more → RatesFit (front ++ back) (rates ++ more)
fits_both front back rates more one two = record {
  long = length-append rates more ∙ ap (λ n. n + length more) one.long ∙ ap (λ n. length front + n) two.long ∙ sym (length-append front back);
  each = λ j l at. elim (cases_lt j (length front)) [
    | inl below ↦ (let h = one.each j l (sym (get_low front back j below) ∙ at) in
        let s : slice_index (rates ++ more) j ≡ slice_index rates j = get_or_append_left rates more 0 j (let n = one.long in omega (arith, below, n)) in
        (omega (arith, h.0, s), omega (arith, h.1, s)))
    | inr past ↦ (let h = two.each (j - length front) l (sym (get_high front back j past) ∙ at) in
        let s : slice_index (rates ++ more) j ≡ slice_index more (j - length front) = get_or-append_right rates more (length front) j 0 one.long past in
        (omega (arith, h.0, s), omega (arith, h.1, s)))
  ];
}

pub record AreListed (flat : Flat) (table : List AttrsOf) (modules : List ModuleStateOf) : Type 0 where
  pub rates : RatesFit (limits_of_table flat table) (state_rates modules)
  pub steps : length (state_steps modules) ≡ step_count table
  pub short : All (λ step. step < time_end) (state_steps modules)

listed : (flat : Flat) (table : List AttrsOf) (modules : List ModuleStateOf) → AreStatesOfRows flat table modules → AreListed flat table modules
listed flat [] [] are = record { rates = record { long = refl; each = λ j l at. absurd cc }; steps = refl; short = All-nil (λ step. step < time_end) }
listed flat [] (m ∷ modules) are = absurd (let l = are.long in omega (arith, l))
listed flat (a ∷ table) [] are = absurd (let l = are.long in omega (arith, l))
listed flat (a ∷ table) (m ∷ modules) are =
    let rest : AreStatesOfRows flat table modules = record { long = (let l = are.long in omega (arith, l)); each = λ i attrs x at there. are.each (suc i) attrs x at there } in
    let r = listed flat table modules rest in
    let one : IsStateOfRow flat a m = are.each 0 a m refl refl in
    record {
      rates = fits_both _ _ m.rates (state_rates modules) one.rates r.rates;
      steps = length-append m.steps (state_steps modules) ∙ ap (λ n. n + length (state_steps modules)) one.long ∙ ap (λ n. length a.steps + n) r.steps ∙ sym (sum_by-cons (λ (x : AttrsOf). length x.steps) a table);
      short = All-append (λ step. step < time_end) m.steps (state_steps modules) one.short r.short;
    }

pub states_for : (flat : Flat) (cluster : ℕ) (modules : List ModuleStateOf) → AreStatesOfRows flat (first_table flat cluster) modules → AreStatesFor flat cluster modules
states_for flat cluster modules are =
    let r = listed flat (first_table flat cluster) modules are in
    record {
      accepts_long = length-map modules (λ (m : ModuleStateOf). m.accept) ∙ are.long;
      rates_fit = r.rates;
      steps_long = r.steps;
      steps_short = r.short;
    }

-- the rows of the text are modules of the model
pub first_inside : (flat : Flat) (cluster : ℕ) → AreWithinLimits flat → (table : List AttrsOf) → table ≡ first_table flat cluster → All (λ (row : AttrsOf). row.number < length flat.tables.modules) table
first_inside flat cluster limits table is k d inside =
    (subst (All (IsOfCluster flat.tables cluster)) (sym is) (text_attributes flat cluster limits).own k d inside).is_module

-- states of a table that is the text's
pub states_of : (flat : Flat) (cluster : ℕ) (table : List AttrsOf) (modules : List ModuleStateOf) → table ≡ first_table flat cluster → AreStatesOfRows flat table modules → AreStatesOfRows flat (first_table flat cluster) modules
states_of flat cluster table modules is are = subst (λ (t : List AttrsOf). AreStatesOfRows flat t modules) is are

pub of_states : (flat : Flat) (cluster : ℕ) (table : List AttrsOf) (modules : List ModuleStateOf) → table ≡ first_table flat cluster → AreStatesOfRows flat (first_table flat cluster) modules → AreStatesOfRows flat table modules
of_states flat cluster table modules is are = subst (λ (t : List AttrsOf). AreStatesOfRows flat t modules) (sym is) are

-- a plan that there is is not refused
pub none_refused : (result : Result First ChangeErr) (fault : Fault) → result ≡ Err (Refused fault) → IsOk result ⊎ (result ≡ Err Memory) → ⊥
none_refused result fault is (inl ok) = false≢true (subst (λ (r : Result First ChangeErr). IsOk r) is ok)
none_refused result fault is (inr other) = cc
