-- A table that states say has, row by row, what the state of the module says.
use Rattle.std.proofs.Common.{◌≡◌, ◌∙◌, ◌<◌, ◌++◌, ◌∷◌, [], ℕ, zero, suc, Bool, List, Some, length, map, option_map, refl, sym, ap, subst, arith}
use Rattle.std.proofs.lemmas.Option.{same_Some, slice_get-map, slice_get_within}
use Rattle.std.specs.List.{flat_map}
use Rattle.std.specs.Prelude.{slice_get}
use Rattle.tdf_bind.specs.declared.model.Flat.{Flat}
use Rattle.tdf_exec_layout.specs.Below.{AreWithinLimits, HasAllowedRates, limits_in}
use Rattle.tdf_dynamic_first.specs.Text.{first_table}
use Rattle.tdf_dynamic_plans.specs.Attributes.{AttrsOf, IsOfCluster, ports_of_module}
use Rattle.tdf_dynamic_values.specs.States.{IsTableOfStates, state_rates, state_steps}
use Rattle.tdf_exec_parts.proofs.Rows.{all_at}
use Rattle.tdf_exec_parts.specs.States.{AreStatesOfRows}
use Rattle.tdf_saved.specs.State.{ModuleStateOf}
use Rattle.tdf_exec_layout.proofs.Api.{get_inside, text_attributes}

-- two lists that are joined from parts of the same lengths have the same parts
fronts_same : (one other more rest : List ℕ) → length one ≡ length other → one ++ more ≡ other ++ rest → (one ≡ other) × (more ≡ rest)
fronts_same [] [] more rest long same = (refl, same)
fronts_same [] (y ∷ ys) more rest long same = absurd (omega (arith, long))
fronts_same (x ∷ xs) [] more rest long same = absurd (omega (arith, long))
fronts_same (x ∷ xs) (y ∷ ys) more rest long same =
    let r = fronts_same xs ys more rest (omega (arith, long)) (tail_same x y (xs ++ more) (ys ++ rest) same) in
    let h : x ≡ y = head_same x y (xs ++ more) (ys ++ rest) same in
    (ap (λ z. z ∷ xs) h ∙ ap (λ (l : List ℕ). y ∷ l) r.0, r.1)
  where
    head_same : (a b : ℕ) (p q : List ℕ) → a ∷ p ≡ b ∷ q → a ≡ b
    head_same a b p q e = cc

    tail_same : (a b : ℕ) (p q : List ℕ) → a ∷ p ≡ b ∷ q → p ≡ q
    tail_same a b p q e = cc

-- the row of a module has the values that its state says
pub record IsSaid (attrs : AttrsOf) (m : ModuleStateOf) : Type 0 where
  pub accepts : attrs.accepts ≡ m.accept
  pub rates : attrs.rates ≡ m.rates
  pub steps : attrs.steps ≡ m.steps

-- as many values
abbrev AreAsMany : AttrsOf → ModuleStateOf → Type 0
AreAsMany attrs m = (length attrs.rates ≡ length m.rates) × (length attrs.steps ≡ length m.steps)

said : (table : List AttrsOf) (modules : List ModuleStateOf) → map (λ (a : AttrsOf). a.accepts) table ≡ map (λ (m : ModuleStateOf). m.accept) modules
    → flat_map (λ (a : AttrsOf). a.rates) table ≡ state_rates modules → flat_map (λ (a : AttrsOf). a.steps) table ≡ state_steps modules
    → ((i : ℕ) (a : AttrsOf) (m : ModuleStateOf) → slice_get table i ≡ Some a → slice_get modules i ≡ Some m → AreAsMany a m)
    → (i : ℕ) (a : AttrsOf) (m : ModuleStateOf) → slice_get table i ≡ Some a → slice_get modules i ≡ Some m → IsSaid a m
said [] modules flags rates steps many i a m at there = absurd cc
said (x ∷ table) [] flags rates steps many i a m at there = absurd cc
said (x ∷ table) (s ∷ modules) flags rates steps many i a m at there =
    let n = many 0 x s refl refl in
    let r = fronts_same x.rates s.rates (flat_map (λ (b : AttrsOf). b.rates) table) (state_rates modules) n.0 rates in
    let p = fronts_same x.steps s.steps (flat_map (λ (b : AttrsOf). b.steps) table) (state_steps modules) n.1 steps in
    go i (record { accepts = first_flag x.accepts s.accept _ _ flags; rates = r.0; steps = p.0 })
    (λ j b z here has. said table modules (later_flags x.accepts s.accept _ _ flags) r.1 p.1 (λ k c w o h. many (suc k) c w o h) j b z here has) at there
  where
    first_flag : (a b : Bool) (p q : List Bool) → a ∷ p ≡ b ∷ q → a ≡ b
    first_flag a b p q e = cc

    later_flags : (a b : Bool) (p q : List Bool) → a ∷ p ≡ b ∷ q → p ≡ q
    later_flags a b p q e = cc

    go : (j : ℕ) → IsSaid x s → ((k : ℕ) (b : AttrsOf) (z : ModuleStateOf) → slice_get table k ≡ Some b → slice_get modules k ≡ Some z → IsSaid b z)
        → slice_get (x ∷ table) j ≡ Some a → slice_get (s ∷ modules) j ≡ Some m → IsSaid a m
    go zero one rest here has = subst (λ (b : AttrsOf). IsSaid b m) (same_Some x a here) (subst (IsSaid x) (same_Some s m has) one)
    go (suc k) one rest here has = rest k a m here has

-- rows of the same numbers are the same modules, so they have as many values
module _ (flat : Flat) (cluster : ℕ) (limits : AreWithinLimits flat) (modules : List ModuleStateOf) (table : List AttrsOf) (states : AreStatesOfRows flat (first_table flat cluster) modules)
    (own : IsTableOfStates flat cluster modules table) where
  same_number : (i : ℕ) (a t : AttrsOf) → slice_get table i ≡ Some a → slice_get (first_table flat cluster) i ≡ Some t → a.number ≡ t.number
  same_number i a t at there = same_Some a.number t.number (sym (slice_get-map (λ (x : AttrsOf). x.number) table i ∙ ap (option_map (λ (x : AttrsOf). x.number)) at)
      ∙ ap (λ (l : List ℕ). slice_get l i) own.holds.members ∙ slice_get-map (λ (x : AttrsOf). x.number) (first_table flat cluster) i ∙ ap (option_map (λ (x : AttrsOf). x.number)) there)

  as_many : (i : ℕ) (a : AttrsOf) (m : ModuleStateOf) → slice_get table i ≡ Some a → slice_get modules i ≡ Some m → AreAsMany a m
  as_many i a m at there =
      let inside : i < length (first_table flat cluster) = (let w = slice_get_within modules i m there in let l = states.long in omega (arith, w, l)) in
      let t = get_inside (first_table flat cluster) i inside in
      let number = same_number i a t.0 at t.1 in
      let state = states.each i t.0 m t.1 there in
      let of = all_at (IsOfCluster flat.tables cluster) table i a own.attributes.own at in
      let of_text = all_at (IsOfCluster flat.tables cluster) (first_table flat cluster) i t.0 (text_attributes flat cluster limits).own t.1 in
      let ports : length a.ports ≡ length t.0.ports = ap length (of.own ∙ ap (ports_of_module flat.tables.ports) number ∙ sym of_text.own) in
      let allowed = all_at (HasAllowedRates flat) table i a own.attributes.allowed at in
      let steps : length a.steps ≡ length m.steps = (let x = of.each in let y = of_text.each in let z = state.long in omega (arith, x, y, z, ports)) in
      (allowed.long ∙ ap (λ n. length (limits_in flat.checked (slice_get flat.tables.modules n))) number ∙ sym state.rates.long, steps)

  pub row_said : (i : ℕ) (a : AttrsOf) (m : ModuleStateOf) → slice_get table i ≡ Some a → slice_get modules i ≡ Some m → IsSaid a m
  row_said = said table modules own.holds.accepts_are own.holds.rates_are own.holds.steps_are as_many
