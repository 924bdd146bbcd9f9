-- Values that are given are those of one table.
use Rattle.std.proofs.Common.{◌≡◌, ◌∙◌, ◌+◌, ◌++◌, ◌∷◌, [], ℕ, List, drop, length, map, take, refl, sym, ap, arith}
use Rattle.std.proofs.lemmas.List.{drop_at, take_at}
use Rattle.std.proofs.lemmas.List.Elements.{recursion_from_All}
use Rattle.std.specs.List.{AllByRecursion, flat_map}
use Rattle.std.specs.Prelude.{slice_get}
use Rattle.tdf_bind.specs.declared.model.Flat.{Flat}
use Rattle.tdf_streams.specs.Below.{limits_in}
use Rattle.tdf_dynamic_plans.specs.Attributes.{AttrsOf, IsOfCluster, ports_of_module}
use Rattle.tdf_dynamic_values.specs.Laws.{ValuesAreOfOne}
use Rattle.tdf_streams.specs.Periods.{HasAllowedRates}

head_of : {X : Type 0} (d : X) → List X → X
head_of d [] = d
head_of d (x ∷ xs) = x

rest_of : {X : Type 0} → List X → List X
rest_of [] = []
rest_of (x ∷ xs) = xs

split_front : (xs ys us vs : List ℕ) → length xs ≡ length us → xs ++ ys ≡ us ++ vs → xs ≡ us
split_front xs ys us vs long same = sym (take_at xs ys (length us) long) ∙ ap (take (length us)) same ∙ take_at us vs (length us) refl

split_back : (xs ys us vs : List ℕ) → length xs ≡ length us → xs ++ ys ≡ us ++ vs → ys ≡ vs
split_back xs ys us vs long same = sym (drop_at xs ys (length us) long) ∙ ap (drop (length us)) same ∙ drop_at us vs (length us) refl

module _ (flat : Flat) (cluster : ℕ) where
  -- rows of one module have as many rates, ports and timesteps
  module _ (a b : AttrsOf) (is : IsOfCluster flat.tables cluster a) (are : IsOfCluster flat.tables cluster b) (allowed : HasAllowedRates flat a) (other : HasAllowedRates flat b) (number : a.number ≡ b.number) where
    ports_same : a.ports ≡ b.ports
    ports_same = is.own ∙ ap (ports_of_module flat.tables.ports) number ∙ sym are.own

    steps_long : length a.steps ≡ length b.steps
    steps_long = is.each ∙ ap (λ (l : List ℕ). 1 + length l) ports_same ∙ sym are.each

    rates_long : length a.rates ≡ length b.rates
    rates_long = allowed.long ∙ ap (λ n. length (limits_in flat.checked (slice_get flat.tables.modules n))) number ∙ sym other.long

    row_same : a.accepts ≡ b.accepts → a.rates ≡ b.rates → a.steps ≡ b.steps → a ≡ b
    row_same accepts rates steps = let ports = ports_same in λ i. record { number = number i; ports = ports i; accepts = accepts i; rates = rates i; steps = steps i }

  tables_same : (one other : List AttrsOf) → AllByRecursion (IsOfCluster flat.tables cluster) one → AllByRecursion (IsOfCluster flat.tables cluster) other
      → AllByRecursion (HasAllowedRates flat) one → AllByRecursion (HasAllowedRates flat) other
      → map (λ (a : AttrsOf). a.number) one ≡ map (λ (a : AttrsOf). a.number) other → map (λ (a : AttrsOf). a.accepts) one ≡ map (λ (a : AttrsOf). a.accepts) other
      → flat_map (λ (a : AttrsOf). a.rates) one ≡ flat_map (λ (a : AttrsOf). a.rates) other → flat_map (λ (a : AttrsOf). a.steps) one ≡ flat_map (λ (a : AttrsOf). a.steps) other → one ≡ other
  unfolding head_of rest_of
  tables_same [] [] is are p q members accepts rates steps = refl
  tables_same [] (b ∷ other) is are p q members accepts rates steps = absurd (let l = ap length members in omega (arith, l))
  tables_same (a ∷ one) [] is are p q members accepts rates steps = absurd (let l = ap length members in omega (arith, l))
  tables_same (a ∷ one) (b ∷ other) is are p q members accepts rates steps =
      let number : a.number ≡ b.number = ap (head_of 0) members in
      let r_long : length a.rates ≡ length b.rates = rates_long a b is.0 are.0 p.0 q.0 number in
      let s_long : length a.steps ≡ length b.steps = steps_long a b is.0 are.0 p.0 q.0 number in
      let first : a ≡ b = row_same a b is.0 are.0 p.0 q.0 number (ap (head_of a.accepts) accepts)
      (split_front a.rates (flat_map (λ (x : AttrsOf). x.rates) one) b.rates (flat_map (λ (x : AttrsOf). x.rates) other) r_long rates)
      (split_front a.steps (flat_map (λ (x : AttrsOf). x.steps) one) b.steps (flat_map (λ (x : AttrsOf). x.steps) other) s_long steps) in
      let rest : one ≡ other = tables_same one other is.1 are.1 p.1 q.1 (ap rest_of members) (ap rest_of accepts)
      (split_back a.rates (flat_map (λ (x : AttrsOf). x.rates) one) b.rates (flat_map (λ (x : AttrsOf). x.rates) other) r_long rates)
      (split_back a.steps (flat_map (λ (x : AttrsOf). x.steps) one) b.steps (flat_map (λ (x : AttrsOf). x.steps) other) s_long steps) in
      λ i. first i ∷ rest i

pub values_of_one : ValuesAreOfOne
values_of_one flat cluster accepts rates steps one other is holds are others =
    tables_same flat cluster one other
    (recursion_from_All (IsOfCluster flat.tables cluster) one is.own) (recursion_from_All (IsOfCluster flat.tables cluster) other are.own)
    (recursion_from_All (HasAllowedRates flat) one is.allowed) (recursion_from_All (HasAllowedRates flat) other are.allowed)
    (holds.members ∙ sym others.members) (holds.accepts_are ∙ sym others.accepts_are) (holds.rates_are ∙ sym others.rates_are) (holds.steps_are ∙ sym others.steps_are)
