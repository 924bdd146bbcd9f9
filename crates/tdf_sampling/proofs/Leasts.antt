-- The best of some numbers is one of them, and before each of them.
use Rattle.std.proofs.Common.{◌≡◌, ℕ, inl, inr, Bool, true, false, List, [], ◌∷◌, refl, ◌∙◌, sym, ap, subst, ⊎_elim, Option, Some, None}
use Rattle.std.proofs.lemmas.Bool.{cases_Bool}
use Rattle.std.specs.List.{AllByRecursion, fold}
use Rattle.tdf_sampling.proofs.CellOrder.{one_text, total, trans}
use Rattle.tdf_sampling.specs.Laws.{FindsGreatest, FindsLeast, IsKnownCell, IsAmongCells}
use Rattle.tdf_sampling.specs.Order.{is_at_most}
use Rattle.tdf_sampling.specs.Statistics.{greater_cell, greatest_cell, least_cell, lesser_cell}

abbrev Test : Type 0
Test = List ℕ → List ℕ → Bool

-- a step that keeps the first of two, if it is before the second
record Picks (step : Option (List ℕ) → List ℕ → Option (List ℕ)) (before : Test) : Type 0 where
  pub start : (x : List ℕ) → step None x ≡ Some x
  pub stays : (m x : List ℕ) → before m x ≡ true → step (Some m) x ≡ Some m
  pub goes : (m x : List ℕ) → before m x ≡ false → step (Some m) x ≡ Some x

record Orders (before : Test) : Type 0 where
  pub total : (a b : List ℕ) → IsKnownCell a → IsKnownCell b → before a b ≡ false → before b a ≡ true
  pub trans : (a b c : List ℕ) → IsKnownCell a → IsKnownCell b → IsKnownCell c → before a b ≡ true → before b c ≡ true → before a c ≡ true
  pub one : (a b : List ℕ) → IsKnownCell a → IsKnownCell b → before a b ≡ true → before b a ≡ true → a ≡ b

record IsBest (before : Test) (numbers : List (List ℕ)) (number : List ℕ) : Type 0 where
  pub one : IsAmongCells numbers number
  pub each : AllByRecursion (λ other. before number other ≡ true) numbers

number_in : (numbers : List (List ℕ)) (number : List ℕ) → AllByRecursion IsKnownCell numbers → IsAmongCells numbers number → IsKnownCell number
number_in [] number all one = absurd one
number_in (x ∷ xs) number all (inl same) = subst IsKnownCell (sym same) all.0
number_in (x ∷ xs) number all (inr more) = number_in xs number all.1 more

before_in : (before : Test) (numbers : List (List ℕ)) (best number : List ℕ) → AllByRecursion (λ other. before best other ≡ true) numbers → IsAmongCells numbers number → before best number ≡ true
before_in before [] best number all one = absurd one
before_in before (x ∷ xs) best number all (inl same) = subst (λ y. before best y ≡ true) (sym same) all.0
before_in before (x ∷ xs) best number all (inr more) = before_in before xs best number all.1 more

module _ (step : Option (List ℕ) → List ℕ → Option (List ℕ)) (before : Test) (picks : Picks step before) (orders : Orders before) where
  itself : (x : List ℕ) → IsKnownCell x → before x x ≡ true
  itself x h = ⊎_elim (λ (good : before x x ≡ true). good) (λ (bad : before x x ≡ false). orders.total x x h h bad) (cases_Bool (before x x))

  one_past : (m x : List ℕ) (xs : List (List ℕ)) (r : List ℕ) → IsAmongCells (m ∷ xs) r → IsAmongCells (m ∷ (x ∷ xs)) r
  one_past m x xs r (inl same) = inl same
  one_past m x xs r (inr more) = inr (inr more)

  best_by : (m x : List ℕ) (xs : List (List ℕ))
      → ((n : List ℕ) → AllByRecursion IsKnownCell (n ∷ xs) → (r : List ℕ) × (fold step (Some n) xs ≡ Some r) × IsBest before (n ∷ xs) r)
      → AllByRecursion IsKnownCell (m ∷ (x ∷ xs)) → (b : Bool) → before m x ≡ b
      → (r : List ℕ) × (fold step (step (Some m) x) xs ≡ Some r) × IsBest before (m ∷ (x ∷ xs)) r
  best_by m x xs rest all true e =
      let more = rest m (all.0, all.1.1) in
      let number = number_in (m ∷ xs) more.0 (all.0, all.1.1) more.2.one in (
        more.0,
        ap (λ o. fold step o xs) (picks.stays m x e) ∙ more.1,
        record {
          one = one_past m x xs more.0 more.2.one;
          each = (more.2.each.0, (orders.trans more.0 m x number all.0 all.1.0 more.2.each.0 e, more.2.each.1));
        },
      )
  best_by m x xs rest all false e =
      let more = rest x all.1 in
      let number = number_in (x ∷ xs) more.0 all.1 more.2.one in
      let back = orders.total m x all.0 all.1.0 e in (
        more.0,
        ap (λ o. fold step o xs) (picks.goes m x e) ∙ more.1,
        record {
          one = inr more.2.one;
          each = (orders.trans more.0 x m number all.1.0 all.0 more.2.each.0 back, more.2.each);
        },
      )

  best : (m : List ℕ) (xs : List (List ℕ)) → AllByRecursion IsKnownCell (m ∷ xs) → (r : List ℕ) × (fold step (Some m) xs ≡ Some r) × IsBest before (m ∷ xs) r
  best m [] all = (m, refl, record { one = inl refl; each = (itself m all.0, tt) })
  best m (x ∷ xs) all = best_by m x xs (λ n. best n xs) all (before m x) refl

  fold_best : (m : List ℕ) (xs : List (List ℕ)) → AllByRecursion IsKnownCell (m ∷ xs) → (r : List ℕ) × (fold step None (m ∷ xs) ≡ Some r) × IsBest before (m ∷ xs) r
  fold_best m xs all =
      let more = best m xs all in
      (more.0, ap (λ o. fold step o xs) (picks.start m) ∙ more.1, more.2)

  finds : (numbers : List (List ℕ)) (number : List ℕ) → AllByRecursion IsKnownCell numbers → fold step None numbers ≡ Some number → IsBest before numbers number
  finds [] number all e = absurd (let f : None ≡ Some number = e in cc)
  finds (m ∷ xs) number all e =
      let more = fold_best m xs all in
      let same : more.0 ≡ number = let f : Some more.0 ≡ Some number = sym more.1 ∙ e in cc in
      subst (IsBest before (m ∷ xs)) same more.2

  found : (numbers : List (List ℕ)) (number : List ℕ) → AllByRecursion IsKnownCell numbers → IsBest before numbers number → fold step None numbers ≡ Some number
  found [] number all h = absurd h.one
  found (m ∷ xs) number all h =
      let more = fold_best m xs all in
      let a = number_in (m ∷ xs) more.0 all more.2.one in
      let b = number_in (m ∷ xs) number all h.one in
      let there = before_in before (m ∷ xs) more.0 number more.2.each h.one in
      let back = before_in before (m ∷ xs) number more.0 h.each more.2.one in
      more.1 ∙ ap Some (orders.one more.0 number a b there back)

lesser_picks : Picks lesser_cell is_at_most
lesser_picks = record {
  start = λ x. refl;
  stays = λ m x e. rw e refl;
  goes = λ m x e. rw e refl;
}

greater_picks : Picks greater_cell (λ g x. is_at_most x g)
greater_picks = record {
  start = λ x. refl;
  stays = λ m x e. rw e refl;
  goes = λ m x e. rw e refl;
}

least_orders : Orders is_at_most
least_orders = record { total = total; trans = trans; one = one_text }

greatest_orders : Orders (λ g x. is_at_most x g)
greatest_orders = record {
  total = λ a b g h e. total b a h g e;
  trans = λ a b c g h i e f. trans c b a i h g f e;
  one = λ a b g h e f. one_text a b g h f e;
}

pub finds_least : FindsLeast
unfolding least_cell
finds_least numbers number all = (
  λ e. (let h = finds lesser_cell is_at_most lesser_picks least_orders numbers number all e in record { one = h.one; each = h.each }),
  λ h. found lesser_cell is_at_most lesser_picks least_orders numbers number all (record { one = h.one; each = h.each }),
)

pub finds_greatest : FindsGreatest
unfolding greatest_cell
finds_greatest numbers number all = (
  λ e. (let h = finds greater_cell (λ g x. is_at_most x g) greater_picks greatest_orders numbers number all e in record { one = h.one; each = h.each }),
  λ h. found greater_cell (λ g x. is_at_most x g) greater_picks greatest_orders numbers number all (record { one = h.one; each = h.each }),
)
