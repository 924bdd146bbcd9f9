-- The first assignment with a property, one more looked at.
use Rattle.std.proofs.Common.{◌≡◌, ◌∙◌, ℕ, ◌+◌, ◌<◌, ◌≤◌, true, false, List, Option, Some, None, length, sym, ap, subst, arith, inl, inr, ◌⊎◌}
use Rattle.std.proofs.lemmas.Bool.{cases_eq}
use Rattle.std.proofs.lemmas.Bool.Decides.{nat_tests}
use Rattle.std.proofs.lemmas.Option.{slice_get_within}
use Rattle.std.specs.Prelude.{slice_get}
use Rattle.tdf_timestep.specs.Order.{is_before, spot_comes_before, port_rank, spot_of}
use Rattle.tdf_timestep.specs.declared.assign.Assign.{Assign}
use Rattle.tdf_timestep.specs.views.Found.{IsFirstUpTo, IsFoundUpTo, IsFound, IsBetter}

pub never : (a r : ℕ) → is_before a r a r ≡ false
never a r = grind (arith, nat_tests)

pub chain : (a r b s c t : ℕ) → is_before a r b s ≡ true → is_before b s c t ≡ true → is_before a r c t ≡ true
chain a r b s c t one two = grind (arith, nat_tests, one, two)

-- x comes before c and y does not: so y does not come before x, and x before y
pub after_first : (y u x r c t : ℕ) → is_before y u c t ≡ false → is_before x r c t ≡ true → is_before y u x r ≡ false
after_first y u x r c t late early = grind (arith, nat_tests, late, early)

pub before_later : (y u x r c t : ℕ) → is_before y u c t ≡ false → is_before x r c t ≡ true → is_before x r y u ≡ true
before_later y u x r c t late early = grind (arith, nat_tests, late, early)

pub some_same : {A : Type 0} {x y : A} → Some x ≡ Some y → x ≡ y
some_same {A} {x} e = ap (held x) e
  where
    held : {A : Type 0} → A → Option A → A
    held d None = d
    held d (Some z) = z

module _ (assigned : List Assign) (P : Assign → Type 0) where
  pub found_none : IsFoundUpTo 0 assigned P None
  found_none j a less is holds = omega (arith, less)

  -- one without the property
  pub found_same : (n : ℕ) (best : Option ℕ) (a : Assign) → slice_get assigned n ≡ Some a → (P a → ⊥) → IsFoundUpTo n assigned P best → IsFoundUpTo (n + 1) assigned P best
  found_same n None a a_is not none = λ j x less is holds. go j x less is holds (cases_eq j n)
    where
      go : (j : ℕ) (x : Assign) → j < n + 1 → slice_get assigned j ≡ Some x → P x → (j ≡ n) ⊎ (j ≡ n → ⊥) → ⊥
      go j x less is holds (inl same) = not (subst P (some_same (sym is ∙ ap (slice_get assigned) same ∙ a_is)) holds)
      go j x less is holds (inr other) = none j x (omega (arith, less, other)) is holds
  found_same n (Some place) a a_is not found = record {
    within = let w = found.within in omega (arith, w);
    chosen = found.chosen;
    there = found.there;
    holds = found.holds;
    least = λ j x less is holds. go j x less is holds (cases_eq j n);
    earliest = found.earliest;
  }
    where
      go : (j : ℕ) (x : Assign) → j < n + 1 → slice_get assigned j ≡ Some x → P x → (j ≡ n) ⊎ (j ≡ n → ⊥) → spot_comes_before (spot_of x) (spot_of found.chosen) ≡ false
      go j x less is holds (inl same) = absurd (not (subst P (some_same (sym is ∙ ap (slice_get assigned) same ∙ a_is)) holds))
      go j x less is holds (inr other) = found.least j x (omega (arith, less, other)) is holds

  first_here : (n : ℕ) (a : Assign) → slice_get assigned n ≡ Some a → P a
      → ((j : ℕ) (x : Assign) → j < n → slice_get assigned j ≡ Some x → P x → (spot_comes_before (spot_of x) (spot_of a) ≡ false) × (spot_comes_before (spot_of a) (spot_of x) ≡ true))
      → IsFirstUpTo (n + 1) assigned P n
  first_here n a a_is holds before = record {
    within = omega arith;
    chosen = a;
    there = a_is;
    holds = holds;
    least = λ j x less is x_holds. go j x less is x_holds (cases_eq j n);
    earliest = λ j x less is x_holds. (before j x less is x_holds).1;
  }
    where
      go : (j : ℕ) (x : Assign) → j < n + 1 → slice_get assigned j ≡ Some x → P x → (j ≡ n) ⊎ (j ≡ n → ⊥) → spot_comes_before (spot_of x) (spot_of a) ≡ false
      go j x less is x_holds (inl same) =
          subst (λ (y : Assign). spot_comes_before (spot_of y) (spot_of a) ≡ false) (some_same (sym a_is ∙ ap (slice_get assigned) (sym same) ∙ is)) (never a.actor (port_rank a.port))
      go j x less is x_holds (inr other) = (before j x (omega (arith, less, other)) is x_holds).0

  first_stays : (n place : ℕ) (a : Assign) → slice_get assigned n ≡ Some a → (found : IsFirstUpTo n assigned P place) → spot_comes_before (spot_of a) (spot_of found.chosen) ≡ false
      → IsFirstUpTo (n + 1) assigned P place
  first_stays n place a a_is found late = record {
    within = let w = found.within in omega (arith, w);
    chosen = found.chosen;
    there = found.there;
    holds = found.holds;
    least = λ j x less is holds. go j x less is holds (cases_eq j n);
    earliest = found.earliest;
  }
    where
      go : (j : ℕ) (x : Assign) → j < n + 1 → slice_get assigned j ≡ Some x → P x → (j ≡ n) ⊎ (j ≡ n → ⊥) → spot_comes_before (spot_of x) (spot_of found.chosen) ≡ false
      go j x less is holds (inl same) =
          subst (λ (y : Assign). spot_comes_before (spot_of y) (spot_of found.chosen) ≡ false) (some_same (sym a_is ∙ ap (slice_get assigned) (sym same) ∙ is)) late
      go j x less is holds (inr other) = found.least j x (omega (arith, less, other)) is holds

  -- one with the property
  pub found_more : (n : ℕ) (best result : Option ℕ) (a : Assign) → slice_get assigned n ≡ Some a → P a → IsBetter assigned best n result → IsFoundUpTo n assigned P best
      → IsFoundUpTo (n + 1) assigned P result
  found_more n None result a a_is holds is none = subst (IsFoundUpTo (n + 1) assigned P) (sym is) (first_here n a a_is holds (λ j x less x_is x_holds. absurd (none j x less x_is x_holds)))
  found_more n (Some place) result a a_is holds better found = go (better a found.chosen a_is found.there)
    where
      x : Assign
      x = found.chosen

      go : ((result ≡ Some n) × (spot_comes_before (spot_of a) (spot_of found.chosen) ≡ true)) ⊎ ((result ≡ Some place) × (spot_comes_before (spot_of a) (spot_of found.chosen) ≡ false))
          → IsFoundUpTo (n + 1) assigned P result
      go (inl p) = subst (IsFoundUpTo (n + 1) assigned P) (sym p.0) (first_here n a a_is holds (λ j y less y_is y_holds. (
        after_first y.actor (port_rank y.port) a.actor (port_rank a.port) found.chosen.actor (port_rank found.chosen.port) (found.least j y less y_is y_holds) p.1,
        before_later y.actor (port_rank y.port) a.actor (port_rank a.port) found.chosen.actor (port_rank found.chosen.port) (found.least j y less y_is y_holds) p.1,
      )))
      go (inr p) = subst (IsFoundUpTo (n + 1) assigned P) (sym p.0) (first_stays n place a a_is found p.1)

  pub found_all : (n : ℕ) (best : Option ℕ) → length assigned ≤ n → IsFoundUpTo n assigned P best → IsFound assigned P best
  found_all n None whole none = λ j a is holds. none j a (let w = slice_get_within assigned j a is in omega (arith, w, whole)) is holds
  found_all n (Some place) whole found = record {
    chosen = found.chosen;
    there = found.there;
    holds = found.holds;
    least = λ j a is holds. found.least j a (let w = slice_get_within assigned j a is in omega (arith, w, whole)) is holds;
    earliest = found.earliest;
  }
