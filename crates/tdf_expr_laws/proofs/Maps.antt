-- Rate variables, timesteps, notices and marks are maps.
use Rattle.std.proofs.Common.{◌≡◌, ◌∙◌, ℕ, zero, suc, ◌+◌, ◌<◌, List, [], ◌∷◌, Option, Some, None, length, refl, sym, ap, subst, arith, true, false}
use Rattle.std.proofs.Math.ListN.{get_or}
use Rattle.std.proofs.lemmas.List.{get_or-set_same, get_or-set_other}
use Rattle.std.proofs.lemmas.Option.{slice_get_within}
use Rattle.std.specs.Prelude.{slice_get, slice_index_or}
use Rattle.tdf_expr_laws.specs.Maps.{AreMarkMaps, AreNoticeMaps, AreRateMaps, AreStepMaps, IsThingOf, IsRateVar}
use Rattle.tdf_expr_semantics.proofs.Api.{limits_placed}
use Rattle.tdf_expr_semantics.specs.Fits.{StateFits}
use Rattle.tdf_expr_semantics.specs.Places.{before, event_number, events_of, port_number, ports_of, rate_limits, rate_number, rates_of, total}
use Rattle.tdf_expr_state.specs.State.{State, least_time, standing}
use Rattle.tdf_expr_symbols.specs.Names.{Names, RateVar, Thing}

some_is : (x t : Thing) → Some x ≡ Some t → x ≡ t
some_is x t e = ap held e
  where
    held : Option Thing → Thing
    held None = x
    held (Some y) = y

-- names of one kind at one place are one name
apart : (count : Thing → ℕ) (things : List Thing) (n m : ℕ) (t u : Thing) → slice_get things n ≡ Some t → slice_get things m ≡ Some u
    → count t ≡ 1 → count u ≡ 1 → before count things n ≡ before count things m → n ≡ m
unfolding before
apart count [] n m t u at ut one too same = absurd cc
apart count (x ∷ things) zero zero t u at ut one too same = refl
apart count (x ∷ things) zero (suc m) t u at ut one too same =
    let some : count x ≡ 1 = ap count (some_is x t at) ∙ one in absurd (omega (arith, same, some))
apart count (x ∷ things) (suc n) zero t u at ut one too same =
    let some : count x ≡ 1 = ap count (some_is x u ut) ∙ too in absurd (omega (arith, same, some))
apart count (x ∷ things) (suc n) (suc m) t u at ut one too same =
    ap suc (apart count things n m t u at ut one too (omega (arith, same)))

-- and the place is there
inside : (count : Thing → ℕ) (things : List Thing) (n : ℕ) (t : Thing) → slice_get things n ≡ Some t → count t ≡ 1 → before count things n < total count things
unfolding before total
inside count [] n t at one = absurd cc
inside count (x ∷ things) zero t at one = let some : count x ≡ 1 = ap count (some_is x t at) ∙ one in omega (arith, some)
inside count (x ∷ things) (suc n) t at one = let rest = inside count things n t at one in omega (arith, rest)

module _ (count : Thing → ℕ) (own : Names) where
  pub here : (n : ℕ) → IsThingOf count own n → before count own.things n < total count own.things
  here n is = inside count own.things n is.0 is.1 is.2

  pub elsewhere : (n m : ℕ) → IsThingOf count own n → IsThingOf count own m → (n ≡ m → ⊥) → before count own.things m ≡ before count own.things n → ⊥
  elsewhere n m is too other same = other (apart count own.things n m is.0 too.0 is.1 too.1 is.2 too.2 (sym same))

rate_inside : (own : Names) (s : State) (n : ℕ) → StateFits own s → IsRateVar own n → rate_number own n < length s.frame.rates
rate_inside own s n fits is = subst (λ l. rate_number own n < l) (sym fits.frame.rates.long) (go is.0 is.1 is.2)
  where
    go : (t : Thing) → slice_get own.things n ≡ Some t → rates_of t ≡ 1 → rate_number own n < length (rate_limits own)
    go (RateVar least greatest start) at one = slice_get_within (rate_limits own) (rate_number own n) _ (limits_placed own.things n least greatest start at)
    go _ at one = absurd cc

pub rates_map : AreRateMaps
rates_map own s n value fits is = record {
  same = get_or-set_same s.frame.rates (rate_number own n) value 0 (rate_inside own s n fits is);
  other = λ m too other. get_or-set_other s.frame.rates (rate_number own n) (rate_number own m) value 0 (elsewhere rates_of own n m is too other);
}

pub steps_map : AreStepMaps
steps_map = record {
  of_module = λ own s step fits. record {
    same = get_or-set_same s.ports.steps 0 (Some step) None (subst (λ l. 0 < l) (sym fits.ports.steps) (omega arith));
    other = λ m. get_or-set_other s.ports.steps 0 (1 + port_number own m) (Some step) None (λ same. absurd (omega (arith, same)));
  };
  of_port = λ own s n step fits is. record {
    same = get_or-set_same s.ports.steps (1 + port_number own n) (Some step) None
        (subst (λ l. 1 + port_number own n < l) (sym fits.ports.steps) (let h = here ports_of own n is in omega (arith, h)));
    other = λ m too other. get_or-set_other s.ports.steps (1 + port_number own n) (1 + port_number own m) (Some step) None
        (λ same. elsewhere ports_of own n m is too other (omega (arith, same)));
    module_kept = get_or-set_other s.ports.steps (1 + port_number own n) 0 (Some step) None (λ same. absurd (omega (arith, same)));
  };
}

standing_is : (xs : List (Option ℕ)) (i : ℕ) → standing (slice_get xs i) ≡ slice_index_or xs i None
standing_is [] i = refl
standing_is (x ∷ xs) zero = refl
standing_is (x ∷ xs) (suc i) = standing_is xs i

pub notices_map : AreNoticeMaps
notices_map own s n time fits is = record {
  same = get_or-set_same s.ports.notified (event_number own n) _ None
      (subst (λ l. event_number own n < l) (sym fits.ports.notified) (here events_of own n is))
      ∙ ap (λ o. Some (least_time o time)) (standing_is s.ports.notified (event_number own n));
  other = λ m too other. get_or-set_other s.ports.notified (event_number own n) (event_number own m) _ None (elsewhere events_of own n m is too other);
}

pub marks_map : AreMarkMaps
marks_map own s n place num fits is = record {
  same = get_or-set_same s.ports.assigned (port_number own n) true false
      (subst (λ l. port_number own n < l) (sym fits.ports.assigned) (here ports_of own n is));
  other = λ m too other. get_or-set_other s.ports.assigned (port_number own n) (port_number own m) true false (elsewhere ports_of own n m is too other);
}
