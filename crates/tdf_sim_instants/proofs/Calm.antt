-- What stands on the event side after its part of an instant.
use Rattle.std.proofs.Common.{◌≡◌, ◌∙◌, ◌||◌, ℕ, zero, suc, ◌+◌, ◌<◌, Bool, true, false, not, List, [], ◌∷◌, Option, Some, None, length, nat_eq, if◌then◌else◌, inl, inr, refl, sym, ap, subst, arith}
use Rattle.std.proofs.lemmas.Bool.{cases_lt, eq-eqb, ne_eqb}
use Rattle.std.specs.List.{list_any}
use Rattle.tdf_base.specs.Limits.{time_end}
use Rattle.tdf_events_queue.specs.Sets.{count_on}
use Rattle.tdf_events_queue.specs.Times.{pending_time}
use Rattle.tdf_convert.specs.declared.writes.SignalWrite.{SignalWrite}
use Rattle.tdf_sim_instants.specs.Settling.{IsBefore, event_turn}
use Rattle.tdf_events.proofs.Api.{ends_idle, only_later_stay}
use Rattle.tdf_events.specs.Delta.{event_part, is_due, is_idle}
use Rattle.tdf_events.specs.Kernel.{IsNextOf}
use Rattle.tdf_events.specs.Side.{SideOf}
use Rattle.tdf_bind.specs.declared.model.Flat.{Flat}
use Rattle.tdf_streams.proofs.Api.{none_some, some_same}
use Rattle.tdf_sim_refinement.proofs.Api.{true_false}
use Rattle.tdf_lang_tree.specs.Pure.{PureTree}
use Rattle.tdf_sim_history.specs.Rules.{is_side_due}

-- where none of these times is due, none of them is this time
none_due : (time : ℕ) (times : List (Option ℕ)) → list_any (is_due time) times ≡ false → (event pending : ℕ) → pending_time times event ≡ Some pending → pending ≡ time → ⊥
none_due time [] none event pending at same = absurd cc
none_due time (t ∷ ts) none zero pending at same =
    true_false (sym (ap (λ o. is_due time o || list_any (is_due time) ts) at ∙ ap (λ b. b || list_any (is_due time) ts) (eq-eqb pending time same)) ∙ none)
none_due time (t ∷ ts) none (suc event) pending at same = none_due time ts (rest (is_due time t) (list_any (is_due time) ts) none) event pending at same
  where
    rest : (a b : Bool) → (a || b) ≡ false → b ≡ false
    rest true b is = absurd (true_false is)
    rest false b is = is

or_none : (a b : Bool) → (not a || b) ≡ false → (a ≡ true) × (b ≡ false)
or_none true b is = (refl, is)
or_none false b is = absurd (true_false is)

nothing_due : (time : ℕ) (side : SideOf) → IsBefore time side → is_side_due side time ≡ false → IsBefore (time + 1) side
nothing_due time side before none =
    let parts = or_none (is_idle side) (list_any (is_due time) side.notices.times) none in
    record {
      none = record {
        none = λ event pending at. (
            let low = before.none.none event pending at in
            let apart = none_due time side.notices.times parts.1 event pending at in
            elim (cases_lt time pending) [ inl less ↦ omega (arith, less) | inr over ↦ absurd (apart (omega (arith, low, over))) ]);
      };
      idle = λ some. parts.0;
    }

module _ (model : PureTree) (flat : Flat) (time left rest : ℕ) (writes : List SignalWrite) (side after : SideOf) (early : time < time_end) (before : IsBefore time side) where
  by_part : event_part model flat time writes side left ≡ Some (after, rest) → IsBefore (time + 1) after
  by_part is = record {
    none = only_later_stay model flat time left rest writes side after (omega (arith, early)) before.none is;
    idle = λ some. ends_idle model flat time left rest writes side after is;
  }

  by_cases : (a b : Bool) → not a || is_side_due side time ≡ b → (if b then event_part model flat time writes side left else Some (side, left)) ≡ Some (after, rest) → IsBefore (time + 1) after
  by_cases a true which is = by_part is
  by_cases true false which is = subst (IsBefore (time + 1)) (ap (λ (p : SideOf × ℕ). p.0) (some_same (side, left) (after, rest) is)) (nothing_due time side before which)
  by_cases false false which is = absurd (true_false which)

  pub calm_after : event_turn model flat time writes side left ≡ Some (after, rest) → IsBefore (time + 1) after
  calm_after is = by_cases (nat_eq (length writes) 0) (not (nat_eq (length writes) 0) || is_side_due side time) refl is

-- what is due on the event side at a time that nothing is pending before
any_due : (time : ℕ) (times : List (Option ℕ)) (event : ℕ) → pending_time times event ≡ Some time → list_any (is_due time) times ≡ true
any_due time [] event at = absurd cc
any_due time (t ∷ ts) zero at = ap (λ o. is_due time o || list_any (is_due time) ts) at ∙ ap (λ b. b || list_any (is_due time) ts) (eq-eqb time time refl)
any_due time (t ∷ ts) (suc event) at = or_true (is_due time t) (list_any (is_due time) ts) (any_due time ts event at)
  where
    or_true : (a b : Bool) → b ≡ true → (a || b) ≡ true
    or_true true b is = refl
    or_true false b is = is

apart_none : (time : ℕ) (t : Option ℕ) → ((p : ℕ) → t ≡ Some p → p ≡ time → ⊥) → is_due time t ≡ false
apart_none time None apart = refl
apart_none time (Some p) apart = ne_eqb p time (apart p refl)

no_due : (time : ℕ) (times : List (Option ℕ)) → ((event pending : ℕ) → pending_time times event ≡ Some pending → pending ≡ time → ⊥) → list_any (is_due time) times ≡ false
no_due time [] apart = refl
no_due time (t ∷ ts) apart =
    ap (λ b. b || list_any (is_due time) ts) (apart_none time t (λ p at. apart 0 p at)) ∙ no_due time ts (λ event pending at. apart (suc event) pending at)

module _ (time : ℕ) (side : SideOf) (before : IsBefore time side) where
  abbrev due_if : Bool → Bool
  due_if idle = not idle || list_any (is_due time) side.notices.times

  idle_is : count_on side.triggered ≡ 0 → is_idle side ≡ true
  idle_is none = eq-eqb (count_on side.triggered) 0 none

  pub due_next : (next : ℕ) → IsNextOf side (Some next) → nat_eq next time ≡ is_side_due side time
  due_next next (inl some) =
      let busy = ne_eqb (count_on side.triggered) 0 (λ e. (let s = some.0 in omega (arith, e, s))) in
      let zero_is = some_same next 0 some.1 in
      elim (cases_lt 0 time) [
        | inl late ↦ absurd (true_false (sym (before.idle late) ∙ busy))
        | inr first ↦ eq-eqb next time (omega (arith, first, zero_is)) ∙ sym (ap due_if busy)
      ]
  due_next next (inr none) =
      let first = none.1.1 in
      let low = before.none.none none.1.0 next first.is in
      elim (cases_lt time next) [
        | inl less ↦ ne_eqb next time (λ e. omega (arith, less, e)) ∙ sym (ap due_if (idle_is none.0) ∙ no_due time side.notices.times (λ event pending at same. (let l = first.least event pending at in omega (arith, l, less, same))))
        | inr over ↦ (let same : next ≡ time = omega (arith, over, low) in
            eq-eqb next time same ∙ sym (ap due_if (idle_is none.0) ∙ any_due time side.notices.times none.1.0 (first.is ∙ ap Some same)))
      ]

  pub due_never : IsNextOf side None → false ≡ is_side_due side time
  due_never (inl some) = absurd cc
  due_never (inr none) = sym (ap due_if (idle_is none.0) ∙ no_due time side.notices.times (λ event pending at same. absurd (none_is event pending at)))
    where
      none_is : (event pending : ℕ) → pending_time side.notices.times event ≡ Some pending → ⊥
      none_is event pending at = none_some pending (sym (none.1.none event) ∙ at)
