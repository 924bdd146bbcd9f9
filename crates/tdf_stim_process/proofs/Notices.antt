-- What a process that ran makes of notices.
use Rattle.std.proofs.Common.{◌≡◌, ◌≢◌, ◌∙◌, ℕ, zero, suc, ◌+◌, ◌<◌, ◌≤◌, Bool, true, false, nat_eq, if◌then◌else◌, List, length, Option, Some, None, slice_get, slice_index, refl, sym, ap, subst, inl, inr, arith}
use Rattle.std.proofs.lemmas.Bool.{cases_eq}
use Rattle.std.proofs.lemmas.Bool.Decides.{eqb_tells}
use Rattle.std.proofs.lemmas.List.{get_or-set_other, get_or-set_same, length-set}
use Rattle.tdf_events.specs.Notices.{NoticesOf, event_noticed, noticed_after, noticed_first, time_after, with_delta, with_time}
use Rattle.tdf_events_queue.specs.Sets.{is_on}
use Rattle.tdf_events_queue.specs.Times.{earliest, pending_time}
use Rattle.tdf_expr_state.specs.State.{standing}

abbrev no_time : Option ℕ
no_time = None

abbrev after_by : (b c : Bool) → (time event after : ℕ) → NoticesOf → NoticesOf
after_by b c time event after n = if b then n else if c then with_delta event n else with_time event (time_after time after) n

-- a notice of one event leaves those of another
pub record SameAt (e : ℕ) (n m : NoticesOf) : Type 0 where
  pub time : pending_time m.times e ≡ pending_time n.times e
  pub delta : is_on m.delta e ≡ is_on n.delta e

event_other : (time event e : ℕ) (o : Option ℕ) (n : NoticesOf) → event ≢ e → SameAt e n (event_noticed time event o n)
event_other time event e None n apart = record { time = refl; delta = refl }
event_other time event e (Some after) n apart = go (is_on n.delta event) (nat_eq after 0)
  where
    go : (b c : Bool) → SameAt e n (after_by b c time event after n)
    go true c = record { time = refl; delta = refl }
    go false true = record {
      time = get_or-set_other n.times event e no_time no_time (λ same. apart (sym same));
      delta = get_or-set_other n.delta event e true false (λ same. apart (sym same));
    }
    go false false = record {
      time = get_or-set_other n.times event e (Some (earliest (pending_time n.times event) (time_after time after))) no_time (λ same. apart (sym same));
      delta = refl;
    }

event_long : (time event : ℕ) (o : Option ℕ) (n : NoticesOf) → length (event_noticed time event o n).times ≡ length n.times
event_long time event None n = refl
event_long time event (Some after) n = go (is_on n.delta event) (nat_eq after 0)
  where
    go : (b c : Bool) → length (after_by b c time event after n).times ≡ length n.times
    go true c = refl
    go false true = length-set n.times event no_time
    go false false = length-set n.times event (Some (earliest (pending_time n.times event) (time_after time after)))

-- so do the notices of several others
pub first_same : (time : ℕ) (events : List ℕ) (asked : List (Option ℕ)) (i e : ℕ) (n : NoticesOf) → ((k : ℕ) → k < i → slice_index events k ≢ e) → SameAt e n (noticed_first time events asked i n)
unfolding noticed_first
first_same time events asked zero e n apart = record { time = refl; delta = refl }
first_same time events asked (suc i) e n apart =
    let rest = first_same time events asked i e n (λ k less. apart k (omega (arith, less))) in
    let here = event_other time (slice_index events i) e (standing (slice_get asked i)) (noticed_first time events asked i n) (apart i (omega arith)) in
    record { time = here.time ∙ rest.time; delta = here.delta ∙ rest.delta }

pub notices_long : (time : ℕ) (events : List ℕ) (asked : List (Option ℕ)) (i : ℕ) (n : NoticesOf) → length (noticed_first time events asked i n).times ≡ length n.times
unfolding noticed_first
notices_long time events asked zero n = refl
notices_long time events asked (suc i) n =
    event_long time (slice_index events i) (standing (slice_get asked i)) (noticed_first time events asked i n) ∙ notices_long time events asked i n

-- where nothing is asked for, nothing changes
pub none_asked : (time : ℕ) (events : List ℕ) (asked : List (Option ℕ)) (i : ℕ) (n : NoticesOf) → ((k : ℕ) → standing (slice_get asked k) ≡ None) → noticed_first time events asked i n ≡ n
unfolding noticed_first
none_asked time events asked zero n none = refl
none_asked time events asked (suc i) n none =
    ap (λ (o : Option ℕ). event_noticed time (slice_index events i) o (noticed_first time events asked i n)) (none i) ∙ none_asked time events asked i n none

not_zero : (after : ℕ) → 0 < after → nat_eq after 0 ≡ false
not_zero after some = elim (eqb_tells after 0) [ inl y ↦ (let z = y.1 in absurd (omega (arith, z, some))) | inr m ↦ m.0 ]

-- an event without a notice gets the time that is asked for
event_first : (time event after : ℕ) (n : NoticesOf) → 0 < after → event < length n.times → is_on n.delta event ≡ false → pending_time n.times event ≡ None
    → pending_time (noticed_after time event after n).times event ≡ Some (time_after time after)
event_first time event after n some inside off none =
    ap (λ (b : Bool). pending_time (after_by b (nat_eq after 0) time event after n).times event) off
    ∙ ap (λ (c : Bool). pending_time (after_by false c time event after n).times event) (not_zero after some)
    ∙ get_or-set_same n.times event (Some (earliest (pending_time n.times event) (time_after time after))) no_time inside
    ∙ ap (λ (o : Option ℕ). Some (earliest o (time_after time after))) none

event_first_delta : (time event after : ℕ) (n : NoticesOf) → 0 < after → (e : ℕ) → is_on (noticed_after time event after n).delta e ≡ is_on n.delta e
event_first_delta time event after n some e =
    ap (λ (c : Bool). is_on (after_by (is_on n.delta event) c time event after n).delta e) (not_zero after some)
    ∙ go (is_on n.delta event)
  where
    go : (b : Bool) → is_on (after_by b false time event after n).delta e ≡ is_on n.delta e
    go true = refl
    go false = refl

-- the events of a row of numbers, each with a time that is asked for
pub record Asks (first count : ℕ) (events : List ℕ) (asked : List (Option ℕ)) (after : ℕ → ℕ) (n : NoticesOf) : Type 0 where
  pub event : (k : ℕ) → k < count → slice_index events k ≡ first + k
  pub wanted : (k : ℕ) → k < count → standing (slice_get asked k) ≡ Some (after k)
  pub some : (k : ℕ) → k < count → 0 < after k
  pub inside : (k : ℕ) → k < count → first + k < length n.times
  pub off : (k : ℕ) → k < count → is_on n.delta (first + k) ≡ false
  pub none : (k : ℕ) → k < count → pending_time n.times (first + k) ≡ None

module _ (time first count : ℕ) (events : List ℕ) (asked : List (Option ℕ)) (after : ℕ → ℕ) (n : NoticesOf) (asks : Asks first count events asked after n) where
  abbrev noticed : ℕ → NoticesOf
  noticed i = noticed_first time events asked i n

  -- no delta notification comes
  all_delta : (i : ℕ) → i ≤ count → (e : ℕ) → is_on (noticed i).delta e ≡ is_on n.delta e
  unfolding noticed_first
  all_delta zero low e = refl
  all_delta (suc i) low e =
      ap (λ (o : Option ℕ). is_on (event_noticed time (slice_index events i) o (noticed i)).delta e) (asks.wanted i (omega (arith, low)))
      ∙ event_first_delta time (slice_index events i) (after i) (noticed i) (asks.some i (omega (arith, low))) e ∙ all_delta i (omega (arith, low)) e

  -- the later events have no notice yet
  not_yet : (i k : ℕ) → i ≤ k → k < count → pending_time (noticed i).times (first + k) ≡ None
  not_yet i k low less =
      (first_same time events asked i (first + k) n (λ j below same. (let e = asks.event j (omega (arith, below, low, less)) in omega (arith, same, e, below, low)))).time ∙ asks.none k less

  -- the earlier ones have theirs
  all_asked : (i k : ℕ) → k < i → i ≤ count → pending_time (noticed i).times (first + k) ≡ Some (time_after time (after k))
  unfolding noticed_first
  all_asked zero k less low = absurd (omega (arith, less))
  all_asked (suc i) k less low = elim (cases_eq k i) [
    | inl same ↦ subst (λ j. pending_time (noticed (suc i)).times (first + j) ≡ Some (time_after time (after j))) (sym same) here
    | inr apart ↦ (event_other time (slice_index events i) (first + k) (standing (slice_get asked i)) (noticed i) (λ same. (let e = asks.event i (omega (arith, low)) in omega (arith, same, e, apart)))).time
        ∙ all_asked i k (omega (arith, less, apart)) (omega (arith, low))
  ]
    where
      here : pending_time (noticed (suc i)).times (first + i) ≡ Some (time_after time (after i))
      here =
          ap (λ (o : Option ℕ). pending_time (event_noticed time (slice_index events i) o (noticed i)).times (first + i)) (asks.wanted i (omega (arith, low)))
          ∙ ap (λ e. pending_time (noticed_after time e (after i) (noticed i)).times (first + i)) (asks.event i (omega (arith, low)))
          ∙ event_first time (first + i) (after i) (noticed i) (asks.some i (omega (arith, low)))
          (subst (λ k. first + i < k) (sym (notices_long time events asked i n)) (asks.inside i (omega (arith, low))))
          (all_delta i (omega (arith, low)) (first + i) ∙ asks.off i (omega (arith, low))) (not_yet i i (omega arith) (omega (arith, low)))

  pub each_asked : (k : ℕ) → k < count → pending_time (noticed count).times (first + k) ≡ Some (time_after time (after k))
  each_asked k less = all_asked count k less (omega arith)

  pub same_delta : (e : ℕ) → is_on (noticed count).delta e ≡ is_on n.delta e
  same_delta e = all_delta count (omega arith) e
