-- The events that a process notifies, one after the other.
use Rattle.std.proofs.Common.{◌≡◌, ◌∙◌, ℕ, zero, suc, Bool, true, false, if◌then◌else◌, nat_eq, List, [], ◌∷◌, Option, Some, None, is_some, length, length-set, map, slice_get, slice_index, slice_set, refl, ap, sym}
use Rattle.std.proofs.lemmas.List.{length-map}
use Rattle.tdf_events_queue.proofs.Api.{by_list}
use Rattle.tdf_events_queue.specs.Evaluation.{evaluated, ran_first}
use Rattle.tdf_events_queue.specs.Sets.{AreRisingFlags, is_on}
use Rattle.tdf_events_queue.specs.Times.{earliest, pending_time}
use Rattle.tdf_events.specs.Notices.{NoticesOf, event_noticed, noticed_first, time_after}
use Rattle.tdf_expr_state.specs.State.{standing}

-- the number of events stays
pub noticed_same : (time event : ℕ) (o : Option ℕ) (n : NoticesOf) → length (event_noticed time event o n).times ≡ length n.times
noticed_same time event None n = refl
noticed_same time event (Some after) n = choose (is_on n.delta event) (nat_eq after 0)
  where
    choose : (b c : Bool) → length (if b then n else if c then record { times = slice_set n.times event None; delta = slice_set n.delta event true }
        else record { times = slice_set n.times event (Some (earliest (pending_time n.times event) (time_after time after))); delta = n.delta }).times ≡ length n.times
    choose true c = refl
    choose false true = length-set n.times event None
    choose false false = length-set n.times event (Some (earliest (pending_time n.times event) (time_after time after)))

-- an event is notified by what its process asked for
abbrev pub notice : (time : ℕ) → (events : List ℕ) → (asked : List (Option ℕ)) → ℕ → NoticesOf → NoticesOf
notice time events asked i n = event_noticed time (slice_index events i) (standing (slice_get asked i)) n

flag_at : (xs : List (Option ℕ)) (i : ℕ) → is_on (map is_some xs) i ≡ is_some (standing (slice_get xs i))
flag_at [] i = refl
flag_at (x ∷ xs) zero = refl
flag_at (x ∷ xs) (suc i) = flag_at xs i

one_event : (time event : ℕ) (o : Option ℕ) (b : Bool) (m n : NoticesOf) → b ≡ is_some o → m ≡ n → (if b then event_noticed time event o m else m) ≡ event_noticed time event o n
one_event time event None b m n is same = rw is same
one_event time event (Some after) b m n is same = rw is (ap (event_noticed time event (Some after)) same)

-- those for which a process asked for nothing are passed over
pub by_flags : (time : ℕ) (events : List ℕ) (asked : List (Option ℕ)) (i : ℕ) (n : NoticesOf) → evaluated (notice time events asked) (map is_some asked) i n ≡ noticed_first time events asked i n
unfolding evaluated noticed_first
by_flags time events asked zero n = refl
by_flags time events asked (suc i) n = one_event time (slice_index events i) (standing (slice_get asked i)) (is_on (map is_some asked) i)
    (evaluated (notice time events asked) (map is_some asked) i n) (noticed_first time events asked i n) (flag_at asked i) (by_flags time events asked i n)

-- all that a process asked for, by the list of its events
pub by_listed : (time : ℕ) (events listed : List ℕ) (asked : List (Option ℕ)) (n : NoticesOf) → length events ≡ length asked → AreRisingFlags (map is_some asked) listed
    → ran_first (notice time events asked) listed (length listed) n ≡ noticed_first time events asked (length events) n
by_listed time events listed asked n many rising = sym (by_list (notice time events asked) (map is_some asked) listed rising n)
    ∙ ap (λ (k : ℕ). evaluated (notice time events asked) (map is_some asked) k n) (length-map asked is_some ∙ sym many)
    ∙ by_flags time events asked (length events) n

-- the number of events stays
pub listed_same : (time : ℕ) (events : List ℕ) (asked : List (Option ℕ)) (listed : List ℕ) (j : ℕ) (n : NoticesOf) → length (ran_first (notice time events asked) listed j n).times ≡ length n.times
unfolding ran_first
listed_same time events asked listed zero n = refl
listed_same time events asked listed (suc j) n =
    noticed_same time (slice_index events (slice_index listed j)) (standing (slice_get asked (slice_index listed j))) (ran_first (notice time events asked) listed j n) ∙ listed_same time events asked listed j n
