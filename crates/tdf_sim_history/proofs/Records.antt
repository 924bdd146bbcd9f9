-- The periods of a cluster from a start on: each is a record, and those after the first are whole.
use Rattle.std.proofs.Common.{◌≡◌, ℕ, zero, suc, Some, List, [], ◌∷◌, ◌++◌, slice_get, refl, subst, arith}
use Rattle.std.proofs.lemmas.List.Elements.{All-append, All-cons, All-nil}
use Rattle.std.proofs.lemmas.Option.{get_or_from_slice_get, slice_get_within}
use Rattle.std.specs.List.{All}
use Rattle.tdf_dynamic.specs.Below.{ArePast, Flat, IsPeriodRecord, IsWholeRecord, PeriodRecord, Start}
use Rattle.tdf_dynamic.proofs.Api.{none_some, some_same}
use Rattle.tdf_sim_history.specs.WorldLaws.{AreRecordsOf}

each_of : {X : Type 0} (P : X → Type 0) (xs : List X) (j : ℕ) (x : X) → All P xs → slice_get xs j ≡ Some x → P x
each_of P xs j x all is = subst P (get_or_from_slice_get xs j x x is) (all j x (slice_get_within xs j x is))

module _ (flat : Flat) (number : ℕ) (begun : Start) where
  pub record_at : (ps : List PeriodRecord) (k : ℕ) (p : PeriodRecord) → AreRecordsOf flat number begun ps → slice_get ps k ≡ Some p → IsPeriodRecord flat number p
  record_at [] k p records at = none_some p at
  record_at (first ∷ later) zero p records at = subst (IsPeriodRecord flat number) (some_same first p at) records.head
  record_at (first ∷ later) (suc k) p records at = (each_of (IsWholeRecord flat number) later k p records.rest at).is

  -- each after the first is whole
  pub later_at : (ps : List PeriodRecord) (k : ℕ) (p : PeriodRecord) → AreRecordsOf flat number begun ps → slice_get ps (suc k) ≡ Some p → IsWholeRecord flat number p
  later_at [] k p records at = none_some p at
  later_at (first ∷ later) k p records at = each_of (IsWholeRecord flat number) later k p records.rest at

  pub last_record : (old : List PeriodRecord) (now : PeriodRecord) → AreRecordsOf flat number begun (old ++ now ∷ []) → IsPeriodRecord flat number now
  last_record [] now records = records.head
  last_record (first ∷ later) now records = last_of later records.rest
    where
      last_of : (ps : List PeriodRecord) → All (IsWholeRecord flat number) (ps ++ now ∷ []) → IsPeriodRecord flat number now
      last_of [] all = (each_of (IsWholeRecord flat number) (now ∷ []) 0 now all refl).is
      last_of (p ∷ ps) all = last_of ps (λ j d below. all (suc j) d (omega (arith, below)))

  -- and one more may follow
  whole_push : (ps : List PeriodRecord) (next : PeriodRecord) → All (IsWholeRecord flat number) ps → IsWholeRecord flat number next → All (IsWholeRecord flat number) (ps ++ next ∷ [])
  whole_push ps next all whole = All-append (IsWholeRecord flat number) ps (next ∷ []) all (All-cons (IsWholeRecord flat number) next [] whole (All-nil (IsWholeRecord flat number)))

  pub records_push : (old : List PeriodRecord) (now next : PeriodRecord) → AreRecordsOf flat number begun (old ++ now ∷ []) → IsWholeRecord flat number next
      → AreRecordsOf flat number begun ((old ++ now ∷ []) ++ next ∷ [])
  records_push [] now next records whole = record { lists = records.lists; head = records.head; rest = whole_push [] next records.rest whole }
  records_push (first ∷ later) now next records whole = record { lists = records.lists; head = records.head; rest = whole_push (later ++ now ∷ []) next records.rest whole }

  -- those before the last are past
  pub past_of : (old : List PeriodRecord) (now : PeriodRecord) → AreRecordsOf flat number begun (old ++ now ∷ []) → ArePast flat number begun old now
  past_of [] now records = records.lists
  past_of (first ∷ later) now records = (record { lists = records.lists; head = records.head; rest = front later records.rest }, (last_whole later records.rest).whole)
    where
      front : (ps : List PeriodRecord) → All (IsWholeRecord flat number) (ps ++ now ∷ []) → All (IsWholeRecord flat number) ps
      front [] all = All-nil (IsWholeRecord flat number)
      front (p ∷ ps) all = All-cons (IsWholeRecord flat number) p ps (each_of (IsWholeRecord flat number) (p ∷ (ps ++ now ∷ [])) 0 p all refl) (front ps (λ j d below. all (suc j) d (omega (arith, below))))

      last_whole : (ps : List PeriodRecord) → All (IsWholeRecord flat number) (ps ++ now ∷ []) → IsWholeRecord flat number now
      last_whole [] all = each_of (IsWholeRecord flat number) (now ∷ []) 0 now all refl
      last_whole (p ∷ ps) all = last_whole ps (λ j d below. all (suc j) d (omega (arith, below)))
