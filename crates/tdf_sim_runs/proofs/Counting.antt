-- The counts of faults of two sinks, after one of them was written.
use Rattle.std.proofs.Common.{◌≡◌, ◌∙◌, ◌⊎◌, ℕ, Result, Ok, Err, inl, inr, ap, subst, arith}
use Rattle.std.specs.Prelude.{⊤, IsErrOf}
use Rattle.tdf_io.proofs.Api.{counts_then, failed_rose}
use Rattle.tdf_io.specs.Faults.{CountsSinkFaults, CountsTwoSinks, FaultsRose}
use Rattle.tdf_io.specs.declared.writing.SinkErr.{SinkErr}
use Rattle.tdf_io.specs.declared.writing.SinkErr.TheVariants.{Failed}

-- the first refused, the second took all
pub first_failed : {T : Type 0} (a b n m : ℕ) (result : Result T SinkErr) → CountsSinkFaults a b result → CountsSinkFaults {T = ⊤} n m (Ok tt) → CountsTwoSinks Failed a b n m result
first_failed a b n m (Ok value) one other = record { rose = λ failed. absurd cc; out_kept = λ kept. one.kept; notes_kept = λ kept. other.kept }
first_failed a b n m (Err error) one other = record {
  rose = λ failed. inl (failed_rose a b (Err error) one failed);
  out_kept = λ kept. one.kept (λ same. kept (ap Err same));
  notes_kept = λ kept. other.kept;
}

-- the second refused, the first took all
pub second_failed : {T : Type 0} (a b n m : ℕ) (result : Result T SinkErr) → CountsSinkFaults {T = ⊤} a b (Ok tt) → CountsSinkFaults n m result → CountsTwoSinks Failed a b n m result
second_failed a b n m (Ok value) one other = record { rose = λ failed. absurd cc; out_kept = λ kept. one.kept; notes_kept = λ kept. other.kept }
second_failed a b n m (Err error) one other = record {
  rose = λ failed. inr (failed_rose n m (Err error) other failed);
  out_kept = λ kept. one.kept;
  notes_kept = λ kept. other.kept (λ same. kept (ap Err same));
}

-- the first took all before
pub counts_after : {T U V : Type 0} (a b c n m : ℕ) (error : SinkErr) (value : V) → CountsSinkFaults a b (Ok value) → CountsTwoSinks {T = T} Failed b c n m (Err error) → CountsTwoSinks {T = U} Failed a c n m (Err error)
counts_after a b c n m error value before counts = record {
  rose = λ failed. subst (λ k. FaultsRose k c ⊎ FaultsRose n m) before.kept (counts.rose (err_as error Failed failed));
  out_kept = λ kept. counts.out_kept (λ failed. kept (err_as error Failed failed)) ∙ before.kept;
  notes_kept = λ kept. counts.notes_kept (λ failed. kept (err_as error Failed failed));
}
  where
    err_as : {A B : Type 0} (e f : SinkErr) → IsErrOf {T = A} (Err e) f → IsErrOf {T = B} (Err e) f
    err_as e f is = ap Err (let same : e ≡ f = cc in same)

-- the first took all before, and then both did
pub counts_last : {T U V : Type 0} (a b c d n m : ℕ) (value : V) (ended : U) (result : Result T SinkErr) → CountsSinkFaults a b (Ok value) → CountsTwoSinks {T = U} Failed b c n m (Ok ended) → CountsSinkFaults c d result → CountsTwoSinks {T = T} Failed a d n m result
counts_last a b c d n m value ended result before went last =
    let one : c ≡ a = went.out_kept (λ failed. absurd cc) ∙ before.kept in
    let other : m ≡ n = went.notes_kept (λ failed. absurd cc) in
    let same : CountsSinkFaults {T = ⊤} a c (Ok tt) = record { later = omega (arith, one); kept = one; rose = tt } in
    first_failed a d n m result (counts_then a c d tt result same last)
    (record { later = omega (arith, other); kept = other; rose = tt })

-- both did, and then the first
pub counts_final : {T U : Type 0} (a b c n m : ℕ) (ended : U) (result : Result T SinkErr) → CountsTwoSinks {T = U} Failed a b n m (Ok ended) → CountsSinkFaults b c result → CountsTwoSinks {T = T} Failed a c n m result
counts_final a b c n m ended result went last =
    let one : b ≡ a = went.out_kept (λ failed. absurd cc) in
    let other : m ≡ n = went.notes_kept (λ failed. absurd cc) in
    let same : CountsSinkFaults {T = ⊤} a b (Ok tt) = record { later = omega (arith, one); kept = one; rose = tt } in
    first_failed a c n m result (counts_then a b c tt result same last)
    (record { later = omega (arith, other); kept = other; rose = tt })

-- a refusal is one of every kind of answer
pub counts_other : {T U : Type 0} (a b n m : ℕ) (error : SinkErr) → CountsTwoSinks {T = T} Failed a b n m (Err error) → CountsTwoSinks {T = U} Failed a b n m (Err error)
counts_other a b n m error counts = record {
  rose = λ failed. counts.rose (err_as error Failed failed);
  out_kept = λ kept. counts.out_kept (λ failed. kept (err_as error Failed failed));
  notes_kept = λ kept. counts.notes_kept (λ failed. kept (err_as error Failed failed));
}
  where
    err_as : {A B : Type 0} (e f : SinkErr) → IsErrOf {T = A} (Err e) f → IsErrOf {T = B} (Err e) f
    err_as e f is = ap Err (let same : e ≡ f = cc in same)

-- both took all before
pub counts_from : {T U : Type 0} (a b c n m k : ℕ) (value : U) (result : Result T SinkErr) → CountsTwoSinks {T = U} Failed a b n m (Ok value) → CountsTwoSinks {T = T} Failed b c m k result → CountsTwoSinks {T = T} Failed a c n k result
counts_from a b c n m k value result before counts =
    let one : b ≡ a = before.out_kept (λ failed. absurd cc) in
    let other : m ≡ n = before.notes_kept (λ failed. absurd cc) in
    subst (λ x. CountsTwoSinks Failed x c n k result) one (subst (λ x. CountsTwoSinks Failed b c x k result) other counts)
