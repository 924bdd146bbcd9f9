-- Why nothing goes on from a snapshot.
use Rattle.std.proofs.Common.{◌≡◌, ◌⊎◌, Bool, true, false, Err, Ok, ap, inl, inr, refl}
use Rattle.std.specs.Prelude.{IfOk, IsOk, Result}
use Rattle.tdf_saved.specs.declared.err.StateErr.TheVariants.{Bad, Memory}
use Rattle.tdf_saved.specs.declared.err.StateErr.{StateErr}
use Rattle.tdf_sim_shown.specs.Below.{IsNotMade}

-- the error of a result
abbrev error_of : {A : Type 0} → StateErr → Result A StateErr → StateErr
error_of other (Ok x) = other
error_of other (Err e) = e

pub same_error : {A B : Type 0} (one other : StateErr) → ◌≡◌ {A = Result A StateErr} (Err one) (Err other) → ◌≡◌ {A = Result B StateErr} (Err one) (Err other)
same_error one other same = ap Err (ap (error_of one) same)

pub one_of : {A : Type 0} (why : StateErr) → (◌≡◌ {A = Result A StateErr} (Err why) (Err Bad)) ⊎ (◌≡◌ {A = Result A StateErr} (Err why) (Err Memory))
one_of Bad = inl refl
one_of Memory = inr refl

pub on_off : (b : Bool) → b ≡ true → b ≡ false → ⊥
on_off b on off = absurd cc

-- a result that is none is an error
pub not_made : {A : Type 0} (result : Result A StateErr) → (IsOk result → ⊥) → IsNotMade result
not_made (Ok x) none = absurd (none refl)
not_made (Err e) none = one_of e

-- what is so of a value that was made
pub if_made : {A : Type 0} (P Q : A → Type 0) (result : Result A StateErr) → ((x : A) → P x → Q x) → IfOk result P → IfOk result Q
if_made P Q (Ok x) leads is = leads x is
if_made P Q (Err e) leads is = tt
