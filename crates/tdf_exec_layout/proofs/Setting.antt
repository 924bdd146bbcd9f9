-- A place of a list that is set, if so.
use Rattle.std.proofs.Common.{◌≡◌, ◌≢◌, ℕ, Bool, true, false, if◌then◌else◌, List, length, refl}
use Rattle.std.proofs.Math.ListN.{get_or}
use Rattle.std.proofs.lemmas.List.{get_or-set_other, length-set}
use Rattle.std.specs.Prelude.{slice_set}

pub set_long : {X : Type 0} (b : Bool) (xs : List X) (i : ℕ) (x : X) → length (if b then slice_set xs i x else xs) ≡ length xs
set_long true xs i x = length-set xs i x
set_long false xs i x = refl

pub set_other : {X : Type 0} (b : Bool) (xs : List X) (i k : ℕ) (x d : X) → k ≢ i → get_or (if b then slice_set xs i x else xs) k d ≡ get_or xs k d
set_other true xs i k x d other = get_or-set_other xs i k x d other
set_other false xs i k x d other = refl
