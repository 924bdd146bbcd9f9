-- One sample more.
use Rattle.std.proofs.Common.{◌≡◌, ◌∙◌, ℕ, ◌+◌, List, [], ◌∷◌, ◌++◌, Some, take, sym, ap}
use Rattle.std.proofs.lemmas.List.{take_more}
use Rattle.std.proofs.lemmas.Option.{slice_get_within, get_or_from_slice_get}
use Rattle.std.specs.Prelude.{slice_get}
use Rattle.tdf_fixed.specs.declared.raw.Raw.{Raw}
use Rattle.tdf_rings.specs.Rings.{RingOf, ring_of}

pub one_more : (samples : List Raw) (i capacity : ℕ) (value : Raw) (old new : RingOf) → slice_get samples i ≡ Some value → old ≡ ring_of (take i samples) capacity
    → new ≡ ring_of (old.samples ++ value ∷ []) old.capacity → new ≡ ring_of (take (i + 1) samples) capacity
one_more samples i capacity value old new is old_is new_is =
    new_is ∙ ap (λ (ring : RingOf). ring_of (ring.samples ++ value ∷ []) ring.capacity) old_is
    ∙ ap (λ list. ring_of list capacity) (ap (λ (x : Raw). take i samples ++ x ∷ []) (sym (get_or_from_slice_get samples i value value is))
    ∙ sym (take_more samples i value (slice_get_within samples i value is)))
