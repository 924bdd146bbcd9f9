-- Nothing stands at any listed place any more.
use Rattle.std.proofs.Common.{◌≡◌, ◌∙◌, ℕ, zero, suc, ◌<◌, Bool, true, false, List, [], ◌∷◌, Option, Some, None, is_some, length, map, replicate, slice_get, slice_index_or, slice_set, refl, ap, sym, inl, inr, arith}
use Rattle.std.proofs.lemmas.Bool.{cases_lt, true≢false}
use Rattle.std.proofs.lemmas.List.{ext_get_or, get_or_past, get_or-replicate, length-replicate, map-set}
use Rattle.std.proofs.lemmas.Option.{slice_get_within}
use Rattle.tdf_events_queue.specs.Sets.{AreForgotten, is_on}

-- a listed number is below the bound
pub listed_in : (flags : List Bool) (list : List ℕ) → ((j n : ℕ) → slice_get list j ≡ Some n → is_on flags n ≡ true) → (j n : ℕ) → slice_get list j ≡ Some n → n < length flags
listed_in flags list on j n at = elim (cases_lt n (length flags)) [ inl less ↦ less | inr past ↦ absurd (true≢false (sym (on j n at) ∙ get_or_past flags n false past)) ]

none_flags : (A : Type 0) (n : ℕ) → map {A = Option A} is_some (replicate n None) ≡ replicate n false
none_flags A zero = refl
none_flags A (suc n) = ap (λ (bs : List Bool). false ∷ bs) (none_flags A n)

module _ {A : Type 0} where
  abbrev nothing : Option A
  nothing = None

  -- a place with something is listed
  flag_at : (xs : List (Option A)) (s : ℕ) → is_on (map is_some xs) s ≡ is_some (slice_index_or xs s nothing)
  flag_at [] s = refl
  flag_at (x ∷ xs) zero = refl
  flag_at (x ∷ xs) (suc s) = flag_at xs s

  -- all places
  pub forgotten_all : (flags : List Bool) (list : List ℕ) (old new : List (Option A)) → flags ≡ map is_some old → ((n : ℕ) → is_on flags n ≡ true → (j : ℕ) × (slice_get list j ≡ Some n))
      → AreForgotten list (length list) old new → new ≡ replicate (length old) nothing
  forgotten_all flags list old new are all gone = ext_get_or nothing new (replicate (length old) nothing) (gone.same ∙ sym (length-replicate {A = Option A} (length old) nothing))
      (λ s less. one s (slice_index_or old s nothing) refl ∙ sym (get_or-replicate (length old) s nothing nothing (let l = gone.same in omega (arith, less, l))))
    where
      one : (s : ℕ) (o : Option A) → slice_index_or old s nothing ≡ o → slice_index_or new s nothing ≡ nothing
      one s (Some v) is = let w = all s (ap (λ xs. is_on xs s) are ∙ flag_at old s ∙ ap is_some is) in gone.gone w.0 s (slice_get_within list w.0 s w.1) w.1
      one s None is = gone.kept s is

  -- the flags of places with nothing, and of one more with something
  pub flags_new : (n : ℕ) (flags : List Bool) (xs : List (Option A)) → flags ≡ replicate n false → xs ≡ replicate n nothing → flags ≡ map is_some xs
  flags_new n flags xs off none = off ∙ sym (none_flags A n) ∙ sym (ap (map is_some) none)

  pub flags_with : (flags new : List Bool) (xs : List (Option A)) (s : ℕ) (v : A) → flags ≡ map is_some xs → new ≡ slice_set flags s true → new ≡ map is_some (slice_set xs s (Some v))
  flags_with flags new xs s v are put = put ∙ ap (λ (bs : List Bool). slice_set bs s true) are ∙ sym (map-set is_some xs s (Some v))
