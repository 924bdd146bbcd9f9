-- The events that are listed, of which a time stands.
use Rattle.std.proofs.Common.{◌≡◌, ◌∙◌, ℕ, ◌<◌, Bool, false, List, [], Option, Some, None, is_some, length, map, replicate, slice_get, ap, sym, subst, arith}
use Rattle.std.proofs.lemmas.List.{length-map}
use Rattle.tdf_events_queue.proofs.Api.{flags_new, forgotten_all, listed_in, none_rising}
use Rattle.tdf_events_queue.specs.Sets.{AreForgotten, AreRisingFlags}
use Rattle.tdf_expr_state.specs.Resets.{no_times}

abbrev nothing : Option ℕ
nothing = None

module _ (flags : List Bool) (members : List ℕ) (times : List (Option ℕ)) (are : flags ≡ map is_some times) (rising : AreRisingFlags flags members) where
  pub as_many : length flags ≡ length times
  as_many = ap length are ∙ length-map times is_some

  pub listed_of : (listed : List ℕ) → listed ≡ members → AreRisingFlags (map is_some times) listed
  listed_of listed is = subst (λ (fs : List Bool). AreRisingFlags fs listed) are (subst (λ (l : List ℕ). AreRisingFlags flags l) (sym is) rising)

  pub listed_below : (listed : List ℕ) → listed ≡ members → (i e : ℕ) → slice_get listed i ≡ Some e → e < length times
  listed_below listed is i e at = let less : e < length flags = listed_in flags members rising.on i e (ap (λ (l : List ℕ). slice_get l i) (sym is) ∙ at) in omega (arith, less, as_many)

  pub none_stand : (listed : List ℕ) (new : List (Option ℕ)) → listed ≡ members → AreForgotten listed (length listed) times new → new ≡ no_times times
  none_stand listed new is gone = forgotten_all flags members times new are rising.all (subst (λ (l : List ℕ). AreForgotten l (length l) times new) is gone)

  pub none_flagged : (off : List Bool) (new : List (Option ℕ)) → off ≡ replicate (length flags) false → new ≡ no_times times → off ≡ map is_some new
  none_flagged off new are_off is = flags_new (length times) off new (are_off ∙ ap (λ (n : ℕ). replicate n false) as_many) is

-- nothing is listed
pub none_listed : (n : ℕ) (flags : List Bool) (members : List ℕ) → flags ≡ replicate n false → members ≡ [] → AreRisingFlags flags members
none_listed n flags members off empty = subst (λ (fs : List Bool). AreRisingFlags fs members) (sym off) (subst (λ (l : List ℕ). AreRisingFlags (replicate n false) l) (sym empty) (none_rising n))
