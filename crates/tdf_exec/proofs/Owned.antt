-- What a cluster has for its own actors, by the numbers of the model.
use Rattle.std.proofs.Common.{◌≡◌, ◌∙◌, ◌⊎◌, inl, inr, ℕ, List, [], Option, Some, None, length, map, unwrap_or, refl, sym, ap, arith}
use Rattle.std.proofs.Math.ListN.{get_or, get_or-map}
use Rattle.std.proofs.lemmas.List.{get_or_read_under}
use Rattle.std.proofs.lemmas.Option.{get_or_from_slice_get, unwrap_or-slice_get}
use Rattle.std.specs.Prelude.{slice_get, slice_index_or, slice_set}
use Rattle.tdf_cluster_net.specs.Numbers.{IsAmong}
use Rattle.tdf_exec.specs.Gained.{sent_size, traced_size}
use Rattle.tdf_exec.specs.Played.{runner_cells}
use Rattle.tdf_exec.specs.Runners.{ModuleOf}
use Rattle.tdf_exec.specs.declared.runners.Runner.{Runner}
use Rattle.tdf_exec.specs.declared.runners.Runner.TheVariants as runner
use Rattle.tdf_exec.specs.views.Actors.{ActorsOf, kept_at, with_runners}
use Rattle.tdf_places.proofs.Api.{place_at, spread_nowhere, spread_put, spread_there, stands}
use Rattle.tdf_places.specs.Places.{IsNowhere, PlacesOf, StandApart}
use Rattle.tdf_places.specs.Spread.{spread}

-- what is kept for an actor that isn't of another cluster stands at a place
pub kept_stands : (places : PlacesOf) (runners : List Runner) (m : ℕ) (r : Runner) → slice_get (spread runner.Outside places runners) m ≡ Some r → (r ≡ runner.Outside → ⊥) → IsAmong places.numbers m
kept_stands places runners m r at differs = go (stands places.numbers m)
  where
    go : IsAmong places.numbers m ⊎ IsNowhere places m → IsAmong places.numbers m
    go (inl found) = found
    go (inr none) = absurd (differs (sym (get_or_from_slice_get (spread runner.Outside places runners) m r runner.Outside at) ∙ spread_nowhere runner.Outside places runners m none))

pub module_isn't : (x : ModuleOf) → runner.Module x ≡ runner.Outside → ⊥
module_isn't x same = cc

-- actors with these places, runners and activations
abbrev pub actors_of : PlacesOf → List Runner → List ℕ → ActorsOf
actors_of places runners positions = record { places = places; runners = runners; positions = positions }

-- actors of whom one is given another runner
pub one_put : (places : PlacesOf) → StandApart places → (runners : List Runner) (positions : List ℕ) → length runners ≡ length places.numbers → (place m : ℕ)
    → slice_get places.numbers place ≡ Some m → (x : Runner) (old : ActorsOf) → actors_of places (spread runner.Outside places runners) positions ≡ old
    → actors_of places (spread runner.Outside places (slice_set runners place x)) positions ≡ with_runners (slice_set old.runners m x) old
one_put places apart runners positions long place m at x old is =
    ap (λ (l : List Runner). actors_of places l positions) (spread_put runner.Outside places apart runners long place m at x)
    ∙ ap (λ (a : ActorsOf). with_runners (slice_set a.runners m x) a) is

-- after other runners, others
pub again : (first cur new : ActorsOf) (runners : List Runner) → cur ≡ with_runners cur.runners first → new ≡ with_runners runners cur → new ≡ with_runners new.runners first
again first cur new runners before is =
    is ∙ ap (λ (a : ActorsOf). with_runners runners a) before ∙ ap (λ (l : List Runner). with_runners l first) (sym (ap (λ (a : ActorsOf). a.runners) is))

-- an actor for which nothing is kept gives nothing, and has no values
nothing_in : (o : Option Runner) → unwrap_or o runner.Outside ≡ runner.Outside → (sent_size o ≡ 0) × (traced_size o ≡ 0)
nothing_in None is = (refl, refl)
nothing_in (Some r) is = (ap (λ (x : Runner). sent_size (Some x)) is, ap (λ (x : Runner). traced_size (Some x)) is)

pub nothing_given : (runners : List Runner) (m : ℕ) → kept_at runners m ≡ runner.Outside → (sent_size (slice_get runners m) ≡ 0) × (traced_size (slice_get runners m) ≡ 0)
nothing_given runners m is = nothing_in (slice_get runners m) (unwrap_or-slice_get runners m runner.Outside ∙ is)

pub cells_are : (runners : List Runner) (m : ℕ) (r : Runner) → kept_at runners m ≡ r → slice_index_or (map runner_cells runners) m [] ≡ runner_cells r
cells_are runners m r is = get_or-map runner_cells runners m runner.Outside ∙ ap runner_cells is

-- actors of whom one has fired
pub one_fired : (places : PlacesOf) → StandApart places → (runners : List Runner) (positions : List ℕ) → length runners ≡ length places.numbers → length positions ≡ length places.numbers
    → (place m : ℕ) → slice_get places.numbers place ≡ Some m → (x : Runner) (p : ℕ) (old : ActorsOf) → actors_of places (spread runner.Outside places runners) (spread 0 places positions) ≡ old
    → actors_of places (spread runner.Outside places (slice_set runners place x)) (spread 0 places (slice_set positions place p))
    ≡ record old { runners = slice_set old.runners m x; positions = slice_set old.positions m p }
one_fired places apart runners positions runners_long positions_long place m at x p old is =
    ap (λ (l : List Runner). actors_of places l (spread 0 places (slice_set positions place p))) (spread_put runner.Outside places apart runners runners_long place m at x)
    ∙ ap (λ (l : List ℕ). actors_of places (slice_set (spread runner.Outside places runners) m x) l) (spread_put 0 places apart positions positions_long place m at p)
    ∙ ap (λ (a : ActorsOf). record a { runners = slice_set a.runners m x; positions = slice_set a.positions m p }) is

-- what stands at a number, by its place
pub value_there : {A : Type 0} (other : A) (places : PlacesOf) → StandApart places → (values : List A) → length values ≡ length places.numbers → (place m : ℕ) (v : A)
    → slice_get places.numbers place ≡ Some m → v ≡ get_or values place v → slice_get (spread other places values) m ≡ Some v
value_there other places apart values long place m v at is =
    spread_there other places apart values long place m at
    ∙ ap Some (sym (get_or_read_under values place (length values) v other is (let w = (place_at other places place m at).0 in omega (arith, long, w)) refl))
