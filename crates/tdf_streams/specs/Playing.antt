-- Orders in which the actors of a cluster may fire in a period.
-- Source: own.
use Rattle.std.specs.Prelude.{ℕ, ◌<◌, ◌≡◌, false, Some, List, [], ◌∷◌, ◌++◌, length, count_by, nat_eq, slice_get, slice_index, slice_index_or}
use Rattle.tdf_streams.specs.Firing.{Flows, IsNextTurn, IsPresent}
use Rattle.tdf_streams.specs.Net.{Net, Period, Turn}
use Rattle.tdf_streams.specs.Stands.{Play}

-- how often an actor is in an order
abbrev pub turns_in : List ℕ → ℕ → ℕ
turns_in order m = count_by (λ k. nat_eq k m) order

module _ {S V I : Type 0} where
  -- actor m has an activation left and its samples are present, and it fires with its next turn
  pub record IsStep (net : Net S V I) (old : List (Period I)) (p : Period I) (reads : ℕ → List V)
      (m : ℕ) (y z : Play S V) : Type 0 where
    pub turn : Turn S V
    pub left : slice_index y.turns m < slice_index p.counts m
    pub present : IsPresent net p m y
    pub next : IsNextTurn net old p reads m y turn
    pub flows : Flows net p m turn y z

  -- the actors of an order fire one after the other, and lead from y to z
  unfoldable pub IsPlayed : Net S V I → List (Period I) → Period I → (ℕ → List V) → List ℕ
      → (y z : Play S V) → Type 0
  IsPlayed net old p reads [] y z = z ≡ y
  IsPlayed net old p reads (m ∷ ms) y z =
      (mid : Play S V) × IsStep net old p reads m y mid × IsPlayed net old p reads ms mid z

  -- each actor with an activation in the period has a state, unless it is a sampler
  abbrev pub HasStates : Net S V I → Period I → Play S V → Type 0
  HasStates net p y = (m : ℕ) → 0 < slice_index p.counts m → net.is_sampler m ≡ false
      → (s : S) × (slice_get y.states m ≡ Some s)

  -- actor m has an activation left, but a list that it reads lacks a sample
  pub record Lacks (net : Net S V I) (p : Period I) (m : ℕ) (y : Play S V) : Type 0 where
    pub left : slice_index y.turns m < slice_index p.counts m
    pub edge : ℕ
    pub inside : edge < net.edges
    pub reads : net.reader edge ≡ m
    pub few : length (slice_index_or y.lists edge []) < slice_index p.reads edge

  -- an order is played up to a step that lacks a sample
  pub record StopsShort (net : Net S V I) (old : List (Period I)) (p : Period I)
      (reads : ℕ → List V) (order : List ℕ) (y : Play S V) : Type 0 where
    pub before : List ℕ
    pub actor : ℕ
    pub after : List ℕ
    pub order_is : order ≡ before ++ actor ∷ after
    pub mid : Play S V
    pub played : IsPlayed net old p reads before y mid
    pub lacks : Lacks net p actor mid

  -- both hold the same states and samples
  pub record IsSame (net : Net S V I) (y z : Play S V) : Type 0 where
    pub states : (m : ℕ) (a b : S) → net.is_sampler m ≡ false → slice_get y.states m ≡ Some a
        → slice_get z.states m ≡ Some b → a ≡ b
    pub lists : (e : ℕ) → e < net.edges
        → slice_index_or y.lists e [] ≡ slice_index_or z.lists e []
