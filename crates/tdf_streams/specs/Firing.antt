-- One firing of an actor, from the lists of a cluster in progress.
-- Source: own.
use Rattle.std.specs.Prelude.{ℕ, zero, suc, ◌+◌, ◌<◌, ◌≤◌, ◌≡◌, ◌≢◌, true, false, Some, if◌then◌else◌, nat_eq, List, [], ◌∷◌, ◌++◌, length, map, take, drop, slice_get, slice_index, slice_index_or}
use Rattle.std.specs.List.{range_with_len, sum_by}
use Rattle.tdf_streams.specs.Net.{Net, Period, Turn, count}
use Rattle.tdf_streams.specs.Stands.{Play}
use Rattle.tdf_streams.specs.Streams.{sampled}

module _ {S V I : Type 0} where
  -- each list that actor m reads has the samples of one firing
  abbrev pub IsPresent : Net S V I → Period I → ℕ → Play S V → Type 0
  IsPresent net p m y = (e : ℕ) → e < net.edges → net.reader e ≡ m
      → slice_index p.reads e ≤ length (slice_index_or y.lists e [])

  -- the fronts that actor m reads of the n lists from edge e on
  unfoldable pub fronts : Net S V I → Period I → ℕ → List (List V) → (e n : ℕ) → List (List V)
  fronts net p m lists e zero = []
  fronts net p m lists e (suc n) = (if nat_eq (net.reader e) m
      then take (slice_index p.reads e) (slice_index_or lists e []) else [])
      ∷ fronts net p m lists (e + 1) n

  -- t is the next turn of actor m: of a sampler by the value that it was given, of another actor
  -- by its body, its state and the fronts
  pub data IsNextTurn (net : Net S V I) (old : List (Period I)) (p : Period I)
      (reads : ℕ → List V) (m : ℕ) (y : Play S V) (t : Turn S V) : Type 0 where
    given : (x : V) → net.is_sampler m ≡ true
        → slice_get (reads m) (sum_by (count m) old + slice_index y.turns m) ≡ Some x
        → t ≡ sampled net m x → IsNextTurn net old p reads m y t
    processed : (s : S) → net.is_sampler m ≡ false → slice_get y.states m ≡ Some s
        → t ≡ net.process m p s (fronts net p m y.lists 0 net.edges)
        → IsNextTurn net old p reads m y t

  -- list e after a firing: first its reader takes, then its writer puts
  abbrev pub moved : Net S V I → Period I → ℕ → Turn S V → ℕ → List V → List V
  moved net p m t e xs =
      (if nat_eq (net.reader e) m then drop (slice_index p.reads e) xs else xs)
      ++ (if nat_eq (net.writer e) m
      then map (t.outputs (net.source e)) (range_with_len 0 (slice_index p.writes e)) else [])

  -- actor m fires with the turn t
  pub record Flows (net : Net S V I) (p : Period I) (m : ℕ) (t : Turn S V) (y z : Play S V)
      : Type 0 where
    pub turn : slice_index z.turns m ≡ slice_index y.turns m + 1
    pub other_turns : (k : ℕ) → k ≢ m → slice_index z.turns k ≡ slice_index y.turns k
    pub state : net.is_sampler m ≡ false → slice_get z.states m ≡ Some t.state
    pub other_states : (k : ℕ) → k ≢ m → slice_get z.states k ≡ slice_get y.states k
    pub lists : (e : ℕ) → e < net.edges
        → slice_index_or z.lists e [] ≡ moved net p m t e (slice_index_or y.lists e [])
