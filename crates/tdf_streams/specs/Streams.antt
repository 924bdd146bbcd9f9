-- The samples of a cluster, each asked for by its place on its edge: the equations are followed
-- backwards, from a place to the activation that writes it, to what that one reads.
-- Source: own.
use Rattle.std.specs.Prelude.{ℕ, zero, suc, ◌+◌, ◌-◌, ◌*◌, ◌/◌, ◌%◌, Bool, true, false, not, ◌&&◌, if◌then◌else◌, nat_eq, nat_lt, Option, Some, None, option_map, List, [], ◌∷◌, ◌++◌, slice_get, slice_index}
use Rattle.std.specs.List.{sum_by}
use Rattle.std.specs.Option.{option_and_then}
use Rattle.tdf_streams.specs.Net.{Net, Past, Period, Run, Turn, count, taken, written}

-- number `rest` of what `period` has, which comes after the periods `before`
pub record Spot (I : Type 0) : Type 0 where
  pub before : List (Period I)
  pub period : Period I
  pub rest : ℕ

module _ {I : Type 0} where
  abbrev pub spot : List (Period I) → Period I → ℕ → Spot I
  spot before p n = record { before = before; period = p; rest = n }

  -- where number n lies, if the periods have so many and each has `size` of them
  unfoldable pub find : (Period I → ℕ) → (before ps : List (Period I)) → ℕ → Option (Spot I)
  find size before [] n = None
  find size before (p ∷ ps) n = if nat_lt n (size p) then Some (spot before p n)
      else find size (before ++ p ∷ []) ps (n - size p)

  abbrev pub is_first : List (Period I) → Bool
  is_first [] = true
  is_first (p ∷ ps) = false

module _ {S V I : Type 0} where
  -- output number `rest` on edge e in a period
  unfoldable pub output : Net S V I → Past S V → ℕ → Spot I → Option V
  output net past e s =
      option_map
      (λ (t : Turn S V). t.outputs (net.source e) (s.rest % slice_index s.period.writes e))
      (past (net.writer e)
      (sum_by (count (net.writer e)) s.before + s.rest / slice_index s.period.writes e))

  -- sample k of edge e: an initial one, or output k - delay of its writer
  unfoldable pub place : Net S V I → List (Period I) → Past S V → (e k : ℕ) → Option V
  place net periods past e k = if nat_lt k (net.delay e) then Some (net.initial e k)
      else option_and_then (output net past e)
      (find (written net e) [] periods (k - net.delay e))

  -- the n samples of edge e from k on
  unfoldable pub places : Net S V I → List (Period I) → Past S V → (e k n : ℕ) → Option (List V)
  places net periods past e k zero = Some []
  places net periods past e k (suc n) = option_and_then
      (λ (x : V). option_map (λ (xs : List V). x ∷ xs) (places net periods past e (k + 1) n))
      (place net periods past e k)

  -- the samples that an activation of actor m reads from edge e
  unfoldable pub input : Net S V I → List (Period I) → Past S V → ℕ → Spot I → ℕ → Option (List V)
  input net periods past m s e = if nat_eq (net.reader e) m
      then places net periods past e
      (sum_by (taken net e) s.before + s.rest * slice_index s.period.reads e)
      (slice_index s.period.reads e)
      else Some []

  -- those that it reads from each of the n edges from e on
  unfoldable pub inputs : Net S V I → List (Period I) → Past S V → ℕ → Spot I → (e n : ℕ)
      → Option (List (List V))
  inputs net periods past m s e zero = Some []
  inputs net periods past m s e (suc n) = option_and_then
      (λ (x : List V). option_map (λ (xs : List (List V)). x ∷ xs)
      (inputs net periods past m s (e + 1) n))
      (input net periods past m s e)

  -- the state at a spot, from the one before: at the head of each period but the first the change
  -- body has run, and then the reinitialize body
  abbrev pub entered : Net S V I → ℕ → Spot I → S → S
  entered net m s x = if nat_eq s.rest 0 && not (is_first s.before)
      then net.reinitialize m s.period (net.change m s.before x) else x

  -- the state before activation n of actor m, which is at this spot
  unfoldable pub state_before : Net S V I → Past S V → ℕ → Spot I → ℕ → Option S
  state_before net past m s zero = Some (entered net m s (net.start m))
  state_before net past m s (suc n) =
      option_map (λ (t : Turn S V). entered net m s t.state) (past m n)

  -- a sampler's activation: its value on every port
  abbrev pub sampled : Net S V I → ℕ → V → Turn S V
  sampled net m x = record { state = net.start m; outputs = λ port k. x }

  unfoldable pub turn_at : Net S V I → Run V I → Past S V → (m n : ℕ) → Spot I → Option (Turn S V)
  turn_at net run past m n s =
      if net.is_sampler m then option_map (sampled net m) (slice_get (run.reads m) n)
      else option_and_then
      (λ (x : S). option_map (net.process m s.period x)
      (inputs net run.periods past m s 0 net.edges))
      (state_before net past m s n)

  -- activation n of actor m, from what is known of others
  unfoldable pub turn : Net S V I → Run V I → Past S V → Past S V
  turn net run past m n =
      option_and_then (turn_at net run past m n) (find (count m) [] run.periods n)

  -- what is known of it where the equations are followed f times
  unfoldable pub known : Net S V I → Run V I → ℕ → Past S V
  known net run zero m n = None
  known net run (suc f) m n = turn net run (known net run f) m n
