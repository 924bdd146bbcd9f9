-- When a cluster in progress stands for the streams: its lists and states are theirs.
-- Source: own.
use Rattle.std.specs.Prelude.{ℕ, ◌+◌, ◌*◌, ◌<◌, ◌≡◌, false, Some, option_map, List, [], ◌∷◌, ◌++◌, length, slice_get, slice_index, slice_index_or}
use Rattle.std.specs.List.{sum_by}
use Rattle.tdf_streams.specs.Net.{Net, Past, Period, Run, Turn, count, taken, written}
use Rattle.tdf_streams.specs.Streams.{known, place, spot, state_before}

-- what one knows, the other knows too
pub record Less {S V : Type 0} (past more : Past S V) : Type 0 where
  pub keeps : (m n : ℕ) (t : Turn S V) → past m n ≡ Some t → more m n ≡ Some t

-- a cluster in progress: the activations done in its period by actor (in the first, since the
-- start), the states by actor, and the samples held by edge
pub record Play (S V : Type 0) : Type 0 where
  pub turns : List ℕ
  pub states : List S
  pub lists : List (List V)

module _ {V : Type 0} where
  -- each value given is given in both
  abbrev pub KeepsReads : (short long : ℕ → List V) → Type 0
  KeepsReads short long = (m n : ℕ) (x : V) → slice_get (short m) n ≡ Some x
      → slice_get (long m) n ≡ Some x

module _ {V I : Type 0} where
  -- further periods, and further values for samplers
  pub record Longer (short long : Run V I) : Type 0 where
    pub rest : List (Period I)
    pub periods : long.periods ≡ short.periods ++ rest
    pub reads : KeepsReads short.reads long.reads

  abbrev pub run_of : List (Period I) → Period I → (ℕ → List V) → Run V I
  run_of old p reads = record { periods = old ++ p ∷ []; reads = reads }

module _ {S V I : Type 0} where
  -- the list of edge e holds its samples from place r to the last of w that were written
  pub record Holds (net : Net S V I) (periods : List (Period I)) (past : Past S V) (e r w : ℕ)
      (xs : List V) : Type 0 where
    pub count : length xs + r ≡ net.delay e + w
    pub items : (j : ℕ) (x : V) → slice_get xs j ≡ Some x
        → place net periods past e (r + j) ≡ Some x

  -- the first activations of each actor are known
  abbrev pub HasValues : Net S V I → Run V I → ℕ → (ℕ → ℕ) → Type 0
  HasValues net run f first =
      (m n : ℕ) → n < first m → (t : Turn S V) × (known net run f m n ≡ Some t)

  -- it stands in period p, after the periods `old`, with all that was done known in f steps
  pub record Stands (net : Net S V I) (old : List (Period I)) (p : Period I) (reads : ℕ → List V)
      (f : ℕ) (y : Play S V) : Type 0 where
    pub has_values : HasValues net (run_of old p reads) f
        (λ m. sum_by (count m) old + slice_index y.turns m)
    pub states : (m : ℕ) (x : S) → slice_get y.states m ≡ Some x → net.is_sampler m ≡ false
        → state_before net (known net (run_of old p reads) f) m
        (spot old p (slice_index y.turns m))
        (sum_by (count m) old + slice_index y.turns m) ≡ Some x
    pub lists : (e : ℕ) → e < net.edges
        → Holds net (old ++ p ∷ []) (known net (run_of old p reads) f) e
        (sum_by (taken net e) old + slice_index y.turns (net.reader e) * slice_index p.reads e)
        (sum_by (written net e) old + slice_index y.turns (net.writer e) * slice_index p.writes e)
        (slice_index_or y.lists e [])

  -- nothing is done yet: the states and lists are those of the start
  pub record IsStart (net : Net S V I) (y : Play S V) : Type 0 where
    pub turns : (m : ℕ) → slice_index y.turns m ≡ 0
    pub states : (m : ℕ) (x : S) → slice_get y.states m ≡ Some x → net.is_sampler m ≡ false
        → x ≡ net.start m
    pub long : (e : ℕ) → e < net.edges → length (slice_index_or y.lists e []) ≡ net.delay e
    pub items : (e j : ℕ) (x : V) → e < net.edges
        → slice_get (slice_index_or y.lists e []) j ≡ Some x → x ≡ net.initial e j

  -- the period is done, and the change bodies have run
  pub record Crosses (net : Net S V I) (old : List (Period I)) (p : Period I) (reads : ℕ → List V)
      (f : ℕ) (y : Play S V) : Type 0 where
    pub turns : (m : ℕ) → slice_index y.turns m ≡ slice_index p.counts m
    pub has_values : HasValues net (run_of old p reads) f
        (λ m. sum_by (count m) old + slice_index p.counts m)
    pub states : (m : ℕ) (x : S) → slice_get y.states m ≡ Some x → net.is_sampler m ≡ false
        → option_map (net.change m (old ++ p ∷ []))
        (state_before net (known net (run_of old p reads) f) m
        (spot old p (slice_index p.counts m))
        (sum_by (count m) old + slice_index p.counts m)) ≡ Some x
    pub lists : (e : ℕ) → e < net.edges
        → Holds net (old ++ p ∷ []) (known net (run_of old p reads) f) e
        (sum_by (taken net e) old + taken net e p) (sum_by (written net e) old + written net e p)
        (slice_index_or y.lists e [])

  -- the change bodies run, where a period is done
  pub record Changed (net : Net S V I) (old : List (Period I)) (p : Period I) (y z : Play S V)
      : Type 0 where
    pub turns : z.turns ≡ y.turns
    pub lists : z.lists ≡ y.lists
    pub states : (m : ℕ) (x : S) → slice_get z.states m ≡ Some x → net.is_sampler m ≡ false
        → (b : S) × (slice_get y.states m ≡ Some b) × (x ≡ net.change m (old ++ p ∷ []) b)

  -- each actor that keeps a state is activated in the period, unless that is the first
  abbrev pub AreActive : Net S V I → List (Period I) → Period I → Play S V → Type 0
  AreActive net old p y = (m : ℕ) (x : S) → slice_get y.states m ≡ Some x
      → net.is_sampler m ≡ false → slice_index p.counts m ≡ 0 → old ≡ []

  -- the next period is installed: the reinitialize bodies run, and its turns begin
  pub record Installed (net : Net S V I) (next : Period I) (y z : Play S V) : Type 0 where
    pub turns : (m : ℕ) → slice_index z.turns m ≡ 0
    pub lists : z.lists ≡ y.lists
    pub states : (m : ℕ) (x : S) → slice_get z.states m ≡ Some x → net.is_sampler m ≡ false
        → (b : S) × (slice_get y.states m ≡ Some b) × (x ≡ net.reinitialize m next b)
