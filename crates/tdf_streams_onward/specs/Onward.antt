-- A start inside a run: what a cluster in progress holds is how streams begin that go on from
-- there.
-- Source: own.
use Rattle.std.specs.Prelude.{ℕ, ◌+◌, ◌*◌, ◌<◌, ◌≡◌, true, false, Some, List, [], ◌∷◌, ◌++◌, length}
use Rattle.std.specs.Prelude.{slice_get, slice_index, slice_index_or}
use Rattle.std.specs.List.{sum_by}
use Rattle.tdf_streams.specs.Grounds.{firings}
use Rattle.tdf_streams.specs.Net.{Net, Past, Period, Run, Turn, count, taken, written}
use Rattle.tdf_streams.specs.Streams.{known, place}
use Rattle.tdf_streams.specs.Stands.{Play}

module _ {S V I K : Type 0} (key : I → K) where
  -- bodies look at no period but the last one, at no counts of it, and of what else it records at
  -- its key alone
  pub record GoByKey (net : Net S V I) : Type 0 where
    pub change : (m : ℕ) (old : List (Period I)) (p q : Period I) (later : List (Period I)) (x : S)
        → key p.info ≡ key q.info → net.change m (old ++ p ∷ later) x ≡ net.change m (q ∷ later) x
    pub process : (m : ℕ) (p q : Period I) → key p.info ≡ key q.info
        → net.process m p ≡ net.process m q

  -- what is left of a period where a cluster is
  pub record IsRest (p : Period I) (y : Play S V) (q : Period I) : Type 0 where
    pub counts : (m : ℕ) → slice_index y.turns m + slice_index q.counts m ≡ slice_index p.counts m
    pub writes : q.writes ≡ p.writes
    pub reads : q.reads ≡ p.reads
    pub same : key q.info ≡ key p.info

module _ {S V I : Type 0} where
  -- the same bodies over the same edges, from other samples and states on
  abbrev pub started : Net S V I → (delay : ℕ → ℕ) → (initial : ℕ → ℕ → V) → (start : ℕ → S)
      → Net S V I
  started net delay initial start = record net { delay = delay; initial = initial; start = start }

  -- a net starts from what the cluster holds
  pub record StartsFrom (net : Net S V I) (y : Play S V) (delay : ℕ → ℕ) (initial : ℕ → ℕ → V)
      (start : ℕ → S) : Type 0 where
    pub long : (e : ℕ) → e < net.edges → delay e ≡ length (slice_index_or y.lists e [])
    pub items : (e j : ℕ) (x : V) → e < net.edges
        → slice_get (slice_index_or y.lists e []) j ≡ Some x → initial e j ≡ x
    pub states : (m : ℕ) → net.is_sampler m ≡ false → slice_get y.states m ≡ Some (start m)
    pub kept : (m : ℕ) → net.is_sampler m ≡ true → start m ≡ net.start m

  -- activations of actor m, samples taken from edge e, and samples put on it, before the start
  abbrev pub acts_before : List (Period I) → Play S V → ℕ → ℕ
  acts_before old y m = sum_by (count m) old + slice_index y.turns m

  abbrev pub taken_before : Net S V I → List (Period I) → Period I → Play S V → ℕ → ℕ
  taken_before net old p y e = sum_by (taken net e) old
      + slice_index y.turns (net.reader e) * slice_index p.reads e

  abbrev pub written_before : Net S V I → List (Period I) → Period I → Play S V → ℕ → ℕ
  written_before net old p y e = sum_by (written net e) old
      + slice_index y.turns (net.writer e) * slice_index p.writes e

module _ {S V I : Type 0} where
  -- what is known in some number of steps is known in as many as there are firings
  abbrev pub IsEnough : Net S V I → Run V I → Type 0
  IsEnough net run = (d m n : ℕ) (t : Turn S V) → known net run d m n ≡ Some t
      → known net run (firings run.periods) m n ≡ Some t

  -- all that is known
  abbrev pub all_known : Net S V I → Run V I → Past S V
  all_known net run = known net run (firings run.periods)

  -- the streams that go on are those of the whole run, counted from the start
  pub record GoOnAs (whole : Net S V I) (long : Run V I) (part : Net S V I) (rest : Run V I)
      (acts takes : ℕ → ℕ) : Type 0 where
    pub turns : (m n : ℕ) → all_known part rest m n ≡ all_known whole long m (acts m + n)
    pub places : (e k : ℕ) → e < whole.edges → place part rest.periods (all_known part rest) e k
        ≡ place whole long.periods (all_known whole long) e (takes e + k)
