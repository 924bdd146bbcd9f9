-- Which activations an activation follows, and when the samplers among them were given values.
-- Source: own.
use Rattle.std.specs.Prelude.{ℕ, zero, suc, ◌+◌, ◌-◌, ◌*◌, ◌/◌, ◌<◌, ◌≤◌, ◌≡◌, true, false, Some, ⊤, List, [], length, slice_index}
use Rattle.std.specs.List.{sum_by}
use Rattle.tdf_streams.specs.Net.{Net, Period, Run, count, taken, written}
use Rattle.tdf_streams.specs.Streams.{Spot, find}

module _ {S V I : Type 0} where
  -- the activation of actor m at a spot reads place k of edge e
  pub record IsRead (net : Net S V I) (m : ℕ) (s : Spot I) (e k : ℕ) : Type 0 where
    pub inside : e < net.edges
    pub reader : net.reader e ≡ m
    pub low : sum_by (taken net e) s.before + s.rest * slice_index s.period.reads e ≤ k
    pub high : k < sum_by (taken net e) s.before + s.rest * slice_index s.period.reads e
        + slice_index s.period.reads e

  -- activation n of actor m follows activation b of actor l: it is the one before it, or it writes
  -- a sample that it reads
  pub data Follows (net : Net S V I) (periods : List (Period I)) (m n l b : ℕ) : Type 0 where
    own : l ≡ m → n ≡ suc b → Follows net periods m n l b
    sample : (s v : Spot I) (e k : ℕ) → find (count m) [] periods n ≡ Some s
        → IsRead net m s e k → net.delay e ≤ k
        → find (written net e) [] periods (k - net.delay e) ≡ Some v → l ≡ net.writer e
        → b ≡ sum_by (count (net.writer e)) v.before + v.rest / slice_index v.period.writes e
        → Follows net periods m n l b

  -- it, what it follows, what these follow and so on, back f steps: each sampler among them was
  -- given its value
  unfoldable pub IsFed : Net S V I → Run V I → (f m n : ℕ) → Type 0
  IsFed net run zero m n = ⊤
  IsFed net run (suc f) m n = (net.is_sampler m ≡ true → n < length (run.reads m))
      × (net.is_sampler m ≡ false → (l b : ℕ) → Follows net run.periods m n l b
      → IsFed net run f l b)
