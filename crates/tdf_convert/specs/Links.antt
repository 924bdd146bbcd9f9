-- The samplers and sinks of a cluster with their signals (own).
use Rattle.std.specs.List.{count_by}
use Rattle.std.specs.Prelude.{◌≡◌, ℕ, ◌<◌, if◌then◌else◌, nat_eq, List, [], ◌∷◌, take, Option, Some, None, slice_get}
use Rattle.tdf_convert.specs.declared.links.Link.{Link}

-- by rising actor
pub record AreRising (links : List Link) : Type 0 where
  pub rising : (i j : ℕ) (k l : Link) → i < j → slice_get links i ≡ Some k
      → slice_get links j ≡ Some l → k.actor < l.actor

-- how many samplers come before a place
abbrev pub samplers_before : List Link → ℕ → ℕ
samplers_before links j = count_by (λ l. l.sampler) (take j links)

abbrev pub samplers_in : List Link → ℕ
samplers_in links = count_by (λ l. l.sampler) links

-- the links of a cluster with this number of samplers: each knows how many samplers come before it
pub record AreLinks (links : List Link) (samplers : ℕ) : Type 0 where
  pub order : AreRising links
  pub placed : (j : ℕ) (l : Link) → slice_get links j ≡ Some l → l.place ≡ samplers_before links j
  pub count : samplers_in links ≡ samplers

-- each names one of the signals
pub record HaveSignals (links : List Link) (signals : ℕ) : Type 0 where
  pub inside : (j : ℕ) (l : Link) → slice_get links j ≡ Some l → l.signal < signals

-- the link of an actor
abbrev pub link_of : List Link → (actor : ℕ) → Option Link
link_of [] actor = None
link_of (l ∷ ls) actor = if nat_eq l.actor actor then Some l else link_of ls actor

-- all are of earlier actors
pub record AreBefore (actor : ℕ) (links : List Link) : Type 0 where
  pub before : (j : ℕ) (l : Link) → slice_get links j ≡ Some l → l.actor < actor
