-- Which firings of a period a firing needs, and when all of a period can be done. Firings have the
-- numbers of the whole period, also where a start has some of them done, and `delay` is what each
-- edge holds at the head of a whole period.
-- Source: own; the balance of counts and rates after Lee and Messerschmitt 1987.
use Rattle.std.specs.Prelude.{ℕ, zero, suc, ◌+◌, ◌-◌, ◌*◌, ◌/◌, ◌<◌, ◌≤◌, ◌≡◌, ◌⊎◌, false, true, List, [], ◌∷◌, ◌++◌, length, slice_index, slice_index_or, sum}
use Rattle.std.specs.List.{All, sum_by}
use Rattle.tdf_streams.specs.Net.{Net, Period, count}
use Rattle.tdf_streams.specs.Stands.{Play}

module _ {S V I : Type 0} where
  -- a sample that firing a of actor m reads is written by firing b of actor n
  pub record Takes (net : Net S V I) (delay : ℕ → ℕ) (p : Period I) (m a n b : ℕ) : Type 0 where
    pub edge : ℕ
    pub inside : edge < net.edges
    pub reads : net.reader edge ≡ m
    pub writes : net.writer edge ≡ n
    pub place : ℕ
    pub low : a * slice_index p.reads edge ≤ place
    pub high : place < a * slice_index p.reads edge + slice_index p.reads edge
    pub late : delay edge ≤ place
    pub made : b ≡ (place - delay edge) / slice_index p.writes edge

  -- it needs that one, and its actor's firing before it
  abbrev pub Needs : Net S V I → (ℕ → ℕ) → Period I → (m a n b : ℕ) → Type 0
  Needs net delay p m a n b = ((n ≡ m) × (b + 1 ≡ a)) ⊎ Takes net delay p m a n b

  -- its needs, their needs and so on end within f steps
  unfoldable pub EndsIn : Net S V I → (ℕ → ℕ) → Period I → (f m a : ℕ) → Type 0
  EndsIn net delay p zero m a = ⊥
  EndsIn net delay p (suc f) m a =
      (n b : ℕ) → Needs net delay p m a n b → EndsIn net delay p f n b

  abbrev pub IsGrounded : Net S V I → (ℕ → ℕ) → Period I → (m a : ℕ) → Type 0
  IsGrounded net delay p m a = (f : ℕ) × EndsIn net delay p f m a

  -- a period of which `begun` firings were done at the start: its whole counts balance the rates of
  -- each edge, those of actors that keep a state are positive, and all its firings are grounded
  pub record IsSound (net : Net S V I) (actors : ℕ) (delay begun : ℕ → ℕ) (p : Period I)
      : Type 0 where
    pub actors_are : length p.counts ≡ actors
    pub active : (m : ℕ) → m < actors → net.is_sampler m ≡ false → 0 < begun m + count m p
    pub positive : (e : ℕ) → e < net.edges
        → (0 < slice_index p.writes e) × (0 < slice_index p.reads e)
    pub balanced : (e : ℕ) → e < net.edges
        → (begun (net.writer e) + count (net.writer e) p) * slice_index p.writes e
        ≡ (begun (net.reader e) + count (net.reader e) p) * slice_index p.reads e
    pub grounded : (m a : ℕ) → a < begun m + count m p → IsGrounded net delay p m a

  -- the lists of the start are what is held after those firings of the first period
  abbrev pub IsBegun : Net S V I → (delay begun : ℕ → ℕ) → Period I → Type 0
  IsBegun net delay begun p = (e : ℕ) → e < net.edges
      → net.delay e + begun (net.reader e) * slice_index p.reads e
      ≡ delay e + begun (net.writer e) * slice_index p.writes e

  -- a start inside a sound period, and sound periods after that
  pub record AreSound (net : Net S V I) (actors : ℕ) (delay begun : ℕ → ℕ) (first : Period I)
      (later : List (Period I)) : Type 0 where
    pub lists : IsBegun net delay begun first
    pub head : IsSound net actors delay begun first
    pub rest : All (IsSound net actors delay (λ m. 0)) later

  -- the same up to period p, after the periods `old`
  abbrev pub AreSoundTo : Net S V I → ℕ → (delay begun : ℕ → ℕ) → List (Period I) → Period I
      → Type 0
  AreSoundTo net actors delay begun [] p = AreSound net actors delay begun p []
  AreSoundTo net actors delay begun (first ∷ later) p =
      AreSound net actors delay begun first (later ++ p ∷ [])

  -- the cluster is at the head of a whole period
  pub record IsHead (net : Net S V I) (delay : ℕ → ℕ) (p : Period I) (y : Play S V)
      : Type 0 where
    pub positive : (e : ℕ) → e < net.edges
        → (0 < slice_index p.writes e) × (0 < slice_index p.reads e)
    pub turns : (m : ℕ) → slice_index y.turns m ≡ 0
    pub lists : (e : ℕ) → e < net.edges → length (slice_index_or y.lists e []) ≡ delay e

  -- each sampler was given a value for each of its activations
  abbrev pub AreGiven : Net S V I → (ℕ → List V) → List (Period I) → Type 0
  AreGiven net reads periods = (m n : ℕ) → net.is_sampler m ≡ true
      → n < sum_by (count m) periods → n < length (reads m)

module _ {I : Type 0} where
  -- the firings of periods
  abbrev pub firings : List (Period I) → ℕ
  firings periods = sum_by (λ (p : Period I). sum p.counts) periods
