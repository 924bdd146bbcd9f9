-- The plan of a cluster, what an edge holds along it, and the faults of a cluster without one.
-- Source: own.
use Rattle.std.specs.Prelude.{ℕ, ◌+◌, ◌*◌, ◌<◌, ◌≤◌, ◌≡◌, Bool, false, ◌&&◌, ◌||◌, nat_eq, nat_lt, if◌then◌else◌, Option, Some, None, List, length, take, sum, All, Contains, slice_get, slice_index}
use Rattle.std.specs.List.{count_by, sum_by}
use Rattle.tdf_base.specs.Limits.{most_firings, time_end}
use Rattle.tdf_graph.specs.Counts.{IsBalanced}
use Rattle.tdf_graph.specs.declared.actors.Actor.{Actor}
use Rattle.tdf_graph.specs.declared.actors.Actor.TheVariants.{Module, Sampler, Sink}
use Rattle.tdf_graph.specs.declared.actors.Edge.{Edge}
use Rattle.tdf_graph.specs.declared.actors.Port.{Port}
use Rattle.tdf_schedule.specs.Needs.{IsGrounded, HasKey}
use Rattle.tdf_schedule.specs.declared.entry.Entry.{Entry}
use Rattle.tdf_schedule.specs.declared.key.Key.{Key}
use Rattle.tdf_schedule.specs.declared.entry.Plan.{Plan}

-- the time from one firing of a sampler or sink to the next; modules wait for no time
abbrev pub pace_by : Option Actor → ℕ → ℕ
pace_by None step = 0
pace_by (Some Module) step = 0
pace_by (Some Sampler) step = step
pace_by (Some Sink) step = step

abbrev pub pace_of : (actors : List Actor) (steps : List ℕ) → ℕ → ℕ
pace_of actors steps m = pace_by (slice_get actors m) (slice_index steps m)

-- an entry is a firing with its key; entries go by offset, level, actor and index
abbrev pub key_in : Entry → Key
key_in x = record { level = x.level; offset = x.offset }

abbrev pub is_firing : (m a : ℕ) → Entry → Bool
is_firing m a x = nat_eq x.actor m && nat_eq x.index a

abbrev pub is_earlier : Entry → Entry → Bool
is_earlier x y = nat_lt x.offset y.offset || (nat_eq x.offset y.offset
    && (nat_lt x.level y.level || (nat_eq x.level y.level
    && (nat_lt x.actor y.actor || (nat_eq x.actor y.actor && nat_lt x.index y.index)))))

-- the plan: all firings of the period, each once, in order
pub record IsPlan (edges : List Edge) (pace : ℕ → ℕ) (counts : List ℕ) (entries : List Entry)
    : Type 0 where
  pub complete : (m a : ℕ) → count_by (is_firing m a) entries
      ≡ (if nat_lt a (slice_index counts m) then 1 else 0)
  pub keys : All (λ x. HasKey edges pace x.actor x.index (key_in x)) entries
  pub sorted : (i j : ℕ) (x y : Entry) → i < j → slice_get entries i ≡ Some x
      → slice_get entries j ≡ Some y → is_earlier y x ≡ false

-- how often an actor fires in the first i entries
unfoldable pub done : List Entry → ℕ → ℕ → ℕ
done entries i m = count_by (λ x. nat_eq x.actor m) (take i entries)

-- the most samples that an edge holds: before the first entry, or after one of them
pub record IsBound (entries : List Entry) (e : Edge) (bound : ℕ) : Type 0 where
  pub most : (i : ℕ) → i ≤ length entries
      → e.initial + done entries i e.writer * e.write_rate
      ≤ bound + done entries i e.reader * e.read_rate
  pub reached : (i : ℕ) × (i ≤ length entries)
      × (e.initial + done entries i e.writer * e.write_rate
      ≡ bound + done entries i e.reader * e.read_rate)

-- samples in the buffers of a cluster: those that are there at first, and those of one period
abbrev pub period_samples : List Edge → List Port → (counts : List ℕ) → ℕ
period_samples edges ports counts =
    sum_by (λ e. if nat_eq (slice_index counts e.writer) 0 then 0 else e.initial) edges
    + sum_by (λ p. slice_index counts p.actor * p.rate) ports

-- the first actor with a firing that is not grounded
pub record IsDeadlock (edges : List Edge) (pace : ℕ → ℕ) (counts : List ℕ) (actor : ℕ)
    : Type 0 where
  pub firing : ℕ
  pub within : firing < slice_index counts actor
  pub ungrounded : IsGrounded edges pace actor firing → ⊥
  pub first : (m a : ℕ) → m < actor → a < slice_index counts m → IsGrounded edges pace m a

-- a firing of a sink that can't be done when it is due
pub record IsLate (edges : List Edge) (actors : List Actor) (pace : ℕ → ℕ) (counts : List ℕ)
    (m a : ℕ) : Type 0 where
  pub sink : slice_get actors m ≡ Some Sink
  pub within : a < slice_index counts m
  pub key : Key
  pub is : HasKey edges pace m a key
  pub late : a * pace m < key.offset

-- the first sink with such a firing, and its first one; all firings are grounded
pub record IsNoncausal (edges : List Edge) (actors : List Actor) (pace : ℕ → ℕ) (counts : List ℕ)
    (sink index : ℕ) : Type 0 where
  pub grounded : (m a : ℕ) → a < slice_index counts m → IsGrounded edges pace m a
  pub late : IsLate edges actors pace counts sink index
  pub first : (m a : ℕ) → m < sink → IsLate edges actors pace counts m a → ⊥
  pub earliest : (a : ℕ) → a < index → IsLate edges actors pace counts sink a → ⊥

-- no such fault: all firings are grounded, and each sink is done when it is due
pub record IsCausal (edges : List Edge) (actors : List Actor) (pace : ℕ → ℕ) (counts : List ℕ)
    : Type 0 where
  pub grounded : (m a : ℕ) → a < slice_index counts m → IsGrounded edges pace m a
  pub in_time : (m a : ℕ) → IsLate edges actors pace counts m a → ⊥

-- the counts of a cluster in one period, few enough, and steps that divide a period below the limit
pub record IsPaced (edges : List Edge) (counts steps : List ℕ) : Type 0 where
  pub balanced : (e : Edge) → Contains edges e → IsBalanced (slice_index counts) e
  pub few : sum counts ≤ most_firings
  pub long : length steps ≡ length counts
  pub short : (m : ℕ) → slice_index counts m * slice_index steps m < time_end

-- a plan and its bounds, 0 for edges of other clusters
pub record HasPlan (edges : List Edge) (pace : ℕ → ℕ) (counts : List ℕ) (period : ℕ) (plan : Plan)
    : Type 0 where
  pub planned : IsPlan edges pace counts plan.entries.items
  pub long : length plan.bounds.items ≡ length edges
  pub bounded : (k : ℕ) (e : Edge) → slice_get edges k ≡ Some e → 0 < slice_index counts e.writer
      → IsBound plan.entries.items e (slice_index plan.bounds.items k)
  pub outside : (k : ℕ) (e : Edge) → slice_get edges k ≡ Some e → slice_index counts e.writer ≡ 0
      → slice_index plan.bounds.items k ≡ 0
  pub same : plan.period ≡ period
