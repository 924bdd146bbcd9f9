-- Rate variables, timesteps, notices and marks are maps from names to what is kept of each: setting
-- one changes that one and no other.
-- Source: own.
use Rattle.std.specs.Prelude.{◌≡◌, ◌+◌, ℕ, ℤ, Bool, false, true, Option, None, Some, slice_get, slice_index_or}
use Rattle.tdf_expr_semantics.specs.Bodies.{rate_at}
use Rattle.tdf_expr_semantics.specs.Fits.{StateFits}
use Rattle.tdf_expr_semantics.specs.Places.{event_number, events_of, port_number, ports_of, rate_number, rates_of}
use Rattle.tdf_expr_state.specs.State.{State, least_time, with_notice, with_rate, with_sample, with_step}
use Rattle.tdf_expr_symbols.specs.Names.{Names, Thing}

-- the n-th name is one of a kind, of which each has one place
abbrev pub IsThingOf : (Thing → ℕ) → Names → ℕ → Type 0
IsThingOf count own n = (t : Thing) × (slice_get own.things n ≡ Some t) × (count t ≡ 1)

abbrev pub IsRateVar : Names → ℕ → Type 0
IsRateVar own n = IsThingOf rates_of own n

abbrev pub IsPort : Names → ℕ → Type 0
IsPort own n = IsThingOf ports_of own n

abbrev pub IsEvent : Names → ℕ → Type 0
IsEvent own n = IsThingOf events_of own n

-- the timestep that was given last: of the module, or of the port that is the n-th name
abbrev pub step_at : Names → State → Option ℕ → Option ℕ
step_at own s None = slice_index_or s.ports.steps 0 None
step_at own s (Some n) = slice_index_or s.ports.steps (1 + port_number own n) None

-- the least time of the notifications of the event that is the n-th name
abbrev pub notice_at : Names → State → ℕ → Option ℕ
notice_at own s n = slice_index_or s.ports.notified (event_number own n) None

-- whether a body assigned a sample of the port that is the n-th name
abbrev pub is_assigned : Names → State → ℕ → Bool
is_assigned own s n = slice_index_or s.ports.assigned (port_number own n) false

pub record IsRateMap (own : Names) (s : State) (n value : ℕ) : Type 0 where
  pub same : rate_at own (with_rate (rate_number own n) value s) (Some n) ≡ value
  pub other : (m : ℕ) → IsRateVar own m → (n ≡ m → ⊥)
      → rate_at own (with_rate (rate_number own n) value s) (Some m) ≡ rate_at own s (Some m)

abbrev pub AreRateMaps : Type 0
AreRateMaps = (own : Names) (s : State) (n value : ℕ) → StateFits own s → IsRateVar own n
    → IsRateMap own s n value

-- the timestep of the module
pub record IsModuleStepMap (own : Names) (s : State) (step : ℕ) : Type 0 where
  pub same : step_at own (with_step 0 step s) None ≡ Some step
  pub other : (m : ℕ) → step_at own (with_step 0 step s) (Some m) ≡ step_at own s (Some m)

-- and that of a port
pub record IsPortStepMap (own : Names) (s : State) (n step : ℕ) : Type 0 where
  pub same : step_at own (with_step (1 + port_number own n) step s) (Some n) ≡ Some step
  pub other : (m : ℕ) → IsPort own m → (n ≡ m → ⊥)
      → step_at own (with_step (1 + port_number own n) step s) (Some m) ≡ step_at own s (Some m)
  pub module_kept : step_at own (with_step (1 + port_number own n) step s) None
      ≡ step_at own s None

pub record AreStepMaps : Type 0 where
  pub of_module : (own : Names) (s : State) (step : ℕ) → StateFits own s
      → IsModuleStepMap own s step
  pub of_port : (own : Names) (s : State) (n step : ℕ) → StateFits own s → IsPort own n
      → IsPortStepMap own s n step

-- of several notifications of one event the least time stays
pub record IsNoticeMap (own : Names) (s : State) (n time : ℕ) : Type 0 where
  pub same : notice_at own (with_notice (event_number own n) time s) n
      ≡ Some (least_time (notice_at own s n) time)
  pub other : (m : ℕ) → IsEvent own m → (n ≡ m → ⊥)
      → notice_at own (with_notice (event_number own n) time s) m ≡ notice_at own s m

abbrev pub AreNoticeMaps : Type 0
AreNoticeMaps = (own : Names) (s : State) (n time : ℕ) → StateFits own s → IsEvent own n
    → IsNoticeMap own s n time

-- an assignment marks its port
pub record IsMarkMap (own : Names) (s : State) (n place : ℕ) (num : ℤ) : Type 0 where
  pub same : is_assigned own (with_sample (port_number own n) place num s) n ≡ true
  pub other : (m : ℕ) → IsPort own m → (n ≡ m → ⊥)
      → is_assigned own (with_sample (port_number own n) place num s) m ≡ is_assigned own s m

abbrev pub AreMarkMaps : Type 0
AreMarkMaps = (own : Names) (s : State) (n place : ℕ) (num : ℤ) → StateFits own s
    → IsPort own n → IsMarkMap own s n place num
