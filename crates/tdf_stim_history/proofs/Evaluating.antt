-- An evaluation: where the driver isn't triggered, its part stays; where it is, it drives.
use Rattle.std.proofs.Common.{◌≡◌, ◌≢◌, ℕ, zero, suc, ◌+◌, ◌-◌, ◌<◌, ◌≤◌, Bool, true, false, List, refl, ap, sym, ◌∙◌, subst, arith}
use Rattle.std.proofs.lemmas.Bool.{true≢false}
use Rattle.tdf_bind.specs.declared.model.Flat.{Flat}
use Rattle.tdf_events.specs.Processes.{ran}
use Rattle.tdf_events.specs.Side.{SideOf}
use Rattle.tdf_events_queue.specs.Evaluation.{evaluated}
use Rattle.tdf_events_queue.specs.Sets.{is_on}
use Rattle.tdf_lang_tree.specs.Pure.{PureTree}
use Rattle.tdf_stim_history.specs.Driver.{CanDrive, DriverOf, Drove, KeepsPart, RunsDriver, pending_after}

keeps_none : (d : DriverOf) (s : SideOf) → KeepsPart d s s
keeps_none d s = record {
  held = refl;
  frames = refl;
  times = λ e h. refl;
  events = refl;
  delta = λ e h. refl;
  waiting = λ x h. refl;
  values = refl;
  many = refl;
  triggered = refl;
}

keeps_on : (d : DriverOf) (s t u : SideOf) → KeepsPart d s t → KeepsPart d t u → KeepsPart d s u
keeps_on d s t u g h = record {
  held = h.held ∙ g.held;
  frames = h.frames ∙ g.frames;
  times = λ e o. h.times e o ∙ g.times e o;
  events = h.events ∙ g.events;
  delta = λ e o. h.delta e o ∙ g.delta e o;
  waiting = λ x o. h.waiting x o ∙ g.waiting x o;
  values = h.values ∙ g.values;
  many = h.many ∙ g.many;
  triggered = h.triggered ∙ g.triggered;
}

keeps_drives : (d : DriverOf) (m : ℕ) (s t u : SideOf) → KeepsPart d s t → Drove d m t u → Drove d m s u
keeps_drives d m s t u g h = record {
  held = h.held;
  frames = h.frames ∙ g.frames;
  times = λ e o. h.times e o ∙ ap (pending_after d m e) (g.times e o);
  events = h.events ∙ g.events;
  delta = λ e o. h.delta e o ∙ g.delta e o;
  waiting = h.waiting;
  values = h.values ∙ g.values;
  many = h.many ∙ g.many;
  triggered = h.triggered ∙ g.triggered;
}

drives_keeps : (d : DriverOf) (m : ℕ) (s t u : SideOf) → Drove d m s t → KeepsPart d t u → Drove d m s u
drives_keeps d m s t u g h = record {
  held = h.held ∙ g.held;
  frames = h.frames ∙ g.frames;
  times = λ e o. h.times e o ∙ g.times e o;
  events = h.events ∙ g.events;
  delta = λ e o. h.delta e o ∙ g.delta e o;
  waiting = λ x o. h.waiting x o ∙ g.waiting x o;
  values = h.values ∙ g.values;
  many = h.many ∙ g.many;
  triggered = h.triggered ∙ g.triggered;
}

-- where others ran, the driver can drive as before
pub can_keeps : (d : DriverOf) (m : ℕ) (s t : SideOf) → KeepsPart d s t → CanDrive d m s → CanDrive d m t
can_keeps d m s t keeps can = record {
  held = keeps.held ∙ can.held;
  frame = subst (λ n. d.owner < n) (sym keeps.frames) can.frame;
  signals = λ x o. subst (λ n. x < n) (sym keeps.many) (can.signals x o);
  events = λ e o. subst (λ n. e < n) (sym keeps.events) (can.events e o);
  delta = λ e o. keeps.delta e o ∙ can.delta e o;
  first = λ zero e o. keeps.times e o ∙ can.first zero e o;
}

module _ (d : DriverOf) (model : PureTree) (flat : Flat) (runs : RunsDriver d model flat) (time : ℕ) (flags : List Bool) where
  abbrev looked : ℕ → SideOf → SideOf
  looked n s = evaluated (ran model flat time) flags n s

  keeps_more : (n : ℕ) (s : SideOf) (b : Bool) → is_on flags n ≡ b → (b ≡ true → n ≢ d.process) → KeepsPart d s (looked n s) → KeepsPart d s (looked (suc n) s)
  unfolding evaluated
  keeps_more n s true e apart before = rw e (keeps_on d s (looked n s) (ran model flat time n (looked n s)) before (runs.others time n (looked n s) (apart refl)))
  keeps_more n s false e apart before = rw e before

  keeps_start : (s : SideOf) → KeepsPart d s (looked 0 s)
  unfolding evaluated
  keeps_start s = keeps_none d s

  -- where the driver isn't triggered, its part stays
  pub off_keeps : (n : ℕ) (s : SideOf) → is_on flags d.process ≡ false → KeepsPart d s (looked n s)
  off_keeps zero s off = keeps_start s
  off_keeps (suc n) s off = keeps_more n s (is_on flags n) refl (λ on same. true≢false (sym on ∙ ap (is_on flags) same ∙ off)) (off_keeps n s off)

  -- before it is looked at, too
  before_keeps : (n : ℕ) (s : SideOf) → n ≤ d.process → KeepsPart d s (looked n s)
  before_keeps zero s h = keeps_start s
  before_keeps (suc n) s h = keeps_more n s (is_on flags n) refl (λ on same. omega (arith, same, h)) (before_keeps n s (omega (arith, h)))

  module _ (on : is_on flags d.process ≡ true) (m : ℕ) (more : m < d.rows) (first : m ≡ 0 → time ≡ 0) where
    drives_here : (s : SideOf) → CanDrive d m s → Drove d m s (looked (suc d.process) s)
    unfolding evaluated
    drives_here s can =
        let before : KeepsPart d s (looked d.process s) = before_keeps d.process s (omega arith) in
        rw on (keeps_drives d m s (looked d.process s) (ran model flat time d.process (looked d.process s)) before
        (runs.own time m (looked d.process s) more first (can_keeps d m s (looked d.process s) before can)))

    drives_more : (n : ℕ) (s : SideOf) (b : Bool) → is_on flags n ≡ b → n ≢ d.process → Drove d m s (looked n s) → Drove d m s (looked (suc n) s)
    unfolding evaluated
    drives_more n s true e apart before = rw e (drives_keeps d m s (looked n s) (ran model flat time n (looked n s)) before (runs.others time n (looked n s) apart))
    drives_more n s false e apart before = rw e before

    drives_later : (k : ℕ) (s : SideOf) → CanDrive d m s → Drove d m s (looked (suc (k + d.process)) s)
    drives_later zero s can = let f : 0 + d.process ≡ d.process = omega arith in rw f (drives_here s can)
    drives_later (suc k) s can =
        let f : suc k + d.process ≡ suc (k + d.process) = omega arith in
        rw f (drives_more (suc (k + d.process)) s (is_on flags (suc (k + d.process))) refl (λ same. omega (arith, same)) (drives_later k s can))

    -- where it is triggered, it drives
    pub on_drives : (n : ℕ) (s : SideOf) → d.process < n → CanDrive d m s → Drove d m s (looked n s)
    on_drives n s inside can = let f : suc (n - 1 - d.process + d.process) ≡ n = omega (arith, inside) in subst (λ k. Drove d m s (looked k s)) f (drives_later (n - 1 - d.process) s can)
