-- From the parts to the whole answer.
use Rattle.std.proofs.Common.{◌≡◌, ◌∙◌, ℕ, ◌*◌, ◌<◌, ◌≤◌, ◌⊎◌, inl, inr, ◌&&◌, ◌+◌, ◌++◌, ◌∷◌, [], Option, Some, None, List, length, nat_eq, nat_lt, cond, if◌then◌else◌, refl, sym, ap, subst, arith}
use Rattle.std.proofs.Math.ListN.{get_or}
use Rattle.std.proofs.Math.Path.{fun_ext}
use Rattle.std.proofs.lemmas.Bool.{cases_lt, lt-ltb, le-ltb, eq-eqb, ne_eqb}
use Rattle.std.proofs.lemmas.List.{get_or_append_left, get_or_past, get_or_push, length_push}
use Rattle.std.proofs.lemmas.Option.{get_or_from_slice_get, slice_get_within, slice_get_past, slice_get-get_or}
use Rattle.std.specs.Prelude.{slice_get, Contains, All, Result, Ok, Err, IfOk, IsOk}
use Rattle.tdf_graph.specs.Counts.{IsBalanced}
use Rattle.tdf_graph.specs.Ranges.{IsEdge}
use Rattle.tdf_graph.specs.declared.actors.Actor.{Actor}
use Rattle.tdf_graph.specs.declared.actors.Actor.TheVariants.{Module, Sampler, Sink}
use Rattle.tdf_graph.specs.declared.actors.Edge.{Edge}
use Rattle.tdf_schedule.proofs.Grounds.{ungrounded}
use Rattle.tdf_schedule.specs.Needs.{IsGrounded, HasKey}
use Rattle.tdf_schedule.specs.Plan.{pace_of, pace_by, IsPlan, IsBound, IsDeadlock, IsLate, IsNoncausal, IsCausal, HasPlan}
use Rattle.tdf_schedule.specs.declared.entry.Entry.{Entry}
use Rattle.tdf_schedule.specs.declared.err.PlanErr.{PlanErr}
use Rattle.tdf_schedule.specs.declared.err.PlanErr.TheVariants.{TooLarge, Deadlock, Noncausal, Memory}
use Rattle.tdf_schedule.specs.declared.key.Key.{Key}
use Rattle.tdf_schedule.specs.declared.entry.Plan.{Plan}
use Rattle.tdf_schedule.specs.views.Answers.{AreNarrowUpTo, IsAnswer}
use Rattle.tdf_schedule.specs.views.Bounds.{AreBoundsUpTo}
use Rattle.tdf_schedule.specs.views.Entries.{IsComplete, HasOwnKeys, AreSorted}
use Rattle.tdf_schedule.specs.views.Faults.{IsFull, IsShortAt, IsLateAt, IsLateSink, IsFirstOfAll, ArePacesUpTo}
use Rattle.tdf_schedule.specs.views.Table.{row_at}
use Rattle.tdf_schedule.specs.views.Work.{AreRows, IsSettled}

module _ (edges : List Edge) (pace : ℕ → ℕ) (counts : List ℕ) (table : List (List Key)) (rows : AreRows edges pace counts table) where
  -- beyond the actors nothing fires
  pub full_all : ((m : ℕ) → m < length counts → IsFull counts table m) → (m : ℕ) → IsFull counts table m
  full_all full m = go (cases_lt m (length counts))
    where
      go : (m < length counts) ⊎ (length counts ≤ m) → length (row_at table m) ≡ get_or counts m 0
      go (inl here) = full m here
      go (inr past) = let e = get_or_past counts m 0 past in let w = rows.within m in omega (arith, e, w)

  pub full_grounded : (m : ℕ) → IsFull counts table m → (a : ℕ) → a < get_or counts m 0 → IsGrounded edges pace m a
  full_grounded m full a less = go
    where
      key : Key
      key = get_or (row_at table m) a (record { level = 0; offset = 0 })

      there : slice_get (row_at table m) a ≡ Some key
      there = slice_get-get_or (row_at table m) a (record { level = 0; offset = 0 }) (subst (λ n. a < n) (sym full) less)

      go : IsGrounded edges pace m a
      go = (key.level, key.offset, (rows.keys m a key there).within)

  pub deadlock_is : All (IsEdge (length counts)) edges → ((e : Edge) → Contains edges e → IsBalanced (λ m. get_or counts m 0) e)
      → ((m : ℕ) → m < length counts → IsSettled edges counts table m) → (m : ℕ) → IsShortAt counts table m → IsDeadlock edges pace counts m
  deadlock_is fit balanced settled m short = record {
    firing = length (row_at table m);
    within = less;
    ungrounded = ungrounded edges pace counts fit balanced table settled m (length (row_at table m)) (omega arith) less;
    first = λ k a before a_in. full_grounded k (short.first k before) a a_in;
  }
    where
      less : length (row_at table m) < get_or counts m 0
      less = let w = rows.within m in let s = short.short in omega (arith, w, s)

  -- a firing has one offset
  one_offset : (m a : ℕ) (k l : Key) → HasKey edges pace m a k → HasKey edges pace m a l → k.offset ≡ l.offset
  one_offset m a k l one other =
      let p = (one.least l.level l.offset other.within).1 in let q = (other.least k.level k.offset one.within).1 in omega (arith, p, q)

  module _ (actors : List Actor) (paces : List ℕ) (pace_is : (m : ℕ) → get_or paces m 0 ≡ pace m) (full : (m : ℕ) → IsFull counts table m) where
    late_sink : (m a : ℕ) → IsLate edges actors pace counts m a → IsLateSink actors table paces m a
    late_sink m a late = record {
      sink = late.sink;
      late = record {
        key = key;
        there = there;
        late = let e = one_offset m a late.key key late.is (rows.keys m a key there) in let l = late.late in let p = ap (λ n. a * n) (pace_is m) in omega (arith, e, l, p);
      };
    }
      where
        key : Key
        key = get_or (row_at table m) a (record { level = 0; offset = 0 })

        there : slice_get (row_at table m) a ≡ Some key
        there = slice_get-get_or (row_at table m) a (record { level = 0; offset = 0 }) (subst (λ n. a < n) (sym (full m)) late.within)

    sink_late : (m a : ℕ) → IsLateSink actors table paces m a → IsLate edges actors pace counts m a
    sink_late m a late = record {
      sink = late.sink;
      within = subst (λ n. a < n) (full m) (slice_get_within (row_at table m) a at.key at.there);
      key = at.key;
      is = rows.keys m a at.key at.there;
      late = let l = at.late in let p = ap (λ n. a * n) (pace_is m) in omega (arith, l, p);
    }
      where
        at : IsLateAt table paces m a
        at = late.late

    pub noncausal_is : (m a : ℕ) → IsFirstOfAll actors table paces m a → IsNoncausal edges actors pace counts m a
    noncausal_is m a found = record {
      grounded = λ k b less. full_grounded k (full k) b less;
      late = sink_late m a found.is;
      first = λ k b before late. found.first k b before (late_sink k b late);
      earliest = λ b before late. found.earliest b before (late_sink m b late);
    }

  pub planned_is : (entries : List Entry) → IsComplete table entries → HasOwnKeys table entries → AreSorted entries → ((m : ℕ) → IsFull counts table m) → IsPlan edges pace counts entries
  planned_is entries complete keys sorted full = record {
    complete = λ m a. complete m a ∙ ap (λ b. cond {A = ℕ} b 1 0) (tests m a (cases_lt m (length table)));
    keys = λ k d here. rows.keys _ _ _ (keys k d here);
    sorted = sorted;
  }
    where
      tests : (m a : ℕ) → (m < length table) ⊎ (length table ≤ m) → (nat_lt m (length table) && nat_lt a (length (row_at table m))) ≡ nat_lt a (get_or counts m 0)
      tests m a (inl here) = ap (λ b. b && nat_lt a (length (row_at table m))) (lt-ltb m (length table) here) ∙ ap (nat_lt a) (full m)
      tests m a (inr past) =
          ap (λ b. b && nat_lt a (length (row_at table m))) (le-ltb m (length table) past)
          ∙ sym (ap (nat_lt a) (get_or_past counts m 0 (subst (λ n. n ≤ m) rows.same past)) ∙ le-ltb a 0 (omega arith))

-- one bound more
pub narrow_more : (n : ℕ) (edges : List Edge) (counts bounds narrow new : List ℕ) (d : Edge) (b : ℕ) → AreNarrowUpTo n edges counts bounds narrow
    → b ≡ (if nat_eq (get_or counts (get_or edges n d).writer 0) 0 then 0 else get_or bounds n 0) → new ≡ narrow ++ b ∷ [] → AreNarrowUpTo (n + 1) edges counts bounds new
narrow_more n edges counts bounds narrow new d b are b_is new_is = subst (AreNarrowUpTo (n + 1) edges counts bounds) (sym new_is) (record {
  long = length_push narrow b ∙ ap (λ k. k + 1) are.long;
  each = λ k e less e_is. each k e less e_is (cases_lt k n);
})
  where
    each : (k : ℕ) (e : Edge) → k < n + 1 → slice_get edges k ≡ Some e → (k < n) ⊎ (n ≤ k)
        → get_or (narrow ++ b ∷ []) k 0 ≡ (if nat_eq (get_or counts e.writer 0) 0 then 0 else get_or bounds k 0)
    each k e less e_is (inl before) = get_or_append_left narrow (b ∷ []) 0 k (subst (λ m. k < m) (sym are.long) before) ∙ are.each k e before e_is
    each k e less e_is (inr past) =
        let same : n ≡ k = omega (arith, less, past) in
        get_or_push narrow b 0 k (are.long ∙ same) ∙ b_is
        ∙ ap (λ m. if nat_eq (get_or counts (get_or edges m d).writer 0) 0 then 0 else get_or bounds m 0) same
        ∙ ap (λ (x : Edge). if nat_eq (get_or counts x.writer 0) 0 then 0 else get_or bounds k 0) (get_or_from_slice_get edges k e d e_is)

pub has_plan : (edges : List Edge) (pace : ℕ → ℕ) (counts : List ℕ) (period : ℕ) (plan : Plan) (most : List ℕ) → IsPlan edges pace counts plan.entries.items
    → AreBoundsUpTo (length plan.entries.items) plan.entries.items edges most → AreNarrowUpTo (length edges) edges counts most plan.bounds.items → plan.period ≡ period
    → HasPlan edges pace counts period plan
has_plan edges pace counts period plan most planned bounds narrow same = record {
  planned = planned;
  long = narrow.long;
  bounded = λ k e e_is some. subst (IsBound plan.entries.items e) (sym (narrow.each k e (slice_get_within edges k e e_is) e_is ∙ rw (ne_eqb (get_or counts e.writer 0) 0 (λ z. omega (arith, z, some))) refl))
      (record { most = λ i i_in. bounds.most k i e e_is i_in; reached = bounds.reached k e e_is });
  outside = λ k e e_is none. narrow.each k e (slice_get_within edges k e e_is) e_is ∙ rw (eq-eqb (get_or counts e.writer 0) 0 none) refl;
  same = same;
}

-- the paces, as the code keeps them
pub paces_are : (actors : List Actor) (steps paces : List ℕ) → ArePacesUpTo (length actors) actors steps paces → (m : ℕ) → get_or paces m 0 ≡ pace_of actors steps m
paces_are actors steps paces are m = go (cases_lt m (length actors))
  where
    go : (m < length actors) ⊎ (length actors ≤ m) → get_or paces m 0 ≡ pace_of actors steps m
    go (inl here) = are.each m here
    go (inr past) = get_or_past paces m 0 (subst (λ n. n ≤ m) (sym are.long) past) ∙ sym (ap (λ a. pace_by a (get_or steps m 0)) (slice_get_past actors m past))

pub pace_few : (actor : Option Actor) (step : ℕ) → pace_by actor step ≤ step
pace_few None step = omega arith
pace_few (Some Module) step = omega arith
pace_few (Some Sampler) step = omega arith
pace_few (Some Sink) step = omega arith

pub laid_is : (edges : List Edge) (pace : ℕ → ℕ) (counts : List ℕ) (period : ℕ) (plan : Plan) (most : List ℕ) (es es2 : List Edge) (entries : List Entry) (kept : List ℕ)
    → IsPlan edges pace counts plan.entries.items → es ≡ edges → entries ≡ plan.entries.items → es2 ≡ edges → kept ≡ most
    → AreBoundsUpTo (length entries) entries es most → AreNarrowUpTo (length es2) es2 counts kept plan.bounds.items → plan.period ≡ period
    → HasPlan edges pace counts period plan
laid_is edges pace counts period plan most es es2 entries kept planned es_is entries_is es2_is kept_is bounds narrow same =
    has_plan edges pace counts period plan most planned
    (subst (λ (x : List Edge). AreBoundsUpTo (length plan.entries.items) plan.entries.items x most) es_is (subst (λ (x : List Entry). AreBoundsUpTo (length x) x es most) entries_is bounds))
    (subst (λ (x : List ℕ). AreNarrowUpTo (length edges) edges counts x plan.bounds.items) kept_is (subst (λ (x : List Edge). AreNarrowUpTo (length x) x counts kept plan.bounds.items) es2_is narrow))
    same

pub causal_is : (edges : List Edge) (pace : ℕ → ℕ) (counts : List ℕ) (table : List (List Key)) (rows : AreRows edges pace counts table) (actors : List Actor) (paces : List ℕ)
    → ((m : ℕ) → get_or paces m 0 ≡ pace m) → ((m : ℕ) → IsFull counts table m) → ((m a : ℕ) → IsLateSink actors table paces m a → ⊥) → IsCausal edges actors pace counts
causal_is edges pace counts table rows actors paces pace_is full none = record {
  grounded = λ m a less. full_grounded edges pace counts table rows m (full m) a less;
  in_time = λ m a late. none m a (late_sink edges pace counts table rows actors paces pace_is full m a late);
}

-- what the answer says, both ways
module _ (actors : List Actor) (edges : List Edge) (pace : ℕ → ℕ) (counts : List ℕ) (period : ℕ) where
  abbrev Answer : Type 0
  Answer = Result Plan PlanErr

  pub says_plan : (r : Answer) → IsAnswer actors edges pace counts period r → IfOk r (HasPlan edges pace counts period)
  says_plan (Ok p) is = is.0
  says_plan (Err why) is = tt

  pub says_small : (r : Answer) → IsAnswer actors edges pace counts period r → r ≡ Err TooLarge → ⊥
  says_small r is same = subst (IsAnswer actors edges pace counts period) same is

  pub says_deadlock : (r : Answer) → IsAnswer actors edges pace counts period r → (m : ℕ) → r ≡ Err (Deadlock m) → IsDeadlock edges pace counts m
  says_deadlock r is m same = subst (IsAnswer actors edges pace counts period) same is

  pub says_noncausal : (r : Answer) → IsAnswer actors edges pace counts period r → (m a : ℕ) → r ≡ Err (Noncausal m a) → IsNoncausal edges actors pace counts m a
  says_noncausal r is m a same = subst (IsAnswer actors edges pace counts period) same is

  one_deadlock : (m k : ℕ) → IsDeadlock edges pace counts m → IsDeadlock edges pace counts k → m ≡ k
  one_deadlock m k one other = go (cases_lt m k) (cases_lt k m)
    where
      go : (m < k) ⊎ (k ≤ m) → (k < m) ⊎ (m ≤ k) → m ≡ k
      go (inl less) second = absurd (one.ungrounded (other.first m one.firing less one.within))
      go (inr high) (inl more) = absurd (other.ungrounded (one.first k other.firing more other.within))
      go (inr high) (inr low) = omega (arith, high, low)

  one_sink : (m a k b : ℕ) → IsNoncausal edges actors pace counts m a → IsNoncausal edges actors pace counts k b → m ≡ k
  one_sink m a k b one other = go (cases_lt m k) (cases_lt k m)
    where
      go : (m < k) ⊎ (k ≤ m) → (k < m) ⊎ (m ≤ k) → m ≡ k
      go (inl less) second = absurd (other.first m a less one.late)
      go (inr high) (inl more) = absurd (one.first k b more other.late)
      go (inr high) (inr low) = omega (arith, high, low)

  one_index : (m a b : ℕ) → IsNoncausal edges actors pace counts m a → IsNoncausal edges actors pace counts m b → a ≡ b
  one_index m a b one other = go (cases_lt a b) (cases_lt b a)
    where
      go : (a < b) ⊎ (b ≤ a) → (b < a) ⊎ (a ≤ b) → a ≡ b
      go (inl less) second = absurd (other.earliest a less one.late)
      go (inr high) (inl more) = absurd (one.earliest b more other.late)
      go (inr high) (inr low) = omega (arith, high, low)

  pub always_deadlock : (r : Answer) → IsAnswer actors edges pace counts period r → (m : ℕ) → IsDeadlock edges pace counts m → (r ≡ Err (Deadlock m)) ⊎ (r ≡ Err Memory)
  always_deadlock (Ok p) is m dead = absurd (dead.ungrounded (is.1.grounded m dead.firing dead.within))
  always_deadlock (Err TooLarge) is m dead = absurd is
  always_deadlock (Err (Deadlock k)) is m dead = inl (ap (λ n. Err (Deadlock n)) (one_deadlock k m is dead))
  always_deadlock (Err (Noncausal k b)) is m dead = absurd (dead.ungrounded (is.grounded m dead.firing dead.within))
  always_deadlock (Err Memory) is m dead = inr refl

  pub always_noncausal : (r : Answer) → IsAnswer actors edges pace counts period r → (m a : ℕ) → IsNoncausal edges actors pace counts m a → (r ≡ Err (Noncausal m a)) ⊎ (r ≡ Err Memory)
  always_noncausal (Ok p) is m a late = absurd (is.1.in_time m a late.late)
  always_noncausal (Err TooLarge) is m a late = absurd is
  always_noncausal (Err (Deadlock k)) is m a late = absurd (is.ungrounded (late.grounded k is.firing is.within))
  always_noncausal (Err (Noncausal k b)) is m a late =
      let same = one_sink k b m a is late in
      inl (ap (λ n. Err (Noncausal n b)) same ∙ ap (λ n. Err (Noncausal m n)) (one_index m b a (subst (λ n. IsNoncausal edges actors pace counts n b) same is) late))
  always_noncausal (Err Memory) is m a late = inr refl

  pub always_plan : (r : Answer) → IsAnswer actors edges pace counts period r → IsCausal edges actors pace counts → IsOk r ⊎ (r ≡ Err Memory)
  always_plan (Ok p) is causal = inl refl
  always_plan (Err TooLarge) is causal = absurd is
  always_plan (Err (Deadlock k)) is causal = absurd (is.ungrounded (causal.grounded k is.firing is.within))
  always_plan (Err (Noncausal k b)) is causal = absurd (causal.in_time k b is.late)
  always_plan (Err Memory) is causal = inr refl

-- another name of the paces
pub by_pace : (actors : List Actor) (edges : List Edge) (counts steps paces : List ℕ) (period : ℕ) (r : Result Plan PlanErr) → ArePacesUpTo (length actors) actors steps paces
    → IsAnswer actors edges (λ m. get_or paces m 0) counts period r → IsAnswer actors edges (pace_of actors steps) counts period r
by_pace actors edges counts steps paces period r are is = subst (λ (p : ℕ → ℕ). IsAnswer actors edges p counts period r) (fun_ext (paces_are actors steps paces are)) is
