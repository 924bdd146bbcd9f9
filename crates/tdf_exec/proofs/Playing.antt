-- One entry more is played.
use Rattle.std.proofs.Common.{◌≡◌, ◌∙◌, ◌≢◌, ℕ, suc, ◌+◌, ◌-◌, ◌^◌, ◌<◌, ◌≤◌, Bool, true, List, [], ◌∷◌, ◌++◌, Option, Some, None, length, length-drop, length-append, length-take-le, append_assoc, append-nil, nat_eq, if◌then◌else◌, get_or-drop, take-suc, drop, take, map, refl, sym, ap, subst, inl, inr, ◌⊎◌, arith}
use Rattle.std.proofs.lemmas.Bool.{cases_eq, cases_lt, eq-eqb, eqb-true}
use Rattle.std.proofs.lemmas.List.{length-map, map-append}
use Rattle.std.proofs.lemmas.List.Elements.{All-append, All-nil}
use Rattle.std.proofs.lemmas.List.Sums.{sum_by-cons, sum_by-drop_more}
use Rattle.std.proofs.lemmas.Option.{get_or_from_slice_get, slice_get_past, slice_get_within}
use Rattle.std.specs.List.{count_by, sum_by}
use Rattle.std.specs.Prelude.{ℤ, cond, slice_get, slice_index, slice_index_or}
use Rattle.tdf_convert.specs.Outputs.{OutputsOf}
use Rattle.tdf_convert.specs.declared.outputs.Sent.{Sent}
use Rattle.tdf_convert.specs.declared.outputs.Traced.{Traced}
use Rattle.tdf_exec.proofs.Counting.{done_other, done_own}
use Rattle.tdf_exec.proofs.Gains.{gains_none, gains_then}
use Rattle.tdf_exec.proofs.Keeping.{like_sampler}
use Rattle.tdf_exec.proofs.Moved.{some_at, some_inj}
use Rattle.tdf_exec.proofs.Nexts.{like_self}
use Rattle.tdf_exec.proofs.Stepping.{done_mono}
use Rattle.tdf_exec.specs.Cluster.{ClusterOf, is_next_due, is_offset, offset_in}
use Rattle.tdf_exec.specs.Gained.{GiveAll, Gives, SampleHasFewPlaces, HaveRoom, IsSentOf, sent_size, size_due, size_if, traced_size}
use Rattle.tdf_exec.specs.Made.{IsClusterOf, is_sampler_runner}
use Rattle.tdf_exec.specs.Played.{AreAllGiven, AreInputsGiven, AreInputsFor, IsLike, IsMoved, IsPeriodOf, KeepsStanding, actors_between, counted, play_of, turns_from}
use Rattle.tdf_exec.specs.Runners.{ModuleOf, SamplerOf}
use Rattle.tdf_exec.specs.Traced.{traced_count}
use Rattle.tdf_exec.specs.declared.runners.Runner.{Runner}
use Rattle.tdf_exec.specs.declared.runners.Runner.TheVariants as runner
use Rattle.tdf_exec.specs.machine.Steps.{AreInputsNext, ArePlayed, HasRoomNext, HasStepped, with_parts}
use Rattle.tdf_fixed.specs.declared.raw.Raw.{Raw}
use Rattle.tdf_bind.specs.declared.model.Flat.{Flat}
use Rattle.tdf_streams.proofs.Api.{order_keeps}
use Rattle.tdf_streams.specs.Net.{Net, Period}
use Rattle.tdf_streams.specs.Playing.{IsPlayed, IsStep}
use Rattle.tdf_streams.specs.Stands.{Play, Stands}
use Rattle.tdf_rings.specs.Rings.{RingOf}
use Rattle.tdf_schedule.specs.Plan.{done}
use Rattle.tdf_schedule.specs.declared.entry.Entry.{Entry}
use Rattle.tdf_streams.specs.Cluster.{cluster_net}
use Rattle.tdf_streams.specs.Periods.{PeriodInfo, PeriodRecord}

played_more : {S V I : Type 0} (net : Net S V I) (old : List (Period I)) (p : Period I) (reads : ℕ → List V) (order : List ℕ) (m : ℕ) (y mid z : Play S V)
    → IsPlayed net old p reads order y mid → IsStep net old p reads m mid z → IsPlayed net old p reads (order ++ m ∷ []) y z
unfolding IsPlayed
played_more {S} {V} net old p reads [] m y mid z before step = (z, subst (λ (q : Play S V). IsStep net old p reads m q z) before step, refl)
played_more net old p reads (k ∷ order) m y mid z before step = (before.0, before.1, played_more net old p reads order m before.0 mid z before.2 step)

none_played : {S V I : Type 0} (net : Net S V I) (old : List (Period I)) (p : Period I) (reads : ℕ → List V) (y : Play S V) → IsPlayed net old p reads [] y y
unfolding IsPlayed
none_played net old p reads y = refl

actors_more : (entries : List Entry) (i j : ℕ) (x : Entry) → i ≤ j → slice_get entries j ≡ Some x → actors_between entries i (j + 1) ≡ actors_between entries i j ++ x.actor ∷ []
actors_more entries i j x up at =
    let e : j + 1 - i ≡ suc (j - i) = omega (arith, up) in
    let l = length-drop i entries in
    let k : i + (j - i) ≡ j = omega (arith, up) in
    let below = slice_get_within entries j x at in
    ap (λ n. map (λ (y : Entry). y.actor) (take n (drop i entries))) e
    ∙ ap (map (λ (y : Entry). y.actor)) (take-suc (drop i entries) (j - i) x (omega (arith, l, up, below)))
    ∙ ap (λ (y : Entry). map (λ (y : Entry). y.actor) (take (j - i) (drop i entries) ++ y ∷ [])) (get_or-drop i entries (j - i) x ∙ ap (λ n. slice_index_or entries n x) k ∙ get_or_from_slice_get entries j x x at)
    ∙ map-append (λ (y : Entry). y.actor) (take (j - i) (drop i entries)) (x ∷ [])

actors_none : (entries : List Entry) (i : ℕ) → actors_between entries i i ≡ []
actors_none entries i = let e : i - i ≡ 0 = omega arith in ap (λ n. map (λ (y : Entry). y.actor) (take n (drop i entries))) e

actors_long : (entries : List Entry) (i j : ℕ) → i ≤ j → j ≤ length entries → length (actors_between entries i j) ≡ j - i
actors_long entries i j up within =
    let l = length-drop i entries in
    length-map _ _ ∙ length-take-le (j - i) (drop i entries) (omega (arith, l, up, within))

like_then : (r s t : Runner) → IsLike r s → IsLike s t → IsLike r t
like_then (runner.Module x) s t one two =
    let next : IsLike (runner.Module one.0) t = subst (λ q. IsLike q t) one.1 two in
    (next.0, next.1, next.2 ∙ one.2, next.3 ∙ one.3, next.4 ∙ one.4)
like_then (runner.Sampler x) s t one two = subst (λ q. IsLike q t) one two
like_then (runner.Sink x) s t one two = subst (λ q. IsLike q t) one two
like_then runner.Outside s t one two = subst (λ q. IsLike q t) one two

-- what is a sampler was the same sampler
was_sampler : (r : Runner) (s : SamplerOf) → IsLike r (runner.Sampler s) → r ≡ runner.Sampler s
was_sampler (runner.Module x) s like = absurd (apart (like.1))
  where
    apart : {y : ModuleOf} → runner.Sampler s ≡ runner.Module y → ⊥
    apart e = cc
was_sampler (runner.Sampler x) s like = sym like
was_sampler (runner.Sink x) s like = sym like
was_sampler runner.Outside s like = sym like

counted_more : (a : ℕ) → counted (counted a + 1) ≡ counted (a + 1)
counted_more a = omega arith

counted_small : (a : ℕ) → a ≤ 2 ^ 64 - 1 → a ≡ counted (a + 0)
counted_small a small = omega (arith, small)

-- the next entry is due
due_entry : (offset : ℕ) (o : Option Entry) → is_offset (offset_in o) offset ≡ true → (x : Entry) × (o ≡ Some x) × (x.offset ≡ offset)
due_entry offset None due = absurd cc
due_entry offset (Some x) due = (x, refl, eqb-true _ _ due)

-- as many are samplers
samplers_alike : (rs ss : List Runner) → length ss ≡ length rs → ((m : ℕ) (r : Runner) → slice_get rs m ≡ Some r → (s : Runner) × (slice_get ss m ≡ Some s) × IsLike r s)
    → count_by is_sampler_runner ss ≡ count_by is_sampler_runner rs
samplers_alike [] [] long alike = refl
samplers_alike [] (s ∷ ss) long alike = absurd (omega (arith, long))
samplers_alike (r ∷ rs) [] long alike = absurd (omega (arith, long))
samplers_alike (r ∷ rs) (s ∷ ss) long alike =
    let rest = samplers_alike rs ss (omega (arith, long)) (λ m q here. alike (suc m) q here) in
    let first = alike 0 r refl in
    let same : s ≡ first.0 = some_inj s first.0 first.1 in
    let a = sum_by-cons (λ z. cond {A = ℕ} (is_sampler_runner z) 1 0) s ss in
    let b = sum_by-cons (λ z. cond {A = ℕ} (is_sampler_runner z) 1 0) r rs in
    let u : cond {A = ℕ} (is_sampler_runner s) 1 0 ≡ cond {A = ℕ} (is_sampler_runner r) 1 0 = ap (λ (o : Bool). cond {A = ℕ} o 1 0) (ap is_sampler_runner same ∙ like_sampler r first.0 first.2) in
    omega (arith, rest, a, b, u)

-- runners that are alike give as much
pub like_sent : (r s : Runner) → IsLike r s → sent_size (Some s) ≡ sent_size (Some r)
like_sent (runner.Module x) s like = ap (λ q. sent_size (Some q)) like.1
like_sent (runner.Sampler x) s like = ap (λ q. sent_size (Some q)) like
like_sent (runner.Sink x) s like = ap (λ q. sent_size (Some q)) like
like_sent runner.Outside s like = ap (λ q. sent_size (Some q)) like

pub like_traced : (r s : Runner) → IsLike r s → traced_size (Some s) ≡ traced_size (Some r)
like_traced (runner.Module x) s like = ap (λ q. traced_size (Some q)) like.1 ∙ ap traced_count like.4
like_traced (runner.Sampler x) s like = ap (λ q. traced_size (Some q)) like
like_traced (runner.Sink x) s like = ap (λ q. traced_size (Some q)) like
like_traced runner.Outside s like = ap (λ q. traced_size (Some q)) like

pub sizes_alike : (size : Option Runner → ℕ) → ((r s : Runner) → IsLike r s → size (Some s) ≡ size (Some r)) → (rs ss : List Runner) → length ss ≡ length rs
    → ((m : ℕ) (r : Runner) → slice_get rs m ≡ Some r → (s : Runner) × (slice_get ss m ≡ Some s) × IsLike r s) → (m : ℕ) → size (slice_get ss m) ≡ size (slice_get rs m)
sizes_alike size same rs ss long alike m = elim (cases_lt m (length rs)) [
  | inl below ↦ (let r = some_at rs m below in let s = alike m r.0 r.1 in ap size s.1 ∙ same r.0 s.0 s.2 ∙ sym (ap size r.1))
  | inr past ↦ ap size (slice_get_past ss m (omega (arith, past, long))) ∙ sym (ap size (slice_get_past rs m past))
]

due_head : (size : Option Runner → ℕ) (rs : List Runner) (offset : ℕ) (entries : List Entry) (i : ℕ) (x : Entry) → slice_get entries i ≡ Some x → x.offset ≡ offset
    → size_due size rs offset (drop i entries) ≡ size (slice_get rs x.actor) + size_due size rs offset (drop (i + 1) entries)
unfolding size_due
due_head size rs offset entries i x at due =
    sum_by-drop_more (size_if size rs offset) entries i x (slice_get_within entries i x at)
    ∙ ap (λ n. n + sum_by (size_if size rs offset) (drop (i + 1) entries))
    (ap (size_if size rs offset) (get_or_from_slice_get entries i x x at) ∙ ap (λ (b : Bool). if b then size (slice_get rs x.actor) else 0) (eq-eqb _ _ due))

pub due_alike : (size : Option Runner → ℕ) (rs ss : List Runner) (offset : ℕ) (xs : List Entry) → ((m : ℕ) → size (slice_get ss m) ≡ size (slice_get rs m))
    → size_due size ss offset xs ≡ size_due size rs offset xs
unfolding size_due
due_alike size rs ss offset [] same = refl
due_alike size rs ss offset (x ∷ xs) same =
    sum_by-cons (size_if size ss offset) x xs
    ∙ ap (λ n. (if nat_eq x.offset offset then n else 0) + sum_by (size_if size ss offset) xs) (same x.actor)
    ∙ ap (λ n. size_if size rs offset x + n) (due_alike size rs ss offset xs same)
    ∙ sym (sum_by-cons (size_if size rs offset) x xs)

-- one firing more, with what it gives
give_none : (flat : Flat) (net : Net (List ℤ) Raw PeriodInfo) (old : List PeriodRecord) (p : PeriodRecord) (reads : ℕ → List Raw) (y : Play (List ℤ) Raw)
    → GiveAll flat net old p reads [] y y [] []
unfolding GiveAll
give_none flat net old p reads y = (refl, refl, refl)

give_more : (flat : Flat) (net : Net (List ℤ) Raw PeriodInfo) (old : List PeriodRecord) (p : PeriodRecord) (reads : ℕ → List Raw) (order : List ℕ) (m : ℕ) (y mid z : Play (List ℤ) Raw)
    (s s2 : List Sent) (t t2 : List Traced) → GiveAll flat net old p reads order y mid s t → Gives flat net old p reads m mid z s2 t2
    → GiveAll flat net old p reads (order ++ m ∷ []) y z (s ++ s2) (t ++ t2)
unfolding GiveAll
give_more flat net old p reads [] m y mid z s s2 t t2 before gives = (
  z,
  s2,
  t2,
  [],
  [],
  subst (λ (q : Play (List ℤ) Raw). Gives flat net old p reads m q z s2 t2) before.0 gives,
  (refl, refl, refl),
  ap (λ l. l ++ s2) before.1 ∙ sym (append-nil s2),
  ap (λ l. l ++ t2) before.2 ∙ sym (append-nil t2),
)
give_more flat net old p reads (k ∷ order) m y mid z s s2 t t2 before gives = (
  before.0,
  before.1,
  before.2,
  before.3 ++ s2,
  before.4 ++ t2,
  before.5,
  give_more flat net old p reads order m before.0 mid z before.3 s2 before.4 t2 before.6 gives,
  ap (λ l. l ++ s2) before.7 ∙ append_assoc before.1 before.3 s2,
  ap (λ l. l ++ t2) before.8 ∙ append_assoc before.2 before.4 t2,
)

module _ (flat : Flat) (offset : ℕ) (inputs : List Raw) (c : ClusterOf) (place : ℕ) (rings : List RingOf) (runners : List Runner) (positions : List ℕ)
    (outs cur : OutputsOf) where
  abbrev mid : ClusterOf
  mid = with_parts c place rings runners positions

  module _ (to : ArePlayed flat offset inputs c mid outs cur) where
    -- a sampler of the cluster, as it was at first
    first_sampler : (m : ℕ) (s : SamplerOf) → slice_get runners m ≡ Some (runner.Sampler s) → slice_get c.runners m ≡ Some (runner.Sampler s)
    first_sampler m s at =
        let below : m < length c.runners = subst (λ n. m < n) to.moved.same (slice_get_within runners m (runner.Sampler s) at) in
        let r = some_at c.runners m below in
        let like = to.moved.runners m r.0 r.1 in
        let same : like.0 ≡ runner.Sampler s = some_inj like.0 (runner.Sampler s) (sym like.1 ∙ at) in
        r.1 ∙ ap (λ q. Some q) (was_sampler r.0 s (subst (IsLike r.0) same like.2))

    pub inputs_next : AreInputsFor flat offset c inputs → is_next_due mid offset ≡ true → AreInputsNext flat mid inputs
    inputs_next ins due = record {
      many = to.many;
      formats = λ e x s v f at there given writes form.
          let next = due_entry offset (slice_get c.entries place) due in
          let same : next.0 ≡ x = some_inj next.0 x (sym next.1 ∙ at) in
          ins.formats place e x s v f to.moved.up at (ap (λ (y : Entry). y.offset) (sym same) ∙ next.2) (first_sampler x.actor s there) given writes form;
    }

    pub room_next : is_next_due mid offset ≡ true → HasRoomNext mid cur
    room_next due = record {
      sent = λ x at.
          let h = due_head sent_size runners offset c.entries place x at (offset_is x at) in
          let r = to.room.sent in
          omega (arith, h, r);
      traced = λ x at.
          let h = due_head traced_size runners offset c.entries place x at (offset_is x at) in
          let r = to.room.traced in
          omega (arith, h, r);
    }
      where
        offset_is : (x : Entry) → slice_get c.entries place ≡ Some x → x.offset ≡ offset
        offset_is x at =
            let next = due_entry offset (slice_get c.entries place) due in
            ap (λ (y : Entry). y.offset) (some_inj x next.0 (sym at ∙ next.1)) ∙ next.2

    -- one entry more
    module _ (due : is_next_due mid offset ≡ true) (rings2 : List RingOf) (runners2 : List Runner) (positions2 : List ℕ) (cur2 : OutputsOf) where
      abbrev later : ClusterOf
      later = with_parts c (place + 1) rings2 runners2 positions2

      moved_more : IsClusterOf flat later → HasStepped flat inputs mid later cur cur2 → IsMoved c later
      moved_more of step = record {
        rest = refl;
        up = let u = to.moved.up in omega (arith, u);
        within = of.within;
        same = of.actors ∙ sym to.of.actors ∙ to.moved.same;
        runners = λ m r here.
            let one = to.moved.runners m r here in
            let two = step.runners m one.0 one.1 in
            (two.0, two.1, like_then r one.0 two.0 one.2 two.2);
        positions = λ m below. counts m below (cases_eq m step.entry.actor);
      }
        where
          counts : (m : ℕ) → m < length c.positions → (m ≡ step.entry.actor) ⊎ (m ≢ step.entry.actor)
              → slice_index positions2 m ≡ counted (slice_index c.positions m + turns_from c.entries c.place (place + 1) m)
          counts m below (inl same) =
              let o : done c.entries (place + 1) m ≡ done c.entries place m + 1 = done_own c.entries place step.entry step.at m (sym same) in
              let g = done_mono c.entries c.place place m to.moved.up in
              let n : slice_index c.positions m + turns_from c.entries c.place place m + 1 ≡ slice_index c.positions m + turns_from c.entries c.place (place + 1) m = omega (arith, o, g) in
              ap (slice_index positions2) same ∙ step.own
              ∙ ap (λ k. counted (slice_index positions k + 1)) (sym same)
              ∙ ap (λ k. counted (k + 1)) (to.moved.positions m below)
              ∙ counted_more (slice_index c.positions m + turns_from c.entries c.place place m)
              ∙ ap counted n
          counts m below (inr apart) =
              step.others m apart
              ∙ to.moved.positions m below
              ∙ ap (λ n. counted (slice_index c.positions m + (n - done c.entries c.place m))) (sym (done_other c.entries place step.entry step.at m (λ e. apart (sym e))))

      pub more : IsClusterOf flat later → HasStepped flat inputs mid later cur cur2 → ArePlayed flat offset inputs c later outs cur2
      more of step = record {
        of = of;
        many = to.many ∙ sym (counted_same step);
        moved = moved_more of step;
        each = λ i x low high at. each i x low high at (cases_lt i place);
        played = λ model start old p reads from checked period told.
            subst (λ (order : List ℕ). IsPlayed (cluster_net model flat c.number start) old p reads order (play_of from c) (play_of from later))
            (sym (actors_more c.entries c.place place step.entry to.moved.up step.at))
            (played_more (cluster_net model flat c.number start) old p reads (actors_between c.entries c.place place) step.entry.actor (play_of from c) (play_of from mid) (play_of from later)
            (to.played model start old p reads from checked period told)
            (step.step model start old p reads from checked (next_period from p period) (next_told old from reads told)).step);
        gained = record {
          sent = to.gained.sent ++ step.sent;
          traced = to.gained.traced ++ step.traced;
          are = gains_then outs cur cur2 to.gained.sent step.sent to.gained.traced step.traced to.gained.are step.gains;
          sinks = All-append (IsSentOf flat.tables) to.gained.sent step.sent to.gained.sinks step.sinks;
          places = All-append SampleHasFewPlaces to.gained.traced step.traced to.gained.places step.places;
          given = λ model start old p reads from checked period told.
              subst (λ (order : List ℕ). GiveAll flat (cluster_net model flat c.number start) old p reads order (play_of from c) (play_of from later)
              (to.gained.sent ++ step.sent) (to.gained.traced ++ step.traced))
              (sym (actors_more c.entries c.place place step.entry to.moved.up step.at))
              (give_more flat (cluster_net model flat c.number start) old p reads (actors_between c.entries c.place place) step.entry.actor (play_of from c) (play_of from mid) (play_of from later)
              to.gained.sent step.sent to.gained.traced step.traced
              (to.gained.given model start old p reads from checked period told)
              (step.step model start old p reads from checked (next_period from p period) (next_told old from reads told)));
          sent_many =
              let h = due_head sent_size runners offset c.entries place step.entry step.at entry_due in
              let a = due_alike sent_size runners runners2 offset (drop (place + 1) c.entries) sizes_sent in
              let f = step.few_sent in
              let l = length-append to.gained.sent step.sent in
              let g = to.gained.sent_many in
              omega (arith, h, a, f, l, g);
          traced_many =
              let h = due_head traced_size runners offset c.entries place step.entry step.at entry_due in
              let a = due_alike traced_size runners runners2 offset (drop (place + 1) c.entries) sizes_traced in
              let f = step.few_traced in
              let l = length-append to.gained.traced step.traced in
              let g = to.gained.traced_many in
              omega (arith, h, a, f, l, g);
        };
        room = record {
          sent =
              let h = due_head sent_size runners offset c.entries place step.entry step.at entry_due in
              let a = due_alike sent_size runners runners2 offset (drop (place + 1) c.entries) sizes_sent in
              let f = step.few_sent in
              let l = length-append cur.sent step.sent in
              let r = to.room.sent in
              subst (λ (o : OutputsOf). length o.sent + size_due sent_size runners2 offset (drop (place + 1) c.entries) ≤ o.sent_room) (sym step.gains)
              (omega (arith, h, a, f, l, r));
          traced =
              let h = due_head traced_size runners offset c.entries place step.entry step.at entry_due in
              let a = due_alike traced_size runners runners2 offset (drop (place + 1) c.entries) sizes_traced in
              let f = step.few_traced in
              let l = length-append cur.traced step.traced in
              let r = to.room.traced in
              subst (λ (o : OutputsOf). length o.traced + size_due traced_size runners2 offset (drop (place + 1) c.entries) ≤ o.traced_room) (sym step.gains)
              (omega (arith, h, a, f, l, r));
        };
      }
        where
          entry_due : step.entry.offset ≡ offset
          entry_due =
              let next = due_entry offset (slice_get c.entries place) due in
              let same : next.0 ≡ step.entry = some_inj next.0 step.entry (sym next.1 ∙ step.at) in
              ap (λ (y : Entry). y.offset) (sym same) ∙ next.2

          next_period : (from : ℕ) (p : PeriodRecord) → IsPeriodOf c from p → IsPeriodOf mid from p
          next_period from p period = record {
            started = let u = to.moved.up in let s = period.started in omega (arith, u, s);
            counts = period.counts;
            reads = period.reads;
            writes = period.writes;
            table = period.table;
          }

          next_told : (old : List PeriodRecord) (from : ℕ) (reads : ℕ → List Raw) → AreAllGiven offset c inputs reads old from → AreInputsGiven mid inputs reads old from place step.entry
          next_told old from reads told = record {
            is = λ s v there v_is. (told place step.entry to.moved.up step.at entry_due).is s v (first_sampler step.entry.actor s there) v_is;
          }

          sizes_sent : (m : ℕ) → sent_size (slice_get runners2 m) ≡ sent_size (slice_get runners m)
          sizes_sent m = sizes_alike sent_size like_sent runners runners2 (of.actors ∙ sym to.of.actors) (λ k r here. step.runners k r here) m

          sizes_traced : (m : ℕ) → traced_size (slice_get runners2 m) ≡ traced_size (slice_get runners m)
          sizes_traced m = sizes_alike traced_size like_traced runners runners2 (of.actors ∙ sym to.of.actors) (λ k r here. step.runners k r here) m

          each : (i : ℕ) (x : Entry) → c.place ≤ i → i < place + 1 → slice_get c.entries i ≡ Some x → (i < place) ⊎ (place ≤ i) → x.offset ≡ offset
          each i x low high at (inl before) = to.each i x low before at
          each i x low high at (inr here) =
              let i_is : i ≡ place = omega (arith, high, here) in
              let same : step.entry ≡ x = some_inj step.entry x (sym step.at ∙ ap (slice_get c.entries) (sym i_is) ∙ at) in
              ap (λ (y : Entry). y.offset) (sym same) ∙ entry_due

          counted_same : HasStepped flat inputs mid later cur cur2 → count_by is_sampler_runner runners2 ≡ count_by is_sampler_runner runners
          counted_same step = samplers_alike runners runners2 (of.actors ∙ sym to.of.actors) (λ m r here. step.runners m r here)

-- the start of the loop, one turn of it, and what it gives in the end
pub played_none : (flat : Flat) (offset : ℕ) (inputs : List Raw) (c : ClusterOf) (outs : OutputsOf) → IsClusterOf flat c → length inputs ≡ count_by is_sampler_runner c.runners
    → HaveRoom offset c outs → ArePlayed flat offset inputs c c outs outs
played_none flat offset inputs c outs of many room = record {
  of = of;
  many = many;
  moved = record {
    rest = refl;
    up = omega arith;
    within = of.within;
    same = refl;
    runners = λ m r here. (r, here, like_self r);
    positions = λ m below. counted_small (slice_index c.positions m) (of.counted m) ∙ ap (λ n. counted (slice_index c.positions m + n)) (none m);
  };
  each = λ i x low high at. absurd (omega (arith, low, high));
  played = λ model start old p reads from checked period told.
      subst (λ (order : List ℕ). IsPlayed (cluster_net model flat c.number start) old p reads order (play_of from c) (play_of from c)) (sym (actors_none c.entries c.place))
      (none_played (cluster_net model flat c.number start) old p reads (play_of from c));
  gained = record {
    sent = [];
    traced = [];
    are = gains_none outs;
    sinks = All-nil (IsSentOf flat.tables);
    places = All-nil SampleHasFewPlaces;
    given = λ model start old p reads from checked period told.
        subst (λ (order : List ℕ). GiveAll flat (cluster_net model flat c.number start) old p reads order (play_of from c) (play_of from c) [] []) (sym (actors_none c.entries c.place))
        (give_none flat (cluster_net model flat c.number start) old p reads (play_of from c));
    sent_many = omega arith;
    traced_many = omega arith;
  };
  room = room;
}
  where
    none : (m : ℕ) → 0 ≡ turns_from c.entries c.place c.place m
    none m = omega arith

module _ (flat : Flat) (offset : ℕ) (inputs : List Raw) (c d : ClusterOf) (outs cur : OutputsOf) (to : ArePlayed flat offset inputs c d outs cur) where
  abbrev here : ClusterOf
  here = with_parts c d.place d.rings d.runners d.positions

  to_here : ArePlayed flat offset inputs c here outs cur
  to_here = subst (λ (s : ClusterOf). ArePlayed flat offset inputs c s outs cur) to.moved.rest to

  pub next_inputs : AreInputsFor flat offset c inputs → is_next_due d offset ≡ true → AreInputsNext flat d inputs
  next_inputs ins due =
      subst (λ (s : ClusterOf). is_next_due s offset ≡ true → AreInputsNext flat s inputs) (sym to.moved.rest)
      (λ e. inputs_next flat offset inputs c d.place d.rings d.runners d.positions outs cur to_here ins e) due

  pub next_room : is_next_due d offset ≡ true → HasRoomNext d cur
  next_room due =
      subst (λ (s : ClusterOf). is_next_due s offset ≡ true → HasRoomNext s cur) (sym to.moved.rest)
      (λ e. room_next flat offset inputs c d.place d.rings d.runners d.positions outs cur to_here e) due

  pub played_next : (e : ClusterOf) (cur2 : OutputsOf) → is_next_due d offset ≡ true → IsClusterOf flat e → HasStepped flat inputs d e cur cur2 → ArePlayed flat offset inputs c e outs cur2
  played_next e cur2 due of step =
      subst (λ (s : ClusterOf). ArePlayed flat offset inputs c s outs cur2) (sym e_is)
      (more flat offset inputs c d.place d.rings d.runners d.positions outs cur to_here (subst (λ (s : ClusterOf). is_next_due s offset ≡ true) to.moved.rest due)
      e.rings e.runners e.positions cur2 (subst (IsClusterOf flat) e_is of)
      (subst (λ (s : ClusterOf). HasStepped flat inputs here s cur cur2) e_is
      (subst (λ (s : ClusterOf). HasStepped flat inputs s e cur cur2) to.moved.rest step)))
    where
      e_is : e ≡ with_parts c (d.place + 1) e.rings e.runners e.positions
      e_is = step.rest ∙ ap (λ (s : ClusterOf). with_parts s (d.place + 1) e.rings e.runners e.positions) to.moved.rest

  pub stands_after : KeepsStanding flat offset inputs c d
  stands_after = λ model start old p reads from f checked period told stands.
      let long : length (actors_between c.entries c.place d.place) ≡ d.place - c.place = actors_long c.entries c.place d.place to.moved.up to.moved.within in
      subst (λ k. Stands (cluster_net model flat c.number start) old p reads (k + f) (play_of from d)) long
      (order_keeps (cluster_net model flat c.number start) old p reads (actors_between c.entries c.place d.place) f (play_of from c) (play_of from d) stands
      (to.played model start old p reads from checked period told))

pub due_within : (offset : ℕ) (c : ClusterOf) → is_next_due c offset ≡ true → c.place < length c.entries
due_within offset c due = let next = due_entry offset (slice_get c.entries c.place) due in slice_get_within c.entries c.place next.0 next.1
