-- The samples of a port's signal along the firings of a cluster at a time, one after the other.
use Rattle.std.proofs.Common.{◌≡◌, ◌≢◌, ◌⊎◌, ◌∙◌, ℕ, zero, suc, ◌+◌, ◌-◌, ◌*◌, ◌<◌, ◌≤◌, Bool, List, [], ◌∷◌, ◌++◌, Some, length, map, take, drop, if◌then◌else◌, sym, ap, subst, inl, inr, arith, append-nil, length-append}
use Rattle.std.proofs.lemmas.Bool.{cases_eq, cases_lt, eq-eqb, ne_eqb}
use Rattle.std.proofs.lemmas.List.{append_assoc}
use Rattle.std.proofs.lemmas.List.FromFn.{length-map-range_with_len}
use Rattle.std.proofs.lemmas.Option.{slice_get_within}
use Rattle.std.specs.List.{range_with_len, sum_by}
use Rattle.std.specs.Prelude.{slice_get, slice_index, slice_index_or, ℤ}
use Rattle.tdf_convert.specs.declared.outputs.Sent.{Sent}
use Rattle.tdf_convert.specs.declared.outputs.Traced.{Traced}
use Rattle.tdf_dynamic_plans.specs.Attributes.{clusters_of}
use Rattle.tdf_exec.specs.Gained.{GiveAll, traced_by}
use Rattle.tdf_fixed.specs.declared.raw.Raw.{Raw}
use Rattle.tdf_bind.specs.Flat.{IsFlatOf}
use Rattle.tdf_bind.specs.declared.model.Flat.{Flat}
use Rattle.tdf_streams.proofs.Api.{get_high, get_inside, get_low, get_made_at, some_same, done_next, firing_known}
use Rattle.tdf_streams.specs.Grounds.{firings}
use Rattle.tdf_streams.specs.Net.{Net, Past, count}
use Rattle.tdf_streams.specs.Playing.{IsStep}
use Rattle.tdf_streams.specs.Stands.{Less, Play, Stands, run_of}
use Rattle.tdf_streams.specs.Streams.{known}
use Rattle.tdf_bind_invariants.specs.Formats.{IsSoundModel}
use Rattle.tdf_graph.specs.declared.actors.Actor.TheVariants as actor
use Rattle.tdf_sim_history.specs.World.{ClusterAt}
use Rattle.tdf_exec.specs.Below.{SignalsHaveOnePort}
use Rattle.tdf_sim_refinement.proofs.Sinking.{drop_at, from_done, here_next, here_stands, keeps_to, stands_next, turns_next}
use Rattle.tdf_sim_refinement.specs.At.{HaveRead}
use Rattle.tdf_sim_refinement.specs.Firings.{after_firings, reads_after}
use Rattle.tdf_schedule.specs.Plan.{done}
use Rattle.tdf_schedule.specs.declared.entry.Entry.{Entry}
use Rattle.tdf_streams.specs.Cluster.{cluster_net}
use Rattle.tdf_streams.specs.Periods.{PeriodInfo, PeriodRecord}
use Rattle.tdf_streams.specs.Places.{actor_kind}
use Rattle.tdf_sim_history.specs.Cells.{sample_of}
use Rattle.tdf_sim_history.specs.Columns.{ColumnStart, held_by}
use Rattle.tdf_streams.specs.Signals.{outputs_in, rate_in}
use Rattle.tdf_sim_refinement.proofs.Knowing.{column_more, known_to, outputs_known}
use Rattle.tdf_sim_refinement.proofs.Picked.{none_traced, own_traced, samples_append, samples_none}
use Rattle.tdf_sim_refinement.specs.Samples.{AreSamplesOf, IsTracedPort, signal_samples}
use Rattle.tdf_lang_tree.specs.Pure.{PureTree}
use Rattle.tdf_bind_connections.specs.declared.modules.PortRow.{PortRow}

one_more : (a b : ℕ) → (a + 1) * b ≡ a * b + b
one_more a b = grind arith

-- the actors of entries from a place on
abbrev pub actors_in : List Entry → (n i : ℕ) → List ℕ
actors_in entries n i = map (λ (x : Entry). x.actor) (take n (drop i entries))

pub actors_next : (entries : List Entry) (n i : ℕ) (x : Entry) → slice_get entries i ≡ Some x → actors_in entries (suc n) i ≡ x.actor ∷ actors_in entries n (i + 1)
actors_next entries n i x at = ap (λ l. map (λ (y : Entry). y.actor) (take (suc n) l)) (drop_at i entries x at)

module _ (model : PureTree) (flat : Flat) (one_port : SignalsHaveOnePort) (sound : IsSoundModel model) (is : IsFlatOf model flat) (cluster nr : ℕ) (port : PortRow) (traced : IsTracedPort flat cluster nr port) where
  -- firings of other modules trace none of its signal
  pub nothing : (net : Net (List ℤ) Raw PeriodInfo) (old : List PeriodRecord) (p : PeriodRecord) (reads : ℕ → List Raw) (entries : List Entry) → ((i : ℕ) (x : Entry) → slice_get entries i ≡ Some x → x.actor ≢ port.«module»)
      → (n i : ℕ) → i + n ≤ length entries → (y z : Play (List ℤ) Raw) (sent : List Sent) (given : List Traced) → GiveAll flat net old p reads (actors_in entries n i) y z sent given → signal_samples port.signal given ≡ []
  unfolding GiveAll
  nothing net old p reads entries apart zero i within y z sent given all = ap (signal_samples port.signal) all.2 ∙ samples_none port.signal
  nothing net old p reads entries apart (suc n) i within y z sent given all =
      let x = get_inside entries i (omega (arith, within)) in
      let these : GiveAll flat net old p reads (x.0.actor ∷ actors_in entries n (i + 1)) y z sent given = subst (λ l. GiveAll flat net old p reads l y z sent given) (actors_next entries n i x.0 x.1) all in
      ap (signal_samples port.signal) these.8
      ∙ samples_append port.signal these.2 these.4
      ∙ ap (λ l. l ++ signal_samples port.signal these.4) (ap (signal_samples port.signal) these.5.traced_is
      ∙ none_traced model flat one_port sound is cluster nr port traced p.info.table these.5.step.turn x.0.actor (actor_kind flat.tables x.0.actor) (apart i x.0 x.1))
      ∙ nothing net old p reads entries apart n (i + 1) (omega (arith, within)) these.0 z these.3 these.4 these.6

  module _ (values : List Raw) (h : ClusterAt) (k : ℕ) (within : h.place + k ≤ length h.entries) (started : h.from ≤ h.place) (have_read : HaveRead flat.tables cluster h)
      (own : (i : ℕ) (x : Entry) → slice_get h.entries i ≡ Some x → slice_index (clusters_of flat.tables) x.actor ≡ cluster)
      (known_actor : (i : ℕ) (x : Entry) → slice_get h.entries i ≡ Some x → x.actor < length flat.tables.actors)
      (kind_of_module : actor_kind flat.tables port.«module» ≡ Some actor.Module) (s : ColumnStart) (f : ℕ) (enough : k + f ≤ firings (h.old ++ h.now ∷ [])) where
    abbrev net : Net (List ℤ) Raw PeriodInfo
    net = cluster_net model flat cluster h.begun

    abbrev read_at : ℕ → ℕ → List Raw
    read_at j m = slice_index_or (reads_after flat.tables values h j) m []

    abbrev past_at : ℕ → Past (List ℤ) Raw
    past_at j = known net (run_of h.old h.now (read_at j)) (firings (h.old ++ h.now ∷ []))

    abbrev Has : ℕ → List Raw → Type 0
    Has j samples = AreSamplesOf model flat cluster nr port s (after_firings flat.tables values h j) samples

    up : (j : ℕ) → j ≤ k → (done h.entries h.from port.«module» ≤ done h.entries h.place port.«module») × (done h.entries h.place port.«module» ≤ done h.entries (h.place + j) port.«module»)
    up j low = from_done model flat cluster values h k within started have_read j port.«module» low

    abbrev HasTurns : ℕ → Play (List ℤ) Raw → Type 0
    HasTurns j y = (m : ℕ) → m < length flat.tables.actors → slice_index y.turns m ≡ done h.entries (h.place + j) m - done h.entries h.from m

    -- what is known after j entries is known after one more
    less : (j : ℕ) → Less (past_at j) (past_at (suc j))
    less j = known_to net h.old h.now (read_at j) (read_at (suc j)) (keeps_to model flat cluster values h k within started have_read j (suc j) (omega arith)) (firings (h.old ++ h.now ∷ [])) (firings (h.old ++ h.now ∷ [])) (omega arith)

    still : (j i : ℕ) (v : Raw) → sample_of s (h.old ++ h.now ∷ []) port nr (past_at j) i ≡ Some v → sample_of s (h.old ++ h.now ∷ []) port nr (past_at (suc j)) i ≡ Some v
    still j i v is = subst (λ ps. sample_of s ps port nr (past_at (suc j)) i ≡ Some v) (append-nil (h.old ++ h.now ∷ []))
        (column_more s (h.old ++ h.now ∷ []) [] port nr (past_at j) (past_at (suc j)) (less j) i v is)

    module _ (j : ℕ) (below : j < k) (x : Entry) (at : slice_get h.entries (h.place + j) ≡ Some x) (y mid : Play (List ℤ) Raw) (stands : Stands net h.old h.now (read_at j) (j + f) y) (turns : HasTurns j y)
        (step : IsStep net h.old h.now (read_at k) x.actor y mid) (had : List Raw) (has : Has j had) where
      place_next : h.place + j + 1 ≡ h.place + suc j
      place_next = omega arith

      -- of another module
      apart_has : x.actor ≢ port.«module» → Has (suc j) had
      apart_has apart = record {
        many = (
            let m = has.many in
            let d = done_next h.entries (h.place + j) port.«module» x at in
            let z = ap {B = ℕ} (λ (b : Bool). if b then 1 else 0) (ne_eqb x.actor port.«module» apart) in
            let e = ap (λ i. done h.entries i port.«module») place_next in
            let t : done h.entries (h.place + suc j) port.«module» ≡ done h.entries (h.place + j) port.«module» = omega (arith, d, z, e) in
            let q = ap (λ n. (n - done h.entries h.from port.«module») * rate_in port h.now) t in
            omega (arith, m, q));
        are = λ i v there. still j i v (has.are i v there);
      }

      -- of its module
      module _ (same : x.actor ≡ port.«module») where
        abbrev before : ℕ
        before = done h.entries (h.place + j) port.«module» - done h.entries h.from port.«module»

        abbrev new : List Raw
        new = map (step.turn.outputs nr) (range_with_len 0 (rate_in port h.now))

        new_long : length new ≡ rate_in port h.now
        new_long = length-map-range_with_len (step.turn.outputs nr) 0 (rate_in port h.now)

        turn_now : slice_index y.turns x.actor ≡ before
        turn_now = turns x.actor (known_actor (h.place + j) x at) ∙ ap (λ m. done h.entries (h.place + j) m - done h.entries h.from m) same

        is_known : past_at (suc j) port.«module» (sum_by (count port.«module») h.old + before) ≡ Some step.turn
        is_known =
            let here = firing_known model flat cluster h.begun h.old h.now (read_at (suc j)) (j + f) x.actor step.turn y mid
            (here_stands model flat cluster values h k within started have_read j f below x at (own (h.place + j) x at) (known_actor (h.place + j) x at) y mid stands turns step)
            step.left step.present
            (here_next model flat cluster values h k within started have_read j f below x at (own (h.place + j) x at) (known_actor (h.place + j) x at) y mid stands turns step) step.flows in
            let more = known_to net h.old h.now (read_at (suc j)) (read_at (suc j)) (λ m n v there. there) (1 + (j + f)) (firings (h.old ++ h.now ∷ [])) (omega (arith, below, enough)) in
            let there = more.keeps x.actor (sum_by (count x.actor) h.old + slice_index y.turns x.actor) step.turn here in
            subst (λ n. past_at (suc j) port.«module» (sum_by (count port.«module») h.old + n) ≡ Some step.turn) turn_now
            (subst (λ m. past_at (suc j) m (sum_by (count m) h.old + slice_index y.turns x.actor) ≡ Some step.turn) same there)

        inside : before < count port.«module» h.now
        inside =
            let l = step.left in let t = turn_now in
            let c = ap (slice_index h.now.counts) same in omega (arith, l, t, c)

        new_are : (i : ℕ) (v : Raw) → length had ≤ i → slice_get (had ++ new) i ≡ Some v → sample_of s (h.old ++ h.now ∷ []) port nr (past_at (suc j)) i ≡ Some v
        new_are i v high there =
            let here = sym (get_high had new i high) ∙ there in
            let l = new_long in
            let w = slice_get_within new (i - length had) v here in
            let low : i - length had < rate_in port h.now = omega (arith, l, w) in
            let made = get_made_at (step.turn.outputs nr) 0 (rate_in port h.now) (i - length had) low in
            let z : 0 + (i - length had) ≡ i - length had = omega arith in
            let v_is : step.turn.outputs nr (i - length had) ≡ v = ap (step.turn.outputs nr) (sym z) ∙ some_same (step.turn.outputs nr (0 + (i - length had))) v (sym made ∙ here) in
            let m = has.many in
            let e : length (held_by s) + (sum_by (outputs_in port) h.old + (before * rate_in port h.now + (i - length had))) ≡ i = omega (arith, m, high) in
            subst (λ n. sample_of s (h.old ++ h.now ∷ []) port nr (past_at (suc j)) n ≡ Some v) e
            (outputs_known flat.tables s h.old h.now [] port nr before (i - length had) (past_at (suc j)) step.turn inside low is_known ∙ ap Some v_is)

        all_are : (i : ℕ) (v : Raw) → (i < length had) ⊎ (length had ≤ i) → slice_get (had ++ new) i ≡ Some v → sample_of s (h.old ++ h.now ∷ []) port nr (past_at (suc j)) i ≡ Some v
        all_are i v (inl low) there = still j i v (has.are i v (sym (get_low had new i low) ∙ there))
        all_are i v (inr high) there = new_are i v high there

        own_has : Has (suc j) (had ++ new)
        own_has = record {
          many = (
              let l = length-append had new in
              let n = new_long in
              let m = has.many in
              let d = done_next h.entries (h.place + j) port.«module» x at in
              let o = ap {B = ℕ} (λ (b : Bool). if b then 1 else 0) (eq-eqb x.actor port.«module» same) in
              let e = ap (λ i. done h.entries i port.«module») place_next in
              let w = up j (omega (arith, below)) in
              let t : done h.entries (h.place + suc j) port.«module» - done h.entries h.from port.«module» ≡ before + 1 = omega (arith, d, o, e, w.0, w.1) in
              let q = ap (λ i. i * rate_in port h.now) t in
              let p = one_more before (rate_in port h.now) in
              omega (arith, l, n, m, q, p));
          are = λ i v there. all_are i v (cases_lt i (length had)) there;
        }

      -- with what it traces
      traces : (given : List Traced) → given ≡ traced_by flat.tables (actor_kind flat.tables x.actor) x.actor h.now.info.table step.turn → Has (suc j) (had ++ signal_samples port.signal given)
      traces given given_is = elim (cases_eq x.actor port.«module») [
        | inl same ↦ subst (λ l. Has (suc j) (had ++ l))
            (sym (ap (signal_samples port.signal) (given_is ∙ ap (λ o. traced_by flat.tables o x.actor h.now.info.table step.turn) (ap (actor_kind flat.tables) same ∙ kind_of_module))
            ∙ own_traced model flat one_port sound is cluster nr port traced h.now.info.table step.turn x.actor same)) (own_has same)
        | inr apart ↦ subst (Has (suc j))
            (sym (append-nil had) ∙ ap (λ l. had ++ l) (sym (ap (signal_samples port.signal) given_is ∙ none_traced model flat one_port sound is cluster nr port traced h.now.info.table step.turn x.actor (actor_kind flat.tables x.actor) apart)))
            (apart_has apart)
      ]

    pub walk : (n j : ℕ) → j + n ≡ k → (y z : Play (List ℤ) Raw) (sent : List Sent) (given : List Traced) (had : List Raw) → Stands net h.old h.now (read_at j) (j + f) y → HasTurns j y
        → GiveAll flat net h.old h.now (read_at k) (actors_in h.entries n (h.place + j)) y z sent given → Has j had → Has k (had ++ signal_samples port.signal given)
    unfolding GiveAll
    walk zero j e y z sent given had stands turns all has =
        let same : j ≡ k = omega (arith, e) in
        subst (λ i. Has i (had ++ signal_samples port.signal given)) same
        (subst (Has j) (sym (append-nil had) ∙ ap (λ l. had ++ l) (sym (ap (signal_samples port.signal) all.2 ∙ samples_none port.signal))) has)
    walk (suc n) j e y z sent given had stands turns all has =
        let below : j < k = omega (arith, e) in
        let x = get_inside h.entries (h.place + j) (omega (arith, within, below)) in
        let next : h.place + j + 1 ≡ h.place + suc j = omega arith in
        let these : GiveAll flat net h.old h.now (read_at k) (x.0.actor ∷ actors_in h.entries n (h.place + suc j)) y z sent given =
        subst (λ l. GiveAll flat net h.old h.now (read_at k) l y z sent given) (actors_next h.entries n (h.place + j) x.0 x.1 ∙ ap (λ i. x.0.actor ∷ actors_in h.entries n i) next) all in
        let here = traces j below x.0 x.1 y these.0 stands turns these.5.step had has these.2 these.5.traced_is in
        let rest = walk n (suc j) (omega (arith, e)) these.0 z these.3 these.4 (had ++ signal_samples port.signal these.2)
        (stands_next model flat cluster values h k within started have_read j f below x.0 x.1 (own (h.place + j) x.0 x.1) (known_actor (h.place + j) x.0 x.1) y these.0 stands turns these.5.step)
        (turns_next model flat cluster values h k within started have_read j f below x.0 x.1 (own (h.place + j) x.0 x.1) (known_actor (h.place + j) x.0 x.1) y these.0 stands turns these.5.step) these.6 here in
        subst (Has k) (append_assoc had (signal_samples port.signal these.2) (signal_samples port.signal these.4)
        ∙ ap (λ l. had ++ l) (sym (ap (signal_samples port.signal) these.8 ∙ samples_append port.signal these.2 these.4))) rest
