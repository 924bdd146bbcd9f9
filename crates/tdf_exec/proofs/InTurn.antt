-- The actors of a cluster take what they are told of their edges, and then their traced ports, one after the other.
use Rattle.std.proofs.Common.{◌≡◌, ◌≢◌, ◌∙◌, ◌⊎◌, ℕ, zero, suc, ◌+◌, ◌<◌, ◌≤◌, if◌then◌else◌, List, [], ◌∷◌, ◌++◌, Some, length, length-set, map, refl, sym, ap, subst, inl, inr, arith}
use Rattle.std.proofs.lemmas.Bool.{cases_eq, cases_lt}
use Rattle.std.proofs.lemmas.List.{get_or-replicate, length-replicate, length-take, take_all, take_more, take_more_set}
use Rattle.std.proofs.lemmas.Option.{get_or_from_slice_get, slice_get_within}
use Rattle.std.specs.Prelude.{replicate, slice_get, slice_index, slice_index_or, slice_set, take}
use Rattle.tdf_bind.specs.declared.model.Flat.{Flat}
use Rattle.tdf_bind_tables.specs.declared.actors.ActorRow.{ActorRow}
use Rattle.tdf_bind_tables.specs.FlatTables.{FlatTablesOf}
use Rattle.tdf_cluster_net.specs.Numbers.{AreNumbers, Rise}
use Rattle.tdf_dynamic_plans.specs.Attributes.{AttrsOf, clusters_of}
use Rattle.tdf_exec.proofs.Keeping.{get_set, get_set_other}
use Rattle.tdf_exec.proofs.Moved.{some_inj}
use Rattle.tdf_exec.proofs.Nexts.{get_read}
use Rattle.tdf_exec.proofs.Numbered.{number_below, own_among}
use Rattle.tdf_exec.proofs.Taking.{taken_other, taken_own}
use Rattle.tdf_exec.specs.Made.{is_sampler_runner}
use Rattle.tdf_exec.specs.declared.runners.Runner.{Runner}
use Rattle.tdf_exec.specs.declared.runners.Runner.TheVariants as runner
use Rattle.tdf_exec.specs.declared.runners.TracedPort.{TracedPort}
use Rattle.tdf_exec.specs.machine.Starting.{AreTakenBy, AreTakenUpTo, IsFirstRunner}
use Rattle.tdf_exec.specs.machine.Tracing.{AreGivenTraced, rated, with_traced}
use Rattle.tdf_exec_layout.specs.declared.wiring.ActorWires.{ActorWires}
use Rattle.tdf_expr_state.specs.State.{FrameState}
use Rattle.tdf_streams.proofs.Api.{get_inside}

-- ---- what they are told of their edges

pub none_taken : (flat : Flat) (Holds : ℕ → FrameState → Type 0) (cluster : ℕ) (numbers : List ℕ) (old : List ActorWires) (runners : List Runner) → runners ≡ replicate (length old) runner.Outside
    → AreTakenBy flat Holds cluster numbers 0 old old 0 runners
none_taken flat Holds cluster numbers old runners are = record {
  place = 0;
  low = λ j less. absurd (omega (arith, less));
  high = λ j less more. omega arith;
  long = long;
  taken = record {
    first = record {
      long = refl;
      counted = refl;
      each = λ m w r told there. absurd (let i = slice_get_within [] m r there in omega (arith, i));
    };
    same = refl;
    left = λ m past. refl;
    others = λ m row at apart. refl;
  };
  rest = λ m past less.
      let inside : m < length old = (let l = long in omega (arith, l, less)) in
      get_read runners m runner.Outside less
      (sym (ap (λ (l : List Runner). slice_index_or l m runner.Outside) are ∙ get_or-replicate (length old) m runner.Outside runner.Outside inside));
}
  where
    long : length runners ≡ length old
    long = ap (λ (l : List Runner). length l) are ∙ length-replicate (length old) runner.Outside

module _ (flat : Flat) (Holds : ℕ → FrameState → Type 0) (cluster : ℕ) (numbers : List ℕ)
    (own : AreNumbers (length (clusters_of flat.tables)) (λ m. slice_index (clusters_of flat.tables) m ≡ cluster) numbers) (i : ℕ) (old now : List ActorWires) (samplers : ℕ) (runners : List Runner)
    (long : length old ≡ length flat.tables.actors) (are : AreTakenBy flat Holds cluster numbers i old now samplers runners) where
  abbrev TakenTo : ℕ → Type 0
  TakenTo k = AreTakenUpTo flat Holds cluster k old now samplers (take k runners)

  pub now_long : length now ≡ length flat.tables.actors
  now_long = are.taken.same ∙ long

  pub runners_long : length runners ≡ length flat.tables.actors
  runners_long = are.long ∙ long

  -- an actor behind the place that isn't among the other numbers is of another cluster
  other_cluster : (m : ℕ) → are.place ≤ m → (row : ActorRow) → slice_get flat.tables.actors m ≡ Some row → ((j : ℕ) → i ≤ j → j < length numbers → slice_index numbers j ≢ m) → row.cluster ≢ cluster
  other_cluster m past row at none same =
      let among = own_among flat.tables cluster numbers own m row at same in
      elim (cases_lt among.0 i) [
        | inl less ↦ (let low = are.low among.0 less in let is = among.2 in omega (arith, low, is, past))
        | inr more ↦ none among.0 more among.1 among.2
      ]

  -- one actor of another cluster more
  taken_past : (k : ℕ) → are.place ≤ k → k < length runners → ((j : ℕ) → i ≤ j → j < length numbers → slice_index numbers j ≢ k) → TakenTo k → TakenTo (suc k)
  taken_past k past less none before =
      let r = runners_long in let n = now_long in
      let row = get_inside flat.tables.actors k (omega (arith, less, r)) in
      let w = get_inside now k (omega (arith, less, r, n)) in
      let next : suc k ≡ k + 1 = omega arith in
      let more : take (k + 1) runners ≡ take k runners ++ runner.Outside ∷ [] =
      take_more runners k runner.Outside less ∙ ap (λ x. take k runners ++ x ∷ []) (get_or_from_slice_get runners k runner.Outside runner.Outside (are.rest k past less)) in
      subst TakenTo (sym next)
      (subst (λ (l : List Runner). AreTakenUpTo flat Holds cluster (k + 1) old now samplers l) (sym more)
      (taken_other flat Holds cluster k old now samplers (take k runners) before row.0 row.1 w.0 w.1 (other_cluster k past row.0 row.1 none)))

  -- all up to a place before which none is of the cluster
  taken_to : (k : ℕ) → are.place ≤ k → k ≤ length runners → ((m j : ℕ) → m < k → i ≤ j → j < length numbers → slice_index numbers j ≢ m) → TakenTo k
  taken_to zero past most none = let same : are.place ≡ 0 = omega (arith, past) in subst TakenTo same are.taken
  taken_to (suc k) past most none = elim (cases_lt k are.place) [
    | inl here ↦ (let same : are.place ≡ suc k = omega (arith, past, here) in subst TakenTo same are.taken)
    | inr before ↦ taken_past k before (omega (arith, most)) (λ j. none k j (omega arith))
        (taken_to k before (omega (arith, most)) (λ m j less. none m j (omega (arith, less))))
  ]

  pub taken_here : i < length numbers → TakenTo (slice_index numbers i)
  taken_here less =
      let below = number_below flat.tables cluster numbers own i less in let l = runners_long in
      taken_to (slice_index numbers i) (are.high i (omega arith) less) (omega (arith, below, l)) (λ m j before more inside. here m j before more inside (cases_eq i j))
    where
      here : (m j : ℕ) → m < slice_index numbers i → i ≤ j → j < length numbers → (i ≡ j) ⊎ (i ≡ j → ⊥) → slice_index numbers j ≢ m
      here m j before more inside (inl same) is = let e = ap (slice_index numbers) same in omega (arith, before, e, is)
      here m j before more inside (inr apart) is = let r = own.rising i j (omega (arith, more, apart)) inside in omega (arith, before, r, is)

  -- one actor of the cluster more
  pub taken_more : i < length numbers → (row : ActorRow) → slice_get flat.tables.actors (slice_index numbers i) ≡ Some row → row.cluster ≡ cluster → (w : ActorWires) → slice_get now (slice_index numbers i) ≡ Some w
      → (next : ℕ) (r : Runner) (dest : ActorWires) → IsFirstRunner flat Holds (slice_index numbers i) samplers w r → next ≡ samplers + (if is_sampler_runner r then 1 else 0)
      → AreTakenBy flat Holds cluster numbers (i + 1) old (slice_set now (slice_index numbers i) dest) next (slice_set runners (slice_index numbers i) r)
  taken_more less row at mine w there next r dest is more = record {
    place = slice_index numbers i + 1;
    low = λ j before. low j before (cases_eq j i);
    high = λ j after inside. (let rise = own.rising i j (omega (arith, after)) inside in omega (arith, rise));
    long = length-set runners (slice_index numbers i) r ∙ are.long;
    taken = subst (λ (l : List Runner). AreTakenUpTo flat Holds cluster (slice_index numbers i + 1) old (slice_set now (slice_index numbers i) dest) next l)
        (sym (take_more_set runners (slice_index numbers i) r inside_runners))
        (taken_own flat Holds cluster (slice_index numbers i) old now samplers (take (slice_index numbers i) runners) (taken_here less) row at w there mine next r dest is more);
    rest = λ m past before.
        get_set_other runners (slice_index numbers i) m r (λ same. absurd (omega (arith, same, past)))
        ∙ are.rest m (let h = are.high i (omega arith) less in omega (arith, h, past)) (let l = length-set runners (slice_index numbers i) r in omega (arith, before, l));
  }
    where
      inside_runners : slice_index numbers i < length runners
      inside_runners = let below = number_below flat.tables cluster numbers own i less in let l = runners_long in omega (arith, below, l)

      low : (j : ℕ) → j < i + 1 → (j ≡ i) ⊎ (j ≡ i → ⊥) → slice_index numbers j < slice_index numbers i + 1
      low j before (inl same) = let e = ap (slice_index numbers) same in omega (arith, e)
      low j before (inr apart) = let rise = own.rising j i (omega (arith, before, apart)) less in omega (arith, rise)

  pub taken_whole : length numbers ≤ i → AreTakenUpTo flat Holds cluster (length old) old now samplers runners
  taken_whole past =
      let all : TakenTo (length runners) =
      taken_to (length runners) place_in (omega arith) (λ m j before more inside. absurd (omega (arith, past, more, inside))) in
      subst (λ n. AreTakenUpTo flat Holds cluster n old now samplers runners) are.long
      (subst (λ (l : List Runner). AreTakenUpTo flat Holds cluster (length runners) old now samplers l) (take_all (length runners) runners (omega arith)) all)
    where
      place_in : are.place ≤ length runners
      place_in = let l = are.taken.first.long in let t = length-take are.place runners in omega (arith, l, t)

-- ---- their traced ports

module _ (tables : FlatTablesOf) (table : List AttrsOf) (numbers : List ℕ) where
  module _ (rising : Rise numbers) (i : ℕ) (less : i < length numbers) (rows now : List (List TracedPort)) (old new : List Runner) (are : AreGivenTraced tables table numbers i rows now old new) where
    earlier : (j : ℕ) → j < i → slice_index numbers j ≢ slice_index numbers i
    earlier j before same = let r = rising j i before less in omega (arith, r, same)

    row_yet : slice_get now (slice_index numbers i) ≡ slice_get rows (slice_index numbers i)
    row_yet = are.left (slice_index numbers i) earlier

    runner_yet : slice_get new (slice_index numbers i) ≡ slice_get old (slice_index numbers i)
    runner_yet = are.waiting (slice_index numbers i) earlier

    -- what is no module takes none
    pub given_none : length rows ≤ slice_index numbers i → AreGivenTraced tables table numbers (i + 1) rows now old new
    given_none past = record {
      many = are.many;
      same = are.same;
      done = λ j list r before row_at at. done j list r row_at at before (cases_eq j i);
      past = are.past;
      waiting = λ m none. are.waiting m (λ j before. none j (omega (arith, before)));
      left = λ m none. are.left m (λ j before. none j (omega (arith, before)));
    }
      where
        done : (j : ℕ) (list : List TracedPort) (r : Runner) → slice_get rows (slice_index numbers j) ≡ Some list → slice_get old (slice_index numbers j) ≡ Some r → j < i + 1 → (j ≡ i) ⊎ (j ≡ i → ⊥)
            → slice_get new (slice_index numbers j) ≡ Some (with_traced (map (rated tables table) list) r)
        done j list r row_at at before (inl same) =
            absurd (let e = ap (slice_index numbers) same in let inside = slice_get_within rows (slice_index numbers j) list row_at in omega (arith, e, inside, past))
        done j list r row_at at before (inr apart) = are.done j list r (omega (arith, before, apart)) row_at at

    -- one module more takes its own
    pub given_more : (list : List TracedPort) (r : Runner) → slice_get now (slice_index numbers i) ≡ Some list → slice_get new (slice_index numbers i) ≡ Some r → (row : List TracedPort) (after : Runner)
        → after ≡ with_traced (map (rated tables table) list) r
        → AreGivenTraced tables table numbers (i + 1) rows (slice_set now (slice_index numbers i) row) old (slice_set new (slice_index numbers i) after)
    given_more list r row_at at row after after_is = record {
      many = length-set now (slice_index numbers i) row ∙ are.many;
      same = length-set new (slice_index numbers i) after ∙ are.same;
      done = λ j other_list other before other_row other_at. done j other_list other other_row other_at before (cases_eq j i);
      past = λ m high.
          get_set_other new (slice_index numbers i) m after (λ same. absurd (let inside = slice_get_within now (slice_index numbers i) list row_at in let l = are.many in omega (arith, same, inside, l, high)))
          ∙ are.past m high;
      waiting = λ m none.
          get_set_other new (slice_index numbers i) m after (λ same. none i (omega arith) (sym same)) ∙ are.waiting m (λ j before. none j (omega (arith, before)));
      left = λ m none.
          get_set_other now (slice_index numbers i) m row (λ same. none i (omega arith) (sym same)) ∙ are.left m (λ j before. none j (omega (arith, before)));
    }
      where
        done : (j : ℕ) (other_list : List TracedPort) (other : Runner) → slice_get rows (slice_index numbers j) ≡ Some other_list → slice_get old (slice_index numbers j) ≡ Some other → j < i + 1 → (j ≡ i) ⊎ (j ≡ i → ⊥)
            → slice_get (slice_set new (slice_index numbers i) after) (slice_index numbers j) ≡ Some (with_traced (map (rated tables table) other_list) other)
        done j other_list other other_row other_at before (inl same) =
            let e : slice_index numbers j ≡ slice_index numbers i = ap (slice_index numbers) same in
            let one : list ≡ other_list = some_inj list other_list (sym row_at ∙ row_yet ∙ ap (slice_get rows) (sym e) ∙ other_row) in
            let is : r ≡ other = some_inj r other (sym at ∙ runner_yet ∙ ap (slice_get old) (sym e) ∙ other_at) in
            ap (slice_get (slice_set new (slice_index numbers i) after)) e
            ∙ get_set new (slice_index numbers i) after (slice_get_within new (slice_index numbers i) r at)
            ∙ ap Some (after_is ∙ ap (λ l. with_traced (map (rated tables table) l) r) one ∙ ap (with_traced (map (rated tables table) other_list)) is)
        done j other_list other other_row other_at before (inr apart) =
            let low : j < i = omega (arith, before, apart) in
            get_set_other new (slice_index numbers i) (slice_index numbers j) after (earlier j low) ∙ are.done j other_list other low other_row other_at
