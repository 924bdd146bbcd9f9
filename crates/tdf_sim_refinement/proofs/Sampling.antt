-- What samplers have read after the firings of a time.
use Rattle.std.proofs.Common.{◌≡◌, ◌≢◌, ◌∙◌, ℕ, zero, suc, ◌+◌, ◌-◌, ◌<◌, ◌≤◌, Bool, List, [], ◌∷◌, ◌++◌, Option, Some, None, length, replicate, if◌then◌else◌, refl, sym, ap, subst, inl, inr, arith, append-nil}
use Rattle.std.proofs.lemmas.Bool.{cases_eq, cases_lt, eq-eqb, ne_eqb}
use Rattle.std.proofs.lemmas.List.{append_assoc, get_or-set_other, get_or-set_same, get_or_past, length-set, replicate_more}
use Rattle.std.proofs.lemmas.Option.{slice_get_within}
use Rattle.std.specs.Prelude.{slice_get, slice_index_or}
use Rattle.tdf_bind_tables.specs.FlatTables.{FlatTablesOf}
use Rattle.tdf_exec.specs.Played.{turns_from}
use Rattle.tdf_fixed.specs.declared.raw.Raw.{Raw}
use Rattle.tdf_streams.proofs.Api.{get_inside, get_low, none_some, done_next}
use Rattle.tdf_streams.specs.Stands.{KeepsReads}
use Rattle.tdf_graph.specs.declared.actors.Actor.{Actor}
use Rattle.tdf_graph.specs.declared.actors.Actor.TheVariants as actor
use Rattle.tdf_sim_history.specs.Instant.{actor_of_entry}
use Rattle.tdf_sim_history.specs.World.{ClusterAt}
use Rattle.tdf_sim_refinement.specs.Firings.{actor_at_place, read_by, reads_after, value_for}
use Rattle.tdf_schedule.specs.Plan.{done}
use Rattle.tdf_schedule.specs.declared.entry.Entry.{Entry}
use Rattle.tdf_streams.specs.Places.{actor_kind}

-- the firings done in a plan, from a place on
module _ (entries : List Entry) (m : ℕ) where
  pub done_up : (i d : ℕ) → i + d ≤ length entries → done entries i m ≤ done entries (i + d) m
  done_up i zero inside = let e : i + 0 ≡ i = omega arith in subst (λ j. done entries i m ≤ done entries j m) (sym e) (omega arith)
  done_up i (suc d) inside =
      let x = get_inside entries (i + d) (omega (arith, inside)) in
      let next = done_next entries (i + d) m x.0 x.1 in let up = done_up i d (omega (arith, inside)) in
      let e : i + d + 1 ≡ i + suc d = omega arith in
      subst (λ j. done entries i m ≤ done entries j m) e (omega (arith, next, up))

  pub done_to : (i j : ℕ) → i ≤ j → j ≤ length entries → done entries i m ≤ done entries j m
  done_to i j low inside = let e : i + (j - i) ≡ j = omega (arith, low) in
      subst (λ n. done entries i m ≤ done entries n m) e (done_up i (j - i) (omega (arith, low, inside)))

module _ (tables : FlatTablesOf) (values : List Raw) where
  read_long : (a : ℕ) (o : Option Actor) (reads : List (List Raw)) → length (read_by tables values a o reads) ≡ length reads
  read_long a None reads = refl
  read_long a (Some actor.Module) reads = refl
  read_long a (Some actor.Sampler) reads = length-set reads a _
  read_long a (Some actor.Sink) reads = refl

  read_other : (a m : ℕ) (o : Option Actor) (reads : List (List Raw)) → m ≢ a → slice_index_or (read_by tables values a o reads) m [] ≡ slice_index_or reads m []
  read_other a m None reads apart = refl
  read_other a m (Some actor.Module) reads apart = refl
  read_other a m (Some actor.Sampler) reads apart = get_or-set_other reads a m _ [] apart
  read_other a m (Some actor.Sink) reads apart = refl

  read_own : (m : ℕ) (reads : List (List Raw)) → m < length reads → slice_index_or (read_by tables values m (Some actor.Sampler) reads) m [] ≡ slice_index_or reads m [] ++ value_for tables values m ∷ []
  read_own m reads inside = get_or-set_same reads m _ [] inside

  own_kept : (m n : ℕ) (x : Raw) (reads : List (List Raw)) → slice_get (slice_index_or reads m []) n ≡ Some x → slice_get (slice_index_or (read_by tables values m (Some actor.Sampler) reads) m []) n ≡ Some x
  own_kept m n x reads at = elim (cases_lt m (length reads)) [
    | inl inside ↦ ap (λ l. slice_get l n) (read_own m reads inside) ∙ get_low (slice_index_or reads m []) _ n (slice_get_within (slice_index_or reads m []) n x at) ∙ at
    | inr past ↦ none_some x (ap (λ (l : List Raw). slice_get l n) (sym (get_or_past reads m [] past)) ∙ at)
  ]

  pub read_kept : (a m n : ℕ) (x : Raw) (o : Option Actor) (reads : List (List Raw)) → slice_get (slice_index_or reads m []) n ≡ Some x → slice_get (slice_index_or (read_by tables values a o reads) m []) n ≡ Some x
  read_kept a m n x None reads at = at
  read_kept a m n x (Some actor.Module) reads at = at
  read_kept a m n x (Some actor.Sampler) reads at = elim (cases_eq m a) [
    | inl same ↦ subst (λ b. slice_get (slice_index_or (read_by tables values b (Some actor.Sampler) reads) m []) n ≡ Some x) same (own_kept m n x reads at)
    | inr apart ↦ ap (λ l. slice_get l n) (read_other a m (Some actor.Sampler) reads apart) ∙ at
  ]
  read_kept a m n x (Some actor.Sink) reads at = at

  module _ (h : ClusterAt) where
    pub reads_long : (k : ℕ) → length (reads_after tables values h k) ≡ length h.reads
    unfolding reads_after
    reads_long zero = refl
    reads_long (suc k) = read_long (actor_at_place h k) (actor_kind tables (actor_at_place h k)) (reads_after tables values h k) ∙ reads_long k

    pub reads_kept : (k : ℕ) → KeepsReads (λ m. slice_index_or h.reads m []) (λ m. slice_index_or (reads_after tables values h k) m [])
    unfolding reads_after
    reads_kept zero m n x at = at
    reads_kept (suc k) m n x at = read_kept (actor_at_place h k) m n x (actor_kind tables (actor_at_place h k)) (reads_after tables values h k) (reads_kept k m n x at)

    -- one entry more
    module _ (m : ℕ) (is : actor_kind tables m ≡ Some actor.Sampler) (inside : m < length h.reads) where
      joined : (xs : List Raw) (r s : ℕ) (v : Raw) → r + 1 ≡ s → xs ++ replicate r v ++ v ∷ [] ≡ xs ++ replicate s v
      joined xs r s v e = append_assoc xs (replicate r v) (v ∷ []) ∙ ap (λ l. xs ++ l) (replicate_more r v) ∙ ap (λ j. xs ++ replicate j v) e

      read_next : (k : ℕ) (x : Entry) → h.place + k < length h.entries → slice_get h.entries (h.place + k) ≡ Some x
          → slice_index_or (reads_after tables values h k) m [] ≡ slice_index_or h.reads m [] ++ replicate (turns_from h.entries h.place (h.place + k) m) (value_for tables values m)
          → slice_index_or (read_by tables values x.actor (actor_kind tables x.actor) (reads_after tables values h k)) m [] ≡ slice_index_or h.reads m [] ++ replicate (turns_from h.entries h.place (h.place + suc k) m) (value_for tables values m)
      read_next k x more at before =
          let step = done_next h.entries (h.place + k) m x at in
          let up = done_up h.entries m h.place k (omega (arith, more)) in
          let e : h.place + k + 1 ≡ h.place + suc k = omega arith in
          let z = ap (λ j. done h.entries j m) e in
          elim (cases_eq x.actor m) [
            | inl same ↦ (
                let one = ap {B = ℕ} (λ (b : Bool). if b then 1 else 0) (eq-eqb x.actor m same) in
                subst (λ a. slice_index_or (read_by tables values a (actor_kind tables a) (reads_after tables values h k)) m [] ≡ slice_index_or h.reads m [] ++ replicate (turns_from h.entries h.place (h.place + suc k) m) (value_for tables values m)) (sym same)
                (ap (λ o. slice_index_or (read_by tables values m o (reads_after tables values h k)) m []) is
                ∙ read_own m (reads_after tables values h k) (let l = reads_long k in omega (arith, l, inside))
                ∙ ap (λ l. l ++ value_for tables values m ∷ []) before
                ∙ joined (slice_index_or h.reads m []) (turns_from h.entries h.place (h.place + k) m) (turns_from h.entries h.place (h.place + suc k) m) (value_for tables values m) (omega (arith, step, up, z, one))))
            | inr apart ↦ (
                let none = ap {B = ℕ} (λ (b : Bool). if b then 1 else 0) (ne_eqb x.actor m apart) in
                let same : turns_from h.entries h.place (h.place + k) m ≡ turns_from h.entries h.place (h.place + suc k) m = omega (arith, step, up, z, none) in
                read_other x.actor m (actor_kind tables x.actor) (reads_after tables values h k) (λ q. apart (sym q)) ∙ before
                ∙ ap (λ j. slice_index_or h.reads m [] ++ replicate j (value_for tables values m)) same)
          ]

      pub sampler_reads : (k : ℕ) → h.place + k ≤ length h.entries
          → slice_index_or (reads_after tables values h k) m [] ≡ slice_index_or h.reads m [] ++ replicate (turns_from h.entries h.place (h.place + k) m) (value_for tables values m)
      unfolding reads_after
      sampler_reads zero within =
          let e : h.place + 0 ≡ h.place = omega arith in let z = ap (λ j. done h.entries j m) e in
          let none : 0 ≡ turns_from h.entries h.place (h.place + 0) m = omega (arith, z) in
          sym (append-nil (slice_index_or h.reads m [])) ∙ ap (λ j. slice_index_or h.reads m [] ++ replicate j (value_for tables values m)) none
      sampler_reads (suc k) within =
          let x = get_inside h.entries (h.place + k) (omega (arith, within)) in
          ap (λ (o : Option Entry). slice_index_or (read_by tables values (actor_of_entry o) (actor_kind tables (actor_of_entry o)) (reads_after tables values h k)) m []) x.1
          ∙ read_next k x.0 (omega (arith, within)) x.1 (sampler_reads k (omega (arith, within)))
