-- Where all actors are settled, firings without a key are not grounded.
use Rattle.std.proofs.Common.{◌≡◌, ℕ, zero, suc, ◌+◌, ◌-◌, ◌*◌, ◌/◌, ◌<◌, ◌≤◌, ◌⊎◌, inl, inr, List, length, refl, sym, subst, arith}
use Rattle.std.proofs.Math.ListN.{get_or}
use Rattle.std.proofs.Math.Nat.{div-lt_iff_lt-mul, mul-le-mul_right}
use Rattle.std.proofs.lemmas.Bool.{cases_eq, cases_lt}
use Rattle.std.proofs.lemmas.List.{get_or_past}
use Rattle.std.proofs.lemmas.List.Elements.{All-contains}
use Rattle.std.proofs.lemmas.Option.{slice_get-get_or}
use Rattle.std.specs.Prelude.{Contains, All}
use Rattle.tdf_graph.specs.Counts.{IsBalanced}
use Rattle.tdf_graph.specs.Ranges.{IsEdge}
use Rattle.tdf_graph.specs.declared.actors.Edge.{Edge}
use Rattle.tdf_schedule.proofs.Keys.{need_is}
use Rattle.tdf_schedule.specs.Needs.{Needs, Within, IsGrounded}
use Rattle.tdf_schedule.specs.declared.key.Key.{Key}
use Rattle.tdf_schedule.specs.views.Table.{row_at}
use Rattle.tdf_schedule.specs.views.Work.{IsSettled, AreRows}

module _ (edges : List Edge) (pace : ℕ → ℕ) (counts : List ℕ) (fit : All (IsEdge (length counts)) edges)
    (balanced : (e : Edge) → Contains edges e → IsBalanced (λ m. get_or counts m 0) e) where
  -- what a firing of the period needs is of the period
  pub needs_inside : (m a n b : ℕ) → a < get_or counts m 0 → Needs edges m a n b → b < get_or counts n 0
  needs_inside m a n b less (inl p) = subst (λ k. b < get_or counts k 0) (sym p.0) (let q = p.1 in omega (arith, q, less))
  needs_inside m a n b less (inr takes) = subst (λ k. k < get_or counts n 0) (sym takes.made) (subst (λ k. (takes.place - takes.edge.initial) / takes.edge.write_rate < get_or counts k 0) takes.writes
      ((div-lt_iff_lt-mul fits.writes.some).1 below))
    where
      fits : IsEdge (length counts) takes.edge
      fits = All-contains (IsEdge (length counts)) edges takes.edge fit takes.there

      top : (a + 1) * takes.edge.read_rate ≤ get_or counts takes.edge.reader 0 * takes.edge.read_rate
      top = mul-le-mul_right takes.edge.read_rate (subst (λ k. a + 1 ≤ get_or counts k 0) (sym takes.reads) (omega (arith, less)))

      more : (x r : ℕ) → (x + 1) * r ≡ x * r + r
      more x r = grind arith

      below : takes.place - takes.edge.initial < get_or counts takes.edge.writer 0 * takes.edge.write_rate
      below = let h = takes.high in let s = more a takes.edge.read_rate in let b' = balanced takes.edge takes.there in omega (arith, top, h, s, b')

  module _ (table : List (List Key)) (settled : (m : ℕ) → m < length counts → IsSettled edges counts table m) where
    -- an actor that fires has a number
    counted : (m a : ℕ) → a < get_or counts m 0 → m < length counts
    counted m a less = go (cases_lt m (length counts))
      where
        go : (m < length counts) ⊎ (length counts ≤ m) → m < length counts
        go (inl here) = here
        go (inr past) = absurd (let e = get_or_past counts m 0 past in omega (arith, e, less))

    pub never_within : (f o m a : ℕ) → length (row_at table m) ≤ a → a < get_or counts m 0 → Within edges pace f o m a → ⊥
    unfolding Within
    never_within zero o m a late less is = is
    never_within (suc f) o m a late less is = go (cases_eq a (length (row_at table m))) (settled m (counted m a less)) (λ n b later below needs. never_within f o n b later below (is.1 n b needs))
      where
        go : (a ≡ length (row_at table m)) ⊎ (a ≡ length (row_at table m) → ⊥) → IsSettled edges counts table m
            → ((n b : ℕ) → length (row_at table n) ≤ b → b < get_or counts n 0 → Needs edges m a n b → ⊥) → ⊥
        go (inl same) (inl full) next = omega (arith, same, full, less)
        go (inl same) (inr stuck) next =
            let fits = All-contains (IsEdge (length counts)) edges stuck.edge fit stuck.there in
            let need = subst (λ k. Needs edges m k stuck.edge.writer stuck.firing) (sym same)
            (subst (λ k. Needs edges k (length (row_at table m)) stuck.edge.writer stuck.firing) stuck.reads
            (need_is edges pace stuck.edge (length (row_at table m)) stuck.firing stuck.there fits.reads.some stuck.needs)) in
            next stuck.edge.writer stuck.firing stuck.absent (needs_inside m a stuck.edge.writer stuck.firing less need) need
        go (inr other) here next = next m (a - 1) (omega (arith, late, other)) (omega (arith, less)) (inl (refl, omega (arith, late, other)))

    pub ungrounded : (m a : ℕ) → length (row_at table m) ≤ a → a < get_or counts m 0 → IsGrounded edges pace m a → ⊥
    ungrounded m a late less grounded = never_within grounded.0 grounded.1 m a late less grounded.2

  pub grounded : (table : List (List Key)) → AreRows edges pace counts table → (m a : ℕ) → a < length (row_at table m) → IsGrounded edges pace m a
  grounded table rows m a less =
      let key = get_or (row_at table m) a (record { level = 0; offset = 0 }) in
      (key.level, key.offset, (rows.keys m a key (slice_get-get_or (row_at table m) a (record { level = 0; offset = 0 }) less)).within)
