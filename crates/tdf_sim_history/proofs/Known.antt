-- What a cluster that has done its firings knows of the samples of a port.
use Rattle.std.proofs.Common.{◌≡◌, ◌∙◌, ℕ, ℤ, suc, ◌+◌, ◌-◌, ◌*◌, ◌/◌, ◌%◌, ◌<◌, ◌≤◌, Some, None, option_map, List, [], ◌∷◌, ◌++◌, if◌then◌else◌, length, slice_get, slice_index, refl, sym, ap, inl, inr, arith}
use Rattle.std.proofs.lemmas.Bool.{cases_lt, le-ltb, lt-ltb}
use Rattle.std.proofs.lemmas.List.Sums.{sum_by-cons}
use Rattle.std.specs.List.{All, sum_by}
use Rattle.std.specs.Option.{option_and_then}
use Rattle.tdf_fixed.specs.declared.raw.Raw.{Raw}
use Rattle.tdf_dynamic.specs.Below.{Flat, IsWholeRecord, Past, PeriodInfo, PeriodRecord, Start, Turn, cluster_net, count, firings, known, output_at_spot, outputs_in, port_output, positions, rate_in, time_of_periods}
use Rattle.tdf_dynamic.proofs.Api.{get_inside}
use Rattle.tdf_sim_history.specs.Cells.{column_spans, sample_of, samples_done}
use Rattle.tdf_sim_history.specs.Columns.{ColumnStart, held_by}
use Rattle.tdf_sim_history.specs.Instant.{acts_now, periods_of, run_in}
use Rattle.tdf_sim_history.specs.World.{ClusterAt}
use Rattle.tdf_trace_rows.specs.Positions.{position_at}
use Rattle.tdf_lang_tree.specs.Pure.{PureTree}
use Rattle.tdf_bind_connections.specs.declared.modules.PortRow.{PortRow}
use Rattle.tdf_sim_history.proofs.Clusters.{done_within}
use Rattle.tdf_sim_history.proofs.Positions.{Made, before_first, held_long, made, same_column, within_column}
use Rattle.tdf_sim_history.specs.WorldLaws.{AreRecordsOf, HasDone, HoldsFirst, IsThere}

-- whole periods have as many outputs of a port as positions of its signal
pub whole_sum : (flat : Flat) (number : ℕ) (port : PortRow) (ps qs : List PeriodRecord) → All (IsWholeRecord flat number) (ps ++ qs) → sum_by (positions port) ps ≡ sum_by (outputs_in port) ps
whole_sum flat number port [] qs whole = refl
whole_sum flat number port (p ∷ ps) qs whole =
    let a = sum_by-cons (positions port) p ps in
    let b = sum_by-cons (outputs_in port) p ps in
    let e : positions port p ≡ outputs_in port p = ap (λ l. slice_index l port.«module» * rate_in port p) (sym (whole 0 p (omega arith)).whole) in
    let r = whole_sum flat number port ps qs (λ k x inside. whole (suc k) x (omega (arith, inside))) in
    omega (arith, a, b, e, r)

-- so the samples that a start holds and the outputs since are as many as the positions before a period
done_column : (flat : Flat) (number : ℕ) (begun : Start) (s : ColumnStart) (port : PortRow) (origin : ℕ) (old : List PeriodRecord) (now : PeriodRecord) (more t j : ℕ)
    → AreRecordsOf flat number begun (old ++ now ∷ []) → HoldsFirst s port (old ++ now ∷ []) → t < origin + time_of_periods old
    → position_at 0 (column_spans port s origin (old ++ now ∷ [])) t ≡ Some j → j < length (held_by s) + (sum_by (outputs_in port) old + more)
done_column flat number begun s port origin [] now more t j records holds low at =
    let w = before_first port s origin now [] t j (let z : time_of_periods [] ≡ 0 = refl in omega (arith, low, z)) at in
    let l = held_long s in omega (arith, w, l)
done_column flat number begun s port origin (p ∷ ps) now more t j records holds low at =
    let w = within_column port s origin p ps t j (sym (same_column port s origin (p ∷ ps) (now ∷ []) t (omega arith) low) ∙ at) in
    let l = held_long s in
    let c = sum_by-cons (outputs_in port) p ps in
    let e = whole_sum flat number port ps (now ∷ []) records.rest in
    let f = holds.1 in omega (arith, w, l, c, e, f)

module _ (model : PureTree) (flat : Flat) (number : ℕ) (c : ClusterAt) (has : HasDone model flat number c) (port : PortRow) (out : ℕ) where
  abbrev known_here : Past (List ℤ) Raw
  known_here = known (cluster_net model flat number c.begun) (run_in c) (firings (periods_of c))

  -- the activations of its module in this period that are done
  abbrev ready : ℕ
  ready = acts_now c port.«module»

  most : ready ≤ slice_index c.now.counts port.«module»
  most = let d = done_within c.entries port.«module» c.place in let k = has.plan.counts port.«module» in omega (arith, d, k)

  module _ (n : ℕ) (m : Made port [] c.old c.now ready n) where
    abbrev place : ℕ
    place = sum_by (count port.«module») m.at.before + m.at.rest / rate_in port m.at.period

    abbrev pub output_of : Turn (List ℤ) Raw → Raw
    output_of t = t.outputs out (m.at.rest % rate_in port m.at.period)

    pub turn_of : (t : Turn (List ℤ) Raw) × (known_here port.«module» place ≡ Some t)
    turn_of = has.known port.«module» place (let e = m.early in let z : sum_by (count {I = PeriodInfo} port.«module») [] ≡ 0 = refl in omega (arith, e, z))

    -- an output of an activation that is done
    pub output_made : port_output (periods_of c) port out known_here n ≡ Some (output_of turn_of.0)
    unfolding port_output
    output_made = ap (option_and_then (output_at_spot port out known_here)) m.found ∙ ap (option_map output_of) turn_of.1

  -- which activation an output is of that is one of the first
  pub made_of : (n : ℕ) → n < sum_by (outputs_in port) c.old + ready * rate_in port c.now → Made port [] c.old c.now ready n
  made_of n low = made port [] c.old c.now ready n most low

  module _ (s : ColumnStart) where
    held_there : (j : ℕ) → j < length (held_by s) → (v : Raw) × (slice_get (held_by s) j ≡ Some v)
    held_there j low = get_inside (held_by s) j low

    -- each of those that are done is there
    pub sample_value : (j : ℕ) → j < samples_done s port c → (v : Raw) × (sample_of s (periods_of c) port out known_here j ≡ Some v)
    sample_value j low = elim (cases_lt j (length (held_by s))) [
      | inl early ↦ (let h = held_there j early in (h.0, rw (lt-ltb j (length (held_by s)) early) h.1))
      | inr late ↦ (
          let m = made_of (j - length (held_by s)) (omega (arith, low, late)) in
          (output_of (j - length (held_by s)) m (turn_of (j - length (held_by s)) m).0, rw (le-ltb j (length (held_by s)) late) (output_made (j - length (held_by s)) m)))
    ]

    -- a time before its period
    pub done_before : HoldsFirst s port (periods_of c) → (time j : ℕ) → time < c.origin + time_of_periods c.old → position_at 0 (column_spans port s c.origin (periods_of c)) time ≡ Some j → j < samples_done s port c
    done_before holds time j low at = done_column flat number c.begun s port c.origin c.old c.now (ready * rate_in port c.now) time j has.records holds low at

    pub is_there : HoldsFirst s port (periods_of c) → (time j : ℕ) → time < c.origin + time_of_periods c.old → position_at 0 (column_spans port s c.origin (periods_of c)) time ≡ Some j → IsThere model flat number c s port out j
    is_there holds time j early at =
        let low = done_before holds time j early at in
        let v = sample_value j low in
        record {
          done = low;
          value = v.0;
          sample = ap (λ b. if b then sample_of s (periods_of c) port out known_here j else None) (lt-ltb j (samples_done s port c) low) ∙ v.1;
        }
