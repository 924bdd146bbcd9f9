-- A cluster that goes on has the samples that it had, and the cells of times that have them.
use Rattle.std.proofs.Common.{◌≡◌, ◌∙◌, ℕ, ℤ, ◌+◌, ◌-◌, ◌/◌, ◌<◌, ◌≤◌, Option, Some, None, option_map, List, [], ◌∷◌, ◌++◌, if◌then◌else◌, length, slice_get, refl, sym, ap, subst, inl, inr, arith, lt_of_lt_of_le}
use Rattle.std.proofs.lemmas.Bool.{cases_lt, le-ltb, lt-ltb}
use Rattle.std.proofs.lemmas.List.Sums.{sum_by-append}
use Rattle.std.proofs.lemmas.Option.{get_or_from_slice_get, slice_get_within}
use Rattle.std.specs.List.{All, sum, sum_by}
use Rattle.std.specs.Option.{option_and_then}
use Rattle.tdf_fixed.specs.declared.raw.Raw.{Raw}
use Rattle.tdf_dynamic.specs.Below.{Flat, Less, Past, PeriodRecord, cluster_net, count, find, firings, known, output_at_spot, outputs_in, port_output, rate_in, time_of_periods}
use Rattle.tdf_dynamic.proofs.Api.{find_more, get_high, known_more}
use Rattle.tdf_sim_history.specs.Cells.{column_spans, outputs_done, port_cell, sample_at, sample_of, samples_done}
use Rattle.tdf_sim_history.specs.Columns.{ColumnStart, held_by}
use Rattle.tdf_sim_history.specs.Instant.{acts_now, periods_of, run_in}
use Rattle.tdf_sim_history.specs.World.{ClusterAt}
use Rattle.tdf_trace_rows.specs.Positions.{position_at}
use Rattle.tdf_lang_tree.specs.Pure.{PureTree}
use Rattle.tdf_bind_connections.specs.declared.modules.PortRow.{PortRow}
use Rattle.tdf_sim_history.proofs.Known.{made_of, output_made, output_of, turn_of}
use Rattle.tdf_sim_history.proofs.Positions.{Made, same_column, some_periods}
use Rattle.tdf_sim_history.specs.Continuing.{Continues, HasWholePlan}
use Rattle.tdf_sim_history.specs.WorldLaws.{HasDone}

pub all_at : {X : Type 0} (P : X → Type 0) (xs : List X) (j : ℕ) (x : X) → All P xs → slice_get xs j ≡ Some x → P x
all_at P xs j x all is = subst P (get_or_from_slice_get xs j x x is) (all j x (slice_get_within xs j x is))

last_at : {X : Type 0} (xs : List X) (x : X) → slice_get (xs ++ x ∷ []) (length xs) ≡ Some x
last_at xs x = let low : length xs ≤ length xs = omega arith in let z : length xs - length xs ≡ 0 = omega arith in
    get_high xs (x ∷ []) (length xs) low ∙ ap (slice_get (x ∷ [])) z

mapped : {A B : Type 0} (f g : A → B) (o : Option A) → ((a : A) → o ≡ Some a → f a ≡ g a) → option_map f o ≡ option_map g o
mapped f g None same = refl
mapped f g (Some a) same = ap Some (same a refl)

-- a cluster that has done its firings has a whole plan
pub whole_plan : (model : PureTree) (flat : Flat) (number : ℕ) (c : ClusterAt) → HasDone model flat number c → HasWholePlan c
whole_plan model flat number c has = has.plan

module _ (model : PureTree) (flat : Flat) (number : ℕ) (c d : ClusterAt) (has : HasDone model flat number c) (goes : Continues c d) where
  -- what is known in a cluster
  abbrev known_in : ClusterAt → Past (List ℤ) Raw
  known_in b = known (cluster_net model flat number b.begun) (run_in b) (firings (periods_of b))

  more_firings : firings (periods_of d) ≡ firings goes.longer.rest + firings (periods_of c)
  more_firings =
      let e : firings (periods_of d) ≡ firings (periods_of c ++ goes.longer.rest) = ap (λ (ps : List PeriodRecord). firings ps) goes.longer.periods in
      let s = sum_by-append (λ (p : PeriodRecord). sum p.counts) (periods_of c) goes.longer.rest in omega (arith, e, s)

  pub known_less : Less (known_in c) (known_in d)
  known_less = subst (λ s. Less (known_in c) (known (cluster_net model flat number s) (run_in d) (firings (periods_of d)))) (sym goes.begun)
      (subst (λ f. Less (known_in c) (known (cluster_net model flat number c.begun) (run_in d) f)) (sym more_firings)
      (known_more (cluster_net model flat number c.begun) (run_in c) (run_in d) goes.longer (firings (periods_of c)) (firings goes.longer.rest)))

  module _ (port : PortRow) (out : ℕ) where
    module _ (n : ℕ) (m : Made port [] c.old c.now (acts_now c port.«module») n) where
      found_later : find (outputs_in port) [] (periods_of d) n ≡ Some m.at
      found_later = ap (λ ps. find (outputs_in port) [] ps n) goes.longer.periods ∙ find_more (outputs_in port) [] (periods_of c) goes.longer.rest n m.at m.found

      made_stays : port_output (periods_of c) port out (known_in c) n ≡ port_output (periods_of d) port out (known_in d) n
      unfolding port_output
      made_stays =
          let turn = turn_of model flat number c has port out n m in
          output_made model flat number c has port out n m
          ∙ sym (ap (option_and_then (output_at_spot port out (known_in d))) found_later ∙ ap (option_map (output_of model flat number c has port out n m)) (known_less.keeps port.«module»
          (sum_by (count port.«module») m.at.before + m.at.rest / rate_in port m.at.period) turn.0 turn.1))

    output_stays : (n : ℕ) → n < outputs_done port c → port_output (periods_of c) port out (known_in c) n ≡ port_output (periods_of d) port out (known_in d) n
    output_stays n low = made_stays n (made_of model flat number c has port out n low)

    module _ (s : ColumnStart) where
      column_stays : (j : ℕ) → j < samples_done s port c → sample_of s (periods_of c) port out (known_in c) j ≡ sample_of s (periods_of d) port out (known_in d) j
      column_stays j low = elim (cases_lt j (length (held_by s))) [
        | inl early ↦ rw (lt-ltb j (length (held_by s)) early) refl
        | inr late ↦ rw (le-ltb j (length (held_by s)) late) (output_stays (j - length (held_by s)) (omega (arith, low, late)))
      ]

      more_samples : samples_done s port c ≤ samples_done s port d
      more_samples = let o = goes.outputs port in omega (arith, o)

      -- a sample that is there stays
      pub sample_stays : (j : ℕ) → j < samples_done s port c → sample_at model flat number c s port out j ≡ sample_at model flat number d s port out j
      sample_stays j low =
          ap (λ b. if b then sample_of s (periods_of c) port out (known_in c) j else None) (lt-ltb j (samples_done s port c) low)
          ∙ column_stays j low
          ∙ sym (ap (λ b. if b then sample_of s (periods_of d) port out (known_in d) j else None) (lt-ltb j (samples_done s port d) (lt_of_lt_of_le low more_samples)))

      module _ (time : ℕ) (low : time < c.origin + time_of_periods (periods_of c)) where
        abbrev position : Option ℕ
        position = position_at 0 (column_spans port s c.origin (periods_of c)) time

        position_later : position_at 0 (column_spans port s d.origin (periods_of d)) time ≡ position
        position_later = ap (λ o. position_at 0 (column_spans port s o (periods_of d)) time) goes.origin
            ∙ ap (λ ps. position_at 0 (column_spans port s c.origin ps) time) goes.longer.periods
            ∙ same_column port s c.origin (periods_of c) goes.longer.rest time (some_periods c.old c.now) low

        -- and so does a cell, where each position that the time has is there
        pub cell_stays : ((j : ℕ) → position ≡ Some j → j < samples_done s port c)
            → port_cell model flat number s port out time (Some c) ≡ port_cell model flat number s port out time (Some d)
        cell_stays there =
            mapped (sample_at model flat number c s port out) (sample_at model flat number d s port out) position (λ j at. sample_stays j (there j at))
            ∙ sym (ap (option_map (sample_at model flat number d s port out)) position_later)
