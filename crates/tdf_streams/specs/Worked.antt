-- A source and a sum, worked by hand: two periods of other rates, and a sample that is delayed.
-- Source: own.
use Rattle.std.specs.Prelude.{ℕ, ◌+◌, ◌*◌, ◌≡◌, Option, Some, false, if◌then◌else◌, nat_eq, [], ◌∷◌, option_map, sum}
use Rattle.std.specs.List.{concat}
use Rattle.tdf_streams.specs.Net.{Net, Run, Turn}
use Rattle.tdf_streams.specs.Streams.{known, place}

-- actor 0 puts 10 times its state, and that and 1 and so on, and counts; actor 1 adds up what it
-- reads; the change body adds 10, the reinitialize body of actor 0 adds 100; the edge begins with 7
abbrev pub source_and_sum : Net ℕ ℕ ℕ
source_and_sum = record {
  edges = 1;
  writer = λ e. 0;
  reader = λ e. 1;
  source = λ e. 0;
  delay = λ e. 1;
  initial = λ e k. 7;
  is_sampler = λ m. false;
  start = λ m. 0;
  change = λ m old s. s + 10;
  reinitialize = λ m p s. if nat_eq m 0 then s + 100 else s;
  process = λ m p s inputs. record {
    state = if nat_eq m 0 then s + 1 else s + sum (concat inputs);
    outputs = λ port k. 10 * s + k;
  };
}

-- first the source puts 2 samples for 2 activations of the sum, then 1 for 1
abbrev pub two_periods : Run ℕ ℕ
two_periods = record {
  periods = record { counts = 1 ∷ 2 ∷ []; writes = 2 ∷ []; reads = 1 ∷ []; info = 0 }
      ∷ (record { counts = 1 ∷ 1 ∷ []; writes = 1 ∷ []; reads = 1 ∷ []; info = 0 } ∷ []);
  reads = λ m. [];
}

abbrev pub worked_sample : ℕ → Option ℕ
worked_sample k = place source_and_sum two_periods.periods (known source_and_sum two_periods 5) 0 k

abbrev pub sum_after : ℕ → Option ℕ
sum_after n = option_map (λ (t : Turn ℕ ℕ). t.state) (known source_and_sum two_periods 5 1 n)

-- the edge has 7, then 0 and 1, then 10 times (0 + 1 + 10 + 100); the sum goes to 7 and 7, and from
-- 17, which its change body made of that, to 18
pub record IsWorked : Type 0 where
  pub initial : worked_sample 0 ≡ Some 7
  pub first : worked_sample 1 ≡ Some 0
  pub second : worked_sample 2 ≡ Some 1
  pub changed : worked_sample 3 ≡ Some 1110
  pub sum_first : sum_after 0 ≡ Some 7
  pub sum_second : sum_after 1 ≡ Some 7
  pub sum_changed : sum_after 2 ≡ Some 18
