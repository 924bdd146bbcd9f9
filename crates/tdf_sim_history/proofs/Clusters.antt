-- What a boundary and a firing make of a cluster goes on from it.
use Rattle.std.proofs.Common.{◌≡◌, ◌⊎◌, ◌∙◌, ℕ, suc, true, ◌+◌, ◌*◌, ◌<◌, ◌≤◌, Some, List, [], ◌∷◌, ◌++◌, length, take, refl, sym, ap, subst, inl, inr, arith, append-nil, le_trans, mul-le-mul_right}
use Rattle.std.proofs.lemmas.Bool.{cases_eq, cases_lt}
use Rattle.std.proofs.lemmas.List.{append_assoc, get_or-set_other, get_or-set_same, get_or_past, take-take, take_all}
use Rattle.std.proofs.lemmas.List.Sums.{sum_by-take-le, sum_by_push}
use Rattle.std.proofs.lemmas.Option.{slice_get_within}
use Rattle.std.specs.List.{All, sum_by}
use Rattle.std.specs.Prelude.{cond, drop, nat_eq, slice_get, slice_index, slice_index_or, slice_set}
use Rattle.tdf_bind_tables.specs.FlatTables.{FlatTablesOf}
use Rattle.tdf_dynamic_plans.specs.Attributes.{AttrsOf}
use Rattle.tdf_fixed.specs.declared.raw.Raw.{Raw}
use Rattle.tdf_dynamic.proofs.Api.{get_low, none_some}
use Rattle.tdf_sim_history.specs.Cells.{outputs_done}
use Rattle.tdf_sim_history.specs.Instant.{acts_now, periods_of, same_period, stepped, with_new, with_read, with_same}
use Rattle.tdf_sim_history.specs.World.{Change, ClusterAt, New, Same, next_change}
use Rattle.tdf_schedule.specs.Plan.{done}
use Rattle.tdf_schedule.specs.declared.entry.Entry.{Entry}
use Rattle.tdf_dynamic.specs.Below.{outputs_in, period_record, rate_in}
use Rattle.tdf_bind_connections.specs.declared.modules.PortRow.{PortRow}
use Rattle.tdf_sim_history.specs.Continuing.{Continues, ClusterGoesOn, HasToldCounts, HasWholePlan}

-- the firings of a plan that are done grow with the place, up to all of them
module _ (entries : List Entry) (m : ℕ) where
  abbrev weigh : Entry → ℕ
  weigh x = cond (nat_eq x.actor m) 1 0

  done_more : (i : ℕ) → done entries i m ≤ done entries (i + 1) m
  unfolding done
  done_more i = subst (λ (l : List Entry). sum_by weigh l ≤ sum_by weigh (take (i + 1) entries)) (take-take i (i + 1) entries (omega arith)) (sum_by-take-le weigh (take (i + 1) entries) i)

  pub done_within : (i : ℕ) → done entries i m ≤ done entries (length entries) m
  unfolding done
  done_within i = subst (λ (l : List Entry). sum_by weigh (take i entries) ≤ sum_by weigh l) (sym (take_all (length entries) entries (omega arith))) (sum_by-take-le weigh entries i)

pub continues_refl : (c : ClusterAt) → Continues c c
continues_refl c = record {
  begun = refl;
  origin = refl;
  longer = record { rest = []; periods = sym (append-nil (periods_of c)); reads = λ m n x at. at };
  outputs = λ port. omega arith;
}

pub continues_trans : (b c d : ClusterAt) → Continues b c → Continues c d → Continues b d
continues_trans b c d x y = record {
  begun = y.begun ∙ x.begun;
  origin = y.origin ∙ x.origin;
  longer = record {
    rest = x.longer.rest ++ y.longer.rest;
    periods = y.longer.periods ∙ ap (λ l. l ++ y.longer.rest) x.longer.periods ∙ append_assoc (periods_of b) x.longer.rest y.longer.rest;
    reads = λ m n v at. y.longer.reads m n v (x.longer.reads m n v at);
  };
  outputs = λ port. (let s = x.outputs port in let t = y.outputs port in le_trans s t);
}

pub goes_refl : (c : ClusterAt) → ClusterGoesOn c c
goes_refl c = record { continues = λ p. continues_refl c; planned = λ p. p }

pub goes_trans : (b c d : ClusterAt) → ClusterGoesOn b c → ClusterGoesOn c d → ClusterGoesOn b d
goes_trans b c d x y = record {
  continues = λ p. continues_trans b c d (x.continues p) (y.continues (x.planned p));
  planned = λ p. y.planned (x.planned p);
}

-- what is told after the next boundary, and what is told of that
told_rest : (P : Change → Type 0) (a : List Change) → All P a → All P (drop 1 a)
told_rest P [] all = all
told_rest P (x ∷ a) all = λ j d below. all (suc j) d (omega (arith, below))

told_next : (a : List Change) (table : List AttrsOf) (x : Change) → All HasToldCounts a → slice_index_or a 0 (Same table) ≡ x → HasToldCounts x
told_next [] table x all is = subst HasToldCounts is tt
told_next (y ∷ a) table x all is = subst HasToldCounts is (all 0 y (omega arith))

-- from the head of a period nothing is done before
from_head : (entries : List Entry) (m n : ℕ) → n ≡ done entries (length entries) m → n + done entries 0 m ≡ done entries (length entries) m
unfolding done
from_head entries m n is = let z : n + 0 ≡ n = omega arith in z ∙ is

-- the outputs of a period are there in the next
outputs_next : (c : ClusterAt) → HasWholePlan c → (port : PortRow) (more : ℕ) → outputs_done port c ≤ sum_by (outputs_in port) (periods_of c) + more
outputs_next c p port more =
    let s = sum_by_push (outputs_in port) c.old c.now in
    let m : acts_now c port.«module» * rate_in port c.now ≤ slice_index c.now.counts port.«module» * rate_in port c.now = mul-le-mul_right (rate_in port c.now)
    (let d = done_within c.entries port.«module» c.place in let k = p.counts port.«module» in omega (arith, d, k)) in
    omega (arith, s, m)

-- the next period with the same plan
pub same_goes : (time : ℕ) (table : List AttrsOf) (c : ClusterAt) → ClusterGoesOn c (with_same time table c)
same_goes time table c = record {
  continues = λ p. record {
    begun = refl;
    origin = refl;
    longer = record { rest = same_period table c.now ∷ []; periods = refl; reads = λ m n x at. at };
    outputs = λ port. outputs_next c p port (acts_now (with_same time table c) port.«module» * rate_in port (same_period table c.now));
  };
  planned = λ p. record {
    counts = λ m. from_head c.entries m (slice_index c.now.info.counts m) (p.whole m);
    whole = p.whole;
    ahead = told_rest HasToldCounts c.ahead p.ahead;
  };
}

-- and with a new one that is told
pub new_goes : (tables : FlatTablesOf) (time : ℕ) (table : List AttrsOf) (counts : List ℕ) (period : ℕ) (entries : List Entry) (bounds : List ℕ) (c : ClusterAt)
    → next_change c ≡ New table counts period entries bounds → ClusterGoesOn c (with_new tables time table counts period entries bounds c)
new_goes tables time table counts period entries bounds c told = record {
  continues = λ p. record {
    begun = refl;
    origin = refl;
    longer = record { rest = period_record tables table counts period true ∷ []; periods = refl; reads = λ m n x at. at };
    outputs = λ port. outputs_next c p port (acts_now (with_new tables time table counts period entries bounds c) port.«module» * rate_in port (period_record tables table counts period true));
  };
  planned = λ p. record {
    counts = λ m. from_head entries m (slice_index counts m) (told_next c.ahead c.now.info.table (New table counts period entries bounds) p.ahead told m);
    whole = told_next c.ahead c.now.info.table (New table counts period entries bounds) p.ahead told;
    ahead = told_rest HasToldCounts c.ahead p.ahead;
  };
}

-- one entry more
pub step_goes : (c : ClusterAt) → ClusterGoesOn c (stepped c)
step_goes c = record {
  continues = λ p. record {
    begun = refl;
    origin = refl;
    longer = record { rest = []; periods = sym (append-nil (periods_of c)); reads = λ m n x at. at };
    outputs = λ port. (
        let m : acts_now c port.«module» * rate_in port c.now ≤ acts_now (stepped c) port.«module» * rate_in port c.now = mul-le-mul_right (rate_in port c.now) (let d = done_more c.entries port.«module» c.place in omega (arith, d)) in
        omega (arith, m));
  };
  planned = λ p. record { counts = p.counts; whole = p.whole; ahead = p.ahead };
}

-- a sampler reads one value more
read_kept : (value : Raw) (reads : List (List Raw)) (m k n : ℕ) (x : Raw) → slice_get (slice_index_or reads k []) n ≡ Some x
    → slice_get (slice_index_or (slice_set reads m (slice_index_or reads m [] ++ value ∷ [])) k []) n ≡ Some x
read_kept value reads m k n x at = elim (cases_eq k m) [
  | inl same ↦ subst (λ j. slice_get (slice_index_or (slice_set reads j (slice_index_or reads j [] ++ value ∷ [])) k []) n ≡ Some x) same (own (cases_lt k (length reads)))
  | inr apart ↦ ap (λ l. slice_get l n) (get_or-set_other reads m k (slice_index_or reads m [] ++ value ∷ []) [] apart) ∙ at
]
  where
    own : (k < length reads) ⊎ (length reads ≤ k) → slice_get (slice_index_or (slice_set reads k (slice_index_or reads k [] ++ value ∷ [])) k []) n ≡ Some x
    own (inl inside) = ap (λ l. slice_get l n) (get_or-set_same reads k (slice_index_or reads k [] ++ value ∷ []) [] inside)
        ∙ get_low (slice_index_or reads k []) (value ∷ []) n (slice_get_within (slice_index_or reads k []) n x at) ∙ at
    own (inr past) = none_some x (ap (λ (l : List Raw). slice_get l n) (sym (get_or_past reads k [] past)) ∙ at)

pub read_goes : (m : ℕ) (value : Raw) (c : ClusterAt) → ClusterGoesOn c (with_read m value c)
read_goes m value c = record {
  continues = λ p. record {
    begun = refl;
    origin = refl;
    longer = record { rest = []; periods = sym (append-nil (periods_of c)); reads = λ k n x at. read_kept value c.reads m k n x at };
    outputs = λ port. omega arith;
  };
  planned = λ p. record { counts = p.counts; whole = p.whole; ahead = p.ahead };
}
