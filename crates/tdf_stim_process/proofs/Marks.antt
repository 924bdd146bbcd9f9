-- What ports write for signals.
use Rattle.std.proofs.Common.{◌≡◌, ◌≢◌, ◌∙◌, ℕ, zero, suc, ◌<◌, Bool, true, false, if◌then◌else◌, List, length, Option, Some, None, slice_get, slice_index, slice_index_or, slice_set, refl, sym, ap, subst, inl, inr, arith}
use Rattle.std.proofs.lemmas.Bool.{cases_eq}
use Rattle.std.proofs.lemmas.List.{get_or-set_other, get_or-set_same, length-set}
use Rattle.tdf_events.specs.Processes.{value_of_port, written, written_first}
use Rattle.tdf_expr.specs.declared.spans.PortSpan.{PortSpan}
use Rattle.tdf_expr_state.specs.State.{PortsState}
use Rattle.tdf_fixed.specs.declared.raw.Raw.{Raw}
use Rattle.tdf_stim_history.specs.Driver.{waiting_at}

abbrev nothing : Option Raw
nothing = None

written_long : (signal : ℕ) (ports : PortsState) (port : ℕ) (o : Option PortSpan) (waiting : List (Option Raw)) → length (written signal ports port o waiting) ≡ length waiting
written_long signal ports port None waiting = refl
written_long signal ports port (Some p) waiting = go (slice_index_or ports.assigned port false)
  where
    go : (b : Bool) → length (if b then slice_set waiting signal (Some (value_of_port ports p)) else waiting) ≡ length waiting
    go true = length-set waiting signal (Some (value_of_port ports p))
    go false = refl

-- as many signals as before
pub first_long : (signals : List ℕ) (spans : List PortSpan) (ports : PortsState) (n : ℕ) (waiting : List (Option Raw)) → length (written_first signals spans ports n waiting) ≡ length waiting
unfolding written_first
first_long signals spans ports zero waiting = refl
first_long signals spans ports (suc n) waiting =
    written_long (slice_index signals n) ports n (slice_get spans n) (written_first signals spans ports n waiting) ∙ first_long signals spans ports n waiting

-- a port that isn't assigned, or reaches another signal, leaves what waits for a signal
written_other : (signal x : ℕ) (ports : PortsState) (port : ℕ) (o : Option PortSpan) (waiting : List (Option Raw)) → (slice_index_or ports.assigned port false ≡ true → signal ≢ x)
    → waiting_at (written signal ports port o waiting) x ≡ waiting_at waiting x
written_other signal x ports port None waiting apart = refl
written_other signal x ports port (Some p) waiting apart = go (slice_index_or ports.assigned port false) refl
  where
    go : (b : Bool) → slice_index_or ports.assigned port false ≡ b → waiting_at (if b then slice_set waiting signal (Some (value_of_port ports p)) else waiting) x ≡ waiting_at waiting x
    go true is = get_or-set_other waiting signal x (Some (value_of_port ports p)) nothing (λ same. apart is (sym same))
    go false is = refl

pub first_other : (signals : List ℕ) (spans : List PortSpan) (ports : PortsState) (x n : ℕ) (waiting : List (Option Raw)) → ((j : ℕ) → j < n → slice_index_or ports.assigned j false ≡ true → slice_index signals j ≢ x)
    → waiting_at (written_first signals spans ports n waiting) x ≡ waiting_at waiting x
unfolding written_first
first_other signals spans ports x zero waiting apart = refl
first_other signals spans ports x (suc n) waiting apart =
    written_other (slice_index signals n) x ports n (slice_get spans n) (written_first signals spans ports n waiting) (apart n (omega arith))
    ∙ first_other signals spans ports x n waiting (λ j less. apart j (omega (arith, less)))

-- a port that is assigned gives its value to its signal, which no later port reaches
written_own : (signal : ℕ) (ports : PortsState) (port : ℕ) (p : PortSpan) (o : Option PortSpan) (waiting : List (Option Raw)) → slice_index_or ports.assigned port false ≡ true → o ≡ Some p → signal < length waiting
    → waiting_at (written signal ports port o waiting) signal ≡ Some (value_of_port ports p)
written_own signal ports port p o waiting on is inside =
    ap (λ (x : Option PortSpan). waiting_at (written signal ports port x waiting) signal) is
    ∙ ap (λ (b : Bool). waiting_at (if b then slice_set waiting signal (Some (value_of_port ports p)) else waiting) signal) on
    ∙ get_or-set_same waiting signal (Some (value_of_port ports p)) nothing inside

pub first_own : (signals : List ℕ) (spans : List PortSpan) (ports : PortsState) (j n : ℕ) (p : PortSpan) (waiting : List (Option Raw)) → j < n → slice_get spans j ≡ Some p
    → slice_index_or ports.assigned j false ≡ true → slice_index signals j < length waiting → ((k : ℕ) → k < n → j ≢ k → slice_index signals k ≢ slice_index signals j)
    → waiting_at (written_first signals spans ports n waiting) (slice_index signals j) ≡ Some (value_of_port ports p)
unfolding written_first
first_own signals spans ports j zero p waiting less at on inside apart = absurd (omega (arith, less))
first_own signals spans ports j (suc n) p waiting less at on inside apart = elim (cases_eq j n) [
  | inl same ↦ subst (λ k. waiting_at (written (slice_index signals k) ports k (slice_get spans k) (written_first signals spans ports n waiting)) (slice_index signals j) ≡ Some (value_of_port ports p)) same
      (written_own (slice_index signals j) ports j p (slice_get spans j) (written_first signals spans ports n waiting) on at
      (subst (λ k. slice_index signals j < k) (sym (first_long signals spans ports n waiting)) inside))
  | inr other ↦ written_other (slice_index signals n) (slice_index signals j) ports n (slice_get spans n) (written_first signals spans ports n waiting) (λ on_it. apart n (omega arith) other)
      ∙ first_own signals spans ports j n p waiting (omega (arith, less, other)) at on inside (λ k below. apart k (omega (arith, below)))
]
