-- What is kept for the actors of a cluster that goes on from a state.
use Rattle.std.proofs.Common.{◌≡◌, ◌∙◌, ◌≢◌, ℕ, ◌+◌, ◌<◌, ◌≤◌, false, List, Some, ℤ, length, length-set, map, refl, sym, ap, subst, inl, inr, ◌⊎◌, arith}
use Rattle.std.proofs.lemmas.Bool.{cases_eq, cases_lt}
use Rattle.std.proofs.lemmas.List.{length-map, take_all}
use Rattle.std.proofs.lemmas.Option.{slice_get_within}
use Rattle.std.specs.List.{count_by}
use Rattle.std.specs.Prelude.{slice_get, slice_index, slice_set}
use Rattle.tdf_bind.specs.declared.model.Flat.{Flat}
use Rattle.tdf_bind_invariants.specs.Limits.{AreWithinLimits, limits_in}
use Rattle.tdf_dynamic_first.specs.Text.{first_table}
use Rattle.tdf_dynamic_plans.proofs.Api.{modules_few}
use Rattle.tdf_dynamic_plans.specs.Attributes.{AttrsOf, IsOfCluster, attrs_at, clusters_of, rates_in}
use Rattle.tdf_exec_parts.specs.Below.{IsTableOfStates}
use Rattle.tdf_exec.proofs.Formed.{numbered, row_found, rows_by_numbers, text_rows}
use Rattle.tdf_exec.proofs.Keeping.{get_set, get_set_other}
use Rattle.tdf_exec.proofs.Kept.{count_alike}
use Rattle.tdf_exec.proofs.Moved.{some_inj}
use Rattle.tdf_exec.proofs.Rows.{all_at}
use Rattle.tdf_exec.specs.Made.{HasRows, is_sampler_runner, sampler_runners_before}
use Rattle.tdf_exec.specs.Runners.{ModuleOf}
use Rattle.tdf_exec.specs.declared.runners.Runner.{Runner}
use Rattle.tdf_exec.specs.declared.runners.Runner.TheVariants as runner
use Rattle.tdf_exec.specs.machine.Resuming.{AreRestored, CanRestore, CanTake, FitInstance, HasValues, HoldsState, IsInstance, IsSameInstance, KeepsRunner, with_values}
use Rattle.tdf_exec.specs.machine.Starting.{AreFirstRunners, HoldsText, IsBegun, IsFirstRunner}
use Rattle.tdf_exec_firing.specs.Firing.{AreZerosBehind}
use Rattle.tdf_exec_firing.specs.Wires.{WiresOf}
use Rattle.tdf_exec_layout.specs.declared.wiring.ActorWires.{ActorWires}
use Rattle.tdf_exec_layout.specs.declared.wiring.ActorWires.TheVariants as wires
use Rattle.tdf_exec_parts.specs.States.{AreStatesOfRows}
use Rattle.tdf_expr.specs.Frames.{PortsSeen, limits_of_rate}
use Rattle.tdf_expr.specs.Made.{CellsFit, rate_spans_of}
use Rattle.tdf_expr.specs.declared.checked.Checked.{Checked}
use Rattle.tdf_expr.specs.declared.spans.RateSpan.{RateSpan}
use Rattle.tdf_expr_semantics.specs.Fits.{RatesFit}
use Rattle.tdf_expr_state.specs.State.{FrameState}
use Rattle.tdf_saved.specs.State.{ModuleStateOf}
use Rattle.tdf_streams.proofs.Api.{get_inside, is_wired}
use Rattle.tdf_streams.specs.Periods.{HasAllowedRates}
use Rattle.tdf_streams.specs.Places.{block_at, block_of_row}

-- ---- values, actor by actor

same_self : (checked : Checked) (r : Runner) → ((x : ModuleOf) → r ≡ runner.Module x → IsInstance checked x) → KeepsRunner checked r r
same_self checked (runner.Module x) is = (x, refl, record { block = refl; wires = refl; ports = refl; is = is x refl })
same_self checked (runner.Sampler s) is = refl
same_self checked (runner.Sink k) is = refl
same_self checked runner.Outside is = refl

given : (checked : Checked) (rates : List ℕ) (cells : List ℤ) (r s : Runner) → KeepsRunner checked r s → CanTake checked rates cells s → KeepsRunner checked r (with_values rates cells s)
given checked rates cells (runner.Module x) s kept can =
    let y = kept.0 in let same = kept.2 in
    let ok : IsInstance checked y × FitInstance checked rates cells y = subst (CanTake checked rates cells) kept.1 can in (
      record y { frame = record y.frame { state = record { cells = cells; rates = rates } } },
      ap (with_values rates cells) kept.1,
      record {
        block = same.block;
        wires = same.wires;
        ports = same.ports;
        is = record {
          made = record {
            made = ok.0.made.made;
            block = ok.0.made.block;
            formats = ok.0.made.formats;
            rates = ok.0.made.rates;
            ports_are = ok.0.made.ports_are;
            events = ok.0.made.events;
          };
          long = ok.1.rates_fit.long ∙ length-map (rate_spans_of checked y.block) limits_of_rate ∙ sym (ap (λ (l : List RateSpan). length l) ok.0.made.rates);
        };
      },
    )
given checked rates cells (runner.Sampler s) r kept can = ap (with_values rates cells) kept
given checked rates cells (runner.Sink k) r kept can = ap (with_values rates cells) kept
given checked rates cells runner.Outside r kept can = ap (with_values rates cells) kept

has_values : (rates : List ℕ) (cells : List ℤ) (r : Runner) → HasValues rates cells (with_values rates cells r)
has_values rates cells (runner.Module x) = (refl, refl)
has_values rates cells (runner.Sampler s) = tt
has_values rates cells (runner.Sink k) = tt
has_values rates cells runner.Outside = tt

-- one row more
module _ (checked : Checked) (table : List AttrsOf) (modules : List ModuleStateOf) (old : List Runner) (can : CanRestore checked table modules old) where
  pub restored_none : AreRestored checked table modules 0 old old
  restored_none = record {
    same = refl;
    kept = λ m r at. (r, at, same_self checked r (λ x is. can.instances m x (at ∙ ap Some is)));
    done = λ i attrs x s less at there here. absurd (omega (arith, less));
  }

  module _ (n : ℕ) (new : List Runner) (are : AreRestored checked table modules n old new) (attrs : AttrsOf) (state : ModuleStateOf) (r : Runner)
      (at : slice_get table n ≡ Some attrs) (there : slice_get modules n ≡ Some state) (here : slice_get new attrs.number ≡ Some r) where
    before : (b : Runner) × (slice_get old attrs.number ≡ Some b)
    before = get_inside old attrs.number (can.inside n attrs at)

    kept : KeepsRunner checked before.0 r
    kept = let k = are.kept attrs.number before.0 before.1 in subst (KeepsRunner checked before.0) (some_inj k.0 r (sym k.1 ∙ here)) k.2

    takes : (b : Runner) → slice_get old attrs.number ≡ Some b → (s : Runner) → KeepsRunner checked b s → CanTake checked attrs.rates state.cells s
    takes (runner.Module x) was s k =
        let y = k.0 in
        let fit = can.fit n attrs state x at there was in
        subst (CanTake checked attrs.rates state.cells) (sym k.1) (
          k.2.is,
          record {
            rates_fit = subst (λ b. RatesFit (map limits_of_rate (rate_spans_of checked b)) attrs.rates) (sym k.2.block) fit.rates_fit;
            cells_fit = subst (λ b. CellsFit checked b state.cells) (sym k.2.block) fit.cells_fit;
          },
        )
    takes (runner.Sampler x) was s k = subst (CanTake checked attrs.rates state.cells) (sym k) tt
    takes (runner.Sink x) was s k = subst (CanTake checked attrs.rates state.cells) (sym k) tt
    takes runner.Outside was s k = subst (CanTake checked attrs.rates state.cells) (sym k) tt

    pub can_take : CanTake checked attrs.rates state.cells r
    can_take = takes before.0 before.1 r kept

    abbrev next : List Runner
    next = slice_set new attrs.number (with_values attrs.rates state.cells r)

    inside : attrs.number < length new
    inside = slice_get_within new attrs.number r here

    keeps : (m : ℕ) (b : Runner) → slice_get old m ≡ Some b → (m ≡ attrs.number) ⊎ (m ≢ attrs.number) → (s : Runner) × (slice_get next m ≡ Some s) × KeepsRunner checked b s
    keeps m b was (inl same) =
        let k = are.kept m b was in
        let one : k.0 ≡ r = some_inj k.0 r (sym k.1 ∙ ap (slice_get new) same ∙ here) in (
          with_values attrs.rates state.cells r,
          ap (slice_get next) same ∙ get_set new attrs.number (with_values attrs.rates state.cells r) inside,
          given checked attrs.rates state.cells b r (subst (KeepsRunner checked b) one k.2) can_take,
        )
    keeps m b was (inr apart) =
        let k = are.kept m b was in (k.0, get_set_other new attrs.number m (with_values attrs.rates state.cells r) apart ∙ k.1, k.2)

    does : (i : ℕ) (a : AttrsOf) (x : ModuleStateOf) (s : Runner) → i < n + 1 → slice_get table i ≡ Some a → slice_get modules i ≡ Some x → slice_get next a.number ≡ Some s
        → (i < n) ⊎ (n ≤ i) → HasValues a.rates x.cells s
    does i a x s less a_at x_at s_at (inl below) =
        are.done i a x s below a_at x_at (sym (get_set_other new attrs.number a.number (with_values attrs.rates state.cells r)
        (λ same. absurd (let e = can.once i n a attrs a_at at same in omega (arith, e, below)))) ∙ s_at)
    does i a x s less a_at x_at s_at (inr past) =
        let same : n ≡ i = omega (arith, less, past) in
        let row : attrs ≡ a = some_inj attrs a (sym (subst (λ k. slice_get table k ≡ Some attrs) same at) ∙ a_at) in
        let one : state ≡ x = some_inj state x (sym (subst (λ k. slice_get modules k ≡ Some state) same there) ∙ x_at) in
        let now : with_values attrs.rates state.cells r ≡ s =
        some_inj (with_values attrs.rates state.cells r) s (sym (get_set new attrs.number (with_values attrs.rates state.cells r) inside) ∙ ap (λ (z : AttrsOf). slice_get next z.number) row ∙ s_at) in
        subst (λ (z : AttrsOf). HasValues z.rates x.cells s) row (subst (λ (z : ModuleStateOf). HasValues attrs.rates z.cells s) one
        (subst (HasValues attrs.rates state.cells) now (has_values attrs.rates state.cells r)))

    pub restored_next : AreRestored checked table modules (n + 1) old next
    restored_next = record {
      same = length-set new attrs.number (with_values attrs.rates state.cells r) ∙ are.same;
      kept = λ m b was. keeps m b was (cases_eq m attrs.number);
      done = λ i a x s less a_at x_at s_at. does i a x s less a_at x_at s_at (cases_lt i n);
    }

-- ---- by the table that a state says

module _ (flat : Flat) (cluster : ℕ) (limits : AreWithinLimits flat) (modules : List ModuleStateOf) (table : List AttrsOf) (states : AreStatesOfRows flat (first_table flat cluster) modules)
    (is : IsTableOfStates flat cluster modules table) where
  pub state_rows : HasRows flat.tables cluster table
  state_rows = rows_by_numbers flat.tables cluster (first_table flat cluster) table is.holds.members (text_rows flat cluster)

  pub states_long : length modules ≡ length table
  states_long = states.long ∙ sym (length-map (first_table flat cluster) (λ (a : AttrsOf). a.number)) ∙ sym (ap (λ (l : List ℕ). length l) is.holds.members)
      ∙ length-map table (λ (a : AttrsOf). a.number)

  own_row : (i : ℕ) (attrs : AttrsOf) → slice_get table i ≡ Some attrs → IsOfCluster flat.tables cluster attrs
  own_row i attrs at = all_at (IsOfCluster flat.tables cluster) table i attrs is.attributes.own at

  -- the state of the module of a row
  pub state_of_row : (i : ℕ) (attrs : AttrsOf) → slice_get table i ≡ Some attrs → (s : ModuleStateOf) × (slice_get modules i ≡ Some s)
  state_of_row i attrs at = get_inside modules i (let l = states_long in let w = slice_get_within table i attrs at in omega (arith, l, w))

  pub rates_of_state : (m : ℕ) (s : FrameState) → m < length flat.tables.modules → slice_index (clusters_of flat.tables) m ≡ cluster → HoldsState table modules m s → s.rates ≡ rates_in (attrs_at table m)
  rates_of_state m s below own held =
      let row = state_rows.each m below own in
      let state = state_of_row row.0 row.1 row.2 in
      (held.each row.0 row.1 state.0 row.2 state.1 row.3).0
      ∙ sym (ap rates_in (ap (attrs_at table) (sym row.3) ∙ row_found flat.tables cluster table state_rows row.0 row.1 row.2))

  module _ (ws : List ActorWires) (samplers : ℕ) (begun : List Runner) (many : length ws ≡ length flat.tables.actors)
      (are : AreFirstRunners flat (HoldsText flat false) (length ws) ws samplers begun) where
    wire : (m : ℕ) (r : Runner) → slice_get begun m ≡ Some r → (w : ActorWires) × (slice_get ws m ≡ Some w)
    wire m r at = get_inside ws m (let l = are.long in let w = slice_get_within begun m r at in omega (arith, l, w))

    module_begun : (m place : ℕ) (w : ActorWires) (x : ModuleOf) → IsFirstRunner flat (HoldsText flat false) m place w (runner.Module x) → (v : WiresOf) × IsBegun flat (HoldsText flat false) m v x
    module_begun m place (wires.Module v) x h = (v, h)
    module_begun m place (wires.Sampler edges) x h = absurd h
    module_begun m place (wires.Sink edge) x h = absurd h
    module_begun m place wires.Elsewhere x h = absurd h

    begun_at : (m : ℕ) (x : ModuleOf) → slice_get begun m ≡ Some (runner.Module x) → (v : WiresOf) × IsBegun flat (HoldsText flat false) m v x
    begun_at m x at = let w = wire m (runner.Module x) at in module_begun m (sampler_runners_before begun m) w.0 x (are.each m w.0 (runner.Module x) w.1 at)

    rates_fit : (attrs : AttrsOf) → attrs.number < length flat.tables.modules → HasAllowedRates flat attrs → RatesFit (map limits_of_rate (rate_spans_of flat.checked (block_at flat.tables.modules attrs.number))) attrs.rates
    rates_fit attrs below allowed =
        let row = get_inside flat.tables.modules attrs.number below in
        subst (λ b. RatesFit (map limits_of_rate (rate_spans_of flat.checked b)) attrs.rates) (sym (ap block_of_row row.1))
        (subst (λ o. RatesFit (limits_in flat.checked o) attrs.rates) row.1 allowed)

    pub can_restore : CanRestore flat.checked table modules begun
    can_restore = record {
      long = states_long;
      inside = λ i attrs at. (let own = own_row i attrs at in let b = own.is_module in
          let few = modules_few flat.tables (is_wired flat limits) in let l = are.long in omega (arith, b, few, l, many));
      once = state_rows.once;
      instances = λ m x at. (let b = begun_at m x at in record {
        made = b.1.made;
        long = ap (λ (l : List ℕ). length l) b.1.held.rates ∙ length-map (rate_spans_of flat.checked (block_at flat.tables.modules m)) (λ (r : RateSpan). r.start)
            ∙ ap (λ k. length (rate_spans_of flat.checked k)) (sym b.1.block_is) ∙ sym (ap (λ (l : List RateSpan). length l) b.1.made.rates);
      });
      fit = λ i attrs s x at there here. (let b = begun_at attrs.number x here in let own = own_row i attrs at in
          let first = numbered table (first_table flat cluster) (sym is.holds.members) i attrs at in
          record {
            rates_fit = subst (λ k. RatesFit (map limits_of_rate (rate_spans_of flat.checked k)) attrs.rates) (sym b.1.block_is)
                (rates_fit attrs own.is_module (all_at (HasAllowedRates flat) table i attrs is.attributes.allowed at));
            cells_fit = subst (λ k. CellsFit flat.checked k s.cells) (ap (block_at flat.tables.modules) first.2 ∙ sym b.1.block_is) (states.each i first.0 s first.1 there).cells;
          });
    }

    module _ (new : List Runner) (restored : AreRestored flat.checked table modules (length table) begun new) where
      holds : (m : ℕ) (y : ModuleOf) → slice_get new m ≡ Some (runner.Module y) → HoldsState table modules m y.frame.state
      holds m y at = record {
        each = λ i attrs s row state is_m. restored.done i attrs s (runner.Module y) (slice_get_within table i attrs row) row state (ap (slice_get new) is_m ∙ at);
      }

      alike : (m : ℕ) (x y : Runner) → slice_get new m ≡ Some x → slice_get begun m ≡ Some y → is_sampler_runner x ≡ is_sampler_runner y
      alike m x y x_at y_at = (let k = restored.kept m y y_at in by y x (subst (KeepsRunner flat.checked y) (some_inj k.0 x (sym k.1 ∙ x_at)) k.2))
        where
          by : (y x : Runner) → KeepsRunner flat.checked y x → is_sampler_runner x ≡ is_sampler_runner y
          by (runner.Module b) x k = ap is_sampler_runner k.1
          by (runner.Sampler s) x k = ap is_sampler_runner k
          by (runner.Sink e) x k = ap is_sampler_runner k
          by runner.Outside x k = ap is_sampler_runner k

      before_same : (m : ℕ) → sampler_runners_before new m ≡ sampler_runners_before begun m
      before_same m = count_alike new begun m restored.same alike

      counts_same : count_by is_sampler_runner begun ≡ count_by is_sampler_runner new
      counts_same = ap (count_by is_sampler_runner) (sym (take_all (length begun) begun (omega arith))) ∙ sym (before_same (length begun))
          ∙ ap (count_by is_sampler_runner) (take_all (length begun) new (let s = restored.same in omega (arith, s)))

      -- a module with its values
      module_is : (m : ℕ) (v : WiresOf) (x y : ModuleOf) → IsBegun flat (HoldsText flat false) m v x → IsSameInstance flat.checked x y → slice_get new m ≡ Some (runner.Module y)
          → IsBegun flat (HoldsState table modules) m v y
      module_is m v x y b same at = record {
        block_is = same.block ∙ b.block_is;
        made = same.is.made;
        wires_are = same.wires ∙ b.wires_are;
        zeros = λ reads. subst (λ (p : PortsSeen). AreZerosBehind y.wires reads p) (sym same.ports) (subst (λ (u : WiresOf). AreZerosBehind u reads x.ports) (sym same.wires) (b.zeros reads));
        held = holds m y at;
      }

      each_is : (m place : ℕ) (w : ActorWires) (b r : Runner) → IsFirstRunner flat (HoldsText flat false) m place w b → KeepsRunner flat.checked b r → slice_get new m ≡ Some r
          → IsFirstRunner flat (HoldsState table modules) m place w r
      each_is m place (wires.Module v) (runner.Module x) r h k at =
          subst (IsFirstRunner flat (HoldsState table modules) m place (wires.Module v)) (sym k.1) (module_is m v x k.0 h k.2 (at ∙ ap Some k.1))
      each_is m place (wires.Module v) (runner.Sampler s) r h k at = absurd h
      each_is m place (wires.Module v) (runner.Sink e) r h k at = absurd h
      each_is m place (wires.Module v) runner.Outside r h k at = absurd h
      each_is m place (wires.Sampler edges) (runner.Sampler s) r h k at = subst (IsFirstRunner flat (HoldsState table modules) m place (wires.Sampler edges)) (sym k) h
      each_is m place (wires.Sampler edges) (runner.Module x) r h k at = absurd h
      each_is m place (wires.Sampler edges) (runner.Sink e) r h k at = absurd h
      each_is m place (wires.Sampler edges) runner.Outside r h k at = absurd h
      each_is m place (wires.Sink edge) (runner.Sink e) r h k at = subst (IsFirstRunner flat (HoldsState table modules) m place (wires.Sink edge)) (sym k) h
      each_is m place (wires.Sink edge) (runner.Module x) r h k at = absurd h
      each_is m place (wires.Sink edge) (runner.Sampler s) r h k at = absurd h
      each_is m place (wires.Sink edge) runner.Outside r h k at = absurd h
      each_is m place wires.Elsewhere runner.Outside r h k at = subst (IsFirstRunner flat (HoldsState table modules) m place wires.Elsewhere) (sym k) tt
      each_is m place wires.Elsewhere (runner.Module x) r h k at = absurd h
      each_is m place wires.Elsewhere (runner.Sampler s) r h k at = absurd h
      each_is m place wires.Elsewhere (runner.Sink e) r h k at = absurd h

      pub state_runners : AreFirstRunners flat (HoldsState table modules) (length ws) ws samplers new
      state_runners = record {
        long = restored.same ∙ are.long;
        counted = are.counted ∙ counts_same;
        each = λ m w r w_at r_at. (
            let b = get_inside begun m (let l = restored.same in let i = slice_get_within new m r r_at in omega (arith, l, i)) in
            let k = restored.kept m b.0 b.1 in
            subst (λ n. IsFirstRunner flat (HoldsState table modules) m n w r) (sym (before_same m))
            (each_is m (sampler_runners_before begun m) w b.0 r (are.each m w b.0 w_at b.1) (subst (KeepsRunner flat.checked b.0) (some_inj k.0 r (sym k.1 ∙ r_at)) k.2) r_at));
      }
