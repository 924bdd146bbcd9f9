-- The values of variables of modules, along the streams of a cluster, are of the formats of their variables.
use Rattle.std.proofs.Common.{◌≡◌, ◌∙◌, ℕ, zero, suc, ℤ, ◌+◌, ◌-◌, ◌<◌, ◌&&◌, not, Bool, true, false, if◌then◌else◌, nat_eq, nat_lt, List, [], ◌∷◌, ◌++◌, Option, Some, None, option_map, length, map, slice_get, slice_index, slice_index_or, refl, sym, ap, subst, arith}
use Rattle.std.proofs.lemmas.Bool.Decides.{nat_tests}
use Rattle.std.proofs.lemmas.Bool.{eqb-true}
use Rattle.std.proofs.lemmas.List.{length-map}
use Rattle.std.proofs.lemmas.List.Elements.{All-head, All-tail}
use Rattle.std.proofs.lemmas.Option.{same_Some, slice_get-map, slice_get_within}
use Rattle.std.specs.List.{All, sum_by}
use Rattle.std.specs.Option.{option_and_then}
use Rattle.std.specs.Prelude.{unwrap_or}
use Rattle.tdf_bind.specs.declared.model.Flat.{Flat}
use Rattle.tdf_bind_connections.specs.declared.modules.ModuleRow.{ModuleRow}
use Rattle.tdf_bind_invariants.specs.Limits.{limits_in}
use Rattle.tdf_dynamic_first.specs.Text.{first_table}
use Rattle.tdf_dynamic_plans.specs.Attributes.{AttrsOf, attrs_at, rates_in}
use Rattle.tdf_exec_firing.specs.Activation.{ports_before}
use Rattle.tdf_exec_parts.specs.States.{IsStateUnder}
use Rattle.tdf_expr.specs.Blocks.{PureBlock, blocks_of}
use Rattle.tdf_expr.specs.Checked.{IsCheckedOf}
use Rattle.tdf_expr.specs.Frames.{limits_of_rate}
use Rattle.tdf_expr.specs.Made.{CellsFit, event_count, port_spans_of, rate_spans_of, start_cells}
use Rattle.tdf_expr.specs.declared.bodies.Body.{Body}
use Rattle.tdf_expr.specs.declared.bodies.Body.TheVariants as body
use Rattle.tdf_expr_laws.specs.Cells.{AreAtMost, BodiesKeepCells, StartsFit}
use Rattle.tdf_expr_semantics.specs.Fits.{RatesFit}
use Rattle.tdf_expr_state.specs.State.{State, state_of}
use Rattle.tdf_fixed.specs.declared.raw.Raw.{Raw}
use Rattle.tdf_graph.specs.declared.actors.Actor.{Actor}
use Rattle.tdf_graph.specs.declared.actors.Actor.TheVariants as actor
use Rattle.tdf_lang_tree.specs.Pure.{PureTree}
use Rattle.tdf_saved.specs.State.{ClusterStateOf, ModuleStateOf}
use Rattle.tdf_schedule.specs.declared.entry.Plan.{Plan}
use Rattle.tdf_sim_resumed.specs.Restored.{kept_by_state, list_for, state_start}
use Rattle.tdf_sim_split.proofs.Others.{made_or}
use Rattle.tdf_sim_split.proofs.Sound.{number_of}
use Rattle.tdf_sim_split.specs.Snapshots.{HasFitCells}
use Rattle.tdf_streams.proofs.Api.{get_inside, some_same}
use Rattle.tdf_streams.specs.Bodies.{after_part, changed, done_by, initialized, module_acted, module_rates, nothing_read, reinitialized}
use Rattle.tdf_streams.specs.Cluster.{Start, cluster_net, is_outside_cluster, text_start}
use Rattle.tdf_streams.specs.Laws.{ClusterNet, ClusterPlay, ClusterRun}
use Rattle.tdf_streams.specs.Net.{Past, Turn, count}
use Rattle.tdf_streams.specs.Periods.{HasAllowedRates, IsPeriodRecord, PeriodInfo, PeriodRecord}
use Rattle.tdf_streams.specs.Places.{actor_kind, block_at, block_of_row, has_changes, read_through}
use Rattle.tdf_streams.specs.Stands.{Stands, run_of}
use Rattle.tdf_streams.specs.Streams.{Spot, entered, find, inputs, is_first, known, sampled, spot, state_before, turn, turn_at}

-- ---- periods

-- each of them is so
abbrev pub Every : (PeriodRecord → Type 0) → List PeriodRecord → Type 0
Every P [] = Unit {0}
Every P (p ∷ ps) = P p × Every P ps

pub every_of : (P : PeriodRecord → Type 0) (ps : List PeriodRecord) → ((k : ℕ) (p : PeriodRecord) → slice_get ps k ≡ Some p → P p) → Every P ps
every_of P [] each = tt
every_of P (p ∷ ps) each = (each 0 p refl, every_of P ps (λ k q at. each (suc k) q at))

every_both : (P : PeriodRecord → Type 0) (ps qs : List PeriodRecord) → Every P ps → Every P qs → Every P (ps ++ qs)
every_both P [] qs one two = two
every_both P (p ∷ ps) qs one two = (one.0, every_both P ps qs one.1 two)

every_first : (P : PeriodRecord → Type 0) (ps qs : List PeriodRecord) → Every P (ps ++ qs) → Every P ps
every_first P [] qs all = tt
every_first P (p ∷ ps) qs all = (all.0, every_first P ps qs all.1)

every_last : (P : PeriodRecord → Type 0) (ps : List PeriodRecord) (p : PeriodRecord) → Every P (ps ++ p ∷ []) → P p
every_last P [] p all = all.0
every_last P (q ∷ ps) p all = every_last P ps p all.1

pub find_every : (P : PeriodRecord → Type 0) (size : PeriodRecord → ℕ) (before ps : List PeriodRecord) (n : ℕ) (s : Spot PeriodInfo) → Every P before → Every P ps → find size before ps n ≡ Some s
    → Every P s.before × P s.period
unfolding find
find_every P size before [] n s was all is = absurd cc
find_every P size before (q ∷ ps) n s was all is =
    go (λ later. find_every P size (before ++ q ∷ []) ps (n - size q) s (every_both P before (q ∷ []) was (all.0, tt)) all.1 later) (nat_lt n (size q)) is
  where
    go : (find size (before ++ q ∷ []) ps (n - size q) ≡ Some s → Every P s.before × P s.period) → (t : Bool) → (if t then Some (spot before q n) else find size (before ++ q ∷ []) ps (n - size q)) ≡ Some s → Every P s.before × P s.period
    go rest true here = subst (λ (x : Spot PeriodInfo). Every P x.before × P x.period) (same_Some (spot before q n) s here) (was, all.0)
    go rest false later = rest later

less_of : (a b : ℕ) → nat_lt a b ≡ true → a < b
less_of a b e = grind (arith, nat_tests)

-- a number that is found lies in its period
pub find_less : (size : PeriodRecord → ℕ) (before ps : List PeriodRecord) (n : ℕ) (s : Spot PeriodInfo) → find size before ps n ≡ Some s → s.rest < size s.period
unfolding find
find_less size before [] n s is = absurd cc
find_less size before (q ∷ ps) n s is = go (λ later. find_less size (before ++ q ∷ []) ps (n - size q) s later) (nat_lt n (size q)) refl is
  where
    go : (find size (before ++ q ∷ []) ps (n - size q) ≡ Some s → s.rest < size s.period) → (t : Bool) → nat_lt n (size q) ≡ t
        → (if t then Some (spot before q n) else find size (before ++ q ∷ []) ps (n - size q)) ≡ Some s → s.rest < size s.period
    go rest true less here = subst (λ (x : Spot PeriodInfo). x.rest < size x.period) (same_Some (spot before q n) s here) (less_of n (size q) less)
    go rest false less later = rest later

-- ---- one module

module _ (keep : BodiesKeepCells) (model : PureTree) (flat : Flat) (checked : IsCheckedOf model flat.checked) (m : ℕ) (row : ModuleRow) (at : slice_get flat.tables.modules m ≡ Some row) where
  abbrev Fit : List ℤ → Type 0
  Fit cells = CellsFit flat.checked row.block cells

  abbrev RatesLow : List ℕ → Type 0
  RatesLow rates = AreAtMost (map limits_of_rate (rate_spans_of flat.checked row.block)) rates

  abbrev Allowed : PeriodRecord → Type 0
  Allowed p = RatesLow (module_rates p.info m)

  part_fits : (part : Body) (s : State) (o : Option PureBlock) → slice_get (blocks_of model.globals) row.block ≡ o → RatesLow s.frame.rates → Fit s.frame.cells → Fit (after_part model o part s).frame.cells
  part_fits part s None there low fits = fits
  part_fits part s (Some block) there low fits = keep model flat.checked row.block block part s checked there low fits

  done_fits : (part : Body) (cells : List ℤ) (rates : List ℕ) (read : ℕ → List Raw) → RatesLow rates → Fit cells → Fit (done_by model flat m part cells rates read).frame.cells
  unfolding done_by
  done_fits part cells rates read low fits =
      subst (λ (o : Option ModuleRow). Fit (after_part model (slice_get (blocks_of model.globals) (block_of_row o)) part
      (state_of (record { cells = cells; rates = rates }) (ports_before (port_spans_of flat.checked (block_of_row o)) (event_count flat.checked (block_of_row o)) read))).frame.cells) (sym at)
      (part_fits part (state_of (record { cells = cells; rates = rates }) (ports_before (port_spans_of flat.checked row.block) (event_count flat.checked row.block) read)) (slice_get (blocks_of model.globals) row.block) refl low fits)

  changed_fits : (ps : List PeriodRecord) (cells : List ℤ) → Every Allowed ps → Fit cells → Fit (changed model flat m ps cells)
  changed_fits [] cells all fits = fits
  changed_fits (p ∷ []) cells all fits = choose (has_changes flat.tables.modules m)
    where
      choose : (t : Bool) → Fit (if t then (done_by model flat m body.Change cells (module_rates p.info m) nothing_read).frame.cells else cells)
      choose true = done_fits body.Change cells (module_rates p.info m) nothing_read all.0 fits
      choose false = fits
  changed_fits (p ∷ (q ∷ ps)) cells all fits = changed_fits (q ∷ ps) cells all.1 fits

  new_fits : (info : PeriodInfo) (cells : List ℤ) → RatesLow (module_rates info m) → Fit cells → Fit (reinitialized model flat m info cells)
  new_fits info cells low fits = choose info.is_new
    where
      choose : (t : Bool) → Fit (if t then (done_by model flat m body.Reinitialize cells (module_rates info m) nothing_read).frame.cells else cells)
      choose true = done_fits body.Reinitialize cells (module_rates info m) nothing_read low fits
      choose false = fits

  acted_fits : (kind : Option Actor) (info : PeriodInfo) (cells : List ℤ) (given : List (List Raw)) → RatesLow (module_rates info m) → Fit cells → Fit (module_acted model flat m kind info cells given).state
  acted_fits (Some actor.Module) info cells given low fits = done_fits body.Processing cells (module_rates info m) (read_through flat.tables.ports m flat.tables.edges given) low fits
  acted_fits (Some actor.Sampler) info cells given low fits = fits
  acted_fits (Some actor.Sink) info cells given low fits = fits
  acted_fits None info cells given low fits = fits

  module _ (number : ℕ) (start : Start) (begins : Fit (slice_index_or start.cells m [])) where
    abbrev net : ClusterNet
    net = cluster_net model flat number start

    entered_fits : (s : Spot PeriodInfo) (x : List ℤ) → Every Allowed s.before × Allowed s.period → Fit x → Fit (entered net m s x)
    entered_fits s x ok fits = choose (nat_eq s.rest 0 && not (is_first s.before))
      where
        choose : (t : Bool) → Fit (if t then reinitialized model flat m s.period.info (changed model flat m s.before x) else x)
        choose true = new_fits s.period.info (changed model flat m s.before x) ok.1 (changed_fits s.before x ok.0 fits)
        choose false = fits

    state_fits : (past : Past (List ℤ) Raw) → ((n : ℕ) (t : Turn (List ℤ) Raw) → past m n ≡ Some t → Fit t.state) → (s : Spot PeriodInfo) → Every Allowed s.before × Allowed s.period
        → (n : ℕ) (x : List ℤ) → state_before net past m s n ≡ Some x → Fit x
    unfolding state_before
    state_fits past each s ok zero x is = subst Fit (same_Some (entered net m s (net.start m)) x is) (entered_fits s (net.start m) ok begins)
    state_fits past each s ok (suc n) x is = go (past m n) refl is
      where
        go : (o : Option (Turn (List ℤ) Raw)) → past m n ≡ o → option_map (λ (t : Turn (List ℤ) Raw). entered net m s t.state) o ≡ Some x → Fit x
        go None at is = absurd cc
        go (Some t) at is = subst Fit (same_Some (entered net m s t.state) x is) (entered_fits s t.state ok (each n t at))

    turn_fits : (p : PeriodRecord) → Allowed p → (b : Bool) (o : Option Raw) (i : Option (List (List Raw))) (c : Option (List ℤ)) (t : Turn (List ℤ) Raw) → ((x : List ℤ) → c ≡ Some x → Fit x)
        → (if b then option_map (sampled net m) o else option_and_then (λ (x : List ℤ). option_map (net.process m p x) i) c) ≡ Some t → Fit t.state
    turn_fits p low true None i c t each is = absurd cc
    turn_fits p low true (Some v) i c t each is = subst (λ (u : Turn (List ℤ) Raw). Fit u.state) (same_Some (sampled net m v) t is) begins
    turn_fits p low false o i None t each is = absurd cc
    turn_fits p low false o None (Some x) t each is = absurd cc
    turn_fits p low false o (Some given) (Some x) t each is =
        subst (λ (u : Turn (List ℤ) Raw). Fit u.state) (same_Some (net.process m p x given) t is) (acted_fits (actor_kind flat.tables m) p.info x given low (each x refl))

    spot_fits : (run : ClusterRun) → Every Allowed run.periods → (f n : ℕ) (t : Turn (List ℤ) Raw) → ((k : ℕ) (u : Turn (List ℤ) Raw) → known net run f m k ≡ Some u → Fit u.state)
        → (o : Option (Spot PeriodInfo)) → find (count m) [] run.periods n ≡ o → option_and_then (turn_at net run (known net run f) m n) o ≡ Some t → Fit t.state
    unfolding turn_at
    spot_fits run all f n t rest None there is = absurd cc
    spot_fits run all f n t rest (Some s) there is =
        let ok = find_every Allowed (count m) [] run.periods n s tt all there in
        turn_fits s.period ok.1 (net.is_sampler m) (slice_get (run.reads m) n) (inputs net run.periods (known net run f) m s 0 net.edges) (state_before net (known net run f) m s n) t
        (λ x now. state_fits (known net run f) rest s ok n x now) is

    known_fits : (run : ClusterRun) → Every Allowed run.periods → (f n : ℕ) (t : Turn (List ℤ) Raw) → known net run f m n ≡ Some t → Fit t.state
    unfolding known turn
    known_fits run all zero n t is = absurd cc
    known_fits run all (suc f) n t is = spot_fits run all f n t (λ k u now. known_fits run all f k u now) (find (count m) [] run.periods n) refl is

    pub play_fits : (old : List PeriodRecord) (p : PeriodRecord) (reads : ℕ → List Raw) (f : ℕ) (y : ClusterPlay) (x : List ℤ) → Every Allowed (old ++ p ∷ []) → Stands net old p reads f y
        → slice_get y.states m ≡ Some x → is_outside_cluster flat.tables number m ≡ false → Fit x
    play_fits old p reads f y x all stands there inside =
        state_fits (known net (run_of old p reads) f) (λ n t now. known_fits (run_of old p reads) all f n t now) (spot old p (slice_index y.turns m))
        (every_first Allowed old (p ∷ []) all, every_last Allowed old p all) (sum_by (count m) old + slice_index y.turns m) x (stands.states m x there inside)

  -- ---- rates

  none_low : RatesLow []
  none_low j l there = omega arith

  pub rates_low : (table : List AttrsOf) → All (HasAllowedRates flat) table → RatesLow (rates_in (attrs_at table m))
  rates_low [] all = none_low
  rates_low (a ∷ table) all = go (rates_low table (All-tail (HasAllowedRates flat) a table all)) (nat_eq a.number m) refl
    where
      go : RatesLow (rates_in (attrs_at table m)) → (b : Bool) → nat_eq a.number m ≡ b → RatesLow (rates_in (if b then Some a else attrs_at table m))
      go rest true same = λ j l there. (fits.each j l there).1
        where
          fits : RatesFit (map limits_of_rate (rate_spans_of flat.checked row.block)) a.rates
          fits = subst (λ (o : Option ModuleRow). RatesFit (limits_in flat.checked o) a.rates) (ap (slice_get flat.tables.modules) (eqb-true a.number m same) ∙ at) (All-head (HasAllowedRates flat) a table all)
      go rest false other = rest

  pub all_allowed : (number : ℕ) (ps : List PeriodRecord) → ((k : ℕ) (p : PeriodRecord) → slice_get ps k ≡ Some p → IsPeriodRecord flat number p) → Every Allowed ps
  all_allowed number [] each = tt
  all_allowed number (p ∷ ps) each = (rates_low p.info.table (each 0 p refl).timed.attributes.allowed, all_allowed number ps (λ k q there. each (suc k) q there))

  -- ---- starts

  begun_fits : StartsFit → (rates : List ℕ) → RatesLow rates → Fit (initialized model flat m rates)
  begun_fits starts rates low =
      done_fits body.Initialize (start_cells flat.checked (block_at flat.tables.modules m)) rates nothing_read low
      (subst (λ (o : Option ModuleRow). Fit (start_cells flat.checked (block_of_row o))) (sym at) (starts model flat.checked row.block checked))

  listed_fits : (table : List AttrsOf) (ms : List ModuleStateOf) → ((i : ℕ) (a : AttrsOf) (x : ModuleStateOf) → slice_get table i ≡ Some a → slice_get ms i ≡ Some x → a.number ≡ m → Fit x.cells)
      → (l : List ℤ) → list_for (map number_of table) (map (λ (x : ModuleStateOf). x.cells) ms) m ≡ Some l → Fit l
  listed_fits [] ms each l is = absurd cc
  listed_fits (a ∷ table) [] each l is = absurd cc
  listed_fits (a ∷ table) (x ∷ ms) each l is = go (λ later. listed_fits table ms (λ i b y one two same. each (suc i) b y one two same) l later) (nat_eq a.number m) refl is
    where
      go : (list_for (map number_of table) (map (λ (x : ModuleStateOf). x.cells) ms) m ≡ Some l → Fit l) → (b : Bool) → nat_eq a.number m ≡ b
          → (if b then Some x.cells else list_for (map number_of table) (map (λ (x : ModuleStateOf). x.cells) ms) m) ≡ Some l → Fit l
      go rest true same here = subst Fit (same_Some x.cells l here) (each 0 a x refl refl (eqb-true a.number m same))
      go rest false other later = rest later

  kept_fits : (o : Option (List ℤ)) (d : List ℤ) → ((l : List ℤ) → o ≡ Some l → Fit l) → Fit d → Fit (unwrap_or o d)
  kept_fits None d each fits = fits
  kept_fits (Some l) d each fits = each l refl

-- ---- the starts of streams

module _ (keep : BodiesKeepCells) (starts : StartsFit) (model : PureTree) (flat : Flat) (checked : IsCheckedOf model flat.checked) (number : ℕ) where
  -- that of the text
  pub text_fits : (table : List AttrsOf) → All (HasAllowedRates flat) table → HasFitCells flat (text_start model flat number table).cells
  text_fits table allowed m row at =
      let inside = slice_get_within flat.tables.modules m row at in
      subst (CellsFit flat.checked row.block) (sym (made_or (λ k. initialized model flat k (rates_in (attrs_at table k))) [] (length flat.tables.modules) m inside))
      (begun_fits keep model flat checked m row at starts (rates_in (attrs_at table m)) (rates_low keep model flat checked m row at table allowed))

  -- and that of a state
  module _ (s : ClusterStateOf) (time : ℕ) (table : List AttrsOf) (plan : Plan) (under : IsStateUnder flat number s time table plan) where
    row_fits : (m : ℕ) (row : ModuleRow) → slice_get flat.tables.modules m ≡ Some row → (i : ℕ) (a : AttrsOf) (x : ModuleStateOf) → slice_get table i ≡ Some a → slice_get s.modules i ≡ Some x → a.number ≡ m
        → CellsFit flat.checked row.block x.cells
    row_fits m row at i a x there held same =
        let long : length table ≡ length (first_table flat number) = sym (length-map table number_of) ∙ ap (λ (l : List ℕ). length l) under.table_is.holds.members ∙ length-map (first_table flat number) number_of in
        let inside = slice_get_within table i a there in
        let b = get_inside (first_table flat number) i (omega (arith, inside, long)) in
        let number_is : b.0.number ≡ a.number = some_same b.0.number a.number (sym (slice_get-map number_of (first_table flat number) i ∙ ap (option_map number_of) b.1)
        ∙ ap (λ (l : List ℕ). slice_get l i) (sym under.table_is.holds.members) ∙ slice_get-map number_of table i ∙ ap (option_map number_of) there) in
        subst (λ (o : Option ModuleRow). CellsFit flat.checked (block_of_row o) x.cells) (ap (slice_get flat.tables.modules) (number_is ∙ same) ∙ at) (under.modules.each i b.0 x b.1 held).cells

    pub state_fit : HasFitCells flat (state_start model flat number table s).cells
    state_fit m row at =
        let inside = slice_get_within flat.tables.modules m row at in
        subst (CellsFit flat.checked row.block) (sym (made_or (kept_by_state model flat table s) [] (length flat.tables.modules) m inside))
        (kept_fits keep model flat checked m row at (list_for (map number_of table) (map (λ (x : ModuleStateOf). x.cells) s.modules) m) (initialized model flat m (rates_in (attrs_at table m)))
        (λ l is. listed_fits keep model flat checked m row at table s.modules (λ i a x there held same. row_fits m row at i a x there held same) l is)
        (begun_fits keep model flat checked m row at starts (rates_in (attrs_at table m)) (rates_low keep model flat checked m row at table under.table_is.attributes.allowed)))
