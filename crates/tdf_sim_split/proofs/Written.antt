-- What a module writes at a port is of the port's format.
use Rattle.std.proofs.Common.{◌≡◌, ◌∙◌, ℕ, ℤ, zero, suc, ◌+◌, ◌-◌, ◌<◌, ◌≤◌, ◌&&◌, Bool, true, false, if◌then◌else◌, min, nat_eq, Option, Some, None, List, [], ◌∷◌, ◌++◌, length, map, pos, replicate, slice_get, take, refl, ap, sym, subst, arith}
use Rattle.std.proofs.Math.Seq.{take-nil}
use Rattle.std.proofs.lemmas.Bool.{eqb-true}
use Rattle.std.proofs.lemmas.List.Elements.{All-head, All-tail}
use Rattle.std.proofs.lemmas.List.{get_or-append_right, get_or-replicate, get_or_append_left, length-append, length-map, length-replicate, length-take}
use Rattle.std.proofs.lemmas.Option.{same_Some, slice_get_within}
use Rattle.std.specs.List.{All}
use Rattle.tdf_bind.specs.Flat.{IsFlatOf}
use Rattle.tdf_bind.specs.declared.model.Flat.{Flat}
use Rattle.tdf_bind_connections.specs.declared.edges.EdgeRow.{EdgeRow}
use Rattle.tdf_bind_connections.specs.declared.modules.ModuleRow.{ModuleRow}
use Rattle.tdf_bind_connections.specs.declared.modules.PortRow.{PortRow}
use Rattle.tdf_bind_invariants.proofs.Api.{starts_are_allowed}
use Rattle.tdf_bind_invariants.specs.Formats.{IsOwnPort, IsSoundModel, PortsHaveFormats}
use Rattle.tdf_bind_invariants.specs.Limits.{AreWithinLimits, IsAlwaysRate, limits_in}
use Rattle.tdf_dynamic_plans.specs.Attributes.{AttrsOf, attrs_at, rates_in}
use Rattle.tdf_dynamic_plans.specs.Rates.{rate_by}
use Rattle.tdf_exec_firing.specs.Activation.{num_of, port_samples, ports_before, sample_of_span, samples_from}
use Rattle.tdf_exec_layout.proofs.Api.{at_place, edge_row, read_by}
use Rattle.tdf_expr.proofs.Api.{zero_in}
use Rattle.tdf_expr.specs.Blocks.{PureBlock, blocks_of}
use Rattle.tdf_expr.specs.Frames.{AreConsecutive, IsOfFormat, is_written, limits_of_rate}
use Rattle.tdf_expr.specs.Made.{event_count, port_spans_of, rate_spans_of, start_rates}
use Rattle.tdf_expr.specs.declared.bodies.Body.TheVariants as body
use Rattle.tdf_expr.specs.declared.bodies.Body.{Body}
use Rattle.tdf_expr.specs.declared.spans.PortSpan.{PortSpan}
use Rattle.tdf_expr_laws.specs.Cells.{AreAtMost}
use Rattle.tdf_expr_laws.specs.Samples.{BodiesKeepSamples, PortsLieInOrder, WrittenFit}
use Rattle.tdf_expr_semantics.specs.Fits.{RatesFit}
use Rattle.tdf_expr_state.specs.State.{State, cell_at, state_of}
use Rattle.tdf_fixed.specs.Overflow.{IsOfWidth}
use Rattle.tdf_fixed.specs.declared.raw.Raw.{Raw}
use Rattle.tdf_graph.specs.declared.actors.Actor.TheVariants as actor
use Rattle.tdf_lang_tree.specs.Pure.{PureTree}
use Rattle.tdf_sim_refinement.proofs.Api.{all_at}
use Rattle.tdf_streams.proofs.Api.{none_some, some_same}
use Rattle.tdf_streams.specs.Bodies.{after_part, done_by, module_acted, module_rates}
use Rattle.tdf_streams.specs.Periods.{HasAllowedRates, PeriodRecord}
use Rattle.tdf_streams.specs.Places.{actor_kind, block_at, block_of_row, place_of_port, read_through}
use Rattle.tdf_streams.specs.Signals.{rate_in}

-- ---- samples before a body runs

-- the samples of each port come after those of the ports before it
later_on : (first : ℕ) (spans : List PortSpan) (n : ℕ) (p : PortSpan) → AreConsecutive first spans → slice_get spans n ≡ Some p → first ≤ p.first
later_on first [] n p row at = none_some p at
later_on first (q ∷ spans) zero p row at = subst (λ (x : PortSpan). first ≤ x.first) (some_same q p at) (let z = row.0 in omega (arith, z))
later_on first (q ∷ spans) (suc n) p row at = let rest = later_on (first + q.count) spans n p row.1 at in omega (arith, rest)

port_long : (p : PortSpan) (read : List Raw) → length (port_samples p read) ≡ p.count
port_long p read =
    let front : length (take p.count (map num_of read)) ≡ min p.count (length read) = length-take p.count (map num_of read) ∙ ap (min p.count) (length-map read num_of) in
    length-append (take p.count (map num_of read)) (replicate (p.count - length read) (pos 0))
    ∙ omega (arith, front, length-replicate (p.count - length read) (pos 0))

no_samples : (p : PortSpan) → port_samples p [] ≡ replicate p.count (pos 0)
no_samples p =
    ap (λ l. l ++ replicate (p.count - 0) (pos 0)) (take-nil p.count)
    ∙ (let z : p.count - 0 ≡ p.count = omega arith in ap (λ n. replicate n (pos 0)) z)

-- those of a port that reads nothing are 0
unread : (read : ℕ → List Raw) (place first : ℕ) (spans : List PortSpan) (n k i : ℕ) (p : PortSpan) → AreConsecutive first spans → slice_get spans n ≡ Some p → k < p.count → read (place + n) ≡ [] → p.first + k ≡ first + i
    → cell_at (samples_from read place spans) i ≡ pos 0
unfolding samples_from
unread read place first [] n k i p row at inside none here = none_some p at
unread read place first (q ∷ spans) zero k i p row at inside none here =
    let same = some_same q p at in
    let start : p.first ≡ first = sym (ap (λ (x : PortSpan). x.first) same) ∙ row.0 in
    let many : q.count ≡ p.count = ap (λ (x : PortSpan). x.count) same in
    let low : i < q.count = omega (arith, here, start, many, inside) in
    let z : place + 0 ≡ place = omega arith in
    let blank : port_samples q (read place) ≡ replicate q.count (pos 0) = ap (λ j. port_samples q (read j)) (sym z) ∙ ap (port_samples q) none ∙ no_samples q in
    ap (λ l. cell_at (l ++ samples_from read (place + 1) spans) i) blank
    ∙ get_or_append_left (replicate q.count (pos 0)) (samples_from read (place + 1) spans) (pos 0) i (let l = length-replicate q.count (pos 0) in omega (arith, low, l))
    ∙ get_or-replicate q.count i (pos 0) (pos 0) low
unread read place first (q ∷ spans) (suc n) k i p row at inside none here =
    let up = later_on (first + q.count) spans n p row.1 at in
    let z : place + suc n ≡ place + 1 + n = omega arith in
    get_or-append_right (port_samples q (read place)) (samples_from read (place + 1) spans) q.count i (pos 0) (port_long q (read place)) (omega (arith, up, here))
    ∙ unread read (place + 1) (first + q.count) spans n k (i - q.count) p row.1 at inside (ap read (sym z) ∙ none) (omega (arith, up, here))

-- what is read through a port that gives no edge
none_read : (ports : List PortRow) (m place : ℕ) (edges : List EdgeRow) (lists : List (List Raw))
    → ((d : ℕ) (edge : EdgeRow) → slice_get edges d ≡ Some edge → edge.reader ≡ m → place_of_port ports edge.port ≡ place → ⊥) → read_through ports m edges lists place ≡ []
none_read ports m place [] lists none = refl
none_read ports m place (edge ∷ edges) [] none = refl
none_read ports m place (edge ∷ edges) (xs ∷ lists) none =
    go (none_read ports m place edges lists (λ d x at. none (suc d) x at)) (nat_eq edge.reader m) refl (nat_eq (place_of_port ports edge.port) place) refl
  where
    go : read_through ports m edges lists place ≡ [] → (a : Bool) → nat_eq edge.reader m ≡ a → (b : Bool) → nat_eq (place_of_port ports edge.port) place ≡ b
        → (if a && b then xs else read_through ports m edges lists place) ≡ []
    go rest true reader true port = absurd (none 0 edge refl (eqb-true edge.reader m reader) (eqb-true (place_of_port ports edge.port) place port))
    go rest true reader false port = rest
    go rest false reader b port = rest

not_both : (b : Bool) → b ≡ true → b ≡ false → ⊥
not_both true on off = absurd cc
not_both false on off = absurd cc

-- ---- rates

module _ (flat : Flat) where
  abbrev pub HasAllowed : PeriodRecord → Type 0
  HasAllowed p = All (HasAllowedRates flat) p.info.table

  given_rates : (table : List AttrsOf) (m : ℕ) (attrs : AttrsOf) → All (HasAllowedRates flat) table → attrs_at table m ≡ Some attrs → RatesFit (limits_in flat.checked (slice_get flat.tables.modules m)) attrs.rates
  given_rates [] m attrs all at = none_some attrs at
  given_rates (a ∷ table) m attrs all at = go (given_rates table m attrs (All-tail (HasAllowedRates flat) a table all)) (nat_eq a.number m) refl at
    where
      go : (attrs_at table m ≡ Some attrs → RatesFit (limits_in flat.checked (slice_get flat.tables.modules m)) attrs.rates) → (b : Bool) → nat_eq a.number m ≡ b → (if b then Some a else attrs_at table m) ≡ Some attrs
          → RatesFit (limits_in flat.checked (slice_get flat.tables.modules m)) attrs.rates
      go rest true same here = subst (λ (x : AttrsOf). RatesFit (limits_in flat.checked (slice_get flat.tables.modules m)) x.rates) (same_Some a attrs here)
          (subst (λ n. RatesFit (limits_in flat.checked (slice_get flat.tables.modules n)) a.rates) (eqb-true a.number m same) (All-head (HasAllowedRates flat) a table all))
      go rest false other later = rest later

  rates_most : (table : List AttrsOf) (m : ℕ) (row : ModuleRow) → slice_get flat.tables.modules m ≡ Some row → All (HasAllowedRates flat) table
      → AreAtMost (map limits_of_rate (rate_spans_of flat.checked row.block)) (rates_in (attrs_at table m))
  rates_most table m row at all = go (attrs_at table m) refl
    where
      go : (o : Option AttrsOf) → attrs_at table m ≡ o → AreAtMost (map limits_of_rate (rate_spans_of flat.checked row.block)) (rates_in o)
      go None none = λ j l there. omega arith
      go (Some attrs) there = λ j l is. (fits.each j l is).1
        where
          fits : RatesFit (map limits_of_rate (rate_spans_of flat.checked row.block)) attrs.rates
          fits = subst (λ (o : Option ModuleRow). RatesFit (limits_in flat.checked o) attrs.rates) at (given_rates table m attrs all there)

-- ---- a module

module _ (keep : BodiesKeepSamples) (placed : PortsLieInOrder) (formats : PortsHaveFormats) (model : PureTree) (flat : Flat) (sound : IsSoundModel model) (is : IsFlatOf model flat) where
  module _ (m : ℕ) (below : m < length flat.tables.modules) where
    abbrev block : ℕ
    block = block_at flat.tables.modules m

    abbrev spans : List PortSpan
    spans = port_spans_of flat.checked block

    abbrev RatesLow : List ℕ → Type 0
    RatesLow rates = AreAtMost (map limits_of_rate (rate_spans_of flat.checked block)) rates

    -- nothing is read through a port that it writes
    read_nothing : (n : ℕ) (p : PortSpan) (given : List (List Raw)) → slice_get spans n ≡ Some p → is_written p.word ≡ true → read_through flat.tables.ports m flat.tables.edges given n ≡ []
    read_nothing n p given at out = none_read flat.tables.ports m n flat.tables.edges given never
      where
        never : (d : ℕ) (edge : EdgeRow) → slice_get flat.tables.edges d ≡ Some edge → edge.reader ≡ m → place_of_port flat.tables.ports edge.port ≡ n → ⊥
        never d edge there reader place =
            let r = read_by formats model flat sound is m below edge (edge_row model flat is d edge there) reader in
            let h = at_place formats model flat sound is edge.port r.port r.at in
            let same : p ≡ h.span = some_same p h.span (sym at ∙ ap (slice_get spans) (sym place)
            ∙ ap (λ k. slice_get (port_spans_of flat.checked (block_at flat.tables.modules k)) (place_of_port flat.tables.ports edge.port)) (sym r.own) ∙ h.at) in
            not_both (is_written p.word) out (ap (λ (x : PortSpan). is_written x.word) same ∙ ap is_written h.word ∙ r.word)

    begins_fit : (given : List (List Raw)) → WrittenFit spans (samples_from (read_through flat.tables.ports m flat.tables.edges given) 0 spans)
    begins_fit given n k p at out inside =
        let z : 0 + n ≡ n = omega arith in
        subst (IsOfWidth p.format.signed p.format.wl)
        (sym (unread (read_through flat.tables.ports m flat.tables.edges given) 0 0 spans n k (p.first + k) p (placed model flat.checked block is.bodies) at inside
        (ap (read_through flat.tables.ports m flat.tables.edges given) z ∙ read_nothing n p given at out) (omega arith)))
        (zero_in p.format.signed p.format.wl)

    part_fits : (part : Body) (s : State) (o : Option PureBlock) → slice_get (blocks_of model.globals) block ≡ o → RatesLow s.frame.rates → WrittenFit spans s.ports.samples → WrittenFit spans (after_part model o part s).ports.samples
    part_fits part s None there low fits = fits
    part_fits part s (Some b) there low fits = keep model flat.checked block b part s is.bodies there low fits

    done_fits : (cells : List ℤ) (rates : List ℕ) (given : List (List Raw)) → RatesLow rates
        → WrittenFit spans (done_by model flat m body.Processing cells rates (read_through flat.tables.ports m flat.tables.edges given)).ports.samples
    unfolding done_by
    done_fits cells rates given low =
        part_fits body.Processing (state_of (record { cells = cells; rates = rates }) (ports_before spans (event_count flat.checked block) (read_through flat.tables.ports m flat.tables.edges given)))
        (slice_get (blocks_of model.globals) block) refl low (begins_fit given)

  -- ---- a port that it writes

  module _ (limits : AreWithinLimits flat) (number : ℕ) (port : PortRow) (there : slice_get flat.tables.ports number ≡ Some port) (out : is_written port.kind ≡ true) (kind_is : actor_kind flat.tables port.«module» ≡ Some actor.Module) where
    abbrev own : IsOwnPort flat number port
    own = formats model flat sound is number port there

    -- it has a place for one sample at least
    some_place : 1 ≤ own.span.count
    some_place =
        let starts : RatesFit (limits_in flat.checked (Some own.row)) (start_rates flat.checked own.row.block) = starts_are_allowed flat.checked limits.checked_is own.row.block in
        let rate = all_at (λ (p : PortRow). IsAlwaysRate (limits_in flat.checked (slice_get flat.tables.modules p.«module»)) p.rate) flat.tables.ports number port limits.always there (start_rates flat.checked own.row.block)
        (subst (λ o. RatesFit (limits_in flat.checked o) (start_rates flat.checked own.row.block)) (sym own.module_is) starts) in
        let low = rate.some in
        let high = own.wide (start_rates flat.checked own.row.block) starts in
        omega (arith, low, high)

    rate_within : (q : PeriodRecord) → HasAllowed flat q → rate_in port q ≤ own.span.count
    rate_within q allowed = go (attrs_at q.info.table port.«module») refl
      where
        go : (o : Option AttrsOf) → attrs_at q.info.table port.«module» ≡ o → rate_by port o ≤ own.span.count
        go None none = some_place
        go (Some attrs) is_in = own.wide attrs.rates (subst (λ o. RatesFit (limits_in flat.checked o) attrs.rates) own.module_is (given_rates flat q.info.table port.«module» attrs allowed is_in))

    -- what it writes there is of the format of the port
    pub output_in : (p q : PeriodRecord) (cells : List ℤ) (given : List (List Raw)) (k : ℕ) → HasAllowed flat p → HasAllowed flat q → k < rate_in port q
        → IsOfFormat own.span.format ((module_acted model flat port.«module» (actor_kind flat.tables port.«module») p.info cells given).outputs number k)
    output_in p q cells given k allowed other low =
        let within = rate_within q other in
        let below = slice_get_within flat.tables.modules port.«module» own.row own.module_is in
        let most : AreAtMost (map limits_of_rate (rate_spans_of flat.checked (block_at flat.tables.modules port.«module»))) (module_rates p.info port.«module») =
        subst (λ o. AreAtMost (map limits_of_rate (rate_spans_of flat.checked (block_of_row o))) (module_rates p.info port.«module»)) (sym own.module_is) (rates_most flat p.info.table port.«module» own.row own.module_is allowed) in
        let at : slice_get (port_spans_of flat.checked (block_at flat.tables.modules port.«module»)) (place_of_port flat.tables.ports number) ≡ Some own.span =
        ap (λ o. slice_get (port_spans_of flat.checked (block_of_row o)) (place_of_port flat.tables.ports number)) own.module_is ∙ own.at in
        subst (λ o. IsOfFormat own.span.format ((module_acted model flat port.«module» o p.info cells given).outputs number k)) (sym kind_is)
        (subst (λ o. IsOfFormat own.span.format (sample_of_span (done_by model flat port.«module» body.Processing cells (module_rates p.info port.«module») (read_through flat.tables.ports port.«module» flat.tables.edges given)).ports.samples k o)) (sym at)
        (record {
          frac = refl;
          num = done_fits port.«module» below cells (module_rates p.info port.«module») given most (place_of_port flat.tables.ports number) k own.span at (ap is_written own.word ∙ out) (omega (arith, within, low));
        }))
