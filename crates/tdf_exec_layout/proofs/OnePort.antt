-- A signal of samples has one `out` port.
use Rattle.std.proofs.Common.{◌≡◌, ◌∙◌, ◌≢◌, ℕ, zero, suc, ◌+◌, ◌<◌, ◌≤◌, Bool, true, false, cond, Option, Some, None, List, [], ◌∷◌, ◌++◌, append-nil, append_assoc, length, length-append, refl, ap, sym, subst, inl, inr, ◌⊎◌, arith, nat_eq, slice_get}
use Rattle.std.proofs.lemmas.Bool.{cases_eq, eq-eqb}
use Rattle.std.proofs.lemmas.List.{length-map}
use Rattle.std.proofs.lemmas.List.Elements.{filter-append}
use Rattle.std.proofs.lemmas.Option.{slice_get_within}
use Rattle.std.specs.List.{cons_option, enumerate_from}
use Rattle.std.specs.Prelude.{filter, filter_map}
use Rattle.tdf_base.specs.declared.codes.Code.{Code}
use Rattle.tdf_bind_invariants.specs.Below.{Flat, IsFlatOf, top_place}
use Rattle.tdf_streams.proofs.Api.{get_low, none_some, some_same}
use Rattle.tdf_bind_invariants.specs.Formats.{IsOwnPort, IsSoundModel, PortsHaveFormats, format_of_row, signal_format}
use Rattle.tdf_fixed.specs.declared.format.Format.{Format}
use Rattle.tdf_exec_layout.proofs.Picked.{complete}
use Rattle.tdf_exec_layout.specs.Traced.{SignalsHaveOnePort}
use Rattle.tdf_bind_attributes.specs.Roles.{roles_of}
use Rattle.tdf_lang_tree.specs.Pure.{PureTree}
use Rattle.tdf_lang_tree.specs.declared.blocks.PortKind.TheVariants.{Out}
use Rattle.tdf_bind_hierarchy.specs.Met.{Met, met_in}
use Rattle.tdf_bind_hierarchy.specs.Tables.{is_of, numbers_after, same_kind, met_signal}
use Rattle.tdf_bind_hierarchy.specs.declared.tables.Signal.{Signal}
use Rattle.tdf_bind_hierarchy.specs.declared.tables.SignalNumber.{SignalNumber}
use Rattle.tdf_bind_connections.specs.Drivers.{driver, driver_fault, driver_of, fault_of_driver, signal_row, writers_in}
use Rattle.tdf_bind_connections.specs.Writers.{gives, module_writers, port_writer}
use Rattle.tdf_bind_connections.specs.declared.drivers.SignalRow.{SignalRow}
use Rattle.tdf_bind_connections.specs.declared.modules.PortRow.{PortRow}
use Rattle.tdf_bind_connections.specs.declared.writers.Writer.{Writer}

-- what passes a test is among what is filtered
filter_has : {X : Type 0} (f : X → Bool) (xs : List X) (i : ℕ) (x : X) → slice_get xs i ≡ Some x → f x ≡ true → (j : ℕ) × (slice_get (filter f xs) j ≡ Some x)
filter_has f [] i x at passes = none_some x at
filter_has {X} f (y ∷ xs) zero x at passes = go (f y) (ap f (some_same y x at) ∙ passes)
  where
    go : (b : Bool) → b ≡ true → (j : ℕ) × (slice_get (cond b (y ∷ filter f xs) (filter f xs)) j ≡ Some x)
    go true is = (0, at)
    go false is = absurd (subst (λ c. elim c as (λ _. Type 0) [ true ↦ ⊥ | false ↦ Unit {0} ]) is tt)
filter_has {X} f (y ∷ xs) (suc i) x at passes = go (f y) (filter_has f xs i x at passes)
  where
    go : (b : Bool) → (j : ℕ) × (slice_get (filter f xs) j ≡ Some x) → (j : ℕ) × (slice_get (cond b (y ∷ filter f xs) (filter f xs)) j ≡ Some x)
    go true rest = (suc rest.0, rest.1)
    go false rest = rest

-- nothing comes of a list that gives nothing
gives_none : {A B : Type 0} (f : A → Option B) (xs : List A) (i : ℕ) (x : A) → filter_map f xs ≡ [] → slice_get xs i ≡ Some x → f x ≡ None
gives_none f [] i x none at = none_some x at
gives_none {A} {B} f (y ∷ xs) i x none at = go (f y) refl none i at (λ h k is. gives_none f xs k x h is)
  where
    full : (z : B) (zs : List B) → z ∷ zs ≡ [] → ⊥
    full z zs h = subst (λ l. elim l as (λ _. Type 0) [ [] ↦ ⊥ | u ∷ us ↦ Unit {0} ]) h tt

    go : (o : Option B) → f y ≡ o → cons_option o (filter_map f xs) ≡ [] → (i : ℕ) → slice_get (y ∷ xs) i ≡ Some x → (filter_map f xs ≡ [] → (k : ℕ) → slice_get xs k ≡ Some x → f x ≡ None) → f x ≡ None
    go None is empty zero at rest = ap f (sym (some_same y x at)) ∙ is
    go None is empty (suc i) at rest = rest empty i at
    go (Some z) is empty i at rest = absurd (full z (filter_map f xs) empty)

-- each signal of samples has its number in the order
abbrev samples : List Signal → ℕ
samples ss = length (filter (is_of false) ss)

samples_push : (before : List Signal) (x : Signal) (b : Bool) → x.event ≡ b → samples (before ++ x ∷ []) ≡ samples before + length (cond (same_kind false b) (x ∷ []) [])
samples_push before x b e = ap length (filter-append (is_of false) before (x ∷ [])) ∙ length-append (filter (is_of false) before) (filter (is_of false) (x ∷ []))
    ∙ ap (λ c. samples before + length (cond (same_kind false c) (x ∷ []) [])) e

abbrev number_of : ℕ → SignalNumber
number_of s = record { event = false; number = s }

in_order : (before ss : List Signal) (s : ℕ) → samples before ≤ s → s < samples (before ++ ss) → (i : ℕ) × (slice_get (numbers_after before ss) i ≡ Some (number_of s))
in_order before [] s low high = absurd (let e = ap samples (append-nil before) in omega (arith, low, high, e))
in_order before (x ∷ ss) s low high = by_event x.event refl (λ next. in_order (before ++ x ∷ []) ss s next (subst (λ l. s < samples l) (sym (append_assoc before (x ∷ []) ss)) high))
  where
    here : x.event ≡ false → (samples (before ++ x ∷ []) ≤ s → (i : ℕ) × (slice_get (numbers_after (before ++ x ∷ []) ss) i ≡ Some (number_of s))) → (samples before ≡ s) ⊎ (samples before ≢ s)
        → (i : ℕ) × (slice_get (numbers_after before (x ∷ ss)) i ≡ Some (number_of s))
    here e later (inl same) = (0, ap (λ c. Some (record { event = c; number = length (filter (is_of c) before) })) e ∙ ap (λ n. Some (number_of n)) same)
    here e later (inr other) = let r = later (let p = samples_push before x false e in omega (arith, low, p, other)) in (suc r.0, r.1)

    by_event : (b : Bool) → x.event ≡ b → (samples (before ++ x ∷ []) ≤ s → (i : ℕ) × (slice_get (numbers_after (before ++ x ∷ []) ss) i ≡ Some (number_of s))) → (i : ℕ) × (slice_get (numbers_after before (x ∷ ss)) i ≡ Some (number_of s))
    by_event true e later = let r = later (let p = samples_push before x true e in omega (arith, low, p)) in (suc r.0, r.1)
    by_event false e later = here e later (cases_eq (samples before) s)

-- writers of a signal without a fault are one
one_writer : (ws : List Writer) (i j : ℕ) (v w : Writer) → driver_fault false (driver_of ws) ≡ None → slice_get ws i ≡ Some v → slice_get ws j ≡ Some w → v ≡ w
one_writer [] i j v w fine vi wj = none_some v vi
one_writer (u ∷ []) zero zero v w fine vi wj = some_same v w (sym vi ∙ wj)
one_writer (u ∷ []) (suc i) j v w fine vi wj = none_some v vi
one_writer (u ∷ []) zero (suc j) v w fine vi wj = none_some w wj
one_writer (u ∷ x ∷ ws) i j v w fine vi wj = none_some _ (sym fine)

no_fault : (n : SignalNumber) (o : Option Code) → fault_of_driver n o ≡ None → o ≡ None
no_fault n None h = refl
no_fault n (Some code) h = none_some _ (sym h)

enumerated : {X : Type 0} (k : ℕ) (xs : List X) → length (enumerate_from k xs) ≡ length xs
enumerated k [] = refl
enumerated k (x ∷ xs) = ap suc (enumerated (k + 1) xs)

module _ (formats : PortsHaveFormats) (model : PureTree) (flat : Flat) (sound : IsSoundModel model) (is : IsFlatOf model flat) where
  abbrev writers : List Writer
  writers = writers_in (roles_of model) is.tables.tables flat.tables.ports false

  -- an `out` port is among the writers of its signal
  writes : (a : ℕ) (x : PortRow) → slice_get flat.tables.ports a ≡ Some x → x.kind ≡ Out → (j : ℕ) × (slice_get (filter (λ (w : Writer). nat_eq w.signal x.signal) writers) j ≡ Some (record { signal = x.signal; port = Some a }))
  writes a x at out =
      let given : port_writer false (0 + a) x ≡ Some (record { signal = x.signal; port = Some a }) =
      ap (λ k. cond (gives false k) (Some (record { signal = x.signal; port = Some (0 + a) })) None) out ∙ (let z : 0 + a ≡ a = omega arith in ap (λ n. Some (record { signal = x.signal; port = Some n })) z) in
      let found = complete (port_writer false) 0 flat.tables.ports a x (record { signal = x.signal; port = Some a }) at given in
      filter_has (λ (w : Writer). nat_eq w.signal x.signal) writers found.0 (record { signal = x.signal; port = Some a })
      (get_low (module_writers false flat.tables.ports) _ found.0 (slice_get_within (module_writers false flat.tables.ports) found.0 _ found.1) ∙ found.1)
      (eq-eqb x.signal x.signal refl)

  -- its signal is one of the model, whose driver has no fault
  has_row : (s : ℕ) (f : Format) (o : Option SignalRow) → slice_get flat.tables.signals s ≡ o → format_of_row o ≡ Some f → s < length flat.tables.signals
  has_row s f None at format = none_some f format
  has_row s f (Some row) at format = slice_get_within flat.tables.signals s row at

  inside : (a : ℕ) (x : PortRow) → slice_get flat.tables.ports a ≡ Some x → x.kind ≡ Out → x.signal < length flat.tables.signals
  inside a x at out =
      let h : IsOwnPort flat a x = formats model flat sound is a x at in
      has_row x.signal h.span.format (slice_get flat.tables.signals x.signal) refl (ap (λ k. signal_format flat.tables k x.signal) (sym out) ∙ h.format)

  fine : (s : ℕ) → s < length flat.tables.signals → driver_fault false (driver s writers) ≡ None
  fine s below =
      let long : length flat.tables.signals ≡ samples (filter_map met_signal met) =
      ap length is.tables.follows.signals.signals ∙ length-map (enumerate_from 0 is.tables.tables.signals) (λ signal. signal_row writers signal.0 signal.1) ∙ enumerated 0 is.tables.tables.signals ∙ ap length is.tables.met.signals in
      let found = in_order [] (filter_map met_signal met) s (omega arith) (omega (arith, below, long)) in
      let there : slice_get is.tables.tables.order found.0 ≡ Some (number_of s) = ap (λ l. slice_get l found.0) is.tables.met.order ∙ found.1 in
      no_fault (number_of s) (driver_fault false (driver s writers))
      (gives_none (λ (n : SignalNumber). fault_of_driver n (driver_fault n.event (driver n.number (writers_in (roles_of model) is.tables.tables flat.tables.ports n.event)))) is.tables.tables.order found.0 (number_of s) is.tables.follows.drivers there)
    where
      met : List Met
      met = met_in is.blocks (top_place is.blocks)

pub signals_have_one_port : PortsHaveFormats → SignalsHaveOnePort
signals_have_one_port formats model flat a b x y sound is xat yat xout yout same =
    let v = writes formats model flat sound is a x xat xout in
    let w = writes formats model flat sound is b y yat yout in
    let one = one_writer (filter (λ (u : Writer). nat_eq u.signal x.signal) (writers formats model flat sound is)) v.0 w.0 _ _
    (fine formats model flat sound is x.signal (inside formats model flat sound is a x xat xout)) v.1 (subst (λ s. slice_get (filter (λ (u : Writer). nat_eq u.signal s) (writers formats model flat sound is)) w.0 ≡ Some (record { signal = y.signal; port = Some b })) (sym same) w.1) in
    some_same a b (ap (λ (u : Writer). u.port) one)
