-- One trace more has its column.
use Rattle.std.proofs.Common.{◌≡◌, ℕ, zero, suc, ◌+◌, ◌<◌, Bool, true, false, nat_eq, not, ◌&&◌, ◌||◌, Option, Some, None, List, [], ◌∷◌, ◌++◌, length, map, slice_get, slice_set, refl, ap, sym, ◌∙◌, subst, inl, inr, arith}
use Rattle.std.proofs.lemmas.Bool.{cases_eq, cases_lt, eq-eqb, ne_eqb}
use Rattle.std.proofs.lemmas.List.Folds.{list_any-append}
use Rattle.std.proofs.lemmas.Option.{slice_get_past, slice_get_within}
use Rattle.std.proofs.Math.ListN.{replicate}
use Rattle.tdf_trace.proofs.ColumnPlaces.{First, Here, Last, There, alike, get_beyond, get_first, get_last, pushed, replaced, set_here, set_map, set_other, some_same}
use Rattle.tdf_trace.specs.Tracked.{TrackedOf}
use Rattle.tdf_trace.specs.Tracks.{AreTracked, Tracks}
use Rattle.tdf_trace.specs.Traces.{IsTrackingOf, is_among, shows_signal}
use Rattle.tdf_trace.specs.machine.Finding.{Finds, HasNone, HaveColumns, found, place_in}
use Rattle.tdf_trace.specs.machine.Going.{AddsTrace}
use Rattle.tdf_trace.specs.machine.Showing.{AreColumns}
use Rattle.tdf_trace_rows.specs.Stamping.{IsStamping}
use Rattle.tdf_trace_rows.specs.declared.stamps.Stamps.{Stamps}
use Rattle.tdf_bind_connections.specs.declared.traces.TraceRow.{TraceRow}

or_false : (p : Bool) → (p || false) ≡ p
or_false true = refl
or_false false = refl

-- which trace is one of a signal, with one more
is_of_more : (traces : List TraceRow) (row : TraceRow) (c s : ℕ) → shows_signal (slice_get (traces ++ row ∷ []) c) s ≡ (shows_signal (slice_get traces c) s || (nat_eq (length traces) c && shows_signal (Some row) s))
is_of_more traces row c s = elim (cases_lt c (length traces)) [
  | inl less ↦ ap (λ o. shows_signal o s) (get_first traces (row ∷ []) c less)
      ∙ sym (ap (λ (q : Bool). shows_signal (slice_get traces c) s || (q && shows_signal (Some row) s)) (ne_eqb (length traces) c (λ e. omega (arith, e, less))) ∙ or_false (shows_signal (slice_get traces c) s))
  | inr past ↦ elim (cases_eq (length traces) c) [
    | inl same ↦ ap (λ o. shows_signal o s) (ap (slice_get (traces ++ row ∷ [])) (sym same) ∙ get_last traces row)
        ∙ sym (ap (λ o. shows_signal o s || (nat_eq (length traces) c && shows_signal (Some row) s)) (slice_get_past traces c past) ∙ ap (λ (q : Bool). q && shows_signal (Some row) s) (eq-eqb (length traces) c same))
    | inr apart ↦ ap (λ o. shows_signal o s) (get_beyond traces row c (omega (arith, past, apart)))
        ∙ sym (ap (λ o. shows_signal o s || (nat_eq (length traces) c && shows_signal (Some row) s)) (slice_get_past traces c past) ∙ ap (λ (q : Bool). q && shows_signal (Some row) s) (ne_eqb (length traces) c apart))
  ]
]

-- a trace of another signal, or of none
other_row : (traces : List TraceRow) (row : TraceRow) (c s : ℕ) → shows_signal (Some row) s ≡ false → shows_signal (slice_get (traces ++ row ∷ []) c) s ≡ shows_signal (slice_get traces c) s
other_row traces row c s differs = is_of_more traces row c s ∙ ap (λ (x : Bool). shows_signal (slice_get traces c) s || (nat_eq (length traces) c && x)) differs
    ∙ ap (λ (x : Bool). shows_signal (slice_get traces c) s || x) (and_false (nat_eq (length traces) c)) ∙ or_false (shows_signal (slice_get traces c) s)
  where
    and_false : (p : Bool) → (p && false) ≡ false
    and_false true = refl
    and_false false = refl

-- a trace of this signal
this_row : (traces : List TraceRow) (row : TraceRow) (c s : ℕ) → shows_signal (Some row) s ≡ true → shows_signal (slice_get (traces ++ row ∷ []) c) s ≡ (shows_signal (slice_get traces c) s || (nat_eq (length traces) c || false))
this_row traces row c s same = is_of_more traces row c s ∙ ap (λ (x : Bool). shows_signal (slice_get traces c) s || (nat_eq (length traces) c && x)) same
    ∙ ap (λ (x : Bool). shows_signal (slice_get traces c) s || x) (and_true (nat_eq (length traces) c))
  where
    and_true : (p : Bool) → (p && true) ≡ (p || false)
    and_true true = refl
    and_true false = refl

is_this : (row : TraceRow) (s : ℕ) → row.event ≡ false → row.signal ≡ s → shows_signal (Some row) s ≡ true
is_this row s samples same = ap (λ (e : Bool). not e && nat_eq row.signal s) samples ∙ eq-eqb row.signal s same

is_other : (row : TraceRow) (s : ℕ) → row.event ≡ false → (row.signal ≡ s → ⊥) → shows_signal (Some row) s ≡ false
is_other row s samples apart = ap (λ (e : Bool). not e && nat_eq row.signal s) samples ∙ ne_eqb row.signal s apart

pub adds_event : (row : TraceRow) (column : ℕ) (list : List TrackedOf) → row.event ≡ true → AddsTrace row column list list
adds_event row column list event = record {
  of = λ traces len of. record {
    once = of.once;
    columns = λ i t at c. of.columns i t at c ∙ sym (other_row traces row c t.signal (ap (λ (e : Bool). not e && nat_eq row.signal t.signal) event));
    all = λ c r at is. elim (pushed traces row c r at) [
      | First less old ↦ of.all c r old is
      | Last same k ↦ absurd (true_false (sym event ∙ ap (λ (x : TraceRow). x.event) (sym k) ∙ is))
    ];
  };
  fresh = λ h. h;
}
  where
    true_false : true ≡ false → ⊥
    true_false e = absurd (grind (arith, e))

tracks_same : (t u : TrackedOf) → u.stamps ≡ t.stamps → u.waiting ≡ t.waiting → Tracks [] [] t → Tracks [] [] u
tracks_same t u stamps waiting k = record {
  done = k.done;
  stamping = subst (λ s. IsStamping [] k.done s) (sym stamps) k.stamping;
  many = ap (λ xs. k.done + length xs) waiting ∙ k.many;
  waiting = waiting ∙ k.waiting;
  idle = λ some. ap (λ (s : Stamps). s.left) stamps ∙ k.idle (subst (λ xs. 0 < length xs) waiting some);
  chained = k.chained;
}

pub adds_column : (row : TraceRow) (column : ℕ) (list : List TrackedOf) (i : ℕ) (t u : TrackedOf) → row.event ≡ false → slice_get list i ≡ Some t → t.signal ≡ row.signal
    → u.signal ≡ t.signal → u.columns ≡ t.columns ++ column ∷ [] → u.stamps ≡ t.stamps → u.waiting ≡ t.waiting → AddsTrace row column list (slice_set list i u)
adds_column row column list i t u samples at is signal columns stamps waiting = record {
  of = λ traces len of. record {
    once = λ j k a b aj ak e. (let x = alike (λ (v : TrackedOf). v.signal) (slice_set list i u) list j a signals aj in let y = alike (λ (v : TrackedOf). v.signal) (slice_set list i u) list k b signals ak in
        of.once j k x.0 y.0 x.1 y.1 (x.2 ∙ e ∙ sym y.2));
    columns = λ j w aw c. elim (replaced list i u t j w at aw) [
      | Here here k ↦ subst (λ (v : TrackedOf). is_among v.columns c ≡ shows_signal (slice_get (traces ++ row ∷ []) c) v.signal) (sym k)
          (ap (λ cs. is_among cs c) columns ∙ list_any-append (λ n. nat_eq n c) t.columns (column ∷ [])
          ∙ ap (λ (p : Bool). p || (nat_eq column c || false)) (of.columns i t at c ∙ ap (shows_signal (slice_get traces c)) (sym signal))
          ∙ ap (λ n. shows_signal (slice_get traces c) u.signal || (nat_eq n c || false)) (sym len)
          ∙ sym (this_row traces row c u.signal (is_this row u.signal samples (sym (signal ∙ is)))))
      | There apart old ↦ of.columns j w old c ∙ sym (other_row traces row c w.signal (is_other row w.signal samples (λ e. apart (of.once j i w t old at (sym e ∙ sym is)))))
    ];
    all = λ c r ar plain. elim (pushed traces row c r ar) [
      | First less old ↦ (let w = of.all c r old plain in let x = alike (λ (v : TrackedOf). v.signal) list (slice_set list i u) w.place w.it (sym signals) w.there in
          record { place = w.place; it = x.0; there = x.1; same = x.2 ∙ w.same })
      | Last same k ↦ record { place = i; it = u; there = set_here list i u (slice_get_within list i t at); same = signal ∙ is ∙ ap (λ (x : TraceRow). x.signal) (sym k) }
    ];
  };
  fresh = λ h j w aw. elim (replaced list i u t j w at aw) [
    | Here here k ↦ subst (λ (v : TrackedOf). Tracks [] [] v) (sym k) (tracks_same t u stamps waiting (h i t at))
    | There apart old ↦ h j w old
  ];
}
  where
    signals : map (λ (v : TrackedOf). v.signal) (slice_set list i u) ≡ map (λ (v : TrackedOf). v.signal) list
    signals = set_map (λ (v : TrackedOf). v.signal) list i u t at signal

pub adds_signal : (row : TraceRow) (column : ℕ) (list : List TrackedOf) (u : TrackedOf) → row.event ≡ false → HasNone list row.signal
    → u.signal ≡ row.signal → u.columns ≡ column ∷ [] → Tracks [] [] u → AddsTrace row column list (list ++ u ∷ [])
adds_signal row column list u samples none signal columns tracks = record {
  of = λ traces len of. record {
    once = λ j k a b aj ak e. elim (pushed list u j a aj) [
      | First less old ↦ elim (pushed list u k b ak) [
        | First low was ↦ of.once j k a b old was e
        | Last same was ↦ absurd (none j a old (e ∙ ap (λ (v : TrackedOf). v.signal) was ∙ signal))
      ]
      | Last here old ↦ elim (pushed list u k b ak) [
        | First low was ↦ absurd (none k b was (sym e ∙ ap (λ (v : TrackedOf). v.signal) old ∙ signal))
        | Last same was ↦ here ∙ sym same
      ]
    ];
    columns = λ j w aw c. elim (pushed list u j w aw) [
      | First less old ↦ of.columns j w old c ∙ sym (other_row traces row c w.signal (is_other row w.signal samples (λ e. none j w old (sym e))))
      | Last here k ↦ subst (λ (v : TrackedOf). is_among v.columns c ≡ shows_signal (slice_get (traces ++ row ∷ []) c) v.signal) (sym k)
          (ap (λ cs. is_among cs c) columns ∙ ap (λ n. nat_eq n c || false) (sym len)
          ∙ sym (this_row traces row c u.signal (is_this row u.signal samples (sym signal)) ∙ ap (λ (p : Bool). p || (nat_eq (length traces) c || false)) (unseen traces of c (slice_get traces c) refl)))
    ];
    all = λ c r ar plain. elim (pushed traces row c r ar) [
      | First less old ↦ (let w = of.all c r old plain in
          record { place = w.place; it = w.it; there = get_first list (u ∷ []) w.place (slice_get_within list w.place w.it w.there) ∙ w.there; same = w.same })
      | Last same k ↦ record { place = length list; it = u; there = get_last list u; same = signal ∙ ap (λ (x : TraceRow). x.signal) (sym k) }
    ];
  };
  fresh = λ h j w aw. elim (pushed list u j w aw) [
    | First less old ↦ h j w old
    | Last here k ↦ subst (λ (v : TrackedOf). Tracks [] [] v) (sym k) tracks
  ];
}
  where
    unseen : (traces : List TraceRow) (of : IsTrackingOf traces list) (c : ℕ) (o : Option TraceRow) → slice_get traces c ≡ o → shows_signal o u.signal ≡ false
    unseen traces of c None e = refl
    unseen traces of c (Some r) e = go r.event refl
      where
        go : (b : Bool) → r.event ≡ b → (not b && nat_eq r.signal u.signal) ≡ false
        go true k = refl
        go false k = ne_eqb r.signal u.signal (λ s. (let w = of.all c r e k in none w.place w.it w.there (w.same ∙ s ∙ signal)))

pub none_found : (n s : ℕ) → found (replicate n None) s ≡ None
none_found zero s = refl
none_found (suc n) zero = refl
none_found (suc n) (suc s) = none_found n s

pub none_finds : (n : ℕ) → Finds (replicate n None) []
none_finds n = record {
  there = λ signal place is. absurd (none_some place (sym (none_found n signal) ∙ is));
  back = λ place t at. absurd (none_item t at);
}
  where
    none_some : (k : ℕ) → None ≡ Some k → ⊥
    none_some k e = absurd (grind (arith, e))

    none_item : (t : TrackedOf) → None ≡ Some t → ⊥
    none_item t e = absurd (grind (arith, e))

pub finds_more : (places : List (Option ℕ)) (list : List TrackedOf) (u : TrackedOf) → u.signal < length places → HasNone list u.signal → Finds places list → Finds (slice_set places u.signal (Some (length list))) (list ++ u ∷ [])
finds_more places list u inside none finds = record {
  there = λ signal place is. elim (cases_eq signal u.signal) [
    | inl same ↦ (let e : length list ≡ place = some_same (length list) place (sym (ap (found (slice_set places u.signal (Some (length list)))) same ∙ here) ∙ is) in
        record { it = u; there = ap (slice_get (list ++ u ∷ [])) (sym e) ∙ get_last list u; same = sym same })
    | inr apart ↦ (let w = finds.there signal place (sym (there signal apart) ∙ is) in
        record { it = w.it; there = get_first list (u ∷ []) place (slice_get_within list place w.it w.there) ∙ w.there; same = w.same })
  ];
  back = λ place t at. elim (pushed list u place t at) [
    | First less old ↦ there t.signal (none place t old) ∙ finds.back place t old
    | Last same k ↦ ap (λ (v : TrackedOf). found (slice_set places u.signal (Some (length list))) v.signal) k ∙ here ∙ ap Some (sym same)
  ];
}
  where
    here : found (slice_set places u.signal (Some (length list))) u.signal ≡ Some (length list)
    here = ap place_in (set_here places u.signal (Some (length list)) inside)

    there : (s : ℕ) → (s ≡ u.signal → ⊥) → found (slice_set places u.signal (Some (length list))) s ≡ found places s
    there s apart = ap place_in (set_other places u.signal s (Some (length list)) apart)

pub columns_more : (width : ℕ) (list : List TrackedOf) (u : TrackedOf) → AreColumns width u.columns → HaveColumns width list → HaveColumns width (list ++ u ∷ [])
columns_more width list u new have place t at = elim (pushed list u place t at) [
  | First less old ↦ have place t old
  | Last same k ↦ subst (λ (v : TrackedOf). AreColumns width v.columns) (sym k) new
]

pub finds_pushed : (places : List (Option ℕ)) (list more : List TrackedOf) (u : TrackedOf) (signal place : ℕ) → u.signal ≡ signal → place ≡ length list → more ≡ list ++ u ∷ [] → signal < length places → HasNone list signal
    → Finds places list → Finds (slice_set places signal (Some place)) more
finds_pushed places list more u signal place is at grown inside none finds =
    subst (λ (l : List TrackedOf). Finds (slice_set places signal (Some place)) l) (sym grown)
    (subst (λ p. Finds (slice_set places signal (Some p)) (list ++ u ∷ [])) (sym at)
    (subst (λ s. Finds (slice_set places s (Some (length list))) (list ++ u ∷ [])) is
    (finds_more places list u (subst (λ s. s < length places) (sym is) inside) (subst (HasNone list) (sym is) none) finds)))

pub nothing_of : IsTrackingOf [] []
nothing_of = record {
  once = λ i j t u at au e. absurd (none_item t at);
  columns = λ i t at c. absurd (none_item t at);
  all = λ c row at plain. absurd (none_row row at);
}
  where
    none_item : (t : TrackedOf) → None ≡ Some t → ⊥
    none_item t e = absurd (grind (arith, e))

    none_row : (t : TraceRow) → None ≡ Some t → ⊥
    none_row t e = absurd (grind (arith, e))

pub nothing_tracked : (list : List TrackedOf) → list ≡ [] → AreTracked (λ signal. []) (λ signal. []) list
nothing_tracked list is i t at = absurd (none_item (sym (ap (λ (l : List TrackedOf). slice_get l i) is) ∙ at))
  where
    none_item : None ≡ Some t → ⊥
    none_item e = absurd (grind (arith, e))
