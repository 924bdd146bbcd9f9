-- What a walk adds to the tables.
use Rattle.std.proofs.Common.{◌≡◌, ◌∙◌, ℕ, ◌+◌, ◌<◌, zero, suc, Bool, true, false, List, [], ◌∷◌, ◌++◌, Option, Some, None, length, refl, sym, ap, subst, arith}
use Rattle.std.proofs.lemmas.List.{length-map, length-append, append_assoc, append-nil}
use Rattle.std.proofs.lemmas.List.Elements.{filter-append, filter_map-append, recursion_from_All}
use Rattle.std.specs.List.{flat_map, AllZip, AllByRecursion, slice_index_or}
use Rattle.std.specs.Prelude.{map, slice_get, filter, filter_map, cond, All}
use Rattle.tdf_bind_hierarchy.specs.Blocks.{InstanceOf, BlockOf}
use Rattle.tdf_bind_hierarchy.specs.Bound.{IsTarget, IsInstanceBound, AreBound}
use Rattle.tdf_bind_hierarchy.specs.Met.{PlacedInstance, Met, MetSignal, MetInstance, placed_signal, reached_by, placed, with_inside, in_block, inside}
use Rattle.tdf_bind_hierarchy.specs.Tables.{RowOf, TablesOf, table, met_signal, met_instance, same_kind, is_of, signals_of, numbers_after, IsNumberOf, StandsFor, IsRowOf}
use Rattle.tdf_bind_hierarchy.specs.machine.Walk.{next_number, put_number, put_in, put_signal, put_row, number_at, number_of, put_signals, numbered_in, row_of, walked_row, walked_all, walked_in, walked}
use Rattle.tdf_bind_hierarchy.specs.declared.blocks.SignalLine.{SignalLine}
use Rattle.tdf_bind_hierarchy.specs.declared.blocks.Target.{Target}
use Rattle.tdf_bind_hierarchy.specs.declared.blocks.Target.TheVariants.{Own, Outer}
use Rattle.tdf_bind_hierarchy.specs.declared.tables.Signal.{Signal}
use Rattle.tdf_bind_hierarchy.specs.declared.tables.SignalNumber.{SignalNumber}

-- lists
zip_map : {A B : Type 0} (R S : A → B → Type 0) → ((x : A) (y : B) → R x y → S x y) → (xs : List A) (ys : List B) → AllZip R xs ys → AllZip S xs ys
zip_map R S f [] [] h = tt
zip_map R S f (x ∷ xs) (y ∷ ys) h = (f x y h.0, zip_map R S f xs ys h.1)
zip_map R S f [] (y ∷ ys) h = absurd h
zip_map R S f (x ∷ xs) [] h = absurd h

zip_then : {A B : Type 0} (R : A → B → Type 0) (xs us : List A) (ys vs : List B) → AllZip R xs ys → AllZip R us vs → AllZip R (xs ++ us) (ys ++ vs)
zip_then R [] us [] vs h k = k
zip_then R (x ∷ xs) us (y ∷ ys) vs h k = (h.0, zip_then R xs us ys vs h.1 k)
zip_then R [] us (y ∷ ys) vs h k = absurd h
zip_then R (x ∷ xs) us [] vs h k = absurd h

get_more : {X : Type 0} (s more : List X) (n : ℕ) (p : X) → slice_get s n ≡ Some p → slice_get (s ++ more) n ≡ Some p
get_more {X} [] more n p is = absurd (none_some is)
  where
    none_only : Option X → Type 0
    none_only None = Unit {0}
    none_only (Some x) = ⊥

    none_some : None ≡ Some p → ⊥
    none_some e = subst none_only e tt
get_more (x ∷ s) more zero p is = is
get_more (x ∷ s) more (suc n) p is = get_more s more n p is

get_end : {X : Type 0} (s : List X) (p : X) → slice_get (s ++ p ∷ []) (length s) ≡ Some p
get_end [] p = refl
get_end (x ∷ s) p = get_end s p

-- what was met
all_signals : List Met → List Signal
all_signals met = filter_map met_signal met

signals_then : (e : Bool) (ms ns : List Met) → signals_of e (ms ++ ns) ≡ signals_of e ms ++ signals_of e ns
signals_then e ms ns = ap (filter (is_of e)) (filter_map-append met_signal ms ns) ∙ filter-append (is_of e) (filter_map met_signal ms) (filter_map met_signal ns)

numbers_then : (before ss rs : List Signal) → numbers_after before (ss ++ rs) ≡ numbers_after before ss ++ numbers_after (before ++ ss) rs
numbers_then before [] rs = ap (λ b. numbers_after b rs) (sym (append-nil before))
numbers_then before (s ∷ ss) rs = ap (λ l. record { event = s.event; number = length (filter (is_of s.event) before) } ∷ l)
    (numbers_then (before ++ s ∷ []) ss rs ∙ ap (λ b. numbers_after (before ++ s ∷ []) ss ++ numbers_after b rs) (append_assoc before (s ∷ []) ss))

-- tables that grow
pub record Grows (t u : TablesOf) : Type 0 where
  pub more : Bool → List Signal
  pub is : (e : Bool) → table e u ≡ table e t ++ more e

number_more : (t u : TablesOf) → Grows t u → (n : SignalNumber) (s : Signal) → IsNumberOf t n s → IsNumberOf u n s
number_more t u g n s h = record {
  kind = h.kind;
  place = subst (λ l. slice_get l n.number ≡ Some s) (sym (g.is n.event)) (get_more (table n.event t) (g.more n.event) n.number s h.place);
}

stands_more : (t u : TablesOf) → Grows t u → (n : SignalNumber) (r : Option Signal) → StandsFor t n r → StandsFor u n r
stands_more t u g n None h = h
stands_more t u g n (Some s) h = number_more t u g n s h

reached_more : (t u : TablesOf) → Grows t u → (ns : List SignalNumber) (rs : List (Option Signal)) → AllZip (StandsFor t) ns rs → AllZip (StandsFor u) ns rs
reached_more t u g ns rs h = zip_map (StandsFor t) (StandsFor u) (stands_more t u g) ns rs h

own_more : (t u : TablesOf) → Grows t u → (ns : List SignalNumber) (ss : List Signal) → AllZip (IsNumberOf t) ns ss → AllZip (IsNumberOf u) ns ss
own_more t u g ns ss h = zip_map (IsNumberOf t) (IsNumberOf u) (number_more t u g) ns ss h

row_more : (t u : TablesOf) → Grows t u → (row : RowOf) (i : PlacedInstance) → IsRowOf t row i → IsRowOf u row i
row_more t u g row i h = record { path = h.path; block = h.block; signals = reached_more t u g row.signals i.reached h.signals }

pub record Adds (t u : TablesOf) (ms : List Met) : Type 0 where
  pub more : List RowOf
  pub signals : (e : Bool) → table e u ≡ table e t ++ signals_of e ms
  pub rows : u.instances ≡ t.instances ++ more
  pub fit : AllZip (IsRowOf u) more (filter_map met_instance ms)
  pub order : (before : List Signal) → ((e : Bool) → length (table e t) ≡ length (filter (is_of e) before)) → u.order ≡ t.order ++ numbers_after before (filter_map met_signal ms)

grows : (t u : TablesOf) (ms : List Met) → Adds t u ms → Grows t u
grows t u ms a = record { more = λ e. signals_of e ms; is = a.signals }

adds_none : (t : TablesOf) → Adds t t []
adds_none t = record { more = []; signals = λ e. sym (append-nil (table e t)); rows = sym (append-nil t.instances); fit = tt; order = λ before counts. sym (append-nil t.order) }

adds_then : (t u v : TablesOf) (ms ns : List Met) → Adds t u ms → Adds u v ns → Adds t v (ms ++ ns)
adds_then t u v ms ns a b = record {
  more = a.more ++ b.more;
  signals = λ e. b.signals e ∙ ap (λ l. l ++ signals_of e ns) (a.signals e) ∙ append_assoc (table e t) (signals_of e ms) (signals_of e ns) ∙ ap (λ l. table e t ++ l) (sym (signals_then e ms ns));
  rows = b.rows ∙ ap (λ l. l ++ b.more) a.rows ∙ append_assoc t.instances a.more b.more;
  fit = subst (AllZip (IsRowOf v) (a.more ++ b.more)) (sym (filter_map-append met_instance ms ns))
      (zip_then (IsRowOf v) a.more b.more (filter_map met_instance ms) (filter_map met_instance ns) (zip_map (IsRowOf u) (IsRowOf v) (row_more u v (grows u v ns b)) a.more (filter_map met_instance ms) a.fit) b.fit);
  order = order;
}
  where
    counts_then : (before : List Signal) → ((e : Bool) → length (table e t) ≡ length (filter (is_of e) before)) → (e : Bool) → length (table e u) ≡ length (filter (is_of e) (before ++ filter_map met_signal ms))
    counts_then before counts e = ap length (a.signals e) ∙ length-append (table e t) (signals_of e ms) ∙ ap (λ n. n + length (signals_of e ms)) (counts e)
        ∙ sym (length-append (filter (is_of e) before) (signals_of e ms)) ∙ ap length (sym (filter-append (is_of e) before (filter_map met_signal ms)))

    order : (before : List Signal) → ((e : Bool) → length (table e t) ≡ length (filter (is_of e) before)) → v.order ≡ t.order ++ numbers_after before (filter_map met_signal (ms ++ ns))
    order before counts = b.order (before ++ filter_map met_signal ms) (counts_then before counts)
        ∙ ap (λ l. l ++ numbers_after (before ++ filter_map met_signal ms) (filter_map met_signal ns)) (a.order before counts)
        ∙ append_assoc t.order (numbers_after before (filter_map met_signal ms)) (numbers_after (before ++ filter_map met_signal ms) (filter_map met_signal ns))
        ∙ ap (λ l. t.order ++ l) (sym (numbers_then before (filter_map met_signal ms) (filter_map met_signal ns)))
        ∙ ap (λ l. t.order ++ numbers_after before l) (sym (filter_map-append met_signal ms ns))

-- one signal more
in_table : (event e : Bool) (n : SignalNumber) (signal : Signal) (t : TablesOf) → table e (put_in event signal (put_number n t)) ≡ table e t ++ cond (same_kind e event) (signal ∷ []) []
in_table true true n signal t = refl
in_table true false n signal t = sym (append-nil t.signals)
in_table false true n signal t = sym (append-nil t.event_signals)
in_table false false n signal t = refl

in_order : (event : Bool) (n : SignalNumber) (signal : Signal) (t : TablesOf) → (put_in event signal (put_number n t)).order ≡ t.order ++ n ∷ []
in_order true n signal t = refl
in_order false n signal t = refl

in_rows : (event : Bool) (n : SignalNumber) (signal : Signal) (t : TablesOf) → (put_in event signal (put_number n t)).instances ≡ t.instances
in_rows true n signal t = refl
in_rows false n signal t = refl

in_end : (event : Bool) (n : SignalNumber) (signal : Signal) (t : TablesOf) → slice_get (table event (put_in event signal (put_number n t))) (length (table event t)) ≡ Some signal
in_end true n signal t = get_end t.event_signals signal
in_end false n signal t = get_end t.signals signal

adds_signal : (signal : Signal) (t : TablesOf) → Adds t (put_signal signal t) (MetSignal signal ∷ [])
adds_signal signal t = record {
  more = [];
  signals = λ e. in_table signal.event e (next_number signal.event t) signal t;
  rows = in_rows signal.event (next_number signal.event t) signal t ∙ sym (append-nil t.instances);
  fit = tt;
  order = λ before counts. in_order signal.event (next_number signal.event t) signal t ∙ ap (λ n. t.order ++ record { event = signal.event; number = n } ∷ []) (counts signal.event);
}

adds_signals : (path : Option (List ℕ)) (lines : List SignalLine) (t : TablesOf) → Adds t (put_signals path lines t) (map (λ line. MetSignal (placed_signal path line)) lines)
adds_signals path [] t = adds_none t
adds_signals path (line ∷ lines) t = adds_then t (put_signal (placed_signal path line) t) (put_signals path lines (put_signal (placed_signal path line) t)) (MetSignal (placed_signal path line) ∷ []) (map (λ line. MetSignal (placed_signal path line)) lines)
    (adds_signal (placed_signal path line) t) (adds_signals path lines (put_signal (placed_signal path line) t))

-- the numbers of a block's own signals
own_at : (path : Option (List ℕ)) (lines : List SignalLine) (t : TablesOf) → AllZip (IsNumberOf (put_signals path lines t)) (numbered_in path lines t) (map (placed_signal path) lines)
own_at path [] t = tt
own_at path (line ∷ lines) t =
    let signal = placed_signal path line in
    let u = put_signal signal t in (
      number_more u (put_signals path lines u) (grows u (put_signals path lines u) _ (adds_signals path lines u)) (next_number line.event t) signal
          (record { kind = refl; place = in_end line.event (next_number line.event t) signal t }),
      own_at path lines u,
    )

-- targets
own_one : (t : TablesOf) (ns : List SignalNumber) (ss : List Signal) (k : ℕ) → AllZip (IsNumberOf t) ns ss → k < length ss → StandsFor t (number_at ns k) (slice_get ss k)
own_one t [] [] k h within = absurd (omega (arith, within))
own_one t (n ∷ ns) (s ∷ ss) zero h within = h.0
own_one t (n ∷ ns) (s ∷ ss) (suc k) h within = own_one t ns ss k h.1 (omega (arith, within))
own_one t [] (s ∷ ss) k h within = absurd h
own_one t (n ∷ ns) [] k h within = absurd h

outer_one : (t : TablesOf) (ns : List SignalNumber) (rs : List (Option Signal)) (k : ℕ) → AllZip (StandsFor t) ns rs → k < length rs → StandsFor t (number_at ns k) (slice_index_or rs k None)
outer_one t [] [] k h within = absurd (omega (arith, within))
outer_one t (n ∷ ns) (r ∷ rs) zero h within = h.0
outer_one t (n ∷ ns) (r ∷ rs) (suc k) h within = outer_one t ns rs k h.1 (omega (arith, within))
outer_one t [] (r ∷ rs) k h within = absurd h
outer_one t (n ∷ ns) [] k h within = absurd h

targets_at : (t : TablesOf) (path : Option (List ℕ)) (b : BlockOf) (own numbers : List SignalNumber) (outer : List (Option Signal)) (targets : List Target) → AllZip (IsNumberOf t) own (map (placed_signal path) b.signals) → AllZip (StandsFor t) numbers outer → length outer ≡ b.ports
    → AllByRecursion (IsTarget b) targets → AllZip (StandsFor t) (map (number_of own numbers) targets) (map (reached_by path b outer) targets)
targets_at t path b own numbers outer [] h k long each = tt
targets_at t path b own numbers outer (Own n ∷ targets) h k long each = (own_one t own (map (placed_signal path) b.signals) n h (subst (λ m. n < m) (sym (length-map b.signals (placed_signal path))) each.0), targets_at t path b own numbers outer targets h k long each.1)
targets_at t path b own numbers outer (Outer n ∷ targets) h k long each = (outer_one t numbers outer n k (subst (λ m. n < m) (sym long) each.0), targets_at t path b own numbers outer targets h k long each.1)

-- the walk
pub record Walks (blocks : List BlockOf) (go : ℕ → Option (List ℕ) → List SignalNumber → TablesOf → TablesOf) (met : ℕ → Option (List ℕ) → List (Option Signal) → List Met) : Type 0 where
  pub at : (block : ℕ) (path : Option (List ℕ)) (numbers : List SignalNumber) (outer : List (Option Signal)) (t : TablesOf) → AllZip (StandsFor t) numbers outer → ((b : BlockOf) → slice_get blocks block ≡ Some b → length outer ≡ b.ports) → Adds t (go block path numbers t) (met block path outer)

abbrev grows_row : (row : RowOf) (t : TablesOf) → Grows t (put_row row t)
grows_row row t = record { more = λ e. []; is = is }
  where
    is : (e : Bool) → table e (put_row row t) ≡ table e t ++ []
    is true = sym (append-nil t.event_signals)
    is false = sym (append-nil t.signals)

adds_row : (row : RowOf) (instance : PlacedInstance) (t : TablesOf) → IsRowOf t row instance → Adds t (put_row row t) (MetInstance instance ∷ [])
adds_row row instance t h = record {
  more = row ∷ [];
  signals = (grows_row row t).is;
  rows = refl;
  fit = (row_more t (put_row row t) (grows_row row t) row instance h, tt);
  order = λ before counts. sym (append-nil t.order);
}

walks_all : (blocks : List BlockOf) (go : ℕ → Option (List ℕ) → List SignalNumber → TablesOf → TablesOf) (met : ℕ → Option (List ℕ) → List (Option Signal) → List Met) → Walks blocks go met → (b : BlockOf) (is : List InstanceOf) → AllByRecursion (IsInstanceBound blocks b) is
    → (path : Option (List ℕ)) (own numbers : List SignalNumber) (outer : List (Option Signal)) (t : TablesOf) → AllZip (IsNumberOf t) own (map (placed_signal path) b.signals) → AllZip (StandsFor t) numbers outer → length outer ≡ b.ports
    → Adds t (walked_all go is path own numbers t) (flat_map (λ i. with_inside met (placed path b outer i)) is)
walks_all blocks go met walks b [] each path own numbers outer t h k long = adds_none t
walks_all blocks go met walks b (i ∷ is) each path own numbers outer t h k long = adds_then t v w (with_inside met instance) (flat_map (λ i. with_inside met (placed path b outer i)) is) both
    (walks_all blocks go met walks b is each.1 path own numbers outer v (own_more t v (grows t v (with_inside met instance) both) own (map (placed_signal path) b.signals) h)
    (reached_more t v (grows t v (with_inside met instance) both) numbers outer k) long)
  where
    row : RowOf
    row = row_of path own numbers i

    instance : PlacedInstance
    instance = placed path b outer i

    u : TablesOf
    u = put_row row t

    v : TablesOf
    v = walked_row go row t

    w : TablesOf
    w = walked_all go is path own numbers v

    fits : AllZip (StandsFor t) row.signals instance.reached
    fits = targets_at t path b own numbers outer i.targets h k long (recursion_from_All (IsTarget b) i.targets each.0.targets)

    first : Adds t u (MetInstance instance ∷ [])
    first = adds_row row instance t (record { path = refl; block = refl; signals = fits })

    below : Adds u v (met i.block (Some instance.path) instance.reached)
    below = walks.at i.block (Some instance.path) row.signals instance.reached u (reached_more t u (grows_row row t) row.signals instance.reached fits) (λ c is. length-map i.targets (reached_by path b outer) ∙ each.0.ports c is)

    both : Adds t v (with_inside met instance)
    both = adds_then t u v (MetInstance instance ∷ []) (met i.block (Some instance.path) instance.reached) first below

walks_in : (blocks : List BlockOf) (go : ℕ → Option (List ℕ) → List SignalNumber → TablesOf → TablesOf) (met : ℕ → Option (List ℕ) → List (Option Signal) → List Met) → Walks blocks go met → (o : Option BlockOf)
    → ((b : BlockOf) → o ≡ Some b → All (IsInstanceBound blocks b) b.instances) → (path : Option (List ℕ)) (numbers : List SignalNumber) (outer : List (Option Signal)) (t : TablesOf) → AllZip (StandsFor t) numbers outer → ((b : BlockOf) → o ≡ Some b → length outer ≡ b.ports)
    → Adds t (walked_in go o path numbers t) (in_block met o path outer)
walks_in blocks go met walks None bound path numbers outer t k long = adds_none t
walks_in blocks go met walks (Some b) bound path numbers outer t k long =
    let u = put_signals path b.signals t in
    let first = adds_signals path b.signals t in
    adds_then t u (walked_all go b.instances path (numbered_in path b.signals t) numbers u) (map (λ line. MetSignal (placed_signal path line)) b.signals) (flat_map (λ i. with_inside met (placed path b outer i)) b.instances) first
    (walks_all blocks go met walks b b.instances (recursion_from_All (IsInstanceBound blocks b) b.instances (bound b refl)) path (numbered_in path b.signals t) numbers outer u (own_at path b.signals t)
    (reached_more t u (grows t u (map (λ line. MetSignal (placed_signal path line)) b.signals) first) numbers outer k) (long b refl))

pub walks : (blocks : List BlockOf) (top depth : ℕ) → AreBound blocks top → Walks blocks (walked blocks depth) (inside blocks depth)
unfolding walked
walks blocks top zero bound = record { at = λ block path numbers outer t k long. adds_none t }
walks blocks top (suc depth) bound = record { at = λ block path numbers outer t k long. walks_in blocks (walked blocks depth) (inside blocks depth) (walks blocks top depth bound) (slice_get blocks block) (bound.each block) path numbers outer t k long }
