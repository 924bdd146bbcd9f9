-- No other port gives values to a signal to which the last block does: a signal has one driver at most.
use Rattle.std.proofs.Common.{◌≡◌, ◌∙◌, ℕ, zero, suc, ◌+◌, ◌<◌, ◌≤◌, Bool, true, false, nat_eq, cond, List, [], ◌∷◌, ◌++◌, length, Option, Some, None, slice_get, refl, sym, ap, subst, inl, inr, arith}
use Rattle.std.proofs.lemmas.Bool.{cases_eq, cases_lt}
use Rattle.std.proofs.lemmas.Bool.Decides.{eqb_tells}
use Rattle.std.proofs.lemmas.List.{append-nil, length-append}
use Rattle.std.proofs.lemmas.List.Concat.{flat_map-append}
use Rattle.std.proofs.lemmas.List.Elements.{filter-append}
use Rattle.std.specs.List.{enumerate_from}
use Rattle.std.specs.List.{cons_option}
use Rattle.std.specs.Prelude.{filter, filter_map}
use Rattle.tdf_bind_connections.specs.Drivers.{driver, driver_fault, driver_of, fault_of_driver, writers_in}
use Rattle.tdf_bind_connections.specs.Modules.{signal_at}
use Rattle.tdf_bind_connections.specs.ProcessBlocks.{PlacedBlock, placed_blocks}
use Rattle.tdf_bind_connections.specs.Writers.{block_writers, gives, module_writers, place_writer, port_writer, writers_at, writers_to}
use Rattle.tdf_bind_connections.specs.declared.modules.PortRow.{PortRow}
use Rattle.tdf_bind_connections.specs.declared.roles.Role.{Role}
use Rattle.tdf_bind_connections.specs.declared.traces.TraceLine.{TraceLine}
use Rattle.tdf_bind_connections.specs.declared.writers.Writer.{Writer}
use Rattle.tdf_bind_hierarchy.specs.Met.{Met}
use Rattle.tdf_bind_hierarchy.specs.Tables.{IsTable, TablesOf, is_of, met_signal, numbers_after}
use Rattle.tdf_bind_hierarchy.specs.declared.tables.Signal.{Signal}
use Rattle.tdf_bind_hierarchy.specs.declared.tables.SignalNumber.{SignalNumber}
use Rattle.tdf_bind_tables.specs.FlatTables.{FlatTablesOf, FollowsFrom}
use Rattle.tdf_lang_tree.specs.declared.blocks.PortKind.{PortKind}
use Rattle.tdf_stim_flat.proofs.Ends.{all_placed}
use Rattle.tdf_stim_flat.specs.Ends.{EndsWithBlock, GivesAlone, GivesAt, last_placed, placed_before}
use Rattle.tdf_stim_flat.specs.Laws.{LastGivesAlone}

-- ---- how many writers a signal has

abbrev of_signal : ℕ → Writer → Bool
of_signal signal w = nat_eq w.signal signal

abbrev count : ℕ → List Writer → ℕ
count signal ws = length (filter (of_signal signal) ws)

count_both : (signal : ℕ) (xs ys : List Writer) → count signal (xs ++ ys) ≡ count signal xs + count signal ys
count_both signal xs ys = ap length (filter-append (of_signal signal) xs ys) ∙ length-append (filter (of_signal signal) xs) (filter (of_signal signal) ys)

same_itself : (n : ℕ) → nat_eq n n ≡ true
same_itself n = elim (eqb_tells n n) [ inl y ↦ y.0 | inr m ↦ absurd (m.1 refl) ]

-- one that is there counts
counts_one : (signal n : ℕ) (ws : List Writer) (w : Writer) → slice_get ws n ≡ Some w → w.signal ≡ signal → 0 < count signal ws
counts_one signal n [] w at is = absurd (cc)
counts_one signal zero (v ∷ ws) w at is =
    let same : v ≡ w = cc in
    let test : of_signal signal v ≡ true = ap (λ (x : Writer). nat_eq x.signal signal) same ∙ ap (λ k. nat_eq k signal) is ∙ same_itself signal in
    let e : count signal (v ∷ ws) ≡ suc (count signal ws) = ap (λ (b : Bool). length (cond b (v ∷ filter (of_signal signal) ws) (filter (of_signal signal) ws))) test in
    omega (arith, e)
counts_one signal (suc n) (v ∷ ws) w at is = let more = counts_one signal n ws w at is in go (of_signal signal v) more
  where
    go : (b : Bool) → 0 < count signal ws → 0 < length (cond b (v ∷ filter (of_signal signal) ws) (filter (of_signal signal) ws))
    go true some = omega arith
    go false some = some

-- two that are there count twice
counts_two : (signal i j : ℕ) (ws : List Writer) (v w : Writer) → slice_get ws i ≡ Some v → slice_get ws j ≡ Some w → v.signal ≡ signal → w.signal ≡ signal → i < j → 2 ≤ count signal ws
counts_two signal i zero ws v w at_v at_w is_v is_w less = absurd (omega (arith, less))
counts_two signal i (suc j) [] v w at_v at_w is_v is_w less = absurd (cc)
counts_two signal zero (suc j) (u ∷ ws) v w at_v at_w is_v is_w less =
    let same : u ≡ v = cc in
    let test : of_signal signal u ≡ true = ap (λ (x : Writer). nat_eq x.signal signal) same ∙ ap (λ k. nat_eq k signal) is_v ∙ same_itself signal in
    let e : count signal (u ∷ ws) ≡ suc (count signal ws) = ap (λ (b : Bool). length (cond b (u ∷ filter (of_signal signal) ws) (filter (of_signal signal) ws))) test in
    let more = counts_one signal j ws w at_w is_w in
    omega (arith, e, more)
counts_two signal (suc i) (suc j) (u ∷ ws) v w at_v at_w is_v is_w less = let more = counts_two signal i j ws v w at_v at_w is_v is_w (omega (arith, less)) in go (of_signal signal u) more
  where
    go : (b : Bool) → 2 ≤ count signal ws → 2 ≤ length (cond b (u ∷ filter (of_signal signal) ws) (filter (of_signal signal) ws))
    go true some = omega (arith, some)
    go false some = some

-- ---- a signal without a fault has one driver at most

few_by : (ws : List Writer) (number : SignalNumber) → fault_of_driver number (driver_fault true (driver_of ws)) ≡ None → length ws ≤ 1
few_by [] number none = omega arith
few_by (w ∷ []) number none = omega arith
few_by (w ∷ (v ∷ ws)) number none = absurd (cc)

cons_none : {A : Type 0} (o : Option A) (xs : List A) → cons_option o xs ≡ [] → (o ≡ None) × (xs ≡ [])
cons_none None xs none = (refl, none)
cons_none (Some x) xs none = absurd (cc)

nothing_first : {A B : Type 0} (f : A → Option B) (xs : List A) (n : ℕ) (x : A) → filter_map f xs ≡ [] → slice_get xs n ≡ Some x → f x ≡ None
nothing_first f [] n x none at = absurd (cc)
nothing_first f (y ∷ xs) zero x none at = let same : y ≡ x = cc in ap f (sym same) ∙ (cons_none (f y) (filter_map f xs) none).0
nothing_first f (y ∷ xs) (suc n) x none at = nothing_first f xs n x (cons_none (f y) (filter_map f xs) none).1 at

abbrev numbered : Bool → ℕ → SignalNumber
numbered event number = record { event = event; number = number }

abbrev events_in : List Signal → ℕ
events_in signals = length (filter (is_of true) signals)

-- a number in an order
abbrev IsThere : List SignalNumber → ℕ → Type 0
IsThere order number = (i : ℕ) × (slice_get order i ≡ Some (numbered true number))

events_more : (before : List Signal) (s : Signal) (b : Bool) → s.event ≡ b → events_in (before ++ s ∷ []) ≡ events_in before + cond b 1 0
events_more before s b is = ap length (filter-append (is_of true) before (s ∷ [])) ∙ length-append (filter (is_of true) before) (filter (is_of true) (s ∷ []))
    ∙ ap (λ (x : Bool). events_in before + length (cond x (s ∷ []) [])) is ∙ go b
  where
    go : (x : Bool) → events_in before + length (cond x (s ∷ []) []) ≡ events_in before + cond x 1 0
    go true = refl
    go false = refl

abbrev RestThere : List Signal → Signal → List Signal → Type 0
RestThere before s later = (y : ℕ) (signal : Signal) → slice_get (filter (is_of true) later) y ≡ Some signal → IsThere (numbers_after (before ++ s ∷ []) later) (events_in (before ++ s ∷ []) + y)

by_kind : (before : List Signal) (s : Signal) (later : List Signal) (x : ℕ) (signal : Signal) (b : Bool) → s.event ≡ b
    → slice_get (cond b (s ∷ filter (is_of true) later) (filter (is_of true) later)) x ≡ Some signal → RestThere before s later → IsThere (numbers_after before (s ∷ later)) (events_in before + x)
by_kind before s later zero signal true is at rest =
    let f : events_in before ≡ events_in before + 0 = omega arith in
    (0, ap (λ (b : Bool). Some (numbered b (length (filter (is_of b) before)))) is ∙ ap (λ k. Some (numbered true k)) f)
by_kind before s later (suc y) signal true is at rest =
    let found = rest y signal at in
    let more = events_more before s true is in
    let f : events_in (before ++ s ∷ []) + y ≡ events_in before + suc y = omega (arith, more) in
    (suc found.0, found.1 ∙ ap (λ k. Some (numbered true k)) f)
by_kind before s later x signal false is at rest =
    let found = rest x signal at in
    let more = events_more before s false is in
    let f : events_in (before ++ s ∷ []) + x ≡ events_in before + x = omega (arith, more) in
    (suc found.0, found.1 ∙ ap (λ k. Some (numbered true k)) f)

-- each event signal has its number in the order
number_there : (before later : List Signal) (x : ℕ) (signal : Signal) → slice_get (filter (is_of true) later) x ≡ Some signal → IsThere (numbers_after before later) (events_in before + x)
number_there before [] x signal at = absurd (cc)
number_there before (s ∷ later) x signal at = by_kind before s later x signal s.event refl at (λ y sg h. number_there (before ++ s ∷ []) later y sg h)

has_item : {A : Type 0} (xs : List A) (n : ℕ) → n < length xs → (x : A) × (slice_get xs n ≡ Some x)
has_item [] n inside = absurd (omega (arith, inside))
has_item (x ∷ xs) zero inside = (x, refl)
has_item (x ∷ xs) (suc n) inside = has_item xs n (omega (arith, inside))

-- ---- where writers stand

-- one writer more
with_one : (signal : ℕ) (o : Option Writer) (ws : List Writer) → 0 < count signal ws → 0 < count signal (cons_option o ws)
with_one signal None ws some = some
with_one signal (Some w) ws some = go (of_signal signal w)
  where
    go : (b : Bool) → 0 < length (cond b (w ∷ filter (of_signal signal) ws) (filter (of_signal signal) ws))
    go true = omega arith
    go false = some

with_two : (signal : ℕ) (o : Option Writer) (ws : List Writer) → 2 ≤ count signal ws → 2 ≤ count signal (cons_option o ws)
with_two signal None ws some = some
with_two signal (Some w) ws some = go (of_signal signal w)
  where
    go : (b : Bool) → 2 ≤ length (cond b (w ∷ filter (of_signal signal) ws) (filter (of_signal signal) ws))
    go true = omega (arith, some)
    go false = some

first_and_more : (signal : ℕ) (w : Writer) (ws : List Writer) → w.signal ≡ signal → 0 < count signal ws → 2 ≤ count signal (w ∷ ws)
first_and_more signal w ws is some =
    let test : of_signal signal w ≡ true = ap (λ k. nat_eq k signal) is ∙ same_itself signal in
    let e : count signal (w ∷ ws) ≡ suc (count signal ws) = ap (λ (b : Bool). length (cond b (w ∷ filter (of_signal signal) ws) (filter (of_signal signal) ws))) test in
    omega (arith, e, some)

-- a port of a block of processes that gives a signal values is a writer of it
writer_at : (signals : List SignalNumber) (from : ℕ) (kinds : List PortKind) (j signal : ℕ) (kind : PortKind) → slice_get kinds j ≡ Some kind → gives true kind ≡ true → signal_at signals (from + j) ≡ signal
    → 0 < count signal (filter_map (λ (k : ℕ × PortKind). place_writer true signals k.0 k.1) (enumerate_from from kinds))
writer_at signals from [] j signal kind at is place = absurd (cc)
writer_at signals from (k ∷ ks) zero signal kind at is place =
    let same : k ≡ kind = cc in
    let f : from + 0 ≡ from = omega arith in
    let w : Writer = record { signal = signal_at signals from; port = None } in
    let first : place_writer true signals from k ≡ Some w = ap (λ (x : PortKind). place_writer true signals from x) same ∙ ap (λ (b : Bool). cond b (Some w) None) is in
    let here : w.signal ≡ signal = ap (signal_at signals) (sym f) ∙ place in
    subst (λ (o : Option Writer). 0 < count signal (cons_option o (filter_map (λ (q : ℕ × PortKind). place_writer true signals q.0 q.1) (enumerate_from (from + 1) ks)))) (sym first)
    (counts_one signal 0 (w ∷ filter_map (λ (q : ℕ × PortKind). place_writer true signals q.0 q.1) (enumerate_from (from + 1) ks)) w refl here)
writer_at signals from (k ∷ ks) (suc j) signal kind at is place =
    let f : from + suc j ≡ from + 1 + j = omega arith in
    let more = writer_at signals (from + 1) ks j signal kind at is (ap (signal_at signals) (sym f) ∙ place) in
    with_one signal (place_writer true signals from k) (filter_map (λ (q : ℕ × PortKind). place_writer true signals q.0 q.1) (enumerate_from (from + 1) ks)) more

-- two such ports are two writers
writers_two : (signals : List SignalNumber) (from : ℕ) (kinds : List PortKind) (i j signal : ℕ) (one other : PortKind) → slice_get kinds i ≡ Some one → slice_get kinds j ≡ Some other
    → gives true one ≡ true → gives true other ≡ true → signal_at signals (from + i) ≡ signal → signal_at signals (from + j) ≡ signal → i < j
    → 2 ≤ count signal (filter_map (λ (k : ℕ × PortKind). place_writer true signals k.0 k.1) (enumerate_from from kinds))
writers_two signals from [] i j signal one other at_i at_j is_i is_j place_i place_j less = absurd (cc)
writers_two signals from (k ∷ ks) i zero signal one other at_i at_j is_i is_j place_i place_j less = absurd (omega (arith, less))
writers_two signals from (k ∷ ks) zero (suc j) signal one other at_i at_j is_i is_j place_i place_j less =
    let same : k ≡ one = cc in
    let f : from + 0 ≡ from = omega arith in
    let g : from + suc j ≡ from + 1 + j = omega arith in
    let w : Writer = record { signal = signal_at signals from; port = None } in
    let first : place_writer true signals from k ≡ Some w = ap (λ (x : PortKind). place_writer true signals from x) same ∙ ap (λ (b : Bool). cond b (Some w) None) is_i in
    let here : w.signal ≡ signal = ap (signal_at signals) (sym f) ∙ place_i in
    let more = writer_at signals (from + 1) ks j signal other at_j is_j (ap (signal_at signals) (sym g) ∙ place_j) in
    subst (λ (o : Option Writer). 2 ≤ count signal (cons_option o (filter_map (λ (q : ℕ × PortKind). place_writer true signals q.0 q.1) (enumerate_from (from + 1) ks)))) (sym first)
    (first_and_more signal w (filter_map (λ (q : ℕ × PortKind). place_writer true signals q.0 q.1) (enumerate_from (from + 1) ks)) here more)
writers_two signals from (k ∷ ks) (suc i) (suc j) signal one other at_i at_j is_i is_j place_i place_j less =
    let f : from + suc i ≡ from + 1 + i = omega arith in
    let g : from + suc j ≡ from + 1 + j = omega arith in
    with_two signal (place_writer true signals from k) (filter_map (λ (q : ℕ × PortKind). place_writer true signals q.0 q.1) (enumerate_from (from + 1) ks))
    (writers_two signals (from + 1) ks i j signal one other at_i at_j is_i is_j (ap (signal_at signals) (sym f) ∙ place_i) (ap (signal_at signals) (sym g) ∙ place_j) (omega (arith, less)))

-- a port of a module that does is one, too
module_writer : (from : ℕ) (ports : List PortRow) (n signal : ℕ) (port : PortRow) → slice_get ports n ≡ Some port → gives true port.kind ≡ true → port.signal ≡ signal
    → 0 < count signal (filter_map (λ (p : ℕ × PortRow). port_writer true p.0 p.1) (enumerate_from from ports))
module_writer from [] n signal port at is place = absurd (cc)
module_writer from (p ∷ ps) zero signal port at is place =
    let same : p ≡ port = cc in
    let w : Writer = record { signal = port.signal; port = Some from } in
    let first : port_writer true from p ≡ Some w = ap (port_writer true from) same ∙ ap (λ (b : Bool). cond b (Some w) None) is in
    subst (λ (o : Option Writer). 0 < count signal (cons_option o (filter_map (λ (q : ℕ × PortRow). port_writer true q.0 q.1) (enumerate_from (from + 1) ps)))) (sym first)
    (counts_one signal 0 (w ∷ filter_map (λ (q : ℕ × PortRow). port_writer true q.0 q.1) (enumerate_from (from + 1) ps)) w refl place)
module_writer from (p ∷ ps) (suc n) signal port at is place =
    with_one signal (port_writer true from p) (filter_map (λ (q : ℕ × PortRow). port_writer true q.0 q.1) (enumerate_from (from + 1) ps)) (module_writer (from + 1) ps n signal port at is place)

-- those of one block are among those of all
block_writer : (blocks : List PlacedBlock) (n signal : ℕ) (placed : PlacedBlock) → slice_get blocks n ≡ Some placed → 0 < count signal (writers_at true placed.instance.signals placed.role.ports)
    → 0 < count signal (block_writers true blocks)
block_writer [] n signal placed at some = absurd (cc)
block_writer (b ∷ bs) zero signal placed at some =
    let same : b ≡ placed = cc in
    let both = count_both signal (writers_at true b.instance.signals b.role.ports) (block_writers true bs) in
    let here : 0 < count signal (writers_at true b.instance.signals b.role.ports) = subst (λ (x : PlacedBlock). 0 < count signal (writers_at true x.instance.signals x.role.ports)) (sym same) some in
    omega (arith, both, here)
block_writer (b ∷ bs) (suc n) signal placed at some =
    let both = count_both signal (writers_at true b.instance.signals b.role.ports) (block_writers true bs) in
    let more = block_writer bs n signal placed at some in
    omega (arith, both, more)

module _ (met : List Met) (tables : TablesOf) (roles : List Role) (lines : List TraceLine) (flat : FlatTablesOf) (e : EndsWithBlock tables roles)
    (table : IsTable met tables) (follows : FollowsFrom tables roles lines flat) where
  abbrev ps : List PlacedBlock
  ps = placed_before roles e.others

  abbrev p : PlacedBlock
  p = last_placed e

  abbrev own : List Writer
  own = writers_at true p.instance.signals p.role.ports

  abbrev writers : List Writer
  writers = writers_to true roles tables.instances flat.ports

  blocks_are : block_writers true (placed_blocks roles tables.instances) ≡ block_writers true ps ++ own
  blocks_are = ap (block_writers true) (all_placed tables roles lines flat e follows)
      ∙ flat_map-append (λ (b : PlacedBlock). writers_at true b.instance.signals b.role.ports) ps (p ∷ []) ∙ ap (λ (l : List Writer). block_writers true ps ++ l) (append-nil own)

  -- one writer at most
  few : (signal : ℕ) → signal < length tables.event_signals → count signal writers ≤ 1
  few signal there =
      let item = has_item tables.event_signals signal there in
      let found : IsThere (numbers_after [] (filter_map met_signal met)) (0 + signal) =
      number_there [] (filter_map met_signal met) signal item.0 (ap (λ (l : List Signal). slice_get l signal) (sym table.event_signals) ∙ item.1) in
      let f : 0 + signal ≡ signal = omega arith in
      let at : slice_get tables.order found.0 ≡ Some (numbered true signal) = ap (λ (l : List SignalNumber). slice_get l found.0) table.order ∙ found.1 ∙ ap (λ k. Some (numbered true k)) f in
      few_by (filter (of_signal signal) writers) (numbered true signal)
      (nothing_first (λ (n : SignalNumber). fault_of_driver n (driver_fault n.event (driver n.number (writers_in roles tables flat.ports n.event)))) tables.order found.0 (numbered true signal) follows.drivers at)

  -- those of modules, of the blocks before, and of the last
  all_counted : (signal : ℕ) → count signal writers ≡ count signal (module_writers true flat.ports) + (count signal (block_writers true ps) + count signal own)
  all_counted signal =
      count_both signal (module_writers true flat.ports) (block_writers true (placed_blocks roles tables.instances))
      ∙ ap (λ (l : List Writer). count signal (module_writers true flat.ports) + count signal l) blocks_are
      ∙ ap (λ k. count signal (module_writers true flat.ports) + k) (count_both signal (block_writers true ps) own)

  own_counts : (i signal : ℕ) → GivesAt p i signal → 0 < count signal own
  own_counts i signal g = let f : 0 + i ≡ i = omega arith in writer_at p.instance.signals 0 p.role.ports i signal g.kind g.at g.gives (ap (signal_at p.instance.signals) f ∙ g.signal_is)

  not_two : (i j signal : ℕ) → signal < length tables.event_signals → GivesAt p i signal → GivesAt p j signal → i < j → ⊥
  not_two i j signal there g h less =
      let f : 0 + i ≡ i = omega arith in
      let k : 0 + j ≡ j = omega arith in
      let two : 2 ≤ count signal own = writers_two p.instance.signals 0 p.role.ports i j signal g.kind h.kind g.at h.at g.gives h.gives (ap (signal_at p.instance.signals) f ∙ g.signal_is) (ap (signal_at p.instance.signals) k ∙ h.signal_is) less in
      let all = all_counted signal in
      let one = few signal there in
      omega (arith, two, all, one)

  gives_alone : GivesAlone tables roles flat e
  gives_alone = record {
    apart = λ i j signal g h. elim (cases_eq i j) [
      | inl same ↦ same
      | inr apart ↦ elim (cases_lt i j) [
        | inl less ↦ absurd (not_two i j signal g.there g.gives h less)
        | inr more ↦ absurd (not_two j i signal g.there h g.gives (omega (arith, more, apart)))
      ]
    ];
    blocks = λ n i j signal placed g at h. (
        let f : 0 + j ≡ j = omega arith in
        let mine = own_counts i signal g.gives in
        let other : 0 < count signal (block_writers true ps) = block_writer ps n signal placed at
        (writer_at placed.instance.signals 0 placed.role.ports j signal h.kind h.at h.gives (ap (signal_at placed.instance.signals) f ∙ h.signal_is)) in
        let all = all_counted signal in
        let one = few signal g.there in
        omega (arith, mine, other, all, one));
    modules = λ n i signal port g at is place. (
        let mine = own_counts i signal g.gives in
        let other = module_writer 0 flat.ports n signal port at is place in
        let all = all_counted signal in
        let one = few signal g.there in
        omega (arith, mine, other, all, one));
  }

pub last_gives_alone : LastGivesAlone
last_gives_alone met tables roles lines flat e table follows = gives_alone met tables roles lines flat e table follows
