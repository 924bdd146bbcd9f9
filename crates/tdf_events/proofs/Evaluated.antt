-- One process runs.
use Rattle.std.proofs.Common.{◌≡◌, ◌≢◌, ℕ, zero, suc, ◌+◌, ◌<◌, ◌≤◌, Bool, true, false, if◌then◌else◌, nat_eq, List, [], ◌∷◌, ◌++◌, Option, Some, map, replicate, length, length-set, slice_get, slice_index, slice_index_or, slice_set, get_or-set_same, get_or-set_other, refl, ap, sym, ◌∙◌, subst, inl, inr, arith}
use Rattle.std.specs.Option.{option_map}
use Rattle.std.proofs.lemmas.Bool.{cases_eq, cases_lt, true≢false}
use Rattle.std.proofs.lemmas.List.{get_or_past, length-map, map-set}
use Rattle.std.proofs.lemmas.Option.{get_or_from_slice_get, same_Some, slice_get-get_or, slice_get-map, slice_get_within}
use Rattle.tdf_events_queue.specs.Lists.{list_at}
use Rattle.tdf_events_queue.specs.Sets.{AreListed}
use Rattle.tdf_events.proofs.Noticing.{noticed_same}
use Rattle.tdf_events.proofs.Reading.{has_at}
use Rattle.tdf_events.proofs.Writing.{written_same}
use Rattle.tdf_events.specs.Kernel.{IsKernelOf, KernelOf, side_of}
use Rattle.tdf_events.specs.Notices.{NoticesOf, noticed_first}
use Rattle.tdf_events.specs.Processes.{after_process, owned_events, frame_at, owned_from, process_ports_before, process_done, ran, run_of, owner_of, side_after, value_of_port, written, written_first}
use Rattle.tdf_events.specs.Runnable.{ArePortsOf, AreOfSignals, IsRunnable, signal_formats}
use Rattle.tdf_events.specs.Side.{SideOf, value_at}
use Rattle.tdf_events.specs.machine.Reading.{CanRead}
use Rattle.tdf_events.specs.machine.Running.{CanRun, HasRunIn}
use Rattle.tdf_expr.specs.Blocks.{PureBlock, blocks_of}
use Rattle.tdf_expr.specs.Checked.{IsCheckedOf}
use Rattle.tdf_expr.specs.Compiled.{AreBlocksOf}
use Rattle.tdf_expr.specs.Frames.{ArePortsFit, FrameSeen, IsOfFormat, PortsSeen, sample_formats}
use Rattle.tdf_expr.specs.Made.{AreMadeFor, event_count, port_spans_of}
use Rattle.tdf_expr.specs.Plans.{shape_of_format, shape_written as shape_written}
use Rattle.tdf_expr.specs.declared.blocks.Block.{Block}
use Rattle.tdf_expr.specs.declared.spans.PortSpan.{PortSpan}
use Rattle.tdf_fixed.specs.declared.format.Format.{Format}
use Rattle.tdf_fixed.specs.declared.raw.Raw.{Raw}
use Rattle.tdf_bind.specs.declared.model.Flat.{Flat}
use Rattle.tdf_expr_symbols.specs.Names.{globals_of}
use Rattle.tdf_expr_state.specs.State.{FrameState, PortsState, State, standing, state_of}
use Rattle.tdf_lang_tree.specs.Pure.{PureTree}
use Rattle.tdf_bind_connections.specs.ProcessBlocks.{BlockRowOf, ProcessRowOf}
use Rattle.tdf_bind_connections.specs.declared.blocks.EventRow.{EventRow}
use Rattle.tdf_bind_connections.specs.declared.drivers.SignalRow.{SignalRow}

-- what is read where it was written
pub index_set : {X : Type 0} (xs ys : List X) (i : ℕ) (x r : X) → ys ≡ slice_set xs i x → i < length xs → r ≡ slice_index_or ys i r → r ≡ x
index_set xs ys i x r set inside read = read ∙ ap (λ zs. slice_index_or zs i r) set ∙ get_or-set_same xs i x r inside

-- the events of an instance
owned_few : (owner first : ℕ) (rows : List EventRow) → length (owned_from owner first rows) ≤ length rows
unfolding owned_from
owned_few owner first [] = omega arith
owned_few owner first (row ∷ rows) = let rest = owned_few owner (first + 1) rows in choose (nat_eq row.owner owner) rest
  where
    choose : (b : Bool) → length (owned_from owner (first + 1) rows) ≤ length rows → length (if b then first ∷ owned_from owner (first + 1) rows else owned_from owner (first + 1) rows) ≤ suc (length rows)
    choose true h = omega (arith, h)
    choose false h = omega (arith, h)

owned_inside : (owner first : ℕ) (rows : List EventRow) (i e : ℕ) → slice_get (owned_from owner first rows) i ≡ Some e → e < first + length rows
unfolding owned_from
owned_inside owner first [] i e at = absurd cc
owned_inside owner first (row ∷ rows) i e at = choose (nat_eq row.owner owner) (λ k there. (let rest = owned_inside owner (first + 1) rows k e there in omega (arith, rest))) i at
  where
    choose : (b : Bool) → ((k : ℕ) → slice_get (owned_from owner (first + 1) rows) k ≡ Some e → e < first + suc (length rows)) → (k : ℕ)
        → slice_get (if b then first ∷ owned_from owner (first + 1) rows else owned_from owner (first + 1) rows) k ≡ Some e → e < first + suc (length rows)
    choose true later zero at = let same : first ≡ e = same_Some first e at in omega (arith, same)
    choose true later (suc k) at = later k at
    choose false later k at = later k at

-- what a process needs is there
can_read : (formats : List Format) (values : List Raw) (spans : List PortSpan) (signals : List ℕ) → ArePortsOf formats spans signals → AreOfSignals formats values → CanRead values spans signals
can_read formats values spans signals ports are = record {
  few = ports.few;
  long = ports.long;
  first = ports.first;
  one = ports.one;
  inside = λ n s at. (let p = has_at spans n (let less = slice_get_within signals n s at in omega (arith, less, ports.long)) in
      let there = slice_get_within formats s p.0.format (ports.format n s p.0 p.1 at) in omega (arith, there, are.long));
  format = λ n s p at is. (let f = ports.format n s p at is in let there = slice_get_within formats s p.format f in
      are.each s p.format (value_at values s) f (slice_get-get_or values s _ (omega (arith, there, are.long))));
}

pub can_run : (flat : Flat) (k : KernelOf) (owner : ℕ) (row : BlockRowOf) → IsRunnable flat → IsKernelOf flat k → slice_get flat.tables.blocks owner ≡ Some row → CanRun flat.checked owner row k
can_run flat k owner row can kernel at = record {
  frame = omega (arith, inside, kernel.frames);
  ports = omega (arith, inside, kernel.ports);
  own = omega (arith, inside, kernel.own_lists);
  made = λ f p fat pat. kernel.made owner row f p at fat pat;
  read = can_read (signal_formats flat) k.values (port_spans_of flat.checked row.block) row.signals (can.instances owner row at).ports kernel.values;
  waiting = kernel.waiting ∙ sym (kernel.values.long ∙ length-map flat.tables.de_signals (λ (r : SignalRow). r.format));
  few = (let less = owned_few owner 0 flat.tables.events in let e = can.few_events in let same = ap length own in omega (arith, less, e, same));
  events = ap length own ∙ (can.instances owner row at).events;
  inside = λ i e there. (let less = owned_inside owner 0 flat.tables.events i e (sym (ap (λ (xs : List ℕ). slice_get xs i) own) ∙ there) in omega (arith, less, kernel.times));
}
  where
    inside : owner < length flat.tables.blocks
    inside = slice_get_within flat.tables.blocks owner row at

    own : list_at k.own_events owner ≡ owned_events flat owner
    own = kernel.own owner inside

-- the number of events and of signals stays
times_same : (time : ℕ) (events : List ℕ) (asked : List (Option ℕ)) (i : ℕ) (n : NoticesOf) → length (noticed_first time events asked i n).times ≡ length n.times
unfolding noticed_first
times_same time events asked zero n = refl
times_same time events asked (suc i) n = noticed_same time (slice_index events i) (standing (slice_get asked i)) (noticed_first time events asked i n) ∙ times_same time events asked i n

waits_same : (signals : List ℕ) (spans : List PortSpan) (ports : PortsState) (n : ℕ) (waiting : List (Option Raw)) → length (written_first signals spans ports n waiting) ≡ length waiting
unfolding written_first
waits_same signals spans ports zero waiting = refl
waits_same signals spans ports (suc n) waiting = written_same (slice_index signals n) ports n (slice_get spans n) (written_first signals spans ports n waiting) ∙ waits_same signals spans ports n waiting

-- a sample is of its port's format
one_format : (spans : List PortSpan) (n : ℕ) (p : PortSpan) → ((k : ℕ) (q : PortSpan) → slice_get spans k ≡ Some q → q.count ≡ 1) → slice_get spans n ≡ Some p → slice_get (sample_formats spans) n ≡ Some (shape_written p.format)
one_format [] n p one at = absurd cc
one_format (q ∷ qs) zero p one at = ap (λ k. slice_get (replicate k (shape_written q.format) ++ sample_formats qs) 0) (one 0 q refl) ∙ ap (λ (x : PortSpan). Some (shape_written x.format)) (same_Some q p at)
one_format (q ∷ qs) (suc n) p one at = ap (λ k. slice_get (replicate k (shape_written q.format) ++ sample_formats qs) (suc n)) (one 0 q refl) ∙ one_format qs n p (λ k x is. one (suc k) x is) at

value_format : (ports : PortsSeen) (n : ℕ) (p : PortSpan) → ArePortsFit ports → ((k : ℕ) (q : PortSpan) → slice_get ports.spans k ≡ Some q → q.count ≡ 1) → slice_get ports.spans n ≡ Some p → p.first ≡ n
    → IsOfFormat p.format (value_of_port ports.state p)
value_format ports n p fit one at first = record {
  frac = refl;
  num = fit.samples.each p.first (shape_of_format p.format) (ap (slice_get (sample_formats ports.spans)) first ∙ one_format ports.spans n p one at);
}

-- each value that waits is of its signal's format
pub elsewhere : (xs : List (Option Raw)) (s n : ℕ) (x y : Option Raw) → n ≢ s → slice_get (slice_set xs s x) n ≡ Some y → slice_get xs n ≡ Some y
elsewhere xs s n x y apart h = let less : n < length xs = (let l = slice_get_within (slice_set xs s x) n y h in let e = length-set xs s x in omega (arith, l, e)) in
    slice_get-get_or xs n y less ∙ ap Some (sym (get_or-set_other xs s n x y apart) ∙ get_or_from_slice_get (slice_set xs s x) n y y h)

pub there_is : (xs : List (Option Raw)) (s n : ℕ) (x v : Raw) → n ≡ s → slice_get (slice_set xs s (Some x)) n ≡ Some (Some v) → x ≡ v
there_is xs s n x v same h = let inside : s < length xs = (let l = slice_get_within (slice_set xs s (Some x)) n (Some v) h in let e = length-set xs s (Some x) in omega (arith, l, e, same)) in
    same_Some x v (sym (get_or-set_same xs s (Some x) (Some v) inside) ∙ ap (λ k. slice_index_or (slice_set xs s (Some x)) k (Some v)) (sym same) ∙ get_or_from_slice_get (slice_set xs s (Some x)) n (Some v) (Some v) h)

format_more : (formats : List Format) (signals : List ℕ) (ports : PortsSeen) (earlier : List (Option Raw)) (i : ℕ) (p : PortSpan) → ArePortsOf formats ports.spans signals → ArePortsFit ports → i < length signals
    → slice_get ports.spans i ≡ Some p → (n : ℕ) (f : Format) (v : Raw) → slice_get formats n ≡ Some f → (slice_get earlier n ≡ Some (Some v) → IsOfFormat f v) → (b : Bool)
    → slice_get (if b then slice_set earlier (slice_index signals i) (Some (value_of_port ports.state p)) else earlier) n ≡ Some (Some v) → IsOfFormat f v
format_more formats signals ports earlier i p of fit less pat n f v is rest false h = rest h
format_more formats signals ports earlier i p of fit less pat n f v is rest true h = elim (cases_eq n (slice_index signals i)) [
  | inl same ↦ subst (λ (x : Raw). IsOfFormat f x) (there_is earlier (slice_index signals i) n (value_of_port ports.state p) v same h)
      (subst (λ (g : Format). IsOfFormat g (value_of_port ports.state p)) (same_Some p.format f (sym (of.format i (slice_index signals i) p pat (slice_get-get_or signals i 0 less)) ∙ ap (slice_get formats) (sym same) ∙ is))
      (value_format ports i p fit of.one pat (of.first i p pat)))
  | inr apart ↦ rest (elsewhere earlier (slice_index signals i) n (Some (value_of_port ports.state p)) (Some v) apart h)
]

waits_formats : (formats : List Format) (signals : List ℕ) (ports : PortsSeen) (waiting : List (Option Raw)) → ArePortsOf formats ports.spans signals → ArePortsFit ports
    → ((n : ℕ) (f : Format) (v : Raw) → slice_get formats n ≡ Some f → slice_get waiting n ≡ Some (Some v) → IsOfFormat f v)
    → (i : ℕ) → i ≤ length signals → (n : ℕ) (f : Format) (v : Raw) → slice_get formats n ≡ Some f → slice_get (written_first signals ports.spans ports.state i waiting) n ≡ Some (Some v) → IsOfFormat f v
unfolding written_first
waits_formats formats signals ports waiting of fit before zero within n f v is at = before n f v is at
waits_formats formats signals ports waiting of fit before (suc i) within n f v is at = let p = has_at ports.spans i (omega (arith, within, of.long)) in
    format_more formats signals ports (written_first signals ports.spans ports.state i waiting) i p.0 of fit (omega (arith, within)) p.1 n f v is
    (waits_formats formats signals ports waiting of fit before i (omega (arith, within)) n f v is) (slice_index_or ports.state.assigned i false)
    (sym (ap (λ (o : Option PortSpan). slice_get (written (slice_index signals i) ports.state i o (written_first signals ports.spans ports.state i waiting)) n) p.1) ∙ at)

-- the kernel after a process
module _ (flat : Flat) (time owner number : ℕ) (row : BlockRowOf) (old new : KernelOf) (can : IsRunnable flat) (at : slice_get flat.tables.blocks owner ≡ Some row) (kernel : IsKernelOf flat old)
    (run : HasRunIn flat.checked time owner number row old new) where
  left : PortsSeen
  left = run.acted.left

  own_is : list_at old.own_events owner ≡ owned_events flat owner
  own_is = kernel.own owner (slice_get_within flat.tables.blocks owner row at)

  middle_is : run.middle ≡ record old { frames = slice_set old.frames owner run.acted.after; ports = slice_set old.ports owner run.acted.left }
  middle_is = run.acted.rest ∙ ap (λ (x : List FrameSeen). record old { frames = x; ports = run.middle.ports }) run.acted.frames ∙ ap (λ (x : List PortsSeen). record old { frames = slice_set old.frames owner run.acted.after; ports = x }) run.acted.ports

  pub new_is : new ≡ record old {
    frames = slice_set old.frames owner run.acted.after;
    ports = slice_set old.ports owner run.acted.left;
    notices = noticed_first time (list_at old.own_events owner) run.acted.left.state.notified (length (list_at old.own_events owner)) old.notices;
    waiting = written_first row.signals run.acted.left.spans run.acted.left.state (length row.signals) old.waiting;
  }
  new_is = run.rest ∙ ap (λ (k : KernelOf). record k { notices = new.notices; waiting = new.waiting }) middle_is
      ∙ ap (λ (n : NoticesOf). record old { frames = slice_set old.frames owner run.acted.after; ports = slice_set old.ports owner run.acted.left; notices = n; waiting = new.waiting }) run.notices
      ∙ ap (λ (w : List (Option Raw)). record old {
        frames = slice_set old.frames owner run.acted.after;
        ports = slice_set old.ports owner run.acted.left;
        notices = noticed_first time (list_at old.own_events owner) run.acted.left.state.notified (length (list_at old.own_events owner)) old.notices;
        waiting = w;
      }) run.waiting

  mine : {X : Type 0} (xs : List X) (x y : X) (n : ℕ) → n ≡ owner → slice_get (slice_set xs owner x) n ≡ Some y → y ≡ x
  mine xs x y n same h = let inside : owner < length xs = (let l = slice_get_within (slice_set xs owner x) n y h in let e = length-set xs owner x in omega (arith, l, e, same)) in
      sym (get_or_from_slice_get (slice_set xs owner x) n y y h) ∙ ap (λ k. slice_index_or (slice_set xs owner x) k y) same ∙ get_or-set_same xs owner x y inside

  others : {X : Type 0} (xs : List X) (x y : X) (n : ℕ) → n ≢ owner → slice_get (slice_set xs owner x) n ≡ Some y → slice_get xs n ≡ Some y
  others xs x y n apart h = let less : n < length xs = (let l = slice_get_within (slice_set xs owner x) n y h in let e = length-set xs owner x in omega (arith, l, e)) in
      slice_get-get_or xs n y less ∙ ap Some (sym (get_or-set_other xs owner n x y apart) ∙ get_or_from_slice_get (slice_set xs owner x) n y y h)

  pub keeps : IsKernelOf flat new
  keeps = subst (λ (k : KernelOf). IsKernelOf flat k) (sym new_is) (record {
    values = kernel.values;
    frames = length-set old.frames owner run.acted.after ∙ kernel.frames;
    ports = length-set old.ports owner run.acted.left ∙ kernel.ports;
    made = λ n other f p oat fat pat. elim (cases_eq n owner) [
      | inl same ↦ subst (λ (r : BlockRowOf). AreMadeFor flat.checked r.block f p) (same_Some row other (sym at ∙ ap (slice_get flat.tables.blocks) (sym same) ∙ oat))
          (subst (λ (x : FrameSeen). AreMadeFor flat.checked row.block x p) (sym (mine old.frames run.acted.after f n same fat))
          (subst (λ (x : PortsSeen). AreMadeFor flat.checked row.block run.acted.after x) (sym (mine old.ports run.acted.left p n same pat)) run.acted.made))
      | inr apart ↦ kernel.made n other f p oat (others old.frames run.acted.after f n apart fat) (others old.ports run.acted.left p n apart pat)
    ];
    times = times_same time (list_at old.own_events owner) run.acted.left.state.notified (length (list_at old.own_events owner)) old.notices ∙ kernel.times;
    triggered = kernel.triggered;
    waiting = waits_same row.signals run.acted.left.spans run.acted.left.state (length row.signals) old.waiting ∙ kernel.waiting;
    formats = waits_formats (signal_formats flat) row.signals run.acted.left old.waiting (subst (λ (sp : List PortSpan). ArePortsOf (signal_formats flat) sp row.signals) (sym run.acted.made.ports_are) (can.instances owner row at).ports) run.acted.fit kernel.formats (length row.signals) (omega arith);
    signal_lists = kernel.signal_lists;
    event_lists = kernel.event_lists;
    by_signal = kernel.by_signal;
    by_event = kernel.by_event;
    own_lists = kernel.own_lists;
    own = kernel.own;
    going = kernel.going;
  })

  -- the same by the definition
  module _ (model : PureTree) (checked : IsCheckedOf model flat.checked) (place : ℕ) (process : ProcessRowOf) (pat : slice_get flat.tables.processes place ≡ Some process) (own : process.owner ≡ owner) (num : process.number ≡ number) where
    block_at : (n : ℕ) (ps : List PureBlock) (bs : List Block) → AreBlocksOf (globals_of model.globals) ps bs → n < length bs → (p : PureBlock) × (slice_get ps n ≡ Some p)
    block_at n [] [] are less = absurd (omega (arith, less))
    block_at n [] (b ∷ bs) are less = absurd are
    block_at n (p ∷ ps) [] are less = absurd are
    block_at zero (p ∷ ps) (b ∷ bs) are less = (p, refl)
    block_at (suc n) (p ∷ ps) (b ∷ bs) are less = block_at n ps bs are.1 (omega (arith, less))

    unfoldable here : (b : PureBlock) × (slice_get (blocks_of model.globals) row.block ≡ Some b)
    here = block_at row.block (blocks_of model.globals) flat.checked.blocks.items checked (can.instances owner row at).block

    unfoldable before : State
    before = state_of run.acted.before.state (process_ports_before old.values row.signals (port_spans_of flat.checked row.block) (event_count flat.checked row.block))

    done_is : process_done model flat process row old.values run.acted.before.state ≡ state_of run.acted.after.state run.acted.left.state
    unfolding process_done before here
    done_is = ap (λ (n : ℕ). after_process model (slice_get (blocks_of model.globals) row.block) n before) num ∙ ap (λ (o : Option PureBlock). after_process model o number before) here.1 ∙ sym (run.acted.run.after model here.0 checked here.1)

    frame_is : frame_at (side_of old).frames process.owner ≡ run.acted.before.state
    frame_is = ap (frame_at (side_of old).frames) own ∙ get_or_from_slice_get (map (λ (f : FrameSeen). f.state) old.frames) owner run.acted.before.state _ (slice_get-map (λ (f : FrameSeen). f.state) old.frames owner ∙ ap (option_map (λ (f : FrameSeen). f.state)) run.acted.was)

    abbrev with_parts : List FrameState → NoticesOf → List (Option Raw) → SideOf
    with_parts frames notices waiting = record { values = old.values; frames = frames; notices = notices; triggered = old.triggered.flags; waiting = waiting }

    pub ran_is : side_of new ≡ ran model flat time place (side_of old)
    unfolding ran
    ran_is = ap side_of new_is
        ∙ ap (λ x. with_parts x (noticed_first time (list_at old.own_events owner) run.acted.left.state.notified (length (list_at old.own_events owner)) old.notices) (written_first row.signals run.acted.left.spans run.acted.left.state (length row.signals) old.waiting)) (map-set (λ (f : FrameSeen). f.state) old.frames owner run.acted.after)
        ∙ ap (λ (es : List ℕ). with_parts (slice_set (side_of old).frames owner run.acted.after.state) (noticed_first time es run.acted.left.state.notified (length es) old.notices) (written_first row.signals run.acted.left.spans run.acted.left.state (length row.signals) old.waiting)) own_is
        ∙ ap (λ (sp : List PortSpan). with_parts (slice_set (side_of old).frames owner run.acted.after.state) (noticed_first time (owned_events flat owner) run.acted.left.state.notified (length (owned_events flat owner)) old.notices) (written_first row.signals sp run.acted.left.state (length row.signals) old.waiting)) run.acted.made.ports_are
        ∙ ap (λ (n : ℕ). with_parts (slice_set (side_of old).frames n run.acted.after.state) (noticed_first time (owned_events flat n) run.acted.left.state.notified (length (owned_events flat n)) old.notices) (written_first row.signals (port_spans_of flat.checked row.block) run.acted.left.state (length row.signals) old.waiting)) (sym own)
        ∙ ap (λ (d : State). side_after flat time process row d (side_of old)) (sym done_is)
        ∙ ap (λ (f : FrameState). side_after flat time process row (process_done model flat process row old.values f) (side_of old)) (sym frame_is)
        ∙ sym (ap (λ (o : Option BlockRowOf). run_of model flat time (Some process) o (side_of old)) (ap (slice_get flat.tables.blocks) own ∙ at))
        ∙ sym (ap (λ (o : Option ProcessRowOf). run_of model flat time o (slice_get flat.tables.blocks (owner_of o)) (side_of old)) pat)

-- a triggered process is one of the model
pub triggered_inside : (flat : Flat) (k : KernelOf) (j p : ℕ) → IsKernelOf flat k → AreListed k.triggered.flags k.triggered.members → slice_get k.triggered.members j ≡ Some p → p < length flat.tables.processes
triggered_inside flat k j p kernel listed at = elim (cases_lt p (length k.triggered.flags)) [
  | inl less ↦ omega (arith, less, kernel.triggered)
  | inr past ↦ absurd (true≢false (sym (listed.on j p at) ∙ get_or_past k.triggered.flags p false past))
]
