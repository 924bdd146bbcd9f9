use Rattle.std.proofs.Common.{rules, refl, ◌≡◌, ◌<◌, ℕ, List, None, false, length, map, replicate, slice_get, sym, ap, ◌∙◌, subst}
use Rattle.tdf_bind_tables.specs.FlatTables.{FlatTablesOf}
use Rattle.tdf_events.proofs.Starting.{IsFresh, fresh_kernel, fresh_side}
use Rattle.tdf_events.specs.Kernel.{AreSensitive}
use Rattle.tdf_events.specs.Processes.{owned_from}
use Rattle.tdf_events.specs.machine.Making.{AreAllPorts, AreFrames}
use Rattle.tdf_events.specs.views.Parts.{kernel_of}
use Rattle.tdf_bind_connections.specs.ProcessBlocks.{BlockRowOf, ProcessRowOf}
use Rattle.tdf_bind_connections.specs.declared.drivers.SignalRow.{SignalRow}
use Rattle.tdf_events.proofs.parts.parts_of.Goals as goal

pub start_frames-requires-clause-inside : goal.start_frames-requires-clause-inside
start_frames-requires-clause-inside c = λ n row at. (c.requires.instances n row (ap (λ (t : FlatTablesOf). slice_get t.blocks n) (sym c.tables.view_is) ∙ ap (λ (xs : List BlockRowOf). slice_get xs n) (sym c.deref-2.ensures.value) ∙ at)).block

pub start_ports-requires-clause-inside : goal.start_ports-requires-clause-inside
start_ports-requires-clause-inside c = λ n row at. (c.requires.instances n row (ap (λ (t : FlatTablesOf). slice_get t.blocks n) (sym c.tables.view_is) ∙ ap (λ (xs : List BlockRowOf). slice_get xs n) (sym c.deref-3.ensures.value) ∙ at)).block

pub returns-clause-side : goal.returns-clause-side
returns-clause-side c =
    let signals : c.deref.result.now ≡ c.args.flat.now.tables.de_signals = c.deref.ensures.value ∙ ap (λ (t : FlatTablesOf). t.de_signals) c.tables.view_is in
    let blocks : c.deref-2.result.now ≡ c.args.flat.now.tables.blocks = c.deref-2.ensures.value ∙ ap (λ (t : FlatTablesOf). t.blocks) c.tables.view_is in
    let blocks_again : c.deref-3.result.now ≡ c.args.flat.now.tables.blocks = c.deref-3.ensures.value ∙ ap (λ (t : FlatTablesOf). t.blocks) c.tables.view_is in
    let starting : c.deref-4.result.now ≡ c.args.flat.now.tables.processes = c.deref-4.ensures.value ∙ ap (λ (t : FlatTablesOf). t.processes) c.tables.view_is in
    let of_signals : c.deref-5.result.now ≡ c.args.flat.now.tables.processes = c.deref-5.ensures.value ∙ ap (λ (t : FlatTablesOf). t.processes) c.tables.view_is in
    let of_events : c.deref-6.result.now ≡ c.args.flat.now.tables.processes = c.deref-6.ensures.value ∙ ap (λ (t : FlatTablesOf). t.processes) c.tables.view_is in
    let events : c.deref-7.result.now ≡ c.args.flat.now.tables.events = c.deref-7.ensures.value ∙ ap (λ (t : FlatTablesOf). t.events) c.tables.view_is in
    let signal_count : c.len-signals.result ≡ length c.args.flat.now.tables.de_signals = (let n : c.len-signals.result ≡ length c.tables.inside.de_signals.items = search rules in n ∙ ap (λ (t : FlatTablesOf). length t.de_signals) c.tables.view_is) in
    let event_count : c.len-events.result ≡ length c.args.flat.now.tables.events = (let n : c.len-events.result ≡ length c.tables.inside.events.items = search rules in n ∙ ap (λ (t : FlatTablesOf). length t.events) c.tables.view_is) in
    let block_count : c.len.result ≡ length c.args.flat.now.tables.blocks = (let n : c.len.result ≡ length c.tables.inside.blocks.items = search rules in n ∙ ap (λ (t : FlatTablesOf). length t.blocks) c.tables.view_is) in
    let fresh : IsFresh c.args.flat.now (kernel_of (record { values = c.in_ok-values.values; frames = c.in_ok-frames.frames; ports = c.in_ok-ports.ports; notices = c.in_ok-notices.notices; triggered = c.in_ok-triggered.triggered; waiting = c.in_ok-waiting.waiting; by_signal = c.in_ok-by_signal.by_signal; by_event = c.in_ok-by_event.by_event; own_events = c.in_ok-own_events.own_events })) = record {
      values = c.in_ok-values.ensures ∙ ap (map (λ (row : SignalRow). row.start)) signals;
      frames = subst (λ xs. AreFrames c.args.flat.now.checked xs (length xs) c.in_ok-frames.frames.items) blocks c.in_ok-frames.ensures;
      ports = subst (λ xs. AreAllPorts c.args.flat.now.checked xs (length xs) c.in_ok-ports.ports.items) blocks_again c.in_ok-ports.ensures;
      notices = c.in_ok-notices.ensures ∙ ap (λ (n : ℕ). record { times = replicate n None; delta = replicate n false }) event_count;
      triggered = c.in_ok-triggered.ensures ∙ ap (map (λ (row : ProcessRowOf). row.starts)) starting;
      waiting = c.in_ok-waiting.ensures ∙ ap (λ (n : ℕ). replicate n None) signal_count;
      signal_lists = c.in_ok-by_signal.ensures.long ∙ signal_count;
      event_lists = c.in_ok-by_event.ensures.long ∙ event_count;
      by_signal = subst (λ (xs : List ProcessRowOf). AreSensitive (λ row. row.signals) xs (length xs) c.in_ok-by_signal.by_signal) of_signals c.in_ok-by_signal.ensures.lists;
      by_event = subst (λ (xs : List ProcessRowOf). AreSensitive (λ row. row.events) xs (length xs) c.in_ok-by_event.by_event) of_events c.in_ok-by_event.ensures.lists;
      own_lists = c.in_ok-own_events.ensures.long ∙ block_count;
      own = λ n less. c.in_ok-own_events.ensures.lists n (subst (λ m. n < m) (sym block_count) less) ∙ ap (owned_from n 0) events;
      going = refl;
    } in
    fresh_side c.args.flat.now _ fresh

pub returns-clause-kernel : goal.returns-clause-kernel
returns-clause-kernel c =
    let signals : c.deref.result.now ≡ c.args.flat.now.tables.de_signals = c.deref.ensures.value ∙ ap (λ (t : FlatTablesOf). t.de_signals) c.tables.view_is in
    let blocks : c.deref-2.result.now ≡ c.args.flat.now.tables.blocks = c.deref-2.ensures.value ∙ ap (λ (t : FlatTablesOf). t.blocks) c.tables.view_is in
    let blocks_again : c.deref-3.result.now ≡ c.args.flat.now.tables.blocks = c.deref-3.ensures.value ∙ ap (λ (t : FlatTablesOf). t.blocks) c.tables.view_is in
    let starting : c.deref-4.result.now ≡ c.args.flat.now.tables.processes = c.deref-4.ensures.value ∙ ap (λ (t : FlatTablesOf). t.processes) c.tables.view_is in
    let of_signals : c.deref-5.result.now ≡ c.args.flat.now.tables.processes = c.deref-5.ensures.value ∙ ap (λ (t : FlatTablesOf). t.processes) c.tables.view_is in
    let of_events : c.deref-6.result.now ≡ c.args.flat.now.tables.processes = c.deref-6.ensures.value ∙ ap (λ (t : FlatTablesOf). t.processes) c.tables.view_is in
    let events : c.deref-7.result.now ≡ c.args.flat.now.tables.events = c.deref-7.ensures.value ∙ ap (λ (t : FlatTablesOf). t.events) c.tables.view_is in
    let signal_count : c.len-signals.result ≡ length c.args.flat.now.tables.de_signals = (let n : c.len-signals.result ≡ length c.tables.inside.de_signals.items = search rules in n ∙ ap (λ (t : FlatTablesOf). length t.de_signals) c.tables.view_is) in
    let event_count : c.len-events.result ≡ length c.args.flat.now.tables.events = (let n : c.len-events.result ≡ length c.tables.inside.events.items = search rules in n ∙ ap (λ (t : FlatTablesOf). length t.events) c.tables.view_is) in
    let block_count : c.len.result ≡ length c.args.flat.now.tables.blocks = (let n : c.len.result ≡ length c.tables.inside.blocks.items = search rules in n ∙ ap (λ (t : FlatTablesOf). length t.blocks) c.tables.view_is) in
    let fresh : IsFresh c.args.flat.now (kernel_of (record { values = c.in_ok-values.values; frames = c.in_ok-frames.frames; ports = c.in_ok-ports.ports; notices = c.in_ok-notices.notices; triggered = c.in_ok-triggered.triggered; waiting = c.in_ok-waiting.waiting; by_signal = c.in_ok-by_signal.by_signal; by_event = c.in_ok-by_event.by_event; own_events = c.in_ok-own_events.own_events })) = record {
      values = c.in_ok-values.ensures ∙ ap (map (λ (row : SignalRow). row.start)) signals;
      frames = subst (λ xs. AreFrames c.args.flat.now.checked xs (length xs) c.in_ok-frames.frames.items) blocks c.in_ok-frames.ensures;
      ports = subst (λ xs. AreAllPorts c.args.flat.now.checked xs (length xs) c.in_ok-ports.ports.items) blocks_again c.in_ok-ports.ensures;
      notices = c.in_ok-notices.ensures ∙ ap (λ (n : ℕ). record { times = replicate n None; delta = replicate n false }) event_count;
      triggered = c.in_ok-triggered.ensures ∙ ap (map (λ (row : ProcessRowOf). row.starts)) starting;
      waiting = c.in_ok-waiting.ensures ∙ ap (λ (n : ℕ). replicate n None) signal_count;
      signal_lists = c.in_ok-by_signal.ensures.long ∙ signal_count;
      event_lists = c.in_ok-by_event.ensures.long ∙ event_count;
      by_signal = subst (λ (xs : List ProcessRowOf). AreSensitive (λ row. row.signals) xs (length xs) c.in_ok-by_signal.by_signal) of_signals c.in_ok-by_signal.ensures.lists;
      by_event = subst (λ (xs : List ProcessRowOf). AreSensitive (λ row. row.events) xs (length xs) c.in_ok-by_event.by_event) of_events c.in_ok-by_event.ensures.lists;
      own_lists = c.in_ok-own_events.ensures.long ∙ block_count;
      own = λ n less. c.in_ok-own_events.ensures.lists n (subst (λ m. n < m) (sym block_count) less) ∙ ap (owned_from n 0) events;
      going = refl;
    } in
    fresh_kernel c.args.flat.now _ c.requires fresh
