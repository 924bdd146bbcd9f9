use Rattle.std.proofs.Common.{◌≡◌, ◌∙◌, ℤ, List, Vec, Global, length, map, refl, sym, ap, subst}
use Rattle.std.proofs.lemmas.List.{length-map}
use Rattle.tdf_bind_connections.specs.declared.drivers.SignalRow.{SignalRow}
use Rattle.tdf_bind_tables.specs.FlatTables.{FlatTablesOf}
use Rattle.tdf_events.proofs.Onward.{GoesOn, can_hold, goes_on, keeps}
use Rattle.tdf_events.proofs.resuming.resumed_parts.Goals as goal
use Rattle.tdf_events.specs.Kernel.{KernelOf}
use Rattle.tdf_events.specs.machine.Resuming.{AreValuesIn, CanHold, HaveCells, with_pending}
use Rattle.tdf_events.specs.views.Parts.{kernel_of}
use Rattle.tdf_saved.specs.State.{KernelStateOf}
use Rattle.tdf_saved.specs.declared.state.Pending.{Pending}

abbrev nums_in : Vec ℤ Global → List ℤ
nums_in v = v.items

abbrev blocks_of : KernelStateOf → List (List ℤ)
blocks_of s = s.blocks

pub set_all-requires-clause-fit : goal.set_all-requires-clause-fit
set_all-requires-clause-fit c =
    let s = c.args.state.now in
    let blocks = ap (map nums_in) c.deref-3.ensures.value ∙ ap blocks_of c.state.view_is in
    subst (CanHold c.in_ok-parts.parts.frames.items) (sym blocks) (can_hold c.args.flat.now (kernel_of c.in_ok-parts.parts) c.args.time s c.in_ok-parts.ensures.kernel c.requires.state)

pub returns-clause-side : goal.returns-clause-side
returns-clause-side c =
    let s = c.args.state.now in
    let old = c.in_ok-parts.parts in
    let signals : c.deref.result.now ≡ c.args.flat.now.tables.de_signals = c.deref.ensures.value ∙ ap (λ (t : FlatTablesOf). t.de_signals) c.tables.view_is in
    let nums : c.deref-2.result.now ≡ s.values = c.deref-2.ensures.value ∙ ap (λ (x : KernelStateOf). x.values) c.state.view_is in
    let blocks : map nums_in c.deref-3.result.now ≡ s.blocks = ap (map nums_in) c.deref-3.ensures.value ∙ ap blocks_of c.state.view_is in
    let pending : c.deref-4.result.now ≡ s.pending = c.deref-4.ensures.value ∙ ap (λ (x : KernelStateOf). x.pending) c.state.view_is in
    let new : KernelOf = record (kernel_of old) { values = c.in_ok-values.values.items; frames = c.set_all.new.frames.items; notices = c.notify_all.new.notices; triggered = c.keep_starts.new.triggered } in
    let on : GoesOn c.args.flat.now c.args.time s (kernel_of old) new = record {
      values = subst (λ (xs : List SignalRow). AreValuesIn (map (λ row. row.format) xs) s.values (length s.values) c.in_ok-values.values.items) signals
          (subst (λ (xs : List ℤ). AreValuesIn (map (λ row. row.format) c.deref.result.now) xs (length xs) c.in_ok-values.values.items) nums c.in_ok-values.ensures);
      frames = subst (λ xs. HaveCells xs (length xs) old.frames.items c.set_all.new.frames.items) blocks
          (subst (λ n. HaveCells (map nums_in c.deref-3.result.now) n old.frames.items c.set_all.new.frames.items) (sym (length-map c.deref-3.result.now nums_in)) c.set_all.ensures);
      notices = c.notify_all.ensures ∙ ap (λ (l : List Pending). record old.notices { times = with_pending l old.notices.times }) pending;
      triggered = c.keep_starts.ensures;
      rest = refl;
    } in
    goes_on c.args.flat.now c.args.time s (kernel_of old) new c.requires.state c.in_ok-parts.ensures.side on

pub returns-clause-kernel : goal.returns-clause-kernel
returns-clause-kernel c =
    let s = c.args.state.now in
    let old = c.in_ok-parts.parts in
    let signals : c.deref.result.now ≡ c.args.flat.now.tables.de_signals = c.deref.ensures.value ∙ ap (λ (t : FlatTablesOf). t.de_signals) c.tables.view_is in
    let nums : c.deref-2.result.now ≡ s.values = c.deref-2.ensures.value ∙ ap (λ (x : KernelStateOf). x.values) c.state.view_is in
    let blocks : map nums_in c.deref-3.result.now ≡ s.blocks = ap (map nums_in) c.deref-3.ensures.value ∙ ap blocks_of c.state.view_is in
    let pending : c.deref-4.result.now ≡ s.pending = c.deref-4.ensures.value ∙ ap (λ (x : KernelStateOf). x.pending) c.state.view_is in
    let new : KernelOf = record (kernel_of old) { values = c.in_ok-values.values.items; frames = c.set_all.new.frames.items; notices = c.notify_all.new.notices; triggered = c.keep_starts.new.triggered } in
    let on : GoesOn c.args.flat.now c.args.time s (kernel_of old) new = record {
      values = subst (λ (xs : List SignalRow). AreValuesIn (map (λ row. row.format) xs) s.values (length s.values) c.in_ok-values.values.items) signals
          (subst (λ (xs : List ℤ). AreValuesIn (map (λ row. row.format) c.deref.result.now) xs (length xs) c.in_ok-values.values.items) nums c.in_ok-values.ensures);
      frames = subst (λ xs. HaveCells xs (length xs) old.frames.items c.set_all.new.frames.items) blocks
          (subst (λ n. HaveCells (map nums_in c.deref-3.result.now) n old.frames.items c.set_all.new.frames.items) (sym (length-map c.deref-3.result.now nums_in)) c.set_all.ensures);
      notices = c.notify_all.ensures ∙ ap (λ (l : List Pending). record old.notices { times = with_pending l old.notices.times }) pending;
      triggered = c.keep_starts.ensures;
      rest = refl;
    } in
    keeps c.args.flat.now c.args.time s (kernel_of old) new c.requires.state c.in_ok-parts.ensures.kernel on
