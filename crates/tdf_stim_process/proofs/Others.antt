-- The processes of other instances keep the driver's part.
use Rattle.std.proofs.Common.{◌≡◌, ◌≢◌, ◌∙◌, ℕ, ◌<◌, true, List, [], length, Option, Some, None, slice_get, slice_index, refl, sym, ap, subst}
use Rattle.std.proofs.lemmas.Bool.{true≢false}
use Rattle.std.proofs.lemmas.List.{get_or-set_other, length-set}
use Rattle.tdf_bind.specs.declared.model.Flat.{Flat}
use Rattle.tdf_bind_connections.specs.ProcessBlocks.{BlockRowOf, ProcessRowOf}
use Rattle.tdf_events.specs.Notices.{noticed_first}
use Rattle.tdf_events.specs.Processes.{frame_at, owned_events, owner_of, process_done, ran, run_of, side_after}
use Rattle.tdf_events.specs.Side.{SideOf}
use Rattle.tdf_expr.specs.Made.{port_spans_of}
use Rattle.tdf_expr_state.specs.State.{FrameState, State}
use Rattle.tdf_lang_tree.specs.Pure.{PureTree}
use Rattle.tdf_stim.specs.Signals.{Column}
use Rattle.tdf_stim_history.specs.Driver.{DriverOf, KeepsPart}
use Rattle.tdf_stim_process.proofs.Marks.{first_long, first_other}
use Rattle.tdf_stim_process.proofs.Notices.{SameAt, first_same, notices_long}
use Rattle.tdf_stim_process.proofs.Owned.{among_at, apart_owners}
use Rattle.tdf_stim_process.specs.Placed.{IsAlone, IsDriverIn, placed_driver, is_one_of}

abbrev no_frame : FrameState
no_frame = record { cells = []; rates = [] }

module _ (model : PureTree) (flat : Flat) (columns : List Column) (times : List ℕ) (d : IsDriverIn model flat columns times) (alone : IsAlone model flat d.owner d.process d.block.signals) where
  abbrev the_driver : DriverOf
  the_driver = placed_driver model flat columns times d

  -- an event of the driver is none of another instance
  not_owned : (other e i : ℕ) → other ≢ d.owner → is_one_of d.row.events e ≡ true → i < length (owned_events flat other) → slice_index (owned_events flat other) i ≢ e
  not_owned other e i apart mine less same =
      let events : d.row.events ≡ owned_events flat d.owner = d.run.events ∙ sym d.run.owned in
      let found = among_at (owned_events flat d.owner) e (subst (λ (es : List ℕ). is_one_of es e ≡ true) events mine) in
      apart_owners other d.owner flat.tables.events i found.0 apart less found.1 (same ∙ sym found.2)

  -- what another process does to a side
  kept_by : (time n : ℕ) (row : ProcessRowOf) (block : BlockRowOf) (s : SideOf) → slice_get flat.tables.processes n ≡ Some row → n ≢ d.process → slice_get flat.tables.blocks row.owner ≡ Some block
      → KeepsPart the_driver s (side_after flat time row block (process_done model flat row block s.values (frame_at s.frames row.owner)) s)
  kept_by time n row block s at other block_at =
      let done : State = process_done model flat row block s.values (frame_at s.frames row.owner) in
      let apart : row.owner ≢ d.owner = alone.others n row at other in
      let events : List ℕ = owned_events flat row.owner in
      let same : (e : ℕ) → is_one_of d.row.events e ≡ true → SameAt e s.notices (noticed_first time events done.ports.notified (length events) s.notices) = λ e mine.
      first_same time events done.ports.notified (length events) e s.notices (λ k less. not_owned row.owner e k apart mine less) in
      record {
        held = get_or-set_other s.frames row.owner d.owner done.frame no_frame (λ is. apart (sym is));
        frames = length-set s.frames row.owner done.frame;
        times = λ e mine. (same e mine).time;
        events = notices_long time events done.ports.notified (length events) s.notices;
        delta = λ e mine. (same e mine).delta;
        waiting = λ x mine. first_other block.signals (port_spans_of flat.checked block.block) done.ports x (length block.signals) s.waiting
            (λ j less on is. true≢false (sym mine ∙ ap (is_one_of d.block.signals) (sym is) ∙ alone.ports n j row block s.values (frame_at s.frames row.owner) at other block_at on));
        values = refl;
        many = first_long block.signals (port_spans_of flat.checked block.block) done.ports (length block.signals) s.waiting;
        triggered = refl;
      }

  keeps_itself : (s : SideOf) → KeepsPart the_driver s s
  keeps_itself s = record {
    held = refl;
    frames = refl;
    times = λ e mine. refl;
    events = refl;
    delta = λ e mine. refl;
    waiting = λ x mine. refl;
    values = refl;
    many = refl;
    triggered = refl;
  }

  pub others_keep : (time n : ℕ) (s : SideOf) → n ≢ d.process → KeepsPart the_driver s (ran model flat time n s)
  unfolding ran
  others_keep time n s other = go (slice_get flat.tables.processes n) refl
    where
      with_block : (row : ProcessRowOf) → slice_get flat.tables.processes n ≡ Some row → (o : Option BlockRowOf) → slice_get flat.tables.blocks row.owner ≡ o → KeepsPart the_driver s (run_of model flat time (Some row) o s)
      with_block row at None is = keeps_itself s
      with_block row at (Some block) is = kept_by time n row block s at other is

      go : (o : Option ProcessRowOf) → slice_get flat.tables.processes n ≡ o → KeepsPart the_driver s (run_of model flat time o (slice_get flat.tables.blocks (owner_of o)) s)
      go None at = keeps_itself s
      go (Some row) at = with_block row at (slice_get flat.tables.blocks row.owner) refl
