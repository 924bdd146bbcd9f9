-- The event side of a model: what stands between two instants, and what waits within one.
-- Source: IEEE 1666-2011, 4.2.1 (scheduling) and 5.10 (events).
use Rattle.std.specs.Prelude.{ℕ, Bool, false, List, length, map, replicate, Option, None, pos, slice_index_or}
use Rattle.tdf_events.specs.Notices.{NoticesOf}
use Rattle.tdf_expr.specs.Made.{start_cells, start_rates}
use Rattle.tdf_fixed.specs.declared.raw.Raw.{Raw}
use Rattle.tdf_bind.specs.declared.model.Flat.{Flat}
use Rattle.tdf_expr_state.specs.State.{FrameState}

pub record SideOf : Type 0 where
  -- the settled value of each event signal
  pub values : List Raw
  -- what each instance of a block of processes holds
  pub frames : List FrameState
  -- the pending notifications, by event
  pub notices : NoticesOf
  -- the processes that run in the next evaluation
  pub triggered : List Bool
  -- by event signal: the value that it was given since the last update
  pub waiting : List (Option Raw)

-- the value of a signal
abbrev pub value_at : List Raw → ℕ → Raw
value_at values signal = slice_index_or values signal (record { num = pos 0; frac = 0 })

-- before the first instant: starting values and declared states; nothing is pending, and the
-- processes that run at the start are triggered
abbrev pub start_side : Flat → SideOf
start_side flat = record {
  values = map (λ row. row.start) flat.tables.de_signals;
  frames = map (λ row. record {
    cells = start_cells flat.checked row.block;
    rates = start_rates flat.checked row.block;
  }) flat.tables.blocks;
  notices = record {
    times = replicate (length flat.tables.events) None;
    delta = replicate (length flat.tables.events) false;
  };
  triggered = map (λ row. row.starts) flat.tables.processes;
  waiting = replicate (length flat.tables.de_signals) None;
}
