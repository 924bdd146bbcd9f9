use Rattle.std.proofs.Common.{rules, ◌≡◌, ◌<◌, None, arith, length, refl, slice_index_or}
use Rattle.std.proofs.lemmas.Option.{slice_get-get_or, slice_get_read, slice_get_within}
use Rattle.tdf_sim_shown.proofs.Columned.{more_columns}
use Rattle.tdf_sim_shown.proofs.column_states.are_columns.Goals as goal

pub loop-n-preserved : goal.loop-n-preserved
loop-n-preserved c =
    let traces = c.args.flat.now.tables.traces in
    let less : c.loop-n.n < length c.args.flat.now.tables.traces = search rules in
    let w = c.requires.windows in let z = c.requires.columns in
    more_columns c.args.flat.now c.args.rows c.args.time c.args.values.now c.args.windows.now c.args.columns.now c.loop-n.n c.index-row.result.now (slice_index_or c.args.windows.now c.loop-n.n None) c.index-columns-n.result
    (slice_get_read traces (length traces) c.loop-n.n c.index-row.result.now refl less (search rules))
    (slice_get-get_or c.args.windows.now c.loop-n.n None (omega (arith, less, w)))
    (slice_get_read c.args.columns.now (length c.args.columns.now) c.loop-n.n c.index-columns-n.result refl (omega (arith, less, z)) c.index-columns-n.is)
    c.loop-n.invariant (c.is_column.ensures.0 c.if-not-is_column.false)

pub returns : goal.returns
returns c = (
  λ e n row window s row_at window_at s_at. c.loop-n.invariant n row window s
      (let i = slice_get_within c.args.flat.now.tables.traces n row row_at in let past = c.loop-n-test.false in let len : c.len-n-end.result ≡ length c.args.flat.now.tables.traces = search rules in omega (arith, i, past, len))
      row_at window_at s_at,
  λ all. refl,
)
