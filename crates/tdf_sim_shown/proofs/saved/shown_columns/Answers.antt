use Rattle.std.proofs.Common.{◌≡◌, ◌∙◌, ap, length}
use Rattle.std.proofs.lemmas.List.{length-map}
use Rattle.tdf_sim_shown.proofs.Columns.{gives_columns}
use Rattle.tdf_sim_shown.proofs.saved.shown_columns.Goals as goal
use Rattle.tdf_trace.specs.States.{column_state}

pub returns : goal.returns
returns c = gives_columns c.args.flat.now c.args.shown.now c.in_ok-columns.columns.items c.add_later.new.columns.items c.in_ok-columns.ensures.cells
    (ap length c.in_ok-columns.ensures.states ∙ length-map c.args.shown.now.trace.rows.columns column_state) c.in_ok-add_later.ensures
