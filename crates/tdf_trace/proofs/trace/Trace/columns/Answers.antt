use Rattle.std.proofs.Common.{Vec, Global, subst, sym}
use Rattle.std.proofs.lemmas.Result.{IfOk-weaker}
use Rattle.tdf_saved.specs.State.{ColumnStateOf}
use Rattle.tdf_trace.proofs.Stated.{states_are}
use Rattle.tdf_trace.proofs.trace.Trace.columns.Goals as goal
use Rattle.tdf_trace.specs.Stands.{TraceSeen}
use Rattle.tdf_trace.specs.States.{AreStatesOf}
use Rattle.tdf_trace.specs.views.Seen.{rows_seen}

pub returns-clause-cells : goal.returns-clause-cells
returns-clause-cells c = IfOk-weaker c.states_of.result _ _
    (λ (states : Vec ColumnStateOf Global) same. subst (λ (v : TraceSeen). AreStatesOf v.rows states.items) c.self.view_is
    (subst (AreStatesOf (rows_seen c.self.inside.rows)) (sym same) (states_are (rows_seen c.self.inside.rows) c.self.invariant.sound)))
    c.states_of.ensures
