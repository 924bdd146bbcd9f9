use Rattle.std.proofs.Common.{◌∙◌, List, ap, refl, subst, sym}
use Rattle.tdf_sim_traces.proofs.Columns.{can_be_traced}
use Rattle.tdf_sim_traces.proofs.Noting.{columns_shown}
use Rattle.tdf_sim_traces.proofs.shown.Shown.go_on.Goals as goal
use Rattle.tdf_trace.specs.Stands.{Stands}
use Rattle.tdf_trace.specs.States.{cells_of_states}
use Rattle.tdf_trace.specs.Writings.{CanBeTraced, about_of}
use Rattle.tdf_trace.specs.declared.about.Variable.{Variable}

pub from_columns-requires-clause-traced : goal.from_columns-requires-clause-traced
from_columns-requires-clause-traced c = subst CanBeTraced (sym c.in_ok-columns.ensures) (can_be_traced c.args.flat.now.tables c.requires.can)

pub returns-clause-goes_on : goal.returns-clause-goes_on
returns-clause-goes_on c = record {
  about = c.in_ok-self.ensures.about ∙ ap (λ (l : List Variable). about_of c.args.kind c.args.flat.now.resolution l) c.in_ok-columns.ensures;
  stage = c.in_ok-self.ensures.stage;
  upto = c.in_ok-self.ensures.upto;
  stands = subst (λ (l : List Variable). Stands (cells_of_states l c.args.states.items) c.in_ok-self.field-0.rows) c.in_ok-columns.ensures c.in_ok-self.ensures.stands;
  events = λ was are. columns_shown c.args.flat.now.tables.traces was c.args.values.now c.args.self.now.events.items c.settle_all.new.events.items are c.settle_all.ensures;
  tracking = refl;
  signals = refl;
}
