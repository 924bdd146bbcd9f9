-- A run whose trace got its head is still what it was.
use Rattle.std.proofs.Common.{◌≡◌, ℕ, List, sym, ap, subst, arith}
use Rattle.tdf_events.specs.Side.{SideOf}
use Rattle.tdf_bind.specs.declared.model.Flat.{Flat}
use Rattle.tdf_sim_history.specs.Telling.{world_told}
use Rattle.tdf_sim_history.specs.World.{World}
use Rattle.tdf_sim_runs.specs.Running.{CanGoOn, IsRunningAt}
use Rattle.tdf_sim_runs.specs.declared.running.Running.{Running}
use Rattle.tdf_sim_shown.proofs.Api.{written_is_shown}
use Rattle.tdf_trace.specs.Stands.{RowsSeen, Stands, TraceSeen}
use Rattle.tdf_lang_tree.specs.Pure.{PureTree}

module _ (flat : Flat) (r : Running) (trace : TraceSeen) (rows : trace.rows ≡ r.shown.trace.rows) (about : trace.about ≡ r.shown.trace.about) where
  abbrev pub with_head : Running
  with_head = record r { shown = record r.shown { trace = trace } }

  pub opens_run : (model : PureTree) (start : World SideOf) (handed : List ℕ) → IsRunningAt model flat start handed r → IsRunningAt model flat start handed with_head
  opens_run model start handed run = record {
    going = run.going;
    shown = written_is_shown model flat (world_told run.going.ahead start) run.going.world r.from r.shown trace run.shown (λ cells stands. subst (λ (x : RowsSeen). Stands cells x) (sym rows) stands) about;
    fits = run.fits;
    news_are = run.news_are;
  }

  pub opens : CanGoOn flat r → CanGoOn flat with_head
  opens can = record {
    engine = can.engine;
    ready = can.ready;
    none = can.none;
    early = (let e = can.early in let u : trace.rows.upto ≡ r.shown.trace.rows.upto = ap (λ (x : RowsSeen). x.upto) rows in omega (arith, e, u));
    since = λ place t t_at more. (let l = can.since place t t_at more in let u : trace.rows.upto ≡ r.shown.trace.rows.upto = ap (λ (x : RowsSeen). x.upto) rows in omega (arith, l, u));
    within = λ n s c s_at c_at. (let l = can.within n s c s_at c_at in let u : trace.rows.upto ≡ r.shown.trace.rows.upto = ap (λ (x : RowsSeen). x.upto) rows in omega (arith, l, u));
    printable = can.printable;
    some = record { model = can.some.model; of = can.some.of; start = can.some.start; handed = can.some.handed; is = opens_run can.some.model can.some.start can.some.handed can.some.is };
  }
