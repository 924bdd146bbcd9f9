use Rattle.std.proofs.Common.{◌≡◌, List, map, length, refl, sym, subst, ap, ◌∙◌, ◌≤◌, ◌-◌, ◌^◌, false}
use Rattle.std.proofs.lemmas.List.{length-map}
use Rattle.tdf_base.specs.Limits.{most_traces}
use Rattle.tdf_trace.proofs.Fresh.{fresh_sound, fresh_stands}
use Rattle.tdf_trace.proofs.Kept.{kept_fresh}
use Rattle.tdf_trace.proofs.trace.Trace.new.Goals as goal
use Rattle.tdf_trace.specs.Columns.{ColumnSeen}
use Rattle.tdf_trace.specs.Stands.{Stands, no_cells}
use Rattle.tdf_trace.specs.machine.Turning.{AreKept, AreSound}
use Rattle.tdf_trace.specs.views.Seen.{fresh}

pub invariant_of-result : goal.invariant_of-result
invariant_of-result c =
    let e : c.in-Ok.columns.items ≡ map fresh c.args.variables.items = c.in-Ok.ensures in
    let n : length c.in-Ok.columns.items ≡ length c.args.variables.items = ap length e ∙ length-map c.args.variables.items fresh in
    record {
      fits = record { same = sym n; few = subst (λ k. k ≤ most_traces) (sym n) c.requires.few };
      sound = subst (λ (l : List ColumnSeen). AreSound 0 l) (sym e) (fresh_sound c.args.variables.items c.requires.first);
      kept = subst (λ (l : List ColumnSeen). AreKept l (2 ^ 64 - 1) false) (sym e) (kept_fresh c.args.variables.items);
    }

pub returns-in-Ok : goal.returns-in-Ok
returns-in-Ok c = record {
  about = refl;
  stage = refl;
  start = refl;
  stands = (let e : c.in-Ok.columns.items ≡ map fresh c.args.variables.items = c.in-Ok.ensures in
      subst (λ (l : List ColumnSeen). Stands (no_cells c.args.variables.items) (record { columns = l; upto = 0 })) (sym e) (fresh_stands c.args.variables.items));
}
