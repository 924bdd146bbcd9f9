use Rattle.std.proofs.Common.{◌≤◌, ◌∙◌, ap, arith, length, map, sym}
use Rattle.std.proofs.lemmas.List.{take_all}
use Rattle.tdf_bind_tables.specs.Actors.{cluster_of}
use Rattle.tdf_bind_tables.specs.FlatTables.{FlatTablesOf}
use Rattle.tdf_dynamic_plans.proofs.clusters.clusters_of.Goals as goal

pub returns : goal.returns
returns c =
    let past : length c.args.tables.now.actors ≤ c.loop-i.i =
    (let t = c.loop-i-test.false in let n = c.len-i-end.ensures in let v = ap (λ (x : FlatTablesOf). length x.actors) c.tables.view_is in omega (arith, t, n, v)) in
    record {
      numbers = sym (take_all c.loop-i.i c.loop-i.numbers.items (let l = c.loop-i.invariant.long in omega (arith, past, l)))
          ∙ c.loop-i.invariant.done ∙ ap (map cluster_of) (take_all c.loop-i.i c.args.tables.now.actors past);
    }
