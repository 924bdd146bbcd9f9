use Rattle.std.proofs.Common.{◌≡◌, map, rules, subst}
use Rattle.tdf_lang_tree.specs.Views.{pure_tree}
use Rattle.tdf_stim.proofs.Plans.{none_driven}
use Rattle.tdf_stim.specs.Signals.{columns_from}
use Rattle.tdf_stim.specs.machine.Counted.{count_driving}
use Rattle.tdf_stim.specs.machine.Maps.{seen}
use Rattle.tdf_stim.specs.machine.Planned.{HasParts}
use Rattle.tdf_tables.specs.Rows.{row_of}
use Rattle.tdf_stim.proofs.planning.plan_parts.Goals as goal

pub returns-then-count_driving-eq0 : goal.returns-then-count_driving-eq0
returns-then-count_driving-eq0 c =
    let none : count_driving (map seen c.args.sources.now) ≡ 0 = search rules in
    none_driven (map row_of c.args.rows.now) (map seen c.args.sources.now) none

pub returns-in-Ok : goal.returns-in-Ok
returns-in-Ok c = subst (λ ts. HasParts (pure_tree c.args.tree.now) (columns_from (map row_of c.args.rows.now) 0 (map seen c.args.sources.now)) ts c.in-Ok.driver) c.requires.times c.in-Ok.ensures
