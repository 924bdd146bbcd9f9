use Rattle.std.proofs.Common.{◌≡◌, ◌++◌, take}
use Rattle.std.specs.List.{flat_map}
use Rattle.tdf_bind_tables.specs.Ranges.{actor_path}
use Rattle.tdf_dynamic_texts.specs.Plans.{fire_line}
use Rattle.tdf_schedule.specs.declared.entry.Entry.{Entry}
use Rattle.tdf_dynamic_texts.proofs.plans.push_fire_lines.Given as goal

abbrev pub invariant-loop-place : goal.invariant-loop-place
invariant-loop-place l = l.out.items ≡ l.initial.out.items
    ++ flat_map (λ (entry : Entry). fire_line l.unit (actor_path l.flat entry.actor) entry) (take l.place l.plan.entries.items)
