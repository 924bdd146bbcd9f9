use Rattle.std.proofs.Common.{rules, ◌∙◌, ◌<◌, ap, sym, [], map, length}
use Rattle.std.specs.BTreeMap.{insert_entry}
use Rattle.std.specs.Ordering.{nat_cmp}
use Rattle.std.specs.Prelude.{slice_set}
use Rattle.tdf_bind_attributes.proofs.Stood.{entries_set, entries_at}
use Rattle.tdf_bind_attributes.proofs.initials.put.Goals as goal

pub returns : goal.returns
returns c =
    let within : c.args.name < length c.args.maps.now.items = search rules in
    let was = c.index_mut.ensures.value in
    let held = entries_at (λ m. m.entries) c.args.maps.now.items c.args.name c.index_mut.result.now [] within in
    entries_set (λ m. m.entries) c.args.maps.now.items c.args.name c.insert.new.self
    ∙ ap (slice_set (map (λ m. m.entries) c.args.maps.now.items) c.args.name)
    (c.in_ok-insert.ensures.entries ∙ ap (λ es. insert_entry nat_cmp es c.args.place c.args.value) (ap (λ m. m.entries) was ∙ sym held))
