use Rattle.std.proofs.Common.{◌∙◌, ap, sym}
use Rattle.indexmap.specs.IndexMap.{get_by}
use Rattle.std.specs.Cmp.Lexicographic.{pointwise}
use Rattle.std.specs.Option.{option_map}
use Rattle.std.specs.Prelude.{nat_eq}
use Rattle.tdf_stim.proofs.Maps.{put_adds, put_stays, source_cond}
use Rattle.tdf_stim.specs.machine.Maps.{found_source, source_at}
use Rattle.tdf_stim.proofs.signals.Signals.put.Goals as goal

pub returns-in-Some : goal.returns-in-Some
returns-in-Some c = λ other. put_stays (found_source c.args.self.now) c.args.name.now other (source_at other c.args.signal) (source_at c.args.name.now c.in-Some.field-0)
    (sym c.find.ensures ∙ ap (option_map (source_at c.args.name.now)) c.in-Some.is)

pub returns-in_ok-insert-in-None : goal.returns-in_ok-insert-in-None
returns-in_ok-insert-in-None c = λ other. put_adds (found_source c.args.self.now) _ c.args.name.now other (source_at other c.args.signal)
    (sym c.find.ensures ∙ ap (option_map (source_at c.args.name.now)) c.in-None.is)
    (ap (option_map (source_at other)) (c.in_ok-insert-in-None.ensures.updates.0 (record { ref_ptr = (0, 0); now = other }))
    ∙ source_cond (source_at other) (pointwise nat_eq c.args.name.now other) c.args.signal (get_by (λ k. pointwise nat_eq other k.now) c.args.self.now.map))
