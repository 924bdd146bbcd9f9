use Rattle.std.proofs.Common.{List, ◌∙◌, ap, map, sym}
use Rattle.tdf_lang_parser.specs.views.PlaceViews.{shown_frames}
use Rattle.tdf_lang_parser.specs.machine.Places.{Frame, end_body}
use Rattle.tdf_lang_tree.specs.Views.{pure_stmt}
use Rattle.tdf_lang_parser.proofs.StmtLaws.{frames_push}
use Rattle.tdf_lang_parser.proofs.bodies.end_body.Goals as goal

pub returns-in-Ok : goal.returns-in-Ok
returns-in-Ok c o n =
    c.in-Ok.ensures o n (shown_frames c.pop.new.self.items)
    ∙ ap (λ (fs : List Frame). end_body o n fs (map pure_stmt c.args.list.now.items))
    (sym (frames_push c.pop.new.self.items c.in-Some.frame) ∙ ap shown_frames (sym c.in-Some.ensures.items))
