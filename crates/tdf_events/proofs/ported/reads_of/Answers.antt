use Rattle.std.proofs.Common.{◌≡◌, ◌++◌, ◌∷◌, [], if◌then◌else◌, ℕ, List, Some, slice_get, take, ap, sym, ◌∙◌}
use Rattle.tdf_events.specs.machine.Reading.{read_from}
use Rattle.tdf_expr.specs.Frames.{is_written}
use Rattle.tdf_events.proofs.Reading.{read_next, read_none}
use Rattle.tdf_events.proofs.ported.reads_of.Goals as goal

pub loop-place-init : goal.loop-place-init
loop-place-init c = c.new-list.ensures.items ∙ sym (read_none c.args.ports.now.spans)

pub loop-place-preserved : goal.loop-place-preserved
loop-place-preserved c =
    let spans = c.args.ports.now.spans in
    let place = c.loop-place.place in
    let port = c.port-port.result in
    let at : slice_get spans place ≡ Some port = ap (slice_get spans) (sym c.in_ok-number.ensures.number) ∙ c.port-port.ensures in
    c.in_ok-add_read.ensures
    ∙ ap (λ (xs : List ℕ). xs ++ (if is_written port.word then [] else c.in_ok-number.number ∷ [])) c.loop-place.invariant
    ∙ ap (λ (n : ℕ). read_from 0 (take place spans) ++ (if is_written port.word then [] else n ∷ [])) c.in_ok-number.ensures.number
    ∙ sym (read_next spans place port at)
