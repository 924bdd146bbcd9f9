-- Statements of the code, and stacks of open blocks.
use Rattle.std.proofs.Common.{◌≡◌, ◌+◌, List, [], ◌∷◌, ◌++◌, length, refl, ◌∙◌, arith}
use Rattle.tdf_lang_tree.proofs.Api.{pure_assign, pure_notify, pure_set_rate, pure_set_step, pure_accept, pure_reject, pure_if, pure_for}
use Rattle.tdf_lang_parser.specs.views.PlaceViews.{shown_frame, piled, shown_frames}
use Rattle.tdf_lang_parser.specs.machine.Places.{Frame}
use Rattle.tdf_lang_parser.specs.declared.places.Frame as open_frame

pub ruleset stmt_laws = (pure_assign, pure_notify, pure_set_rate, pure_set_step, pure_accept, pure_reject, pure_if, pure_for)

piled-push : (xs : List open_frame.Frame) (x : open_frame.Frame) (above : List Frame) → piled (xs ++ x ∷ []) above ≡ shown_frame x ∷ piled xs above
unfolding piled
piled-push [] x above = refl
piled-push (y ∷ ys) x above = piled-push ys x (shown_frame y ∷ above)

pub frames_push : (xs : List open_frame.Frame) (x : open_frame.Frame) → shown_frames (xs ++ x ∷ []) ≡ shown_frame x ∷ shown_frames xs
unfolding shown_frames
frames_push xs x = piled-push xs x []

pub frames_none : shown_frames [] ≡ []
unfolding shown_frames piled
frames_none = refl

length-piled : (xs : List open_frame.Frame) (above : List Frame) → length (piled xs above) ≡ length xs + length above
unfolding piled
length-piled [] above = omega arith
length-piled (x ∷ xs) above = length-piled xs (shown_frame x ∷ above) ∙ omega arith

pub frames_length : (xs : List open_frame.Frame) → length (shown_frames xs) ≡ length xs
unfolding shown_frames
frames_length xs = length-piled xs [] ∙ omega arith

pub ruleset frame_laws = (frames_push, frames_none, frames_length)
