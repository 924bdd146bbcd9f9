-- Which place a value of the code stands for (own).
use Rattle.std.specs.Prelude.{ℕ, false, List, [], ◌∷◌, map}
use Rattle.tdf_lang_tree.specs.Pure.{PureStmt, PureTdf, PureDe, PureComposite, PureTree, GTdf, GDe, GNet}
use Rattle.tdf_lang_tree.specs.Views.{pure_expr, pure_stmt, pure_global, pure_tdf, pure_de, pure_process, pure_composite, pure_tree}
use Rattle.tdf_lang_tree.specs.Forms.{Form, FDontInitialize}
use Rattle.tdf_lang_parser.specs.SpellsTree.{body_with}
use Rattle.tdf_lang_parser.specs.machine.Places.{Outer, Frame, FrIf, FrElse, FrFor, Owner, OwnInitialize, OwnProcessing, OwnChange, OwnReinitialize, OwnProcess, Place, PGlobals, PTdf, PAttributes, PInitialize, PBody, PDe, PProcess, PNet, PTop, PTraces, PLost, closed_top, finished, goes_body, goes_globals, with_global}
use Rattle.tdf_lang_parser.specs.declared.places.BodyPart as body_part
use Rattle.tdf_lang_parser.specs.declared.places.BodyPart.TheVariants as part
use Rattle.tdf_lang_parser.specs.declared.places.Outer as held
use Rattle.tdf_lang_parser.specs.declared.places.Frame as open_frame
use Rattle.tdf_lang_parser.specs.declared.places.Frame.TheVariants as fr
use Rattle.tdf_lang_parser.specs.declared.places.InTdf as in_tdf
use Rattle.tdf_lang_parser.specs.declared.places.InTdf.TheVariants as tdf
use Rattle.tdf_lang_parser.specs.declared.places.InDe as in_de
use Rattle.tdf_lang_parser.specs.declared.places.InDe.TheVariants as de
use Rattle.tdf_lang_parser.specs.declared.places.Place as open_place
use Rattle.tdf_lang_parser.specs.declared.places.Place.TheVariants as at
use Rattle.tdf_lang_parser.specs.declared.places.Turn as turn
use Rattle.tdf_lang_parser.specs.declared.places.Turn.TheVariants as turns

abbrev pub shown_outer : held.Outer → Outer
shown_outer o = record { dialect = o.dialect; globals = map pure_global o.globals.items }

abbrev pub shown_frame : open_frame.Frame → Frame
shown_frame (fr.If line test outer) = FrIf line (pure_expr test) (map pure_stmt outer.items)
shown_frame (fr.Else line test first outer) = FrElse line (pure_expr test) (map pure_stmt first.items) (map pure_stmt outer.items)
shown_frame (fr.For line name from l outer) = FrFor line name from l (map pure_stmt outer.items)

-- a vector used as a stack, innermost first
unfoldable pub piled : List open_frame.Frame → List Frame → List Frame
piled [] above = above
piled (x ∷ xs) above = piled xs (shown_frame x ∷ above)

unfoldable pub shown_frames : List open_frame.Frame → List Frame
shown_frames xs = piled xs []

-- whose body is open in a `tdf` block
abbrev pub tdf_owner : body_part.BodyPart → Outer → PureTdf → Owner
tdf_owner part.Initialize o t = OwnInitialize o t
tdf_owner part.Processing o t = OwnProcessing o t
tdf_owner part.Change o t = OwnChange o t
tdf_owner part.Reinitialize o t = OwnReinitialize o t

-- the number of the part that may come after a body
abbrev pub part_after : body_part.BodyPart → ℕ
part_after part.Initialize = 2
part_after part.Processing = 3
part_after part.Change = 4
part_after part.Reinitialize = 5

abbrev pub shown_tdf : Outer → PureTdf → in_tdf.InTdf → Place
shown_tdf o t (tdf.Lines parts) = PTdf o parts t
shown_tdf o t tdf.Attributes = PAttributes o t
shown_tdf o t tdf.Initialize = PInitialize o t
shown_tdf o t (tdf.Body p fs acc) = PBody (tdf_owner p o t) (shown_frames fs.items) (map pure_stmt acc.items)

abbrev pub shown_de : Outer → PureDe → in_de.InDe → Place
shown_de o d (de.Lines declares) = PDe o declares d
shown_de o d (de.Process p) = PProcess o d (pure_process p)
shown_de o d (de.Body p fs acc) = PBody (OwnProcess o d (pure_process p)) (shown_frames fs.items) (map pure_stmt acc.items)

abbrev pub shown_place : open_place.Place → Place
shown_place (at.Globals o) = PGlobals (shown_outer o)
shown_place (at.Tdf o t within) = shown_tdf (shown_outer o) (pure_tdf t) within
shown_place (at.De o d within) = shown_de (shown_outer o) (pure_de d) within
shown_place (at.Net o c) = PNet (shown_outer o) (pure_composite c)
shown_place (at.Top o c) = PTop (shown_outer o) (pure_composite c)
shown_place (at.Traces t) = PTraces (pure_tree t)
shown_place at.Lost = PLost

-- the place after a line in a body, at line n
abbrev pub body_turn : turn.Turn → Owner → ℕ → List Frame → List PureStmt → Place
body_turn turns.Stays owner n fs acc = PBody owner fs acc
body_turn turns.Ends owner n fs acc = finished owner (body_with acc n)
body_turn turns.Lost owner n fs acc = PLost

-- the place after a line in the body of a part, with the block as it is then
abbrev pub part_turn : turn.Turn → body_part.BodyPart → Outer → PureTdf → List Frame → List PureStmt → Place
part_turn turns.Stays p o t fs acc = PBody (tdf_owner p o t) fs acc
part_turn turns.Ends p o t fs acc = PTdf o (part_after p) t
part_turn turns.Lost p o t fs acc = PLost

-- the place after a line in a block
abbrev pub tdf_turn : turn.Turn → Outer → PureTdf → in_tdf.InTdf → Place
tdf_turn turns.Stays o t within = shown_tdf o t within
tdf_turn turns.Ends o t within = PGlobals (with_global o (GTdf t))
tdf_turn turns.Lost o t within = PLost

abbrev pub de_turn : turn.Turn → Outer → PureDe → in_de.InDe → Place
de_turn turns.Stays o d within = shown_de o d within
de_turn turns.Ends o d within = PGlobals (with_global o (GDe d))
de_turn turns.Lost o d within = PLost

abbrev pub net_turn : turn.Turn → Outer → PureComposite → Place
net_turn turns.Stays o c = PNet o c
net_turn turns.Ends o c = PGlobals (with_global o (GNet c))
net_turn turns.Lost o c = PLost

abbrev pub top_turn : turn.Turn → Outer → PureComposite → Place
top_turn turns.Stays o c = PTop o c
top_turn turns.Ends o c = PTraces (closed_top o c)
top_turn turns.Lost o c = PLost

abbrev pub traces_turn : turn.Turn → PureTree → Place
traces_turn turns.Stays t = PTraces t
traces_turn turns.Ends t = PLost
traces_turn turns.Lost t = PLost

-- the place after the `end` of a process's body, at line n
abbrev pub ended_de : Outer → PureDe → ℕ → in_de.InDe → Place
ended_de o d n (de.Body p fs acc) = finished (OwnProcess o d (pure_process p)) (body_with (map pure_stmt acc.items) n)
ended_de o d n _ = PLost

-- the place after a line of a process before its statements, which is no `sensitive` line
abbrev pub begun_de : Outer → PureDe → in_de.InDe → ℕ → Form → Place
begun_de o d (de.Process p) n FDontInitialize = PBody (OwnProcess o d (record (pure_process p) { starts = false })) [] []
begun_de o d (de.Process p) n f = goes_body (OwnProcess o d (pure_process p)) [] [] n f
begun_de o d _ n f = PLost

-- the place after the `end` of its block
abbrev pub closed_place : open_place.Place → Place
closed_place (at.Tdf o t within) = PGlobals (with_global (shown_outer o) (GTdf (pure_tdf t)))
closed_place (at.De o d within) = PGlobals (with_global (shown_outer o) (GDe (pure_de d)))
closed_place (at.Net o c) = PGlobals (with_global (shown_outer o) (GNet (pure_composite c)))
closed_place (at.Top o c) = PTraces (closed_top (shown_outer o) (pure_composite c))
closed_place _ = PLost

-- the place after a line outside the blocks
abbrev pub opened_place : open_place.Place → ℕ → Form → Place
opened_place (at.Globals o) n f = goes_globals (shown_outer o) n f
opened_place _ n f = PLost

-- the place after a line, with its block as it is then
abbrev pub place_turn : turn.Turn → open_place.Place → Place
place_turn turns.Stays p = shown_place p
place_turn turns.Ends p = closed_place p
place_turn turns.Lost p = PLost
