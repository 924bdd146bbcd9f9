-- The place after a line, by the block that the line is in.
use Rattle.std.proofs.Common.{◌≡◌, refl}
use Rattle.tdf_lang_parser.specs.views.PlaceViews.{shown_outer, place_turn, tdf_turn, de_turn, net_turn, top_turn}
use Rattle.tdf_lang_parser.specs.declared.places.Outer.{Outer}
use Rattle.tdf_lang_parser.specs.declared.places.InTdf.{InTdf}
use Rattle.tdf_lang_parser.specs.declared.places.InDe.{InDe}
use Rattle.tdf_lang_parser.specs.declared.places.Place.TheVariants as at
use Rattle.tdf_lang_parser.specs.declared.places.Turn.{Turn}
use Rattle.tdf_lang_parser.specs.declared.places.Turn.TheVariants as turns
use Rattle.tdf_lang_tree.specs.Views.{pure_tdf, pure_de, pure_composite}
use Rattle.tdf_lang_tree.specs.declared.blocks.Composite.{Composite}
use Rattle.tdf_lang_tree.specs.declared.blocks.DeDecl.{DeDecl}
use Rattle.tdf_lang_tree.specs.declared.blocks.TdfDecl.{TdfDecl}

pub turn_in_tdf : (t : Turn) (o : Outer) (block : TdfDecl) (within : InTdf) → place_turn t (at.Tdf o block within) ≡ tdf_turn t (shown_outer o) (pure_tdf block) within
turn_in_tdf turns.Stays o block within = refl
turn_in_tdf turns.Ends o block within = refl
turn_in_tdf turns.Lost o block within = refl

pub turn_in_de : (t : Turn) (o : Outer) (block : DeDecl) (within : InDe) → place_turn t (at.De o block within) ≡ de_turn t (shown_outer o) (pure_de block) within
turn_in_de turns.Stays o block within = refl
turn_in_de turns.Ends o block within = refl
turn_in_de turns.Lost o block within = refl

pub turn_in_net : (t : Turn) (o : Outer) (block : Composite) → place_turn t (at.Net o block) ≡ net_turn t (shown_outer o) (pure_composite block)
turn_in_net turns.Stays o block = refl
turn_in_net turns.Ends o block = refl
turn_in_net turns.Lost o block = refl

pub turn_in_top : (t : Turn) (o : Outer) (block : Composite) → place_turn t (at.Top o block) ≡ top_turn t (shown_outer o) (pure_composite block)
turn_in_top turns.Stays o block = refl
turn_in_top turns.Ends o block = refl
turn_in_top turns.Lost o block = refl
