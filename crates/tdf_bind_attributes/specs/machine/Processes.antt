-- How the code gathers places (own).
use Rattle.std.specs.Prelude.{ℕ, List, [], ◌∷◌, Option, Some, None}
use Rattle.tdf_bind_attributes.specs.Roles.{places_among}
use Rattle.tdf_lang_tree.specs.Pure.{PureProcess}
use Rattle.tdf_bind_connections.specs.Roles.{ProcessOf}

abbrev pub found_place : Option ℕ → List ℕ
found_place None = []
found_place (Some place) = place ∷ []

-- a process of a block with these ports and events
abbrev pub process_with : (ports events : List (List ℕ)) → PureProcess → ProcessOf
process_with ports events process = record {
  starts = process.starts;
  ports = places_among ports process.sensitive;
  events = places_among events process.sensitive;
}
