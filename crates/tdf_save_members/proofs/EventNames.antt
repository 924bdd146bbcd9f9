-- The names of the events of a sound model are apart: no path and no name has a space.
use Rattle.std.proofs.Common.{◌≡◌, ◌∙◌, ℕ, zero, suc, ◌<◌, List, [], ◌∷◌, ◌++◌, Some, length, map, refl, sym, ap, arith}
use Rattle.std.proofs.lemmas.List.{append_assoc, length-map}
use Rattle.std.proofs.lemmas.Option.{none-some, same_Some}
use Rattle.std.specs.Prelude.{slice_get, slice_index_or}
use Rattle.tdf_bind.proofs.Api.{HasNo, all_at, block_paths_are_unique, events_are_apart, name_without, path_without, paths_are_plain, same_back, same_front}
use Rattle.tdf_bind.specs.Laws.{HasEventsApart, HasPlainPaths, IsPlainPath, StandOnce, block_paths}
use Rattle.tdf_bind_connections.specs.ProcessBlocks.{BlockRowOf, event_row}
use Rattle.tdf_bind_connections.specs.declared.blocks.EventRow.{EventRow}
use Rattle.tdf_bind_tables.specs.FlatTables.{FlatTablesOf}
use Rattle.tdf_lang_tree.specs.Kept.{IsName}
use Rattle.tdf_save.specs.Members.{AreNamesApart}
use Rattle.tdf_save_members.specs.Laws.{MembersAreApart}
use Rattle.tdf_save_members.specs.OfFlat.{named_event, instance_path}

-- what stands at a place
row_there : {A : Type 0} (xs : List A) (i : ℕ) → i < length xs → (x : A) × (slice_get xs i ≡ Some x)
row_there [] i within = absurd (omega (arith, within))
row_there (x ∷ xs) zero within = (x, refl)
row_there (x ∷ xs) (suc i) within = row_there xs i (omega (arith, within))

name_there : (name : EventRow → List ℕ) (rows : List EventRow) (i : ℕ) (row : EventRow) → slice_get rows i ≡ Some row → slice_index_or (map name rows) i [] ≡ name row
name_there name [] i row is = absurd (none-some row is)
name_there name (own ∷ rows) zero row is = ap name (same_Some own row is)
name_there name (own ∷ rows) (suc i) row is = name_there name rows i row is

path_there : (blocks : List BlockRowOf) (i : ℕ) (block : BlockRowOf) → slice_get blocks i ≡ Some block → slice_get (map (λ (row : BlockRowOf). row.path) blocks) i ≡ Some block.path
path_there [] i block is = absurd (none-some block is)
path_there (own ∷ blocks) zero block is = ap (λ (row : BlockRowOf). Some row.path) (same_Some own block is)
path_there (own ∷ blocks) (suc i) block is = path_there blocks i block is

same_row : (one other : EventRow) → one.owner ≡ other.owner → one.name ≡ other.name → one ≡ other
same_row one other owner name = ap (λ o. event_row o one.name) owner ∙ ap (event_row other.owner) name

no_space_in_path : (path : List ℕ) → IsPlainPath path → HasNo 32 path
no_space_in_path path plain = path_without 32 refl path plain

no_space_in_name : (name : List ℕ) → IsName name → HasNo 32 name
no_space_in_name name is = name_without 32 refl name is

-- an event with its instance
record IsEventAt (tables : FlatTablesOf) (i : ℕ) : Type 0 where
  row : EventRow
  at : slice_get tables.events i ≡ Some row
  block : BlockRowOf
  has : slice_get tables.blocks row.owner ≡ Some block

module _ (tables : FlatTablesOf) (plain : HasPlainPaths tables) (events : HasEventsApart tables) (once : StandOnce (block_paths tables)) where
  abbrev names : List (List ℕ)
  names = map (named_event tables) tables.events

  event_at : (i : ℕ) → i < length names → IsEventAt tables i
  event_at i within =
      let found = row_there tables.events i (omega (arith, within, length-map tables.events (named_event tables))) in
      let owner = row_there tables.blocks found.0.owner (all_at (λ (row : EventRow). row.owner < length tables.blocks) tables.events i found.0 events.owners found.1) in
      record { row = found.0; at = found.1; block = owner.0; has = owner.1 }

  name_is : (i : ℕ) (e : IsEventAt tables i) → slice_index_or names i [] ≡ e.block.path ++ 32 ∷ e.row.name
  name_is i e = name_there (named_event tables) tables.events i e.row e.at ∙ ap (λ o. instance_path o ++ 32 ∷ e.row.name) e.has

  path_plain : (i : ℕ) (e : IsEventAt tables i) → HasNo 32 e.block.path
  path_plain i e = no_space_in_path e.block.path (all_at (λ (row : BlockRowOf). IsPlainPath row.path) tables.blocks e.row.owner e.block plain.blocks e.has)

  name_plain : (i : ℕ) (e : IsEventAt tables i) → HasNo 32 e.row.name
  name_plain i e = no_space_in_name e.row.name (all_at (λ (row : EventRow). IsName row.name) tables.events i e.row plain.events e.at)

  same_place : (i j : ℕ) (r s : List ℕ) (one : IsEventAt tables i) (other : IsEventAt tables j)
      → (one.block.path ++ 32 ∷ one.row.name) ++ 32 ∷ r ≡ (other.block.path ++ 32 ∷ other.row.name) ++ 32 ∷ s → i ≡ j
  same_place i j r s one other same =
      let whole : one.block.path ++ 32 ∷ (one.row.name ++ 32 ∷ r) ≡ other.block.path ++ 32 ∷ (other.row.name ++ 32 ∷ s) =
      sym (append_assoc one.block.path (32 ∷ one.row.name) (32 ∷ r)) ∙ same ∙ append_assoc other.block.path (32 ∷ other.row.name) (32 ∷ s) in
      let path : one.block.path ≡ other.block.path = same_front 32 one.block.path other.block.path (one.row.name ++ 32 ∷ r) (other.row.name ++ 32 ∷ s) (path_plain i one) (path_plain j other) whole in
      let rest : one.row.name ++ 32 ∷ r ≡ other.row.name ++ 32 ∷ s = same_back 32 one.block.path other.block.path (one.row.name ++ 32 ∷ r) (other.row.name ++ 32 ∷ s) path whole in
      let name : one.row.name ≡ other.row.name = same_front 32 one.row.name other.row.name r s (name_plain i one) (name_plain j other) rest in
      let owner : one.row.owner ≡ other.row.owner =
      once one.row.owner other.row.owner one.block.path (path_there tables.blocks one.row.owner one.block one.has)
      (path_there tables.blocks other.row.owner other.block other.has ∙ ap Some (sym path)) in
      events.names i j one.row one.at (other.at ∙ ap Some (sym (same_row one.row other.row owner name)))

  names_apart : AreNamesApart names
  names_apart i j r s within other same =
      let one = event_at i within in
      let two = event_at j other in
      same_place i j r s one two (ap (λ n. n ++ 32 ∷ r) (sym (name_is i one)) ∙ same ∙ ap (λ n. n ++ 32 ∷ s) (name_is j two))

pub members_apart : MembersAreApart
members_apart model flat sound is =
    names_apart flat.tables (paths_are_plain model flat sound.kept sound.names is) (events_are_apart model flat sound.kept sound.names is)
    (block_paths_are_unique model flat sound.kept sound.names is)
