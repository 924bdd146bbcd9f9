-- The last instance in the tables of blocks, processes and events.
use Rattle.std.proofs.Common.{◌≡◌, ◌≢◌, ◌∙◌, ℕ, zero, suc, ◌+◌, ◌<◌, Bool, if◌then◌else◌, List, [], ◌∷◌, ◌++◌, map, length, Option, Some, slice_get, refl, sym, ap, inl, inr, arith}
use Rattle.std.proofs.lemmas.Bool.Decides.{eqb_tells}
use Rattle.std.proofs.lemmas.List.{append_assoc, append-nil, length-append, length-map, map-append}
use Rattle.std.proofs.lemmas.List.Elements.{filter_map-append}
use Rattle.std.proofs.lemmas.Option.{same_Some}
use Rattle.std.specs.List.{cons_option, enumerate_from, range_with_len}
use Rattle.tdf_bind_connections.specs.ProcessBlocks.{BlockRowOf, PlacedBlock, ProcessRowOf, as_block, block_processes, block_row, event_row, events_from, placed_blocks, process_row, processes_from}
use Rattle.tdf_bind_connections.specs.Roles.{ProcessOf}
use Rattle.tdf_bind_connections.specs.declared.blocks.EventRow.{EventRow}
use Rattle.tdf_bind_connections.specs.declared.roles.Role.{Role}
use Rattle.tdf_bind_connections.specs.declared.traces.TraceLine.{TraceLine}
use Rattle.tdf_bind_hierarchy.specs.Tables.{RowOf, TablesOf}
use Rattle.tdf_bind_tables.specs.FlatTables.{FlatTablesOf, FollowsFrom}
use Rattle.tdf_events.specs.Processes.{owned_from}
use Rattle.tdf_stim_flat.specs.Ends.{EndsWithBlock, IsLastBlock, last_placed, placed_before}
use Rattle.tdf_stim_flat.specs.Laws.{LastIsLast}

-- ---- lists with one item more

pub at_end : {A : Type 0} (xs : List A) (x : A) → slice_get (xs ++ x ∷ []) (length xs) ≡ Some x
at_end [] x = refl
at_end (y ∷ xs) x = at_end xs x

before_end : {A : Type 0} (xs : List A) (x y : A) (n : ℕ) → slice_get (xs ++ x ∷ []) n ≡ Some y → n ≢ length xs → slice_get xs n ≡ Some y
before_end [] x y zero at apart = absurd (apart refl)
before_end [] x y (suc n) at apart = absurd (cc)
before_end (z ∷ xs) x y zero at apart = at
before_end (z ∷ xs) x y (suc n) at apart = before_end xs x y n at (λ same. apart (ap suc same))

-- ---- blocks

pub placed_more : (roles : List Role) (others : List RowOf) (instance : RowOf) (placed : PlacedBlock) → as_block instance (slice_get roles instance.block) ≡ Some placed
    → placed_blocks roles (others ++ instance ∷ []) ≡ placed_blocks roles others ++ placed ∷ []
placed_more roles others instance placed is =
    filter_map-append (λ (i : RowOf). as_block i (slice_get roles i.block)) others (instance ∷ [])
    ∙ ap (λ (o : Option PlacedBlock). placed_blocks roles others ++ cons_option o []) is

-- ---- processes and events

abbrev count_of : List PlacedBlock → ℕ
count_of [] = 0
count_of (p ∷ ps) = length p.role.events + count_of ps

processes_more : (owner first : ℕ) (ps : List PlacedBlock) (p : PlacedBlock) → processes_from owner first (ps ++ p ∷ []) ≡ processes_from owner first ps ++ block_processes (owner + length ps) (first + count_of ps) p
processes_more owner first [] p =
    let f : owner + 0 ≡ owner = omega arith in
    let g : first + 0 ≡ first = omega arith in
    append-nil (block_processes owner first p) ∙ ap (λ o. block_processes o first p) (sym f) ∙ ap (λ n. block_processes (owner + 0) n p) (sym g)
processes_more owner first (q ∷ ps) p =
    let f : owner + 1 + length ps ≡ owner + suc (length ps) = omega arith in
    let g : first + length q.role.events + count_of ps ≡ first + (length q.role.events + count_of ps) = omega arith in
    ap (λ (l : List ProcessRowOf). block_processes owner first q ++ l) (processes_more (owner + 1) (first + length q.role.events) ps p
    ∙ ap (λ o. processes_from (owner + 1) (first + length q.role.events) ps ++ block_processes o (first + length q.role.events + count_of ps) p) f
    ∙ ap (λ n. processes_from (owner + 1) (first + length q.role.events) ps ++ block_processes (owner + suc (length ps)) n p) g)
    ∙ sym (append_assoc (block_processes owner first q) (processes_from (owner + 1) (first + length q.role.events) ps) (block_processes (owner + suc (length ps)) (first + (length q.role.events + count_of ps)) p))

events_more : (owner : ℕ) (ps : List PlacedBlock) (p : PlacedBlock) → events_from owner (ps ++ p ∷ []) ≡ events_from owner ps ++ map (event_row (owner + length ps)) p.role.events
events_more owner [] p = let f : owner + 0 ≡ owner = omega arith in append-nil (map (event_row owner) p.role.events) ∙ ap (λ o. map (event_row o) p.role.events) (sym f)
events_more owner (q ∷ ps) p =
    let f : owner + 1 + length ps ≡ owner + suc (length ps) = omega arith in
    ap (λ (l : List EventRow). map (event_row owner) q.role.events ++ l) (events_more (owner + 1) ps p ∙ ap (λ o. events_from (owner + 1) ps ++ map (event_row o) p.role.events) f)
    ∙ sym (append_assoc (map (event_row owner) q.role.events) (events_from (owner + 1) ps) (map (event_row (owner + suc (length ps))) p.role.events))

events_long : (owner : ℕ) (ps : List PlacedBlock) → length (events_from owner ps) ≡ count_of ps
events_long owner [] = refl
events_long owner (p ∷ ps) =
    let here = length-map p.role.events (event_row owner) in
    let rest = events_long (owner + 1) ps in
    let both = length-append (map (event_row owner) p.role.events) (events_from (owner + 1) ps) in
    let g : length (map (event_row owner) p.role.events ++ events_from (owner + 1) ps) ≡ length p.role.events + count_of ps = omega (arith, here, rest, both) in g

-- a row of two lists is one of the first or one of the second
in_either : {A : Type 0} (P : A → Type 0) (xs ys : List A) → ((n : ℕ) (x : A) → slice_get xs n ≡ Some x → P x) → ((n : ℕ) (x : A) → slice_get ys n ≡ Some x → P x)
    → (n : ℕ) (x : A) → slice_get (xs ++ ys) n ≡ Some x → P x
in_either P [] ys first second n x at = second n x at
in_either P (z ∷ xs) ys first second zero x at = first 0 x at
in_either P (z ∷ xs) ys first second (suc n) x at = in_either P xs ys (λ k y there. first (suc k) y there) second n x at

-- owners are below the next number
owned_processes : (owner first : ℕ) (signals : PlacedBlock) (k : ℕ) (processes : List ProcessOf) (n : ℕ) (row : ProcessRowOf)
    → slice_get (map (λ (process : ℕ × ProcessOf). process_row owner first signals.instance.signals process.0 process.1) (enumerate_from k processes)) n ≡ Some row → row.owner ≡ owner
owned_processes owner first signals k [] n row at = absurd (cc)
owned_processes owner first signals k (p ∷ ps) zero row at =
    let same : process_row owner first signals.instance.signals k p ≡ row = same_Some (process_row owner first signals.instance.signals k p) row at in ap (λ (r : ProcessRowOf). r.owner) (sym same)
owned_processes owner first signals k (p ∷ ps) (suc n) row at = owned_processes owner first signals (k + 1) ps n row at

process_owner : (owner first : ℕ) (ps : List PlacedBlock) (n : ℕ) (row : ProcessRowOf) → slice_get (processes_from owner first ps) n ≡ Some row → row.owner < owner + length ps
process_owner owner first [] n row at = absurd (cc)
process_owner owner first (p ∷ ps) n row at = in_either (λ (r : ProcessRowOf). r.owner < owner + suc (length ps)) (block_processes owner first p) (processes_from (owner + 1) (first + length p.role.events) ps)
    (λ k r there. (let e = owned_processes owner first p 0 p.role.processes k r there in omega (arith, e)))
    (λ k r there. (let less = process_owner (owner + 1) (first + length p.role.events) ps k r there in omega (arith, less))) n row at

event_owner_in : (owner : ℕ) (names : List (List ℕ)) (n : ℕ) (row : EventRow) → slice_get (map (event_row owner) names) n ≡ Some row → row.owner ≡ owner
event_owner_in owner [] n row at = absurd (cc)
event_owner_in owner (name ∷ names) zero row at = let same : event_row owner name ≡ row = same_Some (event_row owner name) row at in ap (λ (r : EventRow). r.owner) (sym same)
event_owner_in owner (name ∷ names) (suc n) row at = event_owner_in owner names n row at

event_owner : (owner : ℕ) (ps : List PlacedBlock) (n : ℕ) (row : EventRow) → slice_get (events_from owner ps) n ≡ Some row → row.owner < owner + length ps
event_owner owner [] n row at = absurd (cc)
event_owner owner (p ∷ ps) n row at = in_either (λ (r : EventRow). r.owner < owner + suc (length ps)) (map (event_row owner) p.role.events) (events_from (owner + 1) ps)
    (λ k r there. (let e = event_owner_in owner p.role.events k r there in omega (arith, e)))
    (λ k r there. (let less = event_owner (owner + 1) ps k r there in omega (arith, less))) n row at

-- the events of the last are those behind all others
owned_own : (owner first : ℕ) (names : List (List ℕ)) → owned_from owner first (map (event_row owner) names) ≡ range_with_len first (length names)
unfolding owned_from
owned_own owner first [] = refl
owned_own owner first (name ∷ names) = elim (eqb_tells owner owner) [
  | inl y ↦ ap (λ (b : Bool). if b then first ∷ owned_from owner (first + 1) (map (event_row owner) names) else owned_from owner (first + 1) (map (event_row owner) names)) y.0
      ∙ ap (λ (l : List ℕ). first ∷ l) (owned_own owner (first + 1) names)
  | inr n ↦ absurd (n.1 refl)
]

owned_last : (owner first : ℕ) (rows : List EventRow) (names : List (List ℕ)) → ((n : ℕ) (row : EventRow) → slice_get rows n ≡ Some row → row.owner ≢ owner)
    → owned_from owner first (rows ++ map (event_row owner) names) ≡ range_with_len (first + length rows) (length names)
unfolding owned_from
owned_last owner first [] names apart = let f : first + 0 ≡ first = omega arith in owned_own owner first names ∙ ap (λ k. range_with_len k (length names)) (sym f)
owned_last owner first (r ∷ rows) names apart =
    let f : first + 1 + length rows ≡ first + suc (length rows) = omega arith in
    elim (eqb_tells r.owner owner) [
      | inl y ↦ absurd (apart 0 r refl y.1)
      | inr n ↦ ap (λ (b : Bool). if b then first ∷ owned_from owner (first + 1) (rows ++ map (event_row owner) names) else owned_from owner (first + 1) (rows ++ map (event_row owner) names)) n.0
          ∙ owned_last owner (first + 1) rows names (λ k row at. apart (suc k) row at) ∙ ap (λ k. range_with_len k (length names)) f
    ]

module _ (tables : TablesOf) (roles : List Role) (lines : List TraceLine) (flat : FlatTablesOf) (e : EndsWithBlock tables roles) (follows : FollowsFrom tables roles lines flat) where
  abbrev ps : List PlacedBlock
  ps = placed_before roles e.others

  abbrev p : PlacedBlock
  p = last_placed e

  abbrev owner : ℕ
  owner = length ps

  abbrev first : ℕ
  first = count_of ps

  pub all_placed : placed_blocks roles tables.instances ≡ ps ++ p ∷ []
  all_placed = ap (placed_blocks roles) e.is ∙ placed_more roles e.others e.instance p (ap (as_block e.instance) e.role_is)

  abbrev rows : List ProcessRowOf
  rows = processes_from 0 0 ps

  abbrev the_row : ProcessRowOf
  the_row = process_row owner first e.instance.signals 0 e.process

  processes_are : flat.processes ≡ rows ++ the_row ∷ []
  processes_are =
      let f : 0 + length ps ≡ owner = omega arith in
      let g : 0 + count_of ps ≡ first = omega arith in
      follows.blocks.processes ∙ ap (processes_from 0 0) all_placed ∙ processes_more 0 0 ps p
      ∙ ap (λ o. rows ++ block_processes o (0 + count_of ps) p) f ∙ ap (λ n. rows ++ block_processes owner n p) g
      ∙ ap (λ (l : List ProcessOf). rows ++ map (λ (process : ℕ × ProcessOf). process_row owner first e.instance.signals process.0 process.1) (enumerate_from 0 l)) e.one

  events_are : flat.events ≡ events_from 0 ps ++ map (event_row owner) e.role.events
  events_are = let f : 0 + length ps ≡ owner = omega arith in
      follows.blocks.events ∙ ap (events_from 0) all_placed ∙ events_more 0 ps p ∙ ap (λ o. events_from 0 ps ++ map (event_row o) e.role.events) f

  is_last : IsLastBlock tables roles flat e owner (length rows) first
  is_last = record {
    behind = refl;
    block = ap (λ (l : List BlockRowOf). slice_get l owner) (follows.blocks.blocks ∙ ap (map block_row) all_placed ∙ map-append block_row ps (p ∷ []))
        ∙ ap (slice_get (map block_row ps ++ block_row p ∷ [])) (sym (length-map ps block_row)) ∙ at_end (map block_row ps) (block_row p);
    row = ap (λ (l : List ProcessRowOf). slice_get l (length rows)) processes_are ∙ at_end rows the_row;
    owned = ap (owned_from owner 0) events_are
        ∙ owned_last owner 0 (events_from 0 ps) e.role.events (λ n row at same. (let less = event_owner 0 ps n row at in omega (arith, less, same)))
        ∙ (let g : 0 + length (events_from 0 ps) ≡ first = (let long = events_long 0 ps in omega (arith, long)) in ap (λ k. range_with_len k (length e.role.events)) g);
    inside = (let long = events_long 0 ps in let all = ap length events_are in let both = length-append (events_from 0 ps) (map (event_row owner) e.role.events) in
        let own = length-map e.role.events (event_row owner) in omega (arith, long, all, both, own));
    others = λ n row at apart same. (
        let there : slice_get rows n ≡ Some row = before_end rows the_row row n (ap (λ (l : List ProcessRowOf). slice_get l n) (sym processes_are) ∙ at) apart in
        let less = process_owner 0 0 ps n row there in omega (arith, less, same));
  }

pub last_is_last : LastIsLast
last_is_last tables roles lines flat e follows = record {
  owner = length (placed_before roles e.others);
  process = length (processes_from 0 0 (placed_before roles e.others));
  first = count_of (placed_before roles e.others);
  is = is_last tables roles lines flat e follows;
}
