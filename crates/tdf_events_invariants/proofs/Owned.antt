-- The numbers in the rows of processes and events are those of rows.
use Rattle.std.proofs.Common.{◌≡◌, ◌∙◌, ℕ, zero, suc, ◌+◌, ◌<◌, ◌≤◌, List, [], ◌∷◌, ◌++◌, Option, Some, None, length, map, refl, sym, ap, subst, arith}
use Rattle.std.proofs.lemmas.List.Elements.{All-from_recursion}
use Rattle.std.proofs.lemmas.Option.{slice_get_within}
use Rattle.std.specs.List.{AllByRecursion, cons_option, enumerate_from}
use Rattle.std.specs.Prelude.{All, slice_get}
use Rattle.tdf_bind_invariants.proofs.Api.{found_at}
use Rattle.tdf_bind_attributes.specs.Roles.{names_of_events, places_among, process_role, processes_role, roles_from, roles_of}
use Rattle.tdf_events_invariants.proofs.Counts.{event_total, events_long, held, mapped_long}
use Rattle.tdf_events_invariants.specs.Runnable.{EventRowsHaveOwners}
use Rattle.tdf_expr_symbols.specs.Names.{Names, globals_of, place_in}
use Rattle.tdf_bind_names.specs.Resolved.{whole}
use Rattle.tdf_lang_tree.specs.Pure.{PureDe, PureProcess, PureGlobal, GShape, GTdf, GDe, GNet}
use Rattle.tdf_lang_tree.specs.declared.blocks.Sense.{Sense}
use Rattle.tdf_bind_hierarchy.specs.Tables.{RowOf}
use Rattle.tdf_bind_hierarchy.specs.declared.tables.SignalNumber.{SignalNumber}
use Rattle.tdf_bind_connections.specs.ProcessBlocks.{PlacedBlock, ProcessRowOf, as_block, block_processes, block_row, event_row, events_from, placed_blocks, process_row, processes_from}
use Rattle.tdf_bind_connections.specs.Roles.{ProcessOf, ProcessesOf}
use Rattle.tdf_bind_connections.specs.declared.blocks.EventRow.{EventRow}
use Rattle.tdf_bind_connections.specs.declared.roles.Role.{Role}
use Rattle.tdf_bind_connections.specs.declared.roles.Role.TheVariants.{Module, Processes, Composite}

both_all : {A : Type 0} (P : A → Type 0) (xs ys : List A) → AllByRecursion P xs → AllByRecursion P ys → AllByRecursion P (xs ++ ys)
both_all P [] ys one other = other
both_all P (x ∷ xs) ys one other = (one.0, both_all P xs ys one.1 other)

pub weaker : {A : Type 0} (P Q : A → Type 0) → ((x : A) → P x → Q x) → (xs : List A) → AllByRecursion P xs → AllByRecursion Q xs
weaker P Q so [] all = tt
weaker P Q so (x ∷ xs) all = (so x all.0, weaker P Q so xs all.1)

-- the events of instances that are numbered from `owner` are theirs
one_owner : (owner : ℕ) (names : List (List ℕ)) → AllByRecursion (λ (row : EventRow). row.owner ≡ owner) (map (event_row owner) names)
one_owner owner [] = tt
one_owner owner (name ∷ names) = (refl, one_owner owner names)

events_owned : (owner : ℕ) (ps : List PlacedBlock) → AllByRecursion (λ (row : EventRow). row.owner < owner + length ps) (events_from owner ps)
events_owned owner [] = tt
events_owned owner (p ∷ ps) =
    both_all (λ (row : EventRow). row.owner < owner + suc (length ps)) (map (event_row owner) p.role.events) (events_from (owner + 1) ps)
    (weaker (λ (row : EventRow). row.owner ≡ owner) (λ (row : EventRow). row.owner < owner + suc (length ps)) (λ row same. omega (arith, same)) (map (event_row owner) p.role.events) (one_owner owner p.role.events))
    (weaker (λ (row : EventRow). row.owner < owner + 1 + length ps) (λ (row : EventRow). row.owner < owner + suc (length ps)) (λ row low. omega (arith, low)) (events_from (owner + 1) ps) (events_owned (owner + 1) ps))

-- a process is sensitive to events of its block
abbrev pub SensesOwn : ProcessesOf → Type 0
SensesOwn role = AllByRecursion (λ (p : ProcessOf). AllByRecursion (λ place. place < length role.events) p.events) role.processes

among : (names : List (List ℕ)) (lines : List Sense) → AllByRecursion (λ place. place < length names) (places_among names lines)
among names [] = tt
among names (s ∷ lines) = go (place_in names s.name) refl (among names lines)
  where
    go : (o : Option ℕ) → place_in names s.name ≡ o → AllByRecursion (λ place. place < length names) (places_among names lines) → AllByRecursion (λ place. place < length names) (cons_option o (places_among names lines))
    go None at later = later
    go (Some n) at later = (slice_get_within names n s.name (found_at names s.name n at), later)

senses_own : (number : ℕ) (block : PureDe) → SensesOwn (processes_role number block)
senses_own number block = go block.processes
  where
    go : (ps : List PureProcess) → AllByRecursion (λ (p : ProcessOf). AllByRecursion (λ place. place < length (names_of_events block)) p.events) (map (process_role block) ps)
    go [] = tt
    go (p ∷ ps) = (among (names_of_events block) p.sensitive, go ps)

abbrev RoleSenses : Option Role → Type 0
RoleSenses (Some (Processes role)) = SensesOwn role
RoleSenses _ = Unit {0}

roles_sense : (globals : Names) (number : ℕ) (gs : List PureGlobal) (k : ℕ) → RoleSenses (slice_get (roles_from globals number gs) k)
unfolding roles_from
roles_sense globals number [] k = tt
roles_sense globals number (GShape t ∷ gs) k = roles_sense globals number gs k
roles_sense globals number (GTdf block ∷ gs) zero = tt
roles_sense globals number (GTdf block ∷ gs) (suc k) = roles_sense globals (number + 1) gs k
roles_sense globals number (GDe block ∷ gs) zero = senses_own number block
roles_sense globals number (GDe block ∷ gs) (suc k) = roles_sense globals (number + 1) gs k
roles_sense globals number (GNet block ∷ gs) zero = tt
roles_sense globals number (GNet block ∷ gs) (suc k) = roles_sense globals number gs k

placed_sense : (roles : List Role) → ((k : ℕ) → RoleSenses (slice_get roles k)) → (rows : List RowOf) → AllByRecursion (λ (p : PlacedBlock). SensesOwn p.role) (placed_blocks roles rows)
placed_sense roles sense [] = tt
placed_sense roles sense (row ∷ rows) = go (slice_get roles row.block) (sense row.block) (placed_sense roles sense rows)
  where
    go : (o : Option Role) → RoleSenses o → AllByRecursion (λ (p : PlacedBlock). SensesOwn p.role) (placed_blocks roles rows)
        → AllByRecursion (λ (p : PlacedBlock). SensesOwn p.role) (cons_option (as_block row o) (placed_blocks roles rows))
    go None is later = later
    go (Some (Module role)) is later = later
    go (Some (Processes role)) is later = (is, later)
    go (Some Composite) is later = later

-- the rows of processes whose owners and events are below some bounds
record IsBelow (owners most : ℕ) (row : ProcessRowOf) : Type 0 where
  owner : row.owner < owners
  events : AllByRecursion (λ event. event < most) row.events

raised : (first count most : ℕ) → first + count ≤ most → (places : List ℕ) → AllByRecursion (λ place. place < count) places → AllByRecursion (λ event. event < most) (map (λ place. first + place) places)
raised first count most low [] all = tt
raised first count most low (p ∷ places) all = (let less = all.0 in omega (arith, low, less), raised first count most low places all.1)

block_below : (owner first owners events : ℕ) (signals : List SignalNumber) (count : ℕ) → owner < owners → first + count ≤ events → (from : ℕ) (ps : List ProcessOf)
    → AllByRecursion (λ (p : ProcessOf). AllByRecursion (λ place. place < count) p.events) ps
    → AllByRecursion (IsBelow owners events) (map (λ process. process_row owner first signals process.0 process.1) (enumerate_from from ps))
block_below owner first owners events signals count low most from [] all = tt
block_below owner first owners events signals count low most from (p ∷ ps) all = (
  record { owner = low; events = raised first count events most p.events all.0 },
  block_below owner first owners events signals count low most (from + 1) ps all.1,
)

below : (owners events owner first : ℕ) (ps : List PlacedBlock) → owner + length ps ≤ owners → first + held event_total ps ≤ events → AllByRecursion (λ (p : PlacedBlock). SensesOwn p.role) ps
    → AllByRecursion (IsBelow owners events) (processes_from owner first ps)
below owners events owner first [] few low all = tt
below owners events owner first (p ∷ ps) few low all =
    both_all (IsBelow owners events) (block_processes owner first p) (processes_from (owner + 1) (first + length p.role.events) ps)
    (block_below owner first owners events p.instance.signals (length p.role.events) (omega (arith, few)) (omega (arith, low)) 0 p.role.processes all.0)
    (below owners events (owner + 1) (first + length p.role.events) ps (omega (arith, few)) (omega (arith, low)) all.1)

pub event_rows_have_owners : EventRowsHaveOwners
event_rows_have_owners model flat is = record {
  owners = All-from_recursion (λ (row : ProcessRowOf). row.owner < length flat.tables.blocks) flat.tables.processes
      (weaker (IsBelow (length flat.tables.blocks) (length flat.tables.events)) (λ (row : ProcessRowOf). row.owner < length flat.tables.blocks) (λ row low. low.owner) flat.tables.processes rows);
  sensitive = All-from_recursion (λ (row : ProcessRowOf). All (λ event. event < length flat.tables.events) row.events) flat.tables.processes
      (weaker (IsBelow (length flat.tables.blocks) (length flat.tables.events)) (λ (row : ProcessRowOf). All (λ event. event < length flat.tables.events) row.events)
      (λ row low. All-from_recursion (λ event. event < length flat.tables.events) row.events low.events) flat.tables.processes rows);
  events = All-from_recursion (λ (row : EventRow). row.owner < length flat.tables.blocks) flat.tables.events
      (subst (AllByRecursion (λ (row : EventRow). row.owner < length flat.tables.blocks)) (sym is.tables.follows.blocks.events)
      (weaker (λ (row : EventRow). row.owner < 0 + length ps) (λ (row : EventRow). row.owner < length flat.tables.blocks) (λ row low. omega (arith, low, blocks)) (events_from 0 ps) (events_owned 0 ps)));
}
  where
    ps : List PlacedBlock
    ps = placed_blocks (roles_of model) is.tables.tables.instances

    blocks : length flat.tables.blocks ≡ length ps
    blocks = ap length is.tables.follows.blocks.blocks ∙ mapped_long block_row ps

    events : length flat.tables.events ≡ held event_total ps
    events = ap length is.tables.follows.blocks.events ∙ events_long 0 ps

    rows : AllByRecursion (IsBelow (length flat.tables.blocks) (length flat.tables.events)) flat.tables.processes
    rows = subst (AllByRecursion (IsBelow (length flat.tables.blocks) (length flat.tables.events))) (sym is.tables.follows.blocks.processes)
        (below (length flat.tables.blocks) (length flat.tables.events) 0 0 ps (omega (arith, blocks)) (omega (arith, events)) (placed_sense (roles_of model) (roles_sense (globals_of model.globals) 0 (whole model)) is.tables.tables.instances))
