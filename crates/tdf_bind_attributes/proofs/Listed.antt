-- Lists gathered line by line.
use Rattle.std.proofs.Common.{◌≡◌, ◌∙◌, ℕ, ◌+◌, ◌<◌, ◌≤◌, List, [], ◌∷◌, ◌++◌, Option, Some, None, length, drop, refl, sym, ap, append_assoc, append-nil}
use Rattle.std.proofs.Math.ListN.{get_or}
use Rattle.std.proofs.lemmas.List.{drop_more, drop_all}
use Rattle.std.specs.Borrow.{Bor}
use Rattle.std.specs.List.{cons_option, flat_map}
use Rattle.std.specs.Prelude.{map}
use Rattle.tdf_bind_attributes.specs.Roles.{event_of, places_among}
use Rattle.tdf_bind_attributes.specs.machine.Processes.{found_place}
use Rattle.tdf_expr_symbols.specs.Names.{place_in}
use Rattle.tdf_lang_tree.specs.Pure.{PureProcess}
use Rattle.tdf_lang_tree.specs.Views.{pure_de_line, pure_process}
use Rattle.tdf_lang_tree.specs.declared.blocks.Process.{Process}
use Rattle.tdf_lang_tree.specs.declared.blocks.DeLine.{DeLine}
use Rattle.tdf_lang_tree.specs.declared.blocks.PortLine.{PortLine}
use Rattle.tdf_lang_tree.specs.declared.blocks.Sense.{Sense}
use Rattle.tdf_bind_connections.specs.Roles.{ProcessOf}
use Rattle.tdf_bind_connections.specs.declared.roles.PortData.{PortData}

pub event_next : (xs : List DeLine) (i : ℕ) (d : DeLine) (names : List (List ℕ)) → i < length xs
    → (names ++ event_of (pure_de_line (get_or xs i d))) ++ flat_map event_of (map pure_de_line (drop (i + 1) xs))
    ≡ names ++ flat_map event_of (map pure_de_line (drop i xs))
event_next xs i d names within =
    append_assoc names (event_of (pure_de_line (get_or xs i d))) (flat_map event_of (map pure_de_line (drop (i + 1) xs)))
    ∙ ap (λ (l : List DeLine). names ++ flat_map event_of (map pure_de_line l)) (sym (drop_more xs i d within))

pub event_none : (xs : List DeLine) (i : ℕ) (names : List (List ℕ)) → length xs ≤ i → names ++ flat_map event_of (map pure_de_line (drop i xs)) ≡ names
event_none xs i names past = ap (λ (l : List DeLine). names ++ flat_map event_of (map pure_de_line l)) (drop_all i xs past) ∙ append-nil names

pub ruleset event_laws = (event_next, event_none)

found_cons : (o : Option ℕ) (rest : List ℕ) → found_place o ++ rest ≡ cons_option o rest
found_cons None rest = refl
found_cons (Some n) rest = refl

pub place_next : (names : List (List ℕ)) (xs : List Sense) (i : ℕ) (d : Sense) (places : List ℕ) → i < length xs
    → (places ++ found_place (place_in names (get_or xs i d).name)) ++ places_among names (drop (i + 1) xs) ≡ places ++ places_among names (drop i xs)
place_next names xs i d places within =
    append_assoc places (found_place (place_in names (get_or xs i d).name)) (places_among names (drop (i + 1) xs))
    ∙ ap (λ l. places ++ l) (found_cons (place_in names (get_or xs i d).name) (places_among names (drop (i + 1) xs)))
    ∙ ap (λ (l : List Sense). places ++ places_among names l) (sym (drop_more xs i d within))

pub place_none : (names : List (List ℕ)) (xs : List Sense) (i : ℕ) (places : List ℕ) → length xs ≤ i → places ++ places_among names (drop i xs) ≡ places
place_none names xs i places past = ap (λ (l : List Sense). places ++ places_among names l) (drop_all i xs past) ∙ append-nil places

pub ruleset place_laws = (place_next, place_none)

-- ports made line by line
pub ports_next : (make : PortLine → PortData) (xs : List (Bor PortLine)) (i : ℕ) (d : Bor PortLine) (made : PortData) (ports : List PortData) → i < length xs
    → made ≡ make (get_or xs i d).now
    → (ports ++ made ∷ []) ++ map make (map (λ p. p.now) (drop (i + 1) xs)) ≡ ports ++ map make (map (λ p. p.now) (drop i xs))
ports_next make xs i d made ports within is =
    append_assoc ports (made ∷ []) (map make (map (λ p. p.now) (drop (i + 1) xs)))
    ∙ ap (λ x. ports ++ x ∷ map make (map (λ p. p.now) (drop (i + 1) xs))) is
    ∙ ap (λ (l : List (Bor PortLine)). ports ++ map make (map (λ p. p.now) l)) (sym (drop_more xs i d within))

pub ports_none : (make : PortLine → PortData) (xs : List (Bor PortLine)) (i : ℕ) (ports : List PortData) → length xs ≤ i
    → ports ++ map make (map (λ p. p.now) (drop i xs)) ≡ ports
ports_none make xs i ports past = ap (λ (l : List (Bor PortLine)). ports ++ map make (map (λ p. p.now) l)) (drop_all i xs past) ∙ append-nil ports

pub process_next : (make : PureProcess → ProcessOf) (xs : List Process) (i : ℕ) (d : Process) (lines : List ProcessOf) → i < length xs
    → (lines ++ make (pure_process (get_or xs i d)) ∷ []) ++ map make (map pure_process (drop (i + 1) xs)) ≡ lines ++ map make (map pure_process (drop i xs))
process_next make xs i d lines within =
    append_assoc lines (make (pure_process (get_or xs i d)) ∷ []) (map make (map pure_process (drop (i + 1) xs)))
    ∙ ap (λ (l : List Process). lines ++ map make (map pure_process l)) (sym (drop_more xs i d within))

pub process_none : (make : PureProcess → ProcessOf) (xs : List Process) (i : ℕ) (lines : List ProcessOf) → length xs ≤ i
    → lines ++ map make (map pure_process (drop i xs)) ≡ lines
process_none make xs i lines past = ap (λ (l : List Process). lines ++ map make (map pure_process l)) (drop_all i xs past) ∙ append-nil lines

pub ruleset process_laws = (event_none)
