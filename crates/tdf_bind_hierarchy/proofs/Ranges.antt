-- Numbers in tables are in range, and the order is that of the walk.
use Rattle.std.proofs.Common.{◌≡◌, ◌∙◌, ℕ, ◌<◌, zero, suc, Bool, true, false, List, [], ◌∷◌, ◌++◌, Option, Some, None, length, refl, sym, ap, subst, arith}
use Rattle.std.proofs.lemmas.List.{append_assoc}
use Rattle.std.proofs.lemmas.List.Elements.{filter-append, All-from_recursion, recursion_from_All}
use Rattle.std.proofs.lemmas.Option.{slice_get_within}
use Rattle.std.specs.List.{AllZip, AllByRecursion, flat_map}
use Rattle.std.specs.Prelude.{map, slice_get, filter, filter_map, cond, All}
use Rattle.tdf_bind_hierarchy.specs.Blocks.{InstanceOf, BlockOf}
use Rattle.tdf_bind_hierarchy.specs.Laws.{IsInRange, PortsAreInRange, OrderIsInRange, OrderIsPreorder, AreEarlier, DepthIsEnough}
use Rattle.tdf_bind_hierarchy.specs.Met.{PlacedInstance, MetSignal, MetInstance, placed_signal, placed, InsideOf, with_inside, in_block, inside}
use Rattle.tdf_bind_hierarchy.specs.Tables.{RowOf, TablesOf, table, met_signal, met_instance, same_kind, is_of, numbers_after, IsNumberOf, StandsFor, IsRowOf}
use Rattle.tdf_bind_hierarchy.specs.declared.tables.Signal.{Signal}
use Rattle.tdf_bind_hierarchy.specs.declared.tables.SignalNumber.{SignalNumber}

number_in : (t : TablesOf) (n : SignalNumber) (r : Option Signal) → StandsFor t n r → IsInRange t n
number_in t n None h = absurd h
number_in t n (Some s) h = slice_get_within (table n.event t) n.number s h.place

numbers_in : (t : TablesOf) (ns : List SignalNumber) (rs : List (Option Signal)) → AllZip (StandsFor t) ns rs → AllByRecursion (IsInRange t) ns
numbers_in t [] [] h = tt
numbers_in t (n ∷ ns) (r ∷ rs) h = (number_in t n r h.0, numbers_in t ns rs h.1)
numbers_in t [] (r ∷ rs) h = absurd h
numbers_in t (n ∷ ns) [] h = absurd h

rows_in : (t : TablesOf) (rows : List RowOf) (is : List PlacedInstance) → AllZip (IsRowOf t) rows is → AllByRecursion (λ row. All (IsInRange t) row.signals) rows
rows_in t [] [] h = tt
rows_in t (r ∷ rows) (i ∷ is) h = (All-from_recursion (IsInRange t) r.signals (numbers_in t r.signals i.reached h.0.signals), rows_in t rows is h.1)
rows_in t [] (i ∷ is) h = absurd h
rows_in t (r ∷ rows) [] h = absurd h

pub ports_are_in_range : PortsAreInRange
ports_are_in_range met t h = All-from_recursion (λ row. All (IsInRange t) row.signals) t.instances (rows_in t t.instances (filter_map met_instance met) h.instances)

get_at : {X : Type 0} (xs ys : List X) (x : X) → slice_get (xs ++ x ∷ ys) (length xs) ≡ Some x
get_at [] ys x = refl
get_at (z ∷ xs) ys x = get_at xs ys x

same_self : (e : Bool) → same_kind e e ≡ true
same_self true = refl
same_self false = refl

order_at : (t : TablesOf) (before ss : List Signal) → ((e : Bool) → table e t ≡ filter (is_of e) (before ++ ss)) → AllZip (IsNumberOf t) (numbers_after before ss) ss
order_at t before [] h = tt
order_at t before (s ∷ ss) h = (
  record { kind = refl; place = ap (λ l. slice_get l (length (filter (is_of s.event) before))) (h s.event ∙ filter-append (is_of s.event) before (s ∷ ss) ∙ ap (λ b. filter (is_of s.event) before ++ cond b (s ∷ filter (is_of s.event) ss) (filter (is_of s.event) ss)) (same_self s.event)) ∙ get_at (filter (is_of s.event) before) (filter (is_of s.event) ss) s },
  order_at t (before ++ s ∷ []) ss (λ e. h e ∙ ap (filter (is_of e)) (sym (append_assoc before (s ∷ []) ss))),
)

pub order_is_preorder : OrderIsPreorder
order_is_preorder met t h = subst (λ numbers. AllZip (IsNumberOf t) numbers (filter_map met_signal met)) (sym h.order) (order_at t [] (filter_map met_signal met) tables)
  where
    tables : (e : Bool) → table e t ≡ filter (is_of e) (filter_map met_signal met)
    tables true = h.event_signals
    tables false = h.signals

order_in : (t : TablesOf) (ns : List SignalNumber) (ss : List Signal) → AllZip (IsNumberOf t) ns ss → AllByRecursion (IsInRange t) ns
order_in t [] [] h = tt
order_in t (n ∷ ns) (s ∷ ss) h = (slice_get_within (table n.event t) n.number s h.0.place, order_in t ns ss h.1)
order_in t [] (s ∷ ss) h = absurd h
order_in t (n ∷ ns) [] h = absurd h

pub order_is_in_range : OrderIsInRange
order_is_in_range met t h = All-from_recursion (IsInRange t) t.order (order_in t t.order (filter_map met_signal met) (order_is_preorder met t h))

same_all : (n : ℕ) (f g : InsideOf) → ((k : ℕ) → k < n → (path : Option (List ℕ)) (outer : List (Option Signal)) → f k path outer ≡ g k path outer)
    → (path : Option (List ℕ)) (b : BlockOf) (outer : List (Option Signal)) (is : List InstanceOf) → AllByRecursion (λ instance. instance.block < n) is
    → flat_map (λ i. with_inside f (placed path b outer i)) is ≡ flat_map (λ i. with_inside g (placed path b outer i)) is
same_all n f g same path b outer [] each = refl
same_all n f g same path b outer (i ∷ is) each =
    ap (λ l. (MetInstance (placed path b outer i) ∷ l) ++ flat_map (λ i. with_inside f (placed path b outer i)) is) (same i.block each.0 (Some (placed path b outer i).path) (placed path b outer i).reached)
    ∙ ap (λ l. with_inside g (placed path b outer i) ++ l) (same_all n f g same path b outer is each.1)

same_in : (n : ℕ) (f g : InsideOf) → ((k : ℕ) → k < n → (path : Option (List ℕ)) (outer : List (Option Signal)) → f k path outer ≡ g k path outer)
    → (o : Option BlockOf) → ((b : BlockOf) → o ≡ Some b → All (λ instance. instance.block < n) b.instances) → (path : Option (List ℕ)) (outer : List (Option Signal)) → in_block f o path outer ≡ in_block g o path outer
same_in n f g same None each path outer = refl
same_in n f g same (Some b) each path outer = ap (λ l. map (λ line. MetSignal (placed_signal path line)) b.signals ++ l) (same_all n f g same path b outer b.instances (recursion_from_All (λ instance. instance.block < n) b.instances (each b refl)))

deeper : (blocks : List BlockOf) → AreEarlier blocks → (d e k : ℕ) → k < d → k < e → (path : Option (List ℕ)) (outer : List (Option Signal)) → inside blocks d k path outer ≡ inside blocks e k path outer
deeper blocks early zero e k a b path outer = absurd (omega (arith, a))
deeper blocks early (suc d) zero k a b path outer = absurd (omega (arith, b))
deeper blocks early (suc d) (suc e) k a b path outer = same_in k (inside blocks d) (inside blocks e) (λ j less. deeper blocks early d e j (omega (arith, a, less)) (omega (arith, b, less))) (slice_get blocks k) (early k) path outer

pub depth_is_enough : DepthIsEnough
depth_is_enough blocks early depth block enough within path outer = deeper blocks early depth (length blocks) block (omega (arith, enough, within)) within path outer

pub ruleset range_laws = (ports_are_in_range, order_is_in_range, order_is_preorder)
