-- What was met has one list of tables, where its signals have different paths.
use Rattle.std.proofs.Common.{◌≡◌, ◌∙◌, ℕ, Bool, true, false, List, [], ◌∷◌, Option, Some, None, map, refl, sym, ap, subst}
use Rattle.std.specs.List.{AllZip}
use Rattle.std.specs.Prelude.{filter, filter_map, slice_get}
use Rattle.tdf_bind.proofs.Lists.{Differ, kept_differ, one_place}
use Rattle.tdf_bind_hierarchy.specs.Met.{PlacedInstance, Met}
use Rattle.tdf_bind_hierarchy.specs.Tables.{RowOf, TablesOf, table, met_signal, met_instance, is_of, signals_of, IsNumberOf, StandsFor, IsRowOf, IsTable}
use Rattle.tdf_bind_hierarchy.specs.declared.tables.Signal.{Signal}
use Rattle.tdf_bind_hierarchy.specs.declared.tables.SignalNumber.{SignalNumber}

-- no two of some signals have the same path
abbrev HaveOwnPaths : List Signal → Type 0
HaveOwnPaths signals = (i j : ℕ) (one other : Signal) → slice_get signals i ≡ Some one → slice_get signals j ≡ Some other → one.path ≡ other.path → i ≡ j

own_at : (signals : List Signal) → Differ (map (λ (signal : Signal). signal.path) signals) → HaveOwnPaths signals
own_at signals differ i j one other at there same = one_place (λ (signal : Signal). signal.path) signals differ i j one other at there same

same_number : (n m : SignalNumber) → n.event ≡ m.event → n.number ≡ m.number → n ≡ m
same_number n m event number = λ i. record { event = event i; number = number i }

same_row : (r s : RowOf) → r.path ≡ s.path → r.block ≡ s.block → r.signals ≡ s.signals → r ≡ s
same_row r s path block signals = λ i. record { path = path i; block = block i; signals = signals i }

same_tables : (a b : TablesOf) → a.signals ≡ b.signals → a.event_signals ≡ b.event_signals → a.order ≡ b.order → a.instances ≡ b.instances → a ≡ b
same_tables a b signals event_signals order instances = λ i. record { signals = signals i; event_signals = event_signals i; order = order i; instances = instances i }

module _ (a b : TablesOf) (same : (e : Bool) → table e a ≡ table e b) (own : (e : Bool) → HaveOwnPaths (table e b)) where
  one_number : (n m : SignalNumber) (s : Signal) → IsNumberOf a n s → IsNumberOf b m s → n ≡ m
  one_number n m s is are = same_number n m (is.kind ∙ sym are.kind) (own s.event n.number m.number s s at there refl)
    where
      at : slice_get (table s.event b) n.number ≡ Some s
      at = ap (λ l. slice_get l n.number) (sym (same s.event)) ∙ ap (λ e. slice_get (table e a) n.number) (sym is.kind) ∙ is.place

      there : slice_get (table s.event b) m.number ≡ Some s
      there = ap (λ e. slice_get (table e b) m.number) (sym are.kind) ∙ are.place

  one_stands : (n m : SignalNumber) (o : Option Signal) → StandsFor a n o → StandsFor b m o → n ≡ m
  one_stands n m None is are = absurd is
  one_stands n m (Some s) is are = one_number n m s is are

  one_numbers : (ns ms : List SignalNumber) (os : List (Option Signal)) → AllZip (StandsFor a) ns os → AllZip (StandsFor b) ms os → ns ≡ ms
  one_numbers [] [] [] is are = refl
  one_numbers (n ∷ ns) ms [] is are = absurd is
  one_numbers [] (m ∷ ms) [] is are = absurd are
  one_numbers [] ms (o ∷ os) is are = absurd is
  one_numbers (n ∷ ns) [] (o ∷ os) is are = absurd are
  one_numbers (n ∷ ns) (m ∷ ms) (o ∷ os) is are = ap (λ h. h ∷ ns) (one_stands n m o is.0 are.0) ∙ ap (λ l. m ∷ l) (one_numbers ns ms os is.1 are.1)

  one_row : (r s : RowOf) (i : PlacedInstance) → IsRowOf a r i → IsRowOf b s i → r ≡ s
  one_row r s i is are = same_row r s (is.path ∙ sym are.path) (is.block ∙ sym are.block) (one_numbers r.signals s.signals i.reached is.signals are.signals)

  pub one_rows : (rs ss : List RowOf) (is' : List PlacedInstance) → AllZip (IsRowOf a) rs is' → AllZip (IsRowOf b) ss is' → rs ≡ ss
  one_rows [] [] [] is are = refl
  one_rows (r ∷ rs) ss [] is are = absurd is
  one_rows [] (s ∷ ss) [] is are = absurd are
  one_rows [] ss (i ∷ instances) is are = absurd is
  one_rows (r ∷ rs) [] (i ∷ instances) is are = absurd are
  one_rows (r ∷ rs) (s ∷ ss) (i ∷ instances) is are = ap (λ h. h ∷ rs) (one_row r s i is.0 are.0) ∙ ap (λ l. s ∷ l) (one_rows rs ss instances is.1 are.1)

table_is : (met : List Met) (t : TablesOf) → IsTable met t → (e : Bool) → table e t ≡ signals_of e met
table_is met t is true = is.event_signals
table_is met t is false = is.signals

pub one_tables : (met : List Met) (a b : TablesOf) → Differ (map (λ (signal : Signal). signal.path) (filter_map met_signal met)) → IsTable met a → IsTable met b → a ≡ b
one_tables met a b differ is are =
    same_tables a b (is.signals ∙ sym are.signals) (is.event_signals ∙ sym are.event_signals) (is.order ∙ sym are.order)
    (one_rows a b (λ e. table_is met a is e ∙ sym (table_is met b are e)) own a.instances b.instances (filter_map met_instance met) is.instances are.instances)
  where
    own : (e : Bool) → HaveOwnPaths (table e b)
    own e = subst HaveOwnPaths (sym (table_is met b are e)) (own_at (filter (is_of e) (filter_map met_signal met)) (kept_differ (λ (signal : Signal). signal.path) (is_of e) (filter_map met_signal met) differ))
