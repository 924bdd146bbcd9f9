-- Each port reaches a signal of its own kind.
use Rattle.std.proofs.Common.{◌≡◌, ◌∙◌, ℕ, zero, suc, Bool, List, [], ◌∷◌, ◌++◌, Option, Some, None, length, map, refl, sym, ap, subst}
use Rattle.std.proofs.lemmas.List.Elements.{All-from_recursion, recursion_from_All}
use Rattle.std.specs.List.{AllZip, AllByRecursion, flat_map}
use Rattle.std.specs.Option.{option_map}
use Rattle.std.specs.Prelude.{slice_get, slice_index_or, filter_map, All}
use Rattle.tdf_bind_hierarchy.specs.Blocks.{InstanceOf, BlockOf}
use Rattle.tdf_bind_hierarchy.specs.Met.{PlacedInstance, Met, MetSignal, MetInstance, placed_signal, reached_by, placed, InsideOf, with_inside, in_block, inside, met_in}
use Rattle.tdf_bind_hierarchy.specs.PortKinds.{kinds_of, target_kind, KeepKinds, PortsKeepKinds}
use Rattle.tdf_bind_hierarchy.specs.Tables.{RowOf, TablesOf, met_instance, StandsFor, IsRowOf}
use Rattle.tdf_bind_hierarchy.specs.declared.blocks.SignalLine.{SignalLine}
use Rattle.tdf_bind_hierarchy.specs.declared.blocks.Target.{Target}
use Rattle.tdf_bind_hierarchy.specs.declared.blocks.Target.TheVariants.{Own, Outer}
use Rattle.tdf_bind_hierarchy.specs.declared.tables.Signal.{Signal}
use Rattle.tdf_bind_hierarchy.specs.declared.tables.SignalNumber.{SignalNumber}

abbrev event_of : Option Signal → Option Bool
event_of reached = option_map (λ signal. signal.event) reached

own_kind : (path : Option (List ℕ)) (lines : List SignalLine) (k : ℕ) → event_of (slice_get (map (placed_signal path) lines) k) ≡ option_map (λ line. line.event) (slice_get lines k)
own_kind path [] k = refl
own_kind path (line ∷ lines) zero = refl
own_kind path (line ∷ lines) (suc k) = own_kind path lines k

outer_kind : (outer : List (Option Signal)) (ports : List Bool) (k : ℕ) → map event_of outer ≡ map Some ports → event_of (slice_index_or outer k None) ≡ slice_get ports k
outer_kind outer ports k h = reads outer k ∙ ap (λ l. slice_index_or l k None) h ∙ holds ports k
  where
    reads : (rs : List (Option Signal)) (n : ℕ) → event_of (slice_index_or rs n None) ≡ slice_index_or (map event_of rs) n None
    reads [] n = refl
    reads (r ∷ rs) zero = refl
    reads (r ∷ rs) (suc n) = reads rs n

    holds : (bs : List Bool) (n : ℕ) → slice_index_or (map Some bs) n None ≡ slice_get bs n
    holds [] n = refl
    holds (b ∷ bs) zero = refl
    holds (b ∷ bs) (suc n) = holds bs n

targets_kind : (path : Option (List ℕ)) (b : BlockOf) (ports : List Bool) (outer : List (Option Signal)) → map event_of outer ≡ map Some ports → (targets : List Target) → map event_of (map (reached_by path b outer) targets) ≡ map (target_kind b ports) targets
targets_kind path b ports outer h [] = refl
targets_kind path b ports outer h (Own k ∷ targets) = ap (λ o. o ∷ map event_of (map (reached_by path b outer) targets)) (own_kind path b.signals k) ∙ ap (λ l. target_kind b ports (Own k) ∷ l) (targets_kind path b ports outer h targets)
targets_kind path b ports outer h (Outer k ∷ targets) = ap (λ o. o ∷ map event_of (map (reached_by path b outer) targets)) (outer_kind outer ports k h) ∙ ap (λ l. target_kind b ports (Outer k) ∷ l) (targets_kind path b ports outer h targets)

module _ (kinds : List (List Bool)) where
  abbrev Kept : PlacedInstance → Type 0
  Kept i = map event_of i.reached ≡ map Some (kinds_of kinds i.block)

  abbrev KeptIn : List Met → Type 0
  KeptIn ms = AllByRecursion Kept (filter_map met_instance ms)

kept_then : (kinds : List (List Bool)) (ms ns : List Met) → KeptIn kinds ms → KeptIn kinds ns → KeptIn kinds (ms ++ ns)
kept_then kinds [] ns h k = k
kept_then kinds (MetSignal s ∷ ms) ns h k = kept_then kinds ms ns h k
kept_then kinds (MetInstance i ∷ ms) ns h k = (h.0, kept_then kinds ms ns h.1 k)

kept_signals : (kinds : List (List Bool)) (path : Option (List ℕ)) (lines : List SignalLine) → KeptIn kinds (map (λ line. MetSignal (placed_signal path line)) lines)
kept_signals kinds path [] = tt
kept_signals kinds path (line ∷ lines) = kept_signals kinds path lines

pub record Keeps (kinds : List (List Bool)) (within : InsideOf) : Type 0 where
  pub at : (block : ℕ) (path : Option (List ℕ)) (outer : List (Option Signal)) → map event_of outer ≡ map Some (kinds_of kinds block) → KeptIn kinds (within block path outer)

kept_all : (kinds : List (List Bool)) (within : InsideOf) → Keeps kinds within → (path : Option (List ℕ)) (b : BlockOf) (ports : List Bool) (outer : List (Option Signal)) → map event_of outer ≡ map Some ports
    → (is : List InstanceOf) → AllByRecursion (λ i. map (target_kind b ports) i.targets ≡ map Some (kinds_of kinds i.block)) is → KeptIn kinds (flat_map (λ i. with_inside within (placed path b outer i)) is)
kept_all kinds within keeps path b ports outer h [] each = tt
kept_all kinds within keeps path b ports outer h (i ∷ is) each =
    let kept = targets_kind path b ports outer h i.targets ∙ each.0 in
    kept_then kinds (with_inside within (placed path b outer i)) (flat_map (λ i. with_inside within (placed path b outer i)) is)
    (kept, keeps.at i.block (Some (placed path b outer i).path) (placed path b outer i).reached kept)
    (kept_all kinds within keeps path b ports outer h is each.1)

kept_in : (kinds : List (List Bool)) (within : InsideOf) → Keeps kinds within → (ports : List Bool) (o : Option BlockOf) → ((b : BlockOf) → o ≡ Some b → All (λ i. map (target_kind b ports) i.targets ≡ map Some (kinds_of kinds i.block)) b.instances)
    → (path : Option (List ℕ)) (outer : List (Option Signal)) → map event_of outer ≡ map Some ports → KeptIn kinds (in_block within o path outer)
kept_in kinds within keeps ports None each path outer h = tt
kept_in kinds within keeps ports (Some b) each path outer h =
    kept_then kinds (map (λ line. MetSignal (placed_signal path line)) b.signals) (flat_map (λ i. with_inside within (placed path b outer i)) b.instances) (kept_signals kinds path b.signals)
    (kept_all kinds within keeps path b ports outer h b.instances (recursion_from_All (λ i. map (target_kind b ports) i.targets ≡ map Some (kinds_of kinds i.block)) b.instances (each b refl)))

keeps : (kinds : List (List Bool)) (blocks : List BlockOf) (top depth : ℕ) → KeepKinds kinds blocks top → Keeps kinds (inside blocks depth)
keeps kinds blocks top zero h = record { at = λ block path outer e. tt }
keeps kinds blocks top (suc depth) h = record { at = λ block path outer e. kept_in kinds (inside blocks depth) (keeps kinds blocks top depth h) (kinds_of kinds block) (slice_get blocks block) (h.each block) path outer e }

numbers_kind : (t : TablesOf) (ns : List SignalNumber) (rs : List (Option Signal)) (ports : List Bool) → AllZip (StandsFor t) ns rs → map event_of rs ≡ map Some ports → map Some (map (λ (n : SignalNumber). n.event) ns) ≡ map Some ports
numbers_kind t [] [] ports h e = e
numbers_kind t (n ∷ ns) (Some s ∷ rs) ports h e = ap (λ b. Some b ∷ map Some (map (λ (m : SignalNumber). m.event) ns)) h.0.kind ∙ ap (λ l. Some s.event ∷ l) (reads t ns rs h.1) ∙ e
  where
    reads : (t : TablesOf) (ns : List SignalNumber) (rs : List (Option Signal)) → AllZip (StandsFor t) ns rs → map Some (map (λ (m : SignalNumber). m.event) ns) ≡ map event_of rs
    reads t [] [] h = refl
    reads t (n ∷ ns) (Some s ∷ rs) h = ap (λ b. Some b ∷ map Some (map (λ (m : SignalNumber). m.event) ns)) h.0.kind ∙ ap (λ l. Some s.event ∷ l) (reads t ns rs h.1)
    reads t (n ∷ ns) (None ∷ rs) h = absurd h.0
    reads t [] (r ∷ rs) h = absurd h
    reads t (n ∷ ns) [] h = absurd h
numbers_kind t (n ∷ ns) (None ∷ rs) ports h e = absurd h.0
numbers_kind t [] (r ∷ rs) ports h e = absurd h
numbers_kind t (n ∷ ns) [] ports h e = absurd h

somes : (xs ys : List Bool) → map Some xs ≡ map Some ys → xs ≡ ys
somes xs ys e = sym (back xs) ∙ ap bools e ∙ back ys
  where
    bools : List (Option Bool) → List Bool
    bools [] = []
    bools (None ∷ os) = bools os
    bools (Some b ∷ os) = b ∷ bools os

    back : (bs : List Bool) → bools (map Some bs) ≡ bs
    back [] = refl
    back (b ∷ bs) = ap (λ l. b ∷ l) (back bs)

rows_kind : (kinds : List (List Bool)) (t : TablesOf) (rows : List RowOf) (is : List PlacedInstance) → AllZip (IsRowOf t) rows is → AllByRecursion (Kept kinds) is → AllByRecursion (λ row. map (λ n. n.event) row.signals ≡ kinds_of kinds row.block) rows
rows_kind kinds t [] [] h k = tt
rows_kind kinds t (r ∷ rows) (i ∷ is) h k = (
  subst (λ b. map (λ (n : SignalNumber). n.event) r.signals ≡ kinds_of kinds b) (sym h.0.block) (somes (map (λ n. n.event) r.signals) (kinds_of kinds i.block) (numbers_kind t r.signals i.reached (kinds_of kinds i.block) h.0.signals k.0)),
  rows_kind kinds t rows is h.1 k.1,
)
rows_kind kinds t [] (i ∷ is) h k = absurd h
rows_kind kinds t (r ∷ rows) [] h k = absurd h

pub ports_keep_kinds : PortsKeepKinds
ports_keep_kinds kinds blocks top t h table = All-from_recursion (λ row. map (λ n. n.event) row.signals ≡ kinds_of kinds row.block) t.instances
    (rows_kind kinds t t.instances (filter_map met_instance (met_in blocks top)) table.instances
    ((keeps kinds blocks top (length blocks) h).at top None [] (ap (map Some) (sym h.closed))))
