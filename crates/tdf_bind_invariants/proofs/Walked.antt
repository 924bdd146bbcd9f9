-- Each port of each instance reaches a signal of its own tag.
use Rattle.std.proofs.Common.{◌≡◌, ◌∙◌, ℕ, zero, suc, List, [], ◌∷◌, ◌++◌, Option, Some, None, length, map, refl, sym, ap}
use Rattle.std.proofs.lemmas.List.Elements.{recursion_from_All}
use Rattle.std.specs.List.{AllZip, AllByRecursion, flat_map}
use Rattle.std.specs.Option.{option_map}
use Rattle.std.specs.Prelude.{slice_get, slice_index_or, filter_map, All}
use Rattle.tdf_bind_invariants.specs.Tags.{Tag, KeepTags, line_tag, number_tag, numbered_tag, signal_tag, tags_at, target_tag}
use Rattle.tdf_bind_hierarchy.specs.Blocks.{InstanceOf, BlockOf}
use Rattle.tdf_bind_hierarchy.specs.Met.{PlacedInstance, Met, MetSignal, MetInstance, placed_signal, reached_by, placed, InsideOf, with_inside, in_block, inside, met_in}
use Rattle.tdf_bind_hierarchy.specs.Tables.{RowOf, TablesOf, met_instance, StandsFor, IsRowOf, IsTable}
use Rattle.tdf_bind_hierarchy.specs.declared.blocks.SignalLine.{SignalLine}
use Rattle.tdf_bind_hierarchy.specs.declared.blocks.Target.{Target}
use Rattle.tdf_bind_hierarchy.specs.declared.blocks.Target.TheVariants.{Own, Outer}
use Rattle.tdf_bind_hierarchy.specs.declared.tables.Signal.{Signal}
use Rattle.tdf_bind_hierarchy.specs.declared.tables.SignalNumber.{SignalNumber}

abbrev reached_tag : Option Signal → Option Tag
reached_tag reached = option_map signal_tag reached

own_tag : (path : Option (List ℕ)) (lines : List SignalLine) (k : ℕ) → reached_tag (slice_get (map (placed_signal path) lines) k) ≡ option_map line_tag (slice_get lines k)
own_tag path [] k = refl
own_tag path (line ∷ lines) zero = refl
own_tag path (line ∷ lines) (suc k) = own_tag path lines k

outer_tag : (outer : List (Option Signal)) (ports : List (Option Tag)) (k : ℕ) → map reached_tag outer ≡ ports → reached_tag (slice_index_or outer k None) ≡ slice_index_or ports k None
outer_tag outer ports k h = reads outer k ∙ ap (λ l. slice_index_or l k None) h
  where
    reads : (rs : List (Option Signal)) (n : ℕ) → reached_tag (slice_index_or rs n None) ≡ slice_index_or (map reached_tag rs) n None
    reads [] n = refl
    reads (r ∷ rs) zero = refl
    reads (r ∷ rs) (suc n) = reads rs n

targets_tag : (path : Option (List ℕ)) (b : BlockOf) (ports : List (Option Tag)) (outer : List (Option Signal)) → map reached_tag outer ≡ ports → (targets : List Target)
    → map reached_tag (map (reached_by path b outer) targets) ≡ map (target_tag b ports) targets
targets_tag path b ports outer h [] = refl
targets_tag path b ports outer h (Own k ∷ targets) = ap (λ o. o ∷ map reached_tag (map (reached_by path b outer) targets)) (own_tag path b.signals k) ∙ ap (λ l. target_tag b ports (Own k) ∷ l) (targets_tag path b ports outer h targets)
targets_tag path b ports outer h (Outer k ∷ targets) = ap (λ o. o ∷ map reached_tag (map (reached_by path b outer) targets)) (outer_tag outer ports k h) ∙ ap (λ l. target_tag b ports (Outer k) ∷ l) (targets_tag path b ports outer h targets)

module _ (tags : List (List (Option Tag))) where
  abbrev Kept : PlacedInstance → Type 0
  Kept i = map reached_tag i.reached ≡ tags_at tags i.block

  abbrev KeptIn : List Met → Type 0
  KeptIn ms = AllByRecursion Kept (filter_map met_instance ms)

kept_then : (tags : List (List (Option Tag))) (ms ns : List Met) → KeptIn tags ms → KeptIn tags ns → KeptIn tags (ms ++ ns)
kept_then tags [] ns h k = k
kept_then tags (MetSignal s ∷ ms) ns h k = kept_then tags ms ns h k
kept_then tags (MetInstance i ∷ ms) ns h k = (h.0, kept_then tags ms ns h.1 k)

kept_signals : (tags : List (List (Option Tag))) (path : Option (List ℕ)) (lines : List SignalLine) → KeptIn tags (map (λ line. MetSignal (placed_signal path line)) lines)
kept_signals tags path [] = tt
kept_signals tags path (line ∷ lines) = kept_signals tags path lines

record Keeps (tags : List (List (Option Tag))) (within : InsideOf) : Type 0 where
  at : (block : ℕ) (path : Option (List ℕ)) (outer : List (Option Signal)) → map reached_tag outer ≡ tags_at tags block → KeptIn tags (within block path outer)

kept_all : (tags : List (List (Option Tag))) (within : InsideOf) → Keeps tags within → (path : Option (List ℕ)) (b : BlockOf) (ports : List (Option Tag)) (outer : List (Option Signal)) → map reached_tag outer ≡ ports
    → (is : List InstanceOf) → AllByRecursion (λ i. map (target_tag b ports) i.targets ≡ tags_at tags i.block) is → KeptIn tags (flat_map (λ i. with_inside within (placed path b outer i)) is)
kept_all tags within keeps path b ports outer h [] each = tt
kept_all tags within keeps path b ports outer h (i ∷ is) each =
    let kept = targets_tag path b ports outer h i.targets ∙ each.0 in
    kept_then tags (with_inside within (placed path b outer i)) (flat_map (λ i. with_inside within (placed path b outer i)) is)
    (kept, keeps.at i.block (Some (placed path b outer i).path) (placed path b outer i).reached kept)
    (kept_all tags within keeps path b ports outer h is each.1)

kept_in : (tags : List (List (Option Tag))) (within : InsideOf) → Keeps tags within → (ports : List (Option Tag)) (o : Option BlockOf) → ((b : BlockOf) → o ≡ Some b → All (λ i. map (target_tag b ports) i.targets ≡ tags_at tags i.block) b.instances)
    → (path : Option (List ℕ)) (outer : List (Option Signal)) → map reached_tag outer ≡ ports → KeptIn tags (in_block within o path outer)
kept_in tags within keeps ports None each path outer h = tt
kept_in tags within keeps ports (Some b) each path outer h =
    kept_then tags (map (λ line. MetSignal (placed_signal path line)) b.signals) (flat_map (λ i. with_inside within (placed path b outer i)) b.instances) (kept_signals tags path b.signals)
    (kept_all tags within keeps path b ports outer h b.instances (recursion_from_All (λ i. map (target_tag b ports) i.targets ≡ tags_at tags i.block) b.instances (each b refl)))

keeps : (tags : List (List (Option Tag))) (blocks : List BlockOf) (top depth : ℕ) → KeepTags tags blocks top → Keeps tags (inside blocks depth)
keeps tags blocks top zero h = record { at = λ block path outer e. tt }
keeps tags blocks top (suc depth) h = record { at = λ block path outer e. kept_in tags (inside blocks depth) (keeps tags blocks top depth h) (tags_at tags block) (slice_get blocks block) (h.each block) path outer e }

numbers_tag : (t : TablesOf) (ns : List SignalNumber) (rs : List (Option Signal)) → AllZip (StandsFor t) ns rs → map (number_tag t) ns ≡ map reached_tag rs
numbers_tag t [] [] h = refl
numbers_tag t (n ∷ ns) (Some s ∷ rs) h =
    ap (λ o. option_map (numbered_tag n.event) o ∷ map (number_tag t) ns) h.0.place ∙ ap (λ b. Some (numbered_tag b s) ∷ map (number_tag t) ns) h.0.kind
    ∙ ap (λ l. reached_tag (Some s) ∷ l) (numbers_tag t ns rs h.1)
numbers_tag t (n ∷ ns) (None ∷ rs) h = absurd h.0
numbers_tag t [] (r ∷ rs) h = absurd h
numbers_tag t (n ∷ ns) [] h = absurd h

-- the row of an instance
abbrev pub IsTagged : List (List (Option Tag)) → TablesOf → RowOf → Type 0
IsTagged tags t row = map (number_tag t) row.signals ≡ tags_at tags row.block

rows_tag : (tags : List (List (Option Tag))) (t : TablesOf) (rows : List RowOf) (is : List PlacedInstance) → AllZip (IsRowOf t) rows is → AllByRecursion (Kept tags) is → AllByRecursion (IsTagged tags t) rows
rows_tag tags t [] [] h k = tt
rows_tag tags t (r ∷ rows) (i ∷ is) h k = (
  numbers_tag t r.signals i.reached h.0.signals ∙ k.0 ∙ ap (tags_at tags) (sym h.0.block),
  rows_tag tags t rows is h.1 k.1,
)
rows_tag tags t [] (i ∷ is) h k = absurd h
rows_tag tags t (r ∷ rows) [] h k = absurd h

pub rows_tagged : (tags : List (List (Option Tag))) (blocks : List BlockOf) (top : ℕ) (t : TablesOf) → KeepTags tags blocks top → IsTable (met_in blocks top) t → AllByRecursion (IsTagged tags t) t.instances
rows_tagged tags blocks top t h table = rows_tag tags t t.instances (filter_map met_instance (met_in blocks top)) table.instances
    ((keeps tags blocks top (length blocks) h).at top None [] (sym h.closed))
