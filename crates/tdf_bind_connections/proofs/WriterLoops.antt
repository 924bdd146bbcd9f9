-- One instance more that may write.
use Rattle.std.proofs.Common.{◌≡◌, ◌∙◌, ℕ, ◌+◌, ◌<◌, Bool, List, [], ◌∷◌, ◌++◌, Option, Some, None, length, take, sym, ap}
use Rattle.std.proofs.Math.ListN.{get_or}
use Rattle.std.proofs.lemmas.List.{take_more, append_assoc, append-nil}
use Rattle.std.proofs.lemmas.List.Elements.{filter_map-append}
use Rattle.std.specs.List.{cons_option}
use Rattle.std.specs.Prelude.{slice_get}
use Rattle.tdf_bind_hierarchy.specs.Tables.{RowOf}
use Rattle.tdf_bind_connections.proofs.Lists.{flat_push}
use Rattle.tdf_bind_connections.specs.ProcessBlocks.{PlacedBlock, as_block, placed_blocks}
use Rattle.tdf_bind_connections.specs.Writers.{writers_at, block_writers}
use Rattle.tdf_bind_connections.specs.machine.WriterSteps.{with_writers, with_instance_writers}
use Rattle.tdf_bind_connections.specs.declared.roles.Role.{Role}
use Rattle.tdf_bind_connections.specs.declared.writers.Writer.{Writer}

placed_is : (event : Bool) (o : Option PlacedBlock) (writers : List Writer) → with_writers event o writers ≡ writers ++ block_writers event (cons_option o [])
placed_is event None writers = sym (append-nil writers)
placed_is event (Some placed) writers = ap (λ l. writers ++ l) (sym (append-nil (writers_at event placed.instance.signals placed.role.ports)))

pub blocks_next : (event : Bool) (roles : List Role) (instances : List RowOf) (i : ℕ) (instance : RowOf) (initial writers next : List Writer) → i < length instances → writers ≡ initial ++ block_writers event (placed_blocks roles (take i instances))
    → instance ≡ get_or instances i instance → next ≡ with_instance_writers event roles instance writers → next ≡ initial ++ block_writers event (placed_blocks roles (take (i + 1) instances))
blocks_next event roles instances i instance initial writers next within h instance_is next_is =
    next_is ∙ ap (with_instance_writers event roles instance) h
    ∙ placed_is event (as_block instance (slice_get roles instance.block)) (initial ++ block_writers event (placed_blocks roles (take i instances)))
    ∙ append_assoc initial (block_writers event (placed_blocks roles (take i instances))) (block_writers event (cons_option (as_block instance (slice_get roles instance.block)) []))
    ∙ ap (λ l. initial ++ l) (sym (flat_push (λ placed. writers_at event placed.instance.signals placed.role.ports) (placed_blocks roles (take i instances)) (cons_option (as_block instance (slice_get roles instance.block)) [])))
    ∙ ap (λ l. initial ++ block_writers event l) (sym (filter_map-append (λ instance. as_block instance (slice_get roles instance.block)) (take i instances) (instance ∷ [])))
    ∙ ap (λ l. initial ++ block_writers event (placed_blocks roles l)) (sym (take_more instances i instance within ∙ ap (λ (x : RowOf). take i instances ++ x ∷ []) (sym instance_is)))
