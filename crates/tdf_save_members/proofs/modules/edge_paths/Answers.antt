use Rattle.std.proofs.Common.{◌∙◌, ◌++◌, ◌∷◌, [], ℕ, Vec, Global, List, ap, map, sym, take}
use Rattle.std.proofs.lemmas.List.{map-append, map_more}
use Rattle.tdf_bind_tables.specs.Ranges.{edge_path}
use Rattle.tdf_save_members.proofs.modules.edge_paths.Goals as goal

pub loop-i-preserved : goal.loop-i-preserved
loop-i-preserved c =
    ap (map (λ (x : Vec ℕ Global). x.items)) c.in_ok-push.ensures.items
    ∙ map-append (λ (x : Vec ℕ Global). x.items) c.loop-i.list.items (c.in_ok-text_of.field-0 ∷ [])
    ∙ ap (λ (l : List (List ℕ)). l ++ c.in_ok-text_of.field-0.items ∷ []) c.loop-i.invariant
    ∙ ap (λ (p : List ℕ). map (edge_path c.args.flat.now.tables) (take c.loop-i.i c.args.numbers.now) ++ p ∷ []) (c.in_ok-text_of.ensures ∙ c.edge_path-path.ensures)
    ∙ sym (map_more (edge_path c.args.flat.now.tables) c.args.numbers.now c.loop-i.i 0 c.loop-i-test.true)
