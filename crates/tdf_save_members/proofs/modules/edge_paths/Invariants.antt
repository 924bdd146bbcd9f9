use Rattle.std.proofs.Common.{◌≡◌, ℕ, Vec, Global, map, take}
use Rattle.tdf_bind_tables.specs.Ranges.{edge_path}
use Rattle.tdf_save_members.proofs.modules.edge_paths.Given as goal

abbrev pub invariant-loop-i : goal.invariant-loop-i
invariant-loop-i l = map (λ (x : Vec ℕ Global). x.items) l.list.items ≡ map (edge_path l.flat.tables) (take l.i l.numbers)
