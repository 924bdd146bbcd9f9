-- Loop variables that are open.
use Rattle.std.proofs.Common.{◌≡◌, List, ℕ}
use Rattle.std.proofs.lemmas.Option.{slice_get-map}
use Rattle.std.specs.Cmp.Lexicographic.{pointwise}
use Rattle.std.specs.Option.{option_map}
use Rattle.std.specs.Prelude.{map, nat_eq, position, slice_get}
use Rattle.tdf_expr_symbols.proofs.Tables.{position_map}
use Rattle.tdf_expr_symbols.specs.Scope.{loop_place}
use Rattle.tdf_expr_symbols.specs.Seen.{seen_loop}
use Rattle.tdf_expr_symbols.specs.declared.scope.OpenLoop.{OpenLoop as HeldLoop}

pub place_seen : (loops : List HeldLoop) (name : List ℕ) → position (λ l. pointwise nat_eq name l.name.now) loops ≡ loop_place (map seen_loop loops) name
place_seen loops name = position_map seen_loop (λ l. pointwise nat_eq name l.name) loops

pub get_seen : (loops : List HeldLoop) (k : ℕ) → slice_get (map seen_loop loops) k ≡ option_map seen_loop (slice_get loops k)
get_seen loops k = slice_get-map seen_loop loops k

pub ruleset loop_laws = (get_seen)
