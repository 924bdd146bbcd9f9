-- What ports of instances are bound to, as the code finds it (own).
use Rattle.std.specs.Prelude.{◌≡◌, ℕ, ◌&&◌, nat_eq, List, Option}
use Rattle.std.specs.Cmp.Lexicographic.{pointwise}
use Rattle.indexmap.specs.IndexMap.{get_by}
use Rattle.tdf_bind_names.specs.Targets.{Inside, target_of}
use Rattle.tdf_bind_names.specs.declared.bindings.Bindings.{Bindings}
use Rattle.tdf_lang_tree.specs.declared.blocks.Member.{Member}
use Rattle.tdf_bind_hierarchy.specs.declared.blocks.Target.{Target}

abbrev pub target_at : Bindings → (instance port : List ℕ) → Option Target
target_at bindings instance port =
    get_by (λ k. pointwise nat_eq instance k.0.now && pointwise nat_eq port k.1.now) bindings.map

-- the targets are those of some lines
pub record AreTargets (inside : Inside) (lines : List Member) (bindings : Bindings) : Type 0 where
  pub each : (instance port : List ℕ)
      → target_at bindings instance port ≡ target_of inside lines instance port
