-- How a shared path is seen.
-- Source: own.
use Rattle.std.specs.Prelude.{ℕ, List, ◌∷◌, ◌++◌}
use Rattle.tdf_bind_hierarchy.specs.declared.paths.Link.{Link}
use Rattle.tdf_bind_hierarchy.specs.declared.paths.Link.TheVariants.{Top, Inside}

-- it is `path_in` of the front, written out, since the size of a path is seen to fall only so
abbrev pub link_text : Link → List ℕ
link_text (Top name) = name
link_text (Inside front name) = front ++ 46 ∷ name
