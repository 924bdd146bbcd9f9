-- How many elements an array has, or samples a port in one firing, as the code holds it (own).
use Rattle.tdf_expr_types.specs.declared.indices.Multiple.{Multiple as HeldMultiple}
use Rattle.tdf_expr_types.specs.declared.indices.Size.{Size}
use Rattle.tdf_expr_types.specs.declared.indices.Size.TheVariants as size
use Rattle.tdf_expr_symbols.specs.Index.{Multiple}
use Rattle.tdf_lang_tree.specs.declared.stmt.Limit.{Limit}
use Rattle.tdf_lang_tree.specs.declared.stmt.Limit.TheVariants as limit

-- the limit that a size stands for
abbrev pub seen_size : Size → Limit
seen_size (size.Count n) = limit.Int n
seen_size (size.Rate rate) = rate.now

abbrev pub seen_multiple : HeldMultiple → Multiple
seen_multiple m = record { times = m.times; variable = m.variable.now }
