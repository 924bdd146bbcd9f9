-- The trace that is one too many.
use Rattle.std.proofs.Common.{◌≡◌, ℕ, List}
use Rattle.std.proofs.lemmas.Option.{slice_get-map}
use Rattle.std.specs.Option.{option_map}
use Rattle.std.specs.Prelude.{map, slice_get}
use Rattle.tdf_lang_tree.specs.Views.{pure_trace}
use Rattle.tdf_lang_tree.specs.declared.tree.Trace1.{Trace1}

pub trace_at : (traces : List Trace1) (k : ℕ) → slice_get (map pure_trace traces) k ≡ option_map pure_trace (slice_get traces k)
trace_at traces k = slice_get-map pure_trace traces k
