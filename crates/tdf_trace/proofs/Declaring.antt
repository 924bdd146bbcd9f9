-- The declarations of variables, one by one.
use Rattle.std.proofs.Common.{◌≡◌, List, length, ap}
use Rattle.std.proofs.lemmas.List.{length-map}
use Rattle.tdf_io.specs.Bytes.{pieces_text}
use Rattle.tdf_trace.specs.Vcd.{declaration_piece, declarations}
use Rattle.tdf_trace.specs.Writings.{labels_of, sizes_of}
use Rattle.tdf_trace.specs.declared.about.Variable.{Variable}

pub declarations_are : (variables : List Variable) → declarations (sizes_of variables) (labels_of variables) ≡ pieces_text (declaration_piece (sizes_of variables) (labels_of variables)) (length variables)
unfolding declarations
declarations_are variables = ap (pieces_text (declaration_piece (sizes_of variables) (labels_of variables))) (length-map variables (λ (v : Variable). v.label))
