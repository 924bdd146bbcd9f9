-- The text of the model: its blocks, a source and a chain of modules behind it, and a trace of the
-- last signal.
-- Source: own.
use Rattle.std.specs.Fmt.{decimal}
use Rattle.std.specs.List.{flat_map, range_with_len}
use Rattle.std.specs.Prelude.{ℕ, ◌-◌, ◌++◌, List, codes}
use Rattle.tdf_cli_load.specs.Chain.{kind, word_of_kind}
use Rattle.tdf_cli_load.specs.declared.chain.Kind.{Kind}

-- the version, and the type of all signals
unfoldable pub types_text : List ℕ
types_text = codes "language 1\n" ++ codes "type w fixed 32 32\n"

-- the source counts, one sample each microsecond
unfoldable pub source_block : List ℕ
source_block = codes "tdf src\nout y w\nvar n w\n"
    ++ codes "set_attributes\ntimestep 1us\nend\n"
    ++ codes "processing\ny = n\nn = n + 1\nend\nend\n"

unfoldable pub keep_block : List ℕ
keep_block = codes "tdf keep\nin x w\nout y w\n" ++ codes "processing\ny = x + 1\nend\nend\n"

unfoldable pub up_block : List ℕ
up_block = codes "tdf up\nin x w\nout y w\n" ++ codes "set_attributes\nrate y 2\nend\n"
    ++ codes "processing\ny[0] = x\ny[1] = x + 1\nend\nend\n"

unfoldable pub down_block : List ℕ
down_block = codes "tdf down\nin x w\nout y w\n" ++ codes "set_attributes\nrate x 2\nend\n"
    ++ codes "processing\ny = x[0] + x[1]\nend\nend\n"

unfoldable pub top_text : List ℕ
top_text = codes "top\nsignal s0 w\ninstance m0 src\nbind m0.y s0\n"

-- all that stands before the modules
unfoldable pub blocks_text : List ℕ
blocks_text = types_text ++ source_block ++ keep_block ++ up_block ++ down_block ++ top_text

-- `signal sK w`
unfoldable pub signal_line : (k : ℕ) → List ℕ
signal_line k = codes "signal s" ++ decimal k ++ codes " w\n"

-- `instance mK KIND`
unfoldable pub instance_line : (k : ℕ) → Kind → List ℕ
instance_line k kind =
    codes "instance m" ++ decimal k ++ codes " " ++ word_of_kind kind ++ codes "\n"

-- `bind mK.PORT sJ`
unfoldable pub bound_line : (k : ℕ) → (port : List ℕ) → (j : ℕ) → List ℕ
bound_line k port j =
    codes "bind m" ++ decimal k ++ codes "." ++ port ++ codes " s" ++ decimal j ++ codes "\n"

-- module k reads the signal before it and writes its own
unfoldable pub module_text : (k : ℕ) → Kind → List ℕ
module_text k kind = signal_line k ++ instance_line k kind ++ bound_line k (codes "x") (k - 1)
    ++ bound_line k (codes "y") k

abbrev pub module_at : (seed k : ℕ) → List ℕ
module_at seed k = module_text k (kind seed k)

-- `trace sN last`
unfoldable pub last_trace : (size : ℕ) → List ℕ
last_trace size = codes "trace s" ++ decimal size ++ codes " last\n"

-- the model with `size` modules behind its source
unfoldable pub load_text : (seed size : ℕ) → List ℕ
load_text seed size = blocks_text ++ flat_map (module_at seed) (range_with_len 1 size)
    ++ codes "end\n" ++ last_trace size
