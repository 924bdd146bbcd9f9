-- A fault of a model: what is wrong, and where; and how it is printed (own).
use Rattle.std.specs.Prelude.{ℕ, List, [], ◌++◌, codes, decimal}
use Rattle.tdf_base.specs.declared.codes.Code.{Code}
use Rattle.tdf_base.specs.declared.codes.Code.TheVariants.{Byte, LongLine, Syntax, Duplicate, Unknown, Limit, Format, Kind, InexactLiteral, Wide, WideCast, Index, Heavy, Writers, UnknownPort, TwiceBound, Mismatch, Unbound, TooMany, NoDriver, TwoDrivers, UnknownPath, Clusters, Rates, Size, NoTimestep, Disagree, TooLong, Inexact, Buffers, Deadlock, Noncausal, Range, Rejected}
use Rattle.tdf_base.specs.declared.faults.Fault.{Fault}
use Rattle.tdf_base.specs.declared.faults.Place.{Place}
use Rattle.tdf_base.specs.declared.faults.Place.TheVariants.{Nowhere, Line, LinePort, At, Both, AtIndex}

-- the printed word of a code
abbrev pub word_of : Code → List ℕ
word_of Byte = codes "BYTE"
word_of LongLine = codes "LONG_LINE"
word_of Syntax = codes "SYNTAX"
word_of Duplicate = codes "DUPLICATE"
word_of Unknown = codes "UNKNOWN"
word_of Limit = codes "LIMIT"
word_of Format = codes "FORMAT"
word_of Kind = codes "KIND"
word_of InexactLiteral = codes "INEXACT_LITERAL"
word_of Wide = codes "WIDE"
word_of WideCast = codes "WIDE_CAST"
word_of Index = codes "INDEX"
word_of Heavy = codes "HEAVY"
word_of Writers = codes "WRITERS"
word_of UnknownPort = codes "UNKNOWN_PORT"
word_of TwiceBound = codes "TWICE_BOUND"
word_of Mismatch = codes "MISMATCH"
word_of Unbound = codes "UNBOUND"
word_of TooMany = codes "TOO_MANY"
word_of NoDriver = codes "NO_DRIVER"
word_of TwoDrivers = codes "TWO_DRIVERS"
word_of UnknownPath = codes "UNKNOWN_PATH"
word_of Clusters = codes "CLUSTERS"
word_of Rates = codes "RATES"
word_of Size = codes "SIZE"
word_of NoTimestep = codes "NO_TIMESTEP"
word_of Disagree = codes "DISAGREE"
word_of TooLong = codes "TOO_LONG"
word_of Inexact = codes "INEXACT"
word_of Buffers = codes "BUFFERS"
word_of Deadlock = codes "DEADLOCK"
word_of Noncausal = codes "NONCAUSAL"
word_of Range = codes "RANGE"
word_of Rejected = codes "REJECTED"

-- a word and what it names, as ` line 3`
abbrev pub at_line_text : ℕ → List ℕ
at_line_text line = codes " line " ++ decimal line

abbrev pub at_port_text : List ℕ → List ℕ
at_port_text port = codes " port " ++ port

abbrev pub at_path_text : List ℕ → List ℕ
at_path_text path = codes " path " ++ path

abbrev pub at_index_text : ℕ → List ℕ
at_index_text index = codes " index " ++ decimal index

-- the place of a fault with a space in front; nothing where it has none
unfoldable pub place_text : Place → List ℕ
place_text Nowhere = []
place_text (Line line) = at_line_text line
place_text (LinePort line port) = at_line_text line ++ at_port_text port
place_text (At path) = at_path_text path
place_text (Both first second) = at_path_text first ++ at_path_text second
place_text (AtIndex path index) = at_path_text path ++ at_index_text index

-- `CODE PLACE`
unfoldable pub fault_text : Fault → List ℕ
fault_text fault = word_of fault.code ++ place_text fault.place
