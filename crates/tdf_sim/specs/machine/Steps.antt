-- What the answers of the steps are handed on as.
use Rattle.std.specs.Prelude.{◌≡◌, ◌+◌, ℕ, List, Some, slice_get}
use Rattle.tdf_base.specs.declared.codes.Code.TheVariants as code
use Rattle.tdf_lang_parser.specs.declared.err.LangErr.{LangErr}
use Rattle.tdf_lang_parser.specs.declared.err.LangErr.TheVariants as why
use Rattle.tdf_dynamic_first.specs.First.{IsClusterFault, IsFirstPlan, IsPlannable}
use Rattle.tdf_dynamic_first.specs.declared.first.First.{First}
use Rattle.tdf_base.specs.declared.refusal.TypeErr.{TypeErr}
use Rattle.tdf_base.specs.declared.refusal.TypeErr.TheVariants as by
use Rattle.tdf_bind.specs.Flat.{IsFlatOf}
use Rattle.tdf_bind.specs.declared.model.Flat.{Flat}
use Rattle.tdf_io.specs.declared.writing.SinkErr.{SinkErr}
use Rattle.tdf_io.specs.declared.writing.SinkErr.TheVariants as sink
use Rattle.tdf_sim.specs.declared.run.RunErr.{RunErr}
use Rattle.tdf_sim.specs.declared.run.RunErr.TheVariants as run
use Rattle.tdf_sim.specs.FirstFault.{HasSoundLines, on_line}
use Rattle.tdf_sim.specs.declared.err.SimErr.{SimErr}
use Rattle.tdf_sim.specs.declared.err.SimErr.TheVariants.{Refused, Memory}
use Rattle.tdf_lang_tree.specs.Kept.{IsKept}
use Rattle.tdf_lang_tree.specs.Pure.{PureTree}

-- what a check by line answered
abbrev pub by_line : TypeErr → SimErr
by_line (by.Line word line) = Refused (on_line word line)
by_line by.Memory = Memory

-- what the parser answered
abbrev pub by_parser : LangErr → SimErr
by_parser (why.Byte line) = Refused (on_line code.Byte line)
by_parser (why.LongLine line) = Refused (on_line code.LongLine line)
by_parser (why.Syntax line) = Refused (on_line code.Syntax line)
by_parser why.Memory = Memory

-- what a sink answered
abbrev pub by_sink : SinkErr → RunErr
by_sink sink.Failed = run.WriteFault
by_sink sink.Memory = run.Memory

-- the plans of the first clusters
abbrev pub HavePlans : Flat → List First → Type 0
HavePlans flat firsts = (k : ℕ) (first : First) → slice_get firsts k ≡ Some first
    → IsFirstPlan flat (k + 1) first

-- what came of planning a cluster
abbrev pub IsFirstRefusal : Flat → ℕ → SimErr → Type 0
IsFirstRefusal flat cluster (Refused fault) = IsClusterFault flat cluster fault
IsFirstRefusal flat cluster Memory = Unit {0}

-- the flat model of each tree without a fault of lines can be planned
abbrev pub CanBePlanned : Type 0
CanBePlanned = (tree : PureTree) (flat : Flat) → IsKept tree → HasSoundLines tree
    → IsFlatOf tree flat → IsPlannable flat
