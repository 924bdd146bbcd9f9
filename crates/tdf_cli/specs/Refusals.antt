-- How a text that is refused is noted.
-- Source: own.
use Rattle.std.specs.Prelude.{ℕ, List, ◌++◌, codes}
use Rattle.tdf_base.specs.Fault.{fault_text}
use Rattle.tdf_base.specs.declared.faults.Fault.{Fault}

-- the note of a text that isn't taken: the code of its first fault, and the fault's place
unfoldable pub refusal_text : Fault → List ℕ
refusal_text fault = codes "refused " ++ (fault_text fault ++ codes "\n")
