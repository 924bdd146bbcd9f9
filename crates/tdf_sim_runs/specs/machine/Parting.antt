-- What a run that went to a stop is handed on as.
-- Source: own.
use Rattle.std.specs.Prelude.{ℕ}
use Rattle.tdf_bind.specs.declared.model.Flat.{Flat}
use Rattle.tdf_sim_runs.specs.declared.part.Part.{Part}
use Rattle.tdf_sim_runs.specs.declared.part.Part.TheVariants as part
use Rattle.tdf_sim_runs.specs.declared.pausing.Arrival.{Arrival}
use Rattle.tdf_sim_runs.specs.declared.pausing.Arrival.TheVariants as arrival
use Rattle.tdf_trace_rows.specs.declared.kinds.TraceKind.{TraceKind}

-- with its flat model, the form of its trace and the turns that it was given
abbrev pub part_of : Flat → TraceKind → (turns : ℕ) → Arrival → Part
part_of flat kind turns (arrival.Waiting r) =
    part.Paused (record { flat = flat; run = r; kind = kind; turns = turns })
part_of flat kind turns (arrival.Ended ran) = part.Ended ran
