use Rattle.tdf_streams.proofs.Api.{first_record, table_record}
use Rattle.tdf_streams.proofs.laws.law_plan_record.Goals as goal

pub returns : goal.returns
returns c = record { table = table_record; first = first_record }
