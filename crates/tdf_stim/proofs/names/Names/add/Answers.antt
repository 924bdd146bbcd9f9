use Rattle.tdf_stim.proofs.Maps.{added_key}
use Rattle.tdf_stim.proofs.names.Names.add.Goals as goal

pub returns : goal.returns
returns c = λ other. added_key c.args.self.now.set.keys c.insert.new.self.keys c.args.name other c.in_ok-insert.ensures.keys
