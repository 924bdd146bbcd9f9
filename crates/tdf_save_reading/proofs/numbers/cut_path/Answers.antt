use Rattle.tdf_save_reading.proofs.ModuleReads.{no_space, path_cut}
use Rattle.tdf_save_reading.proofs.numbers.cut_path.Goals as goal

pub returns-in_default-cut : goal.returns-in_default-cut
returns-in_default-cut c = no_space c.args.keyword.now c.args.path.now c.args.text.now c.in-Some.mid.now c.in-Some.ensures c.in_default-cut.ensures

pub returns : goal.returns
returns c = path_cut c.args.keyword.now c.args.path.now c.args.text.now c.in-Some.mid.now c.in-Some-cut.rest.now c.cut-3.result c.in-Some.ensures c.in-Some-cut.ensures c.cut-3.ensures
