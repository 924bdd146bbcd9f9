use Rattle.tdf_exec.proofs.starting.law_laid.Goals as goal

pub returns-clause-laid : goal.returns-clause-laid
returns-clause-laid c flat s =
    let limits = c.law_limits.ensures s.model flat s.sound.kept s.sound.types s.is in
    record {
      limits = limits;
      rows = λ e edge at. c.law_edges.ensures.rows s.model flat e edge s.is at;
      sinks = c.law_edges.ensures.sinks s.model flat limits.in_range s.is;
      wired = λ m wires below are. c.law_wired.ensures s.model flat m wires s.sound s.is below are;
      formats = λ e edge at. c.law_edge_formats.ensures s.model flat e edge s.sound s.is at;
      ports = λ number port at. c.law_formats.ensures s.model flat s.sound s.is number port at;
      keep = c.law_rates.ensures.kept s.model flat s.sound.types s.is.bodies;
      begin = c.law_rates.ensures.begun s.model flat s.sound.types s.is.bodies;
    }
