use Rattle.std.proofs.Common.{rules, ◌≡◌, ◌-◌, ◌<◌, ◌∙◌, Some, length, slice_get, refl, ap, sym, subst}
use Rattle.std.proofs.lemmas.Option.{slice_get_read, slice_get_within}
use Rattle.tdf_streams.proofs.Api.{some_same}
use Rattle.tdf_sim_traces.proofs.Pushing.{cluster_at, listed_is}
use Rattle.tdf_sim_traces.proofs.signals.listed.Goals as goal
use Rattle.tdf_bind_connections.specs.declared.modules.PortRow.{PortRow}

pub returns-clause-listed : goal.returns-clause-listed
returns-clause-listed c =
    let inside : c.args.port < length c.args.flat.now.tables.ports = slice_get_within c.args.flat.now.tables.ports c.args.port c.requires.is.port c.requires.is.there in
    let at : slice_get c.args.flat.now.tables.ports c.args.port ≡ Some c.index.result.now = slice_get_read c.args.flat.now.tables.ports (length c.args.flat.now.tables.ports) c.args.port c.index.result.now refl inside (search rules) in
    let same : c.index.result.now ≡ c.requires.is.port = some_same c.index.result.now c.requires.is.port (sym at ∙ c.requires.is.there) in
    let «module» : c.index.result.now.«module» ≡ c.requires.is.port.«module» = ap (λ (p : PortRow). p.«module») same in
    let there : slice_get c.args.flat.now.tables.actors c.requires.is.port.«module» ≡ Some c.index-2.result.now =
    ap (slice_get c.args.flat.now.tables.actors) (sym «module») ∙ slice_get_read c.args.flat.now.tables.actors (length c.args.flat.now.tables.actors) c.index.result.now.«module» c.index-2.result.now refl
    (subst (λ m. m < length c.args.flat.now.tables.actors) (sym «module») c.requires.is.inside) (search rules) in
    listed_is c.args.flat.now _ c.args.signal c.args.port c.requires.traced c.requires.driver c.requires.is refl refl «module»
    (ap (λ n. n - 1) (cluster_at c.args.flat.now.tables c.requires.is.port.«module» c.index-2.result.now there))
