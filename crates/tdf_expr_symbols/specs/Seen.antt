-- What the code's things and loops stand for (own): the same without borrows.
use Rattle.std.specs.Borrow.{Bor}
use Rattle.std.specs.Prelude.{Option, Some, None}
use Rattle.tdf_expr_symbols.specs.Names.{Thing, Const, Var, Array, Port, RateVar, Event, Signal, DeSignal, Instance, Loop, TypeName, Tdf, De, Composite}
use Rattle.tdf_expr_symbols.specs.Scope.{OpenLoop}
use Rattle.tdf_expr_symbols.specs.declared.scope.OpenLoop.{OpenLoop as HeldLoop}
use Rattle.tdf_expr_symbols.specs.declared.things.Thing.{Thing as Held}
use Rattle.tdf_expr_symbols.specs.declared.things.Thing.TheVariants as held
use Rattle.tdf_lang_tree.specs.declared.stmt.Limit.{Limit}
use Rattle.tdf_lang_tree.specs.declared.stmt.Limit.TheVariants as limit

abbrev pub rate_or_one : Option (Bor Limit) → Limit
rate_or_one None = limit.Int 1
rate_or_one (Some rate) = rate.now

abbrev pub seen : Held → Thing
seen (held.Const shape value) = Const shape value.now
seen (held.Var shape start) = Var shape start.now
seen (held.Array shape size starts) = Array shape size starts.now
seen (held.Port word shape rate delay) = Port word shape (rate_or_one rate) delay
seen (held.RateVar least greatest start) = RateVar least greatest start
seen held.Event = Event
seen (held.Signal shape) = Signal shape
seen (held.DeSignal shape start) = DeSignal shape start.now
seen held.Instance = Instance
seen (held.Loop from end) = Loop from end.now
seen (held.TypeName shape) = TypeName shape
seen held.Tdf = Tdf
seen held.De = De
seen held.Composite = Composite

abbrev pub seen_loop : HeldLoop → OpenLoop
seen_loop l = record { name = l.name.now; from = l.from; end = l.end.now }
