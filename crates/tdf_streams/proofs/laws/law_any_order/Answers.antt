use Rattle.tdf_streams.proofs.Api.{alike_orders, complete_plays, ends_whole, firing_known, order_stands, played_grounded, ungrounded_stops}
use Rattle.tdf_streams.proofs.laws.law_any_order.Goals as goal

pub returns : goal.returns
returns c = record {
  stands = order_stands;
  known = firing_known;
  any = alike_orders;
  whole = ends_whole;
  grounded = played_grounded;
  plays = complete_plays;
  stops = ungrounded_stops;
}
