-- The lemmas that other crates may use: what holds after the event part of an instant, and of the next time.
pub use Rattle.tdf_events.proofs.Afterwards.{ends_idle, instant_keeps, next_is_later, none_at_start, none_before_next, none_pending_before, none_stays_before, none_without_next, nothing_stays_waiting, only_later_stay, turns_never_grow}
