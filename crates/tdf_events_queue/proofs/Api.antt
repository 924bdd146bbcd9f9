-- The lemmas that other crates may use: an evaluation over any states, by the list of a sorted set, and what is listed where no number is in.
pub use Rattle.tdf_events_queue.proofs.Forgotten.{flags_new, flags_with, forgotten_all, listed_in}
pub use Rattle.tdf_events_queue.proofs.Members.{none_rising}
pub use Rattle.tdf_events_queue.proofs.Skips.{by_list, ran_more, ran_none}
