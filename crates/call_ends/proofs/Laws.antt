-- What crates above cite: answers over contents, replies that answer, and ends of calls.
pub use Rattle.call_ends.proofs.AnswersOver.{over_one, over_both, both_weaker, long_over, IsLow, over_low, IsPlain, low_plain, over_plain, both_plain}
pub use Rattle.call_ends.proofs.RepliesGiven.{reply_answers, reply_weaker, unread_answers, reply_ends}
pub use Rattle.call_ends.proofs.EndsReached.{ends_weaker, still_0, said_within, said_whole, no_read, no_write}
