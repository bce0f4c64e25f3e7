mod AnswersOver
mod RepliesGiven
mod EndsReached
pub mod Laws
