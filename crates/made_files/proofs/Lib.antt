mod SmallHeaders
mod SmallFetches
mod MadeCode
mod MadePoints
mod MadeFlows
mod FewPoints
pub mod Lemmas
