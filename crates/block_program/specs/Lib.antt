pub mod InnerNodes
pub mod Tallies
pub mod EdgesInto
pub mod Contractions
pub mod Numbers
pub mod Ends
pub mod Built
