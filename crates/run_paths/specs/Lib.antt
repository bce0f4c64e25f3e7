pub mod Lifts
pub mod Activations
pub mod Discipline
pub mod Follows
pub mod Maps
pub mod Relations
