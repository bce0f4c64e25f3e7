pub mod NeverNeither
