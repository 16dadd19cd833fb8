pub mod Labels
pub mod Records
