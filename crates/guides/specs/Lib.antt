pub mod Meaning
pub mod Labels
pub mod Rules
pub mod Lines
pub mod Straight
pub mod Sides
pub mod Pairs
