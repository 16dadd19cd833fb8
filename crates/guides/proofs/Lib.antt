pub mod Sequences
pub mod Pigeonhole
pub mod Calls
pub mod Positions
pub mod Lines
