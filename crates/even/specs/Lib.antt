pub mod Sides
pub mod Recorded
pub mod Marks
pub mod Balance
pub mod Evened
