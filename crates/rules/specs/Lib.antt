pub mod Finding
pub mod Reading
pub mod Holding
pub mod Putting
pub mod Striking
pub mod Stepping
