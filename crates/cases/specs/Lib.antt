pub mod Desks
pub mod Worked
