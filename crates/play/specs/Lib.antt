pub mod Booked
pub mod Running
pub mod Playing
