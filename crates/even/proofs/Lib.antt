pub mod Carrying
pub mod Finding
