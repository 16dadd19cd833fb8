pub mod Keeping
pub mod Answering
