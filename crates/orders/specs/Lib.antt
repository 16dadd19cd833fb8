pub mod Ranks
pub mod Lexical
