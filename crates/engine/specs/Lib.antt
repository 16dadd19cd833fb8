pub mod Settling
pub mod Calling
pub mod Contents
pub mod Counting
pub mod Walking
