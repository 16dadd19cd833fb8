pub mod Books
pub mod Truths
pub mod Runs
pub mod Promised
pub mod Statuses
pub mod Reached
pub mod Made
pub mod Alone
