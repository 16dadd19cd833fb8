pub mod Entries
pub mod Revisions
pub mod Changes
pub mod Shapes
pub mod Rows
pub mod Leads
