mod Called
mod Counted
mod Filled
mod Listed
mod Made
mod Walked
mod Found
