mod Answerable
mod Turning
