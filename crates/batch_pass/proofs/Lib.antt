mod Counted
mod Levels
mod Onward
mod Opens
mod Places
mod Rows
