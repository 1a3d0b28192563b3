mod Levels
mod Onward
mod Prints
mod Rows
