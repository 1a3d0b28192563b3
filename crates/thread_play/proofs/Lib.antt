mod Pairs
mod Naming
mod Learning
mod Reading
mod Telling
mod Ending
