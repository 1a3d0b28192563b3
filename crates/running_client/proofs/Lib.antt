pub mod Fronts
mod Texts
mod Answering
mod Losing
mod Runs
mod Answered
mod Fresh
mod Passing
mod Done
mod Saved
