mod Draws
mod Stages
mod Worlds
mod Ready
mod Played
mod Caught
mod Turns
pub mod Traces
mod Losing
mod One
mod OneRun
mod OnePlay
mod Outstanding
mod Replies
mod Maps
