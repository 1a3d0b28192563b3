pub mod Rules
mod Passes
mod Takings
mod Changes
mod Inserts
mod Splits
mod Calls
