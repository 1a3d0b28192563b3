pub mod States
pub mod Law
