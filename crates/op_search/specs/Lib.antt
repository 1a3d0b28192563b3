pub mod Text
pub mod Rest
pub mod Law
