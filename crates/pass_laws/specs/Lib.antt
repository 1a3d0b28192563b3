pub mod SafeIn
pub mod Drops
pub mod HasPassed
pub mod Law
