pub mod LastSwap
pub mod Moments
pub mod QuietParts
pub mod Mildly
pub mod Changing
pub mod Once
pub mod Settling
pub mod Rounds
