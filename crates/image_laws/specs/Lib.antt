pub mod Pairwise
pub mod Walk
pub mod Sound
pub mod Quiet
pub mod Answers
pub mod Imaged
pub mod Laws
