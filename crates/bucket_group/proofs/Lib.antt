pub mod CandidateLaws
pub mod ChoiceLaws
pub mod ExitLaws
pub mod PlaceRows
