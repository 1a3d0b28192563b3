pub mod MixingLaws
pub mod PlacingLaws
