pub mod Lives
pub mod Whole
pub mod Headline
