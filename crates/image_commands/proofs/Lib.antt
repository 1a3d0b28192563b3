pub mod Reading
pub mod PageTexts
