pub mod ParentWords
pub mod Looking
