pub mod Words
pub mod Lines
pub mod Beginning
pub mod Results
pub mod Sources
pub mod Pictures
