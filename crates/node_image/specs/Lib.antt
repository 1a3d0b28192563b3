pub mod Numbers
pub mod Image
pub mod Parts
pub mod Written
