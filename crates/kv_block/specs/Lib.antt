pub mod Bytes
pub mod Filled
pub mod Packing
pub mod Reading
pub mod ChangeWords
pub mod ValueWords
