pub mod Texts
pub mod Pages
pub mod Audits
pub mod Images
