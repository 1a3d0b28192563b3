pub mod Places
pub mod Around
pub mod Sure
pub mod Closing
pub mod Ripening
pub mod Ending
pub mod Slots
pub mod Whole
