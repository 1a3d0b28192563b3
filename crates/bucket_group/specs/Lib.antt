pub mod Buckets
pub mod Choice
pub mod ExitLevel
pub mod PlaceLists
