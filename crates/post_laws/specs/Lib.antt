pub mod SafePosts
pub mod HasLooked
pub mod Law
