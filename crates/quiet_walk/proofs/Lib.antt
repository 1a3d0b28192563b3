pub mod Levels
pub mod ListedTables
pub mod Offsets
pub mod Walking
pub mod SmallTables
