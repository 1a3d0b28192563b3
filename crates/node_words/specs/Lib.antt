pub mod Limits
pub mod Faults
pub mod Addresses
pub mod Roles
pub mod Opening
