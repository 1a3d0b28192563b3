pub mod Ticket
pub mod Law
