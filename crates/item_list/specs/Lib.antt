pub mod RoomyList
pub mod Pieces
pub mod Numbers
