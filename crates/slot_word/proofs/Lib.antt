pub mod BirthLaws
pub mod HeadLaws
pub mod SlotLaws
