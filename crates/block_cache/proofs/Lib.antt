mod EntryLemmas
pub mod KeptLemmas
pub mod SavedLemmas
pub mod DoneLemmas
mod StillLemmas
