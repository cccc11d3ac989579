pub mod ContentLemmas
pub mod ShelfLemmas
pub mod SlotLemmas
pub mod SyncLemmas
