pub mod SlotLemmas
pub mod KeptLemmas
pub mod PruneLemmas
pub mod FoldLemmas
pub mod CountLemmas
pub mod RoomLemmas
pub mod CallLemmas
