pub mod SlotList
