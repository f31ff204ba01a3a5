-- Laws of slots that hold readable frames: the numbers in a slot, its entries as a loop reads them, and the test of each slot.
pub mod InSlot
pub mod Entries
pub mod Tests
