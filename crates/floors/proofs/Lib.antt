-- What the floor means, when it decides nothing, and what set-back calls do; and lists with such calls, with and without a floor.
pub mod Floors
pub mod TwoFloors
pub mod NoFloor
pub mod SameWords
pub mod SomeWithout
pub mod Shams
