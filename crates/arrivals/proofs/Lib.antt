-- Receives in two orders: what they hand, and what it makes of the record.
pub mod Sets
pub mod SentFrames
pub mod Records
pub mod HandAll
pub mod Removing
pub mod Barrier
pub mod Receiving
pub mod TurnedDown
pub mod AfterReceives
pub mod LogOrder
pub mod OneOrder
pub mod TwoOrders
pub mod Arrival
pub mod Answers
pub mod Cases
pub mod Shams
