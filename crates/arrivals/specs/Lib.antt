-- Document 02, W-206: the order of arrival makes no difference.
pub mod Arrival
pub mod ArrivalCases
