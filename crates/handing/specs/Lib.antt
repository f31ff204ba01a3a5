-- What handing does to the record that is lent, and to the log.
pub mod Handed
