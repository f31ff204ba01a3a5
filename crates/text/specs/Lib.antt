-- Words, numbers and bytes as text, and what a buffer holds after text has been put into it.
pub mod Text
pub mod Put
