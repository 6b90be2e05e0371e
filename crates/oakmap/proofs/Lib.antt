pub mod Ends
pub mod Printed
pub mod Complete
pub mod TextLength
pub mod Summaries
