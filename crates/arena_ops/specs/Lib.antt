pub mod Looking
pub mod Taking
pub mod Stack
pub mod PutWords
pub mod Storing
