pub mod Text
pub mod Number
pub mod Ring
pub mod Claims
