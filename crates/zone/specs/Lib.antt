pub mod Judge
pub mod Choose
pub mod Claims
